use Rattle.std.proofs.Common.{◌≡◌, ◌+◌, drop, sym, ◌∙◌, ap, subst, arith}
use Rattle.std.specs.FinMap as fin
use Rattle.store_api.specs.Entries.{entry_view, entries_of}
use Rattle.store_api.proofs.Rising.{turn}
use Rattle.integrity_store.specs.Raising.{one_if_new, lives_after_one, lives_after_each, MayComeEach, count_new_each}
use Rattle.integrity_store.proofs.raising.raise_or_bury_all.Goals as goal

pub raise_or_bury-requires-clause-may : goal.raise_or_bury-requires-clause-may
raise_or_bury-requires-clause-may c =
    let next = turn c.args.entries.now c.loop-entry.entry-index c.entry-item.result c.loop-entry-test.true c.entry-item.is in
    (subst (MayComeEach c.loop-entry.known.lives) next c.loop-entry.invariant.may).0

pub raise_or_bury-requires-clause-room : goal.raise_or_bury-requires-clause-room
raise_or_bury-requires-clause-room c =
    let lives = c.loop-entry.known.lives in
    let es = entries_of c.args.entries.now in
    let next = turn c.args.entries.now c.loop-entry.entry-index c.entry-item.result c.loop-entry-test.true c.entry-item.is in
    let count : count_new_each lives (drop c.loop-entry.entry-index es)
    ≡ one_if_new (fin.get lives c.entry-item.result.0.0) + count_new_each (lives_after_one lives (entry_view c.entry-item.result)) (drop (c.loop-entry.entry-index + 1) es) = ap (count_new_each lives) next in
    omega (arith, c.loop-entry.invariant.room, count)

pub loop-entry-preserved : goal.loop-entry-preserved
loop-entry-preserved c =
    let lives = c.loop-entry.known.lives in
    let es = entries_of c.args.entries.now in
    let later = drop (c.loop-entry.entry-index + 1) es in
    let next = turn c.args.entries.now c.loop-entry.entry-index c.entry-item.result c.loop-entry-test.true c.entry-item.is in
    let marked = c.raise_or_bury.ensures.lives in
    let count : count_new_each lives (drop c.loop-entry.entry-index es)
    ≡ one_if_new (fin.get lives c.entry-item.result.0.0) + count_new_each (lives_after_one lives (entry_view c.entry-item.result)) later = ap (count_new_each lives) next in
    let same : count_new_each c.raise_or_bury.new.known.lives later ≡ count_new_each (lives_after_one lives (entry_view c.entry-item.result)) later = ap (λ m. count_new_each m later) marked in
    record {
      may = subst (λ m. MayComeEach m later) (sym marked) (subst (MayComeEach lives) next c.loop-entry.invariant.may).1;
      room = omega (arith, c.loop-entry.invariant.room, c.raise_or_bury.ensures.room, count, same);
      lives = ap (λ m. lives_after_each m later) marked ∙ (sym (ap (lives_after_each lives) next) ∙ c.loop-entry.invariant.lives);
    }
