use Rattle.std.proofs.Common.{◌≡◌, ℕ, ◌+◌, ◌<◌, false, true, List, drop, length, get_or, refl, sym, ◌∙◌, ap, arith}
use Rattle.std.specs.Prelude.{Option, Some, None, is_some}
use Rattle.std.specs.FinMap as fin
use Rattle.block_id.specs.declared.id.BlockId.{BlockId}
use Rattle.block_versions.specs.local_state.declared.life.Life.{Life}
use Rattle.block_versions.specs.local_state.Known.{Lives}
use Rattle.store_api.specs.declared.batch.BatchChange.{BatchChange}
use Rattle.store_api.specs.Entries.{entries_of}
use Rattle.store_api.proofs.Rising.{turn}
use Rattle.integrity_store.specs.Raising.{one_if_new, count_new_in}
use Rattle.integrity_store.proofs.raising.count_new.Goals as goal
use Rattle.integrity_store.proofs.raising.count_new.Goals.{then-not-is_used, else-not-is_used}

one-new : (o : Option Life) → is_some o ≡ false → one_if_new o ≡ 1
one-new None e = refl
one-new (Some life) e = absurd (cc)

one-known : (o : Option Life) → is_some o ≡ true → one_if_new o ≡ 0
one-known None e = absurd (cc)
one-known (Some life) e = refl

-- the count of this turn and of those to come
counted : (lives : Lives) (es : List (BlockId × BatchChange)) (i : ℕ) (e : BlockId × BatchChange) → i < length es → e ≡ get_or es i e
    → count_new_in lives (drop i (entries_of es)) ≡ one_if_new (fin.get lives e.0.0) + count_new_in lives (drop (i + 1) (entries_of es))
counted lives es i e lt is = ap (count_new_in lives) (turn es i e lt is)

pub loop-entry-preserved : goal.loop-entry-preserved
loop-entry-preserved c =
    let lives = c.args.known.now.lives in
    let more = counted lives c.args.entries.now c.loop-entry.entry-index c.entry-item.result c.loop-entry-test.true c.entry-item.is in
    elim c.if-not-is_used.branch [
      | then-not-is_used w ↦
          let one = one-new (fin.get lives c.entry-item.result.0.0) (sym c.is_used.ensures ∙ w.if-not-is_used.true) in
          record { few = omega (arith, w.count-is); counted = omega (arith, c.loop-entry.invariant.counted, more, one, w.count-is) }
      | else-not-is_used w ↦
          let one = one-known (fin.get lives c.entry-item.result.0.0) (sym c.is_used.ensures ∙ w.if-not-is_used.false) in
          record { few = omega (arith, w.count-is); counted = omega (arith, c.loop-entry.invariant.counted, more, one, w.count-is) }
    ]
