use Rattle.std.proofs.Common.{◌≡◌, ℕ, ◌+◌, ◌<◌, List, drop, length, get_or, sym, ◌∙◌, ap}
use Rattle.std.specs.Prelude.{◌||◌}
use Rattle.std.specs.FinMap as fin
use Rattle.block_id.specs.declared.id.BlockId.{BlockId}
use Rattle.block_versions.specs.local_state.Known.{Lives}
use Rattle.store_api.specs.declared.batch.BatchChange.{BatchChange}
use Rattle.store_api.specs.Entries.{entries_of, change_view}
use Rattle.store_api.proofs.Rising.{turn}
use Rattle.integrity_store.specs.Raising.{is_spent_at, some_spent_in}
use Rattle.integrity_store.proofs.raising.some_spent.Goals as goal

-- this entry, or one of those to come
spent : (lives : Lives) (es : List (BlockId × BatchChange)) (i : ℕ) (e : BlockId × BatchChange) → i < length es → e ≡ get_or es i e
    → some_spent_in lives (drop i (entries_of es)) ≡ (is_spent_at (change_view e.1) (fin.get lives e.0.0) || some_spent_in lives (drop (i + 1) (entries_of es)))
spent lives es i e lt is = ap (some_spent_in lives) (turn es i e lt is)

pub returns-then-is_spent : goal.returns-then-is_spent
returns-then-is_spent c =
    let lives = c.args.known.now.lives in
    let more = spent lives c.args.entries.now c.loop-entry.entry-index c.entry-item.result c.loop-entry-test.true c.entry-item.is in
    sym (c.loop-entry.invariant ∙ more
    ∙ ap (λ b. b || some_spent_in lives (drop (c.loop-entry.entry-index + 1) (entries_of c.args.entries.now))) (sym c.is_spent.ensures ∙ c.if-is_spent.true))

pub loop-entry-preserved : goal.loop-entry-preserved
loop-entry-preserved c =
    let lives = c.args.known.now.lives in
    let more = spent lives c.args.entries.now c.loop-entry.entry-index c.entry-item.result c.loop-entry-test.true c.entry-item.is in
    c.loop-entry.invariant ∙ more
    ∙ ap (λ b. b || some_spent_in lives (drop (c.loop-entry.entry-index + 1) (entries_of c.args.entries.now))) (sym c.is_spent.ensures ∙ c.if-is_spent.false)
