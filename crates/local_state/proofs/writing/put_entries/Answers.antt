use Rattle.std.proofs.Common.{ℕ, false, List, [], ◌++◌, get_or, ap, ◌∙◌}
use Rattle.std.proofs.lemmas.List.{get_or_default}
use Rattle.block_id.specs.declared.id.BlockId.{BlockId}
use Rattle.local_state.specs.declared.life.Life.{Life}
use Rattle.local_state.specs.Known.{plain_entry}
use Rattle.local_state.specs.Record.{life_bytes}
use Rattle.local_state.proofs.Written.{written_all, written_more}
use Rattle.local_state.proofs.writing.put_entries.Goals as goal

pub lives-preserved : goal.lives-preserved
lives-preserved c =
    let entry : BlockId × Life = get_or c.args.entries.now c.lives.entry-index (record { 0 = [] }, record { version = 0; live = false }) in
    c.in_ok-put_life.ensures ∙ ap (λ (out : List ℕ). out ++ life_bytes (plain_entry entry)) c.lives.invariant
    ∙ written_more life_bytes plain_entry _ c.args.entries.now c.lives.entry-index entry c.lives-test.true (get_or_default c.args.entries.now c.lives.entry-index _ entry c.lives-test.true)

pub returns : goal.returns
returns c = c.lives.invariant ∙ written_all life_bytes plain_entry c.args.out.now.items c.args.entries.now c.lives.entry-index c.lives-test.false
