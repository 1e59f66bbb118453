use Rattle.std.proofs.Common.{subst, length}
use Rattle.data_tree.specs.store_outcome.Outcome.{idle}
use Rattle.data_tree.specs.Trees.{IsDepth}
use Rattle.data_tree.specs.store_api.Txs.{changes_in, drawn_in, store_in, tx_laws}
use Rattle.data_tree.specs.store_api.Overlay.{changed_over}
use Rattle.data_reads.proofs.Anew.{root_new}
use Rattle.data_tree.proofs.Puts.{keeps_same, memory_first}
use Rattle.data_reads.proofs.tree.new_tree.Goals as goal

pub returns-in-Ok-clause-new : goal.returns-in-Ok-clause-new
returns-in-Ok-clause-new g c =
    root_new c.level_for-level.result.depth (keeps_same g.S.Blocks.holdings c.args.tx.now c.new_below.new.tx c.new_below.ensures.adds.store) (subst (λ p. IsDepth p c.level_for-level.result.depth (length c.args.bytes.now)) c.payload.ensures c.level_for-level.ensures.deep) c.in-Ok.ensures.built

pub returns-in-Ok-clause-outcome : goal.returns-in-Ok-clause-outcome
returns-in-Ok-clause-outcome g c =
    let M = g.S.Blocks.meanings in
    let H = g.S.Blocks.holdings in
    let laws = tx_laws M H g.met.S.Blocks.lawful in
    let a = c.args.tx.now in
    let b = c.new_below.new.tx in
    let none = idle laws {T = Unit {0}} {N = Unit {0}} {P = λ _ _. Unit {0}} a tt c.requires.intact (λ n. tt) in
    changed_over store_in changes_in drawn_in M H a a b c.new_below.ensures.adds.store c.new_below.ensures.adds.seed c.new_below.ensures.intact none
    (λ n p. root_new c.level_for-level.result.depth (keeps_same H a b c.new_below.ensures.adds.store) (subst (λ p. IsDepth p c.level_for-level.result.depth (length c.args.bytes.now)) c.payload.ensures c.level_for-level.ensures.deep) c.in-Ok.ensures.built)

pub returns-in-Err-clause-outcome : goal.returns-in-Err-clause-outcome
returns-in-Err-clause-outcome g c = memory_first g.S.Blocks.meanings g.S.Blocks.holdings g.met.S.Blocks.lawful c.args.tx.now c.new_below.new.tx c.requires.intact c.new_below.ensures.adds.store c.new_below.ensures.adds.seed c.new_below.ensures.intact
