use Rattle.std.proofs.Common.{◌≡◌, None, true}
use Rattle.data_tree.specs.data_nodes.Layout.{node_of}
use Rattle.data_tree.specs.store_outcome.Outcome.{then_, passed}
use Rattle.data_tree.specs.Needs.{Sets}
use Rattle.data_tree.specs.store_api.Txs.{tx_holdings, tx_laws}
use Rattle.data_tree.proofs.Ids.{drops_tree}
use Rattle.data_tree.proofs.Changes.{below_changed}
use Rattle.data_tree.proofs.Forests.{below_on, below_root, alone_root}
use Rattle.data_tree.proofs.Puts.{changed_, keeps_same, memory_after, on_any, unforged_before, unforged_on}
use Rattle.data_reads.proofs.tree.drop_deep.Goals as goal

pub returns-in-Ok-remove-clause-outcome : goal.returns-in-Ok-remove-clause-outcome
returns-in-Ok-remove-clause-outcome g c =
    let H = tx_holdings g.S.Blocks.holdings in
    let laws = tx_laws g.S.Blocks.meanings g.S.Blocks.holdings g.met.S.Blocks.lawful in
    let a = c.args.tx.now in
    let b = c.load_root.new.tx in
    let d = c.remove.new.tx in
    let id = c.args.root.now.0 in
    let node = node_of c.in-Ok.found.0 in
    let stays = c.load_root.ensures.stays in
    let two = changed_ g.S.Blocks.meanings g.S.Blocks.holdings {R = λ n. ((H.told a ≡ true) × (node ≡ n.tree.node)) × Sets (H.content b) (H.content d) id None} a b d c.remove.ensures.store c.remove.ensures.seed c.remove.ensures.intact c.in-Ok.ensures.outcome
    (λ n p. (p, c.in-Ok-remove.ensures.sets)) in
    then_ laws two (λ n r. below_changed (below_on stays (below_root node c.in-Ok.found.1.depth r.0.0 n r.0.1 c.in-Ok.ensures.level.depth)) (alone_root n).0 (keeps_same g.S.Blocks.holdings b d c.remove.ensures.store) r.1) c.drop_in.ensures.outcome
    (λ n r y k. drops_tree (H.content a) (H.content b) (H.content d) (H.content c.drop_in.new.tx) id n.tree.below n.ids (stays.content r.0.0) r.1 n.tree.all k)

pub returns-in-Ok-remove-clause-shallow : goal.returns-in-Ok-remove-clause-shallow
returns-in-Ok-remove-clause-shallow g c s h =
    let laws = tx_laws g.S.Blocks.meanings g.S.Blocks.holdings g.met.S.Blocks.lawful in
    let before = unforged_before laws c.args.tx.now c.remove.new.tx c.drop_in.new.tx c.drop_in.ensures.outcome.loaded h in
    on_any c.drop_in.result (c.in-Ok.ensures.shallow s (unforged_on g.S.Blocks.meanings c.args.tx.now c.load_root.new.tx c.remove.new.tx c.remove.ensures.store before))

pub returns-clause-outcome : goal.returns-clause-outcome
returns-clause-outcome g c = memory_after g.S.Blocks.meanings g.S.Blocks.holdings c.args.tx.now c.load_root.new.tx c.remove.new.tx c.remove.ensures.store c.remove.ensures.seed c.remove.ensures.intact c.in-Ok.ensures.outcome

pub returns-in-Err-clause-outcome : goal.returns-in-Err-clause-outcome
returns-in-Err-clause-outcome g c = passed c.in-Err.ensures.outcome
