-- The root alone where it is a leaf, and else what its inner nodes say.
use Rattle.std.proofs.Common.{◌≡◌, [], sym, ◌∙◌, subst}
use Rattle.data_tree.specs.store_outcome.Outcome.{passed, then_}
use Rattle.data_tree.specs.store_api.Txs.{tx_holdings, tx_laws}
use Rattle.data_tree.specs.Trees.{Replaces}
use Rattle.data_tree.proofs.Forests.{root_at}
use Rattle.data_tree.proofs.Heads.{leaf_shallow, lowest_ids, root_head, shallow_since}
use Rattle.data_tree.proofs.Ids.{drops_tree, replaces_nothing}
use Rattle.data_tree.proofs.Puts.{changed_, memory_after, unforged_on}
use Rattle.data_reads.proofs.tree.drop_tree.Goals as goal

pub returns-then-head-ne0-clause-outcome : goal.returns-then-head-ne0-clause-outcome
returns-then-head-ne0-clause-outcome g c =
    let H = tx_holdings g.S.Blocks.holdings in
    let laws = tx_laws g.S.Blocks.meanings g.S.Blocks.holdings g.met.S.Blocks.lawful in
    let a = c.args.tx.now in
    let b = c.load_head.new.tx in
    let d = c.drop_deep.new.tx in
    let stays = c.load_head.ensures.stays in
    let head = root_head g.S.Blocks.meanings g.S.Blocks.holdings g.met.S.Blocks.steady c.in-Ok.ensures.outcome in
    then_ laws head (λ n p. root_at stays p.0 n) c.drop_deep.ensures.outcome
    (λ n p y dropped.
    let path : H.content b ≡ H.content a = λ i id. stays.content p.0 id i in
    subst (λ A. Replaces A (H.content d) n.ids []) path dropped)

pub returns-then-head-ne0-clause-shallow : goal.returns-then-head-ne0-clause-shallow
returns-then-head-ne0-clause-shallow g c =
    shallow_since g.S.Blocks.meanings g.S.Blocks.holdings g.met.S.Blocks.steady g.met.S.Blocks.lawful c.args.tx.now c.load_head.new.tx c.drop_deep.new.tx c.args.root.now.0 c.drop_deep.result
    c.load_head.ensures.stays c.in-Ok.ensures.outcome c.drop_deep.ensures.outcome.loaded c.drop_deep.ensures.shallow

pub returns-in-Ok-remove-clause-outcome : goal.returns-in-Ok-remove-clause-outcome
returns-in-Ok-remove-clause-outcome g c =
    let H = tx_holdings g.S.Blocks.holdings in
    let a = c.args.tx.now in
    let b = c.load_head.new.tx in
    let d = c.remove.new.tx in
    let stays = c.load_head.ensures.stays in
    let head = root_head g.S.Blocks.meanings g.S.Blocks.holdings g.met.S.Blocks.steady c.in-Ok.ensures.outcome in
    changed_ g.S.Blocks.meanings g.S.Blocks.holdings {R = λ n. Replaces (H.content a) (H.content d) n.ids []} a b d c.remove.ensures.store c.remove.ensures.seed c.remove.ensures.intact head
    (λ n p.
    let none : n.tree.below ≡ [] = lowest_ids (H.payload a) (H.content a) n.depth n.tree.node n.bytes n.tree.below n.tree.holds (sym p.1.0 ∙ c.if-head-ne0.false) in
    drops_tree (H.content a) (H.content b) (H.content d) (H.content d) c.args.root.now.0 n.tree.below n.ids (stays.content p.0) c.in-Ok-remove.ensures.sets n.tree.all
    (subst (λ ids. Replaces (H.content d) (H.content d) ids []) (sym none) (replaces_nothing (H.content d))))

pub returns-in-Ok-remove-clause-shallow : goal.returns-in-Ok-remove-clause-shallow
returns-in-Ok-remove-clause-shallow g c s few =
    let before = unforged_on g.S.Blocks.meanings c.args.tx.now c.load_head.new.tx c.remove.new.tx c.remove.ensures.store few in
    leaf_shallow g.S.Blocks.meanings g.S.Blocks.holdings g.met.S.Blocks.steady c.in-Ok.ensures.outcome c.if-head-ne0.false s before

pub returns-in-Err-remove-clause-outcome : goal.returns-in-Err-remove-clause-outcome
returns-in-Err-remove-clause-outcome g c =
    let head = root_head g.S.Blocks.meanings g.S.Blocks.holdings g.met.S.Blocks.steady c.in-Ok.ensures.outcome in
    memory_after g.S.Blocks.meanings g.S.Blocks.holdings c.args.tx.now c.load_head.new.tx c.remove.new.tx c.remove.ensures.store c.remove.ensures.seed c.remove.ensures.intact head

pub returns-in-Err-clause-outcome : goal.returns-in-Err-clause-outcome
returns-in-Err-clause-outcome g c = passed (root_head g.S.Blocks.meanings g.S.Blocks.holdings g.met.S.Blocks.steady c.in-Err.ensures.outcome)
