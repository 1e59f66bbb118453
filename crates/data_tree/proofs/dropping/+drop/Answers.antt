use Rattle.std.proofs.Common.{ℕ, ◌≡◌, refl, sym, ◌∙◌, ap, drop, get_or, [], ◌+◌, ◌-◌, None, subst, List}
use Rattle.std.specs.FinMap.{get}
use Rattle.block_id.specs.declared.id.BlockId.{BlockId}
use Rattle.store_api.specs.store_outcome.Outcome.{Outcome, idle, first_, then_, failed_, answered, no_memory}
use Rattle.data_nodes.specs.Layout.{node_of, ids_of, inner}
use Rattle.data_tree.specs.Needs.{HasTree, Sets}
use Rattle.data_tree.specs.Trees.{Replaces}
use Rattle.store_api.specs.Txs.{tx_holdings, tx_laws, tx_meanings}
use Rattle.data_tree.proofs.Forests.{below_on, below_of, root_apart, children_of, leaf_ids, deep_of, stays-then, stays-same}
use Rattle.data_tree.proofs.Puts.{changed_, keeps_same, keeps_below, below_same, kept_drop}
use Rattle.data_tree.proofs.Ids.{drops_tree, replaces_nothing}
use Rattle.data_tree.proofs.Gathering.{next_child, no_child}
use Rattle.data_tree.proofs.Changes.{below_changed, drop_start, first_left, drop_next, drop_done}
use Rattle.data_tree.proofs.dropping.+drop.Goals as goal

pub drop_below-returns-then-depth-eq0-clause-outcome : goal.drop_below-returns-then-depth-eq0-clause-outcome
drop_below-returns-then-depth-eq0-clause-outcome g t c =
    let H = tx_holdings g.S.Blocks.holdings in
    let a = c.args.tx.now in
    let b = c.drop_leaf.new.tx in
    subst (λ (d : ℕ). Outcome (tx_meanings g.S.Blocks.meanings g.S.Blocks.holdings) (HasTree H a d c.args.id.now.0) a b c.drop_leaf.result (λ n _. Replaces (H.content a) (H.content b) n.ids [])) (sym c.if-depth-eq0.true) c.drop_leaf.ensures.outcome

pub drop_below-returns-in-Ok-remove-clause-outcome : goal.drop_below-returns-in-Ok-remove-clause-outcome
drop_below-returns-in-Ok-remove-clause-outcome g t c =
    let H = tx_holdings g.S.Blocks.holdings in
    let laws = tx_laws g.S.Blocks.meanings g.S.Blocks.holdings g.met.S.Blocks.lawful in
    let a = c.args.tx.now in
    let b = c.load_at.new.tx in
    let d = c.remove.new.tx in
    let id = c.args.id.now.0 in
    let stays = c.load_at.ensures.stays in
    let two = changed_ g.S.Blocks.meanings g.S.Blocks.holdings {R = λ n. (node_of c.in-Ok.node ≡ n.tree.node) × Sets (H.content b) (H.content d) id None} c.args.tx.now b d c.remove.ensures.store c.remove.ensures.seed c.remove.ensures.intact c.in-Ok.ensures.outcome (λ n p. (p, c.in-Ok-remove.ensures.sets)) in
    then_ laws two (λ n r. below_changed (below_on stays (below_of (node_of c.in-Ok.node) n r.0)) (root_apart n) (keeps_same g.S.Blocks.holdings b d c.remove.ensures.store) r.1) c.drop_in.ensures.outcome
    (λ n r y k. drops_tree (H.content a) (H.content b) (H.content d) (H.content c.drop_in.new.tx) id n.tree.below n.ids (stays.content n.told) r.1 n.tree.all k)

pub drop_below-returns-clause-outcome : goal.drop_below-returns-clause-outcome
drop_below-returns-clause-outcome g t c =
    no_memory (changed_ g.S.Blocks.meanings g.S.Blocks.holdings {R = λ n. Unit {0}} c.args.tx.now c.load_at.new.tx c.remove.new.tx c.remove.ensures.store c.remove.ensures.seed c.remove.ensures.intact c.in-Ok.ensures.outcome (λ n p. tt))

pub drop_in-returns-in-Leaf-clause-outcome : goal.drop_in-returns-in-Leaf-clause-outcome
drop_in-returns-in-Leaf-clause-outcome g t c =
    let H = tx_holdings g.S.Blocks.holdings in
    let laws = tx_laws g.S.Blocks.meanings g.S.Blocks.holdings g.met.S.Blocks.lawful in
    let a = c.args.tx.now in
    idle laws a _ c.requires.intact (λ n. subst (λ xs. Replaces (H.content a) (H.content a) xs [])
    (sym (leaf_ids (H.payload a) (H.content a) c.args.depth (node_of c.args.node.now) n.bytes c.in-Leaf.field-0.items n.ids n.holds (ap node_of (sym c.in-Leaf.is)))) (replaces_nothing (H.content a)))

pub drop_in-returns-in-Inner-clause-outcome : goal.drop_in-returns-in-Inner-clause-outcome
drop_in-returns-in-Inner-clause-outcome g t c =
    let H = tx_holdings g.S.Blocks.holdings in
    let children = ids_of c.deref.result.now in
    let is = ap (λ (xs : List BlockId). inner c.in-Inner.depth (ids_of xs)) c.deref.ensures.value ∙ ap node_of (sym c.in-Inner.is) in
    first_ (λ n. children_of (node_of c.args.node.now) c.in-Inner.depth (c.args.depth - 1) children is
    (deep_of (H.payload c.args.tx.now) c.args.depth c.in-Inner.depth (node_of c.args.node.now) children is c.requires.fits c.requires.depth) n) c.drop_children.ensures.outcome (λ n y h. h)

pub drop_children-returns-in-Err-clause-outcome : goal.drop_children-returns-in-Err-clause-outcome
drop_children-returns-in-Err-clause-outcome g t c =
    let laws = tx_laws g.S.Blocks.meanings g.S.Blocks.holdings g.met.S.Blocks.lawful in
    let inv = c.loop-child.invariant in
    let i = c.loop-child.child-index in
    let child : BlockId = get_or c.args.children.now i (record { 0 = [] }) in
    failed_ laws inv.outcome (λ n h. first_left child.0 (drop (i + 1) (ids_of c.args.children.now)) (inv.below.told ∙ n.told) n.alone (next_child c.args.children.now i (record { 0 = [] }) c.loop-child-test.true) h)
    c.in-Err.ensures.outcome

pub drop_children-loop-child-init : goal.drop_children-loop-child-init
drop_children-loop-child-init g t c =
    let laws = tx_laws g.S.Blocks.meanings g.S.Blocks.holdings g.met.S.Blocks.lawful in
    record {
      outcome = idle laws c.args.tx.now _ c.requires (λ n. drop_start n);
      kept = λ q h. refl;
      below = stays-same g.S.Blocks.holdings c.args.tx.now.store;
    }

pub drop_children-loop-child-preserved : goal.drop_children-loop-child-preserved
drop_children-loop-child-preserved g t c =
    let laws = tx_laws g.S.Blocks.meanings g.S.Blocks.holdings g.met.S.Blocks.lawful in
    let inv = c.loop-child.invariant in
    let i = c.loop-child.child-index in
    let child : BlockId = get_or c.args.children.now i (record { 0 = [] }) in
    let rest = drop (i + 1) (ids_of c.args.children.now) in
    let here = next_child c.args.children.now i (record { 0 = [] }) c.loop-child-test.true in
    record {
      outcome = then_ laws inv.outcome (λ n h. first_left child.0 rest (inv.below.told ∙ n.told) n.alone here h) c.in-Ok.ensures.outcome
          (λ n h y k. drop_next child.0 rest (inv.below.told ∙ n.told) n.alone here h (keeps_below g.S.Blocks.holdings c.loop-child.tx c.drop_below.new.tx c.drop_below.ensures.below) k);
      kept = kept_drop g.S.Blocks.holdings c.args.tx.now c.loop-child.tx c.drop_below.new.tx c.drop_below.ensures.below inv.kept c.drop_below.ensures.kept;
      below = stays-then inv.below c.drop_below.ensures.below;
    }

pub drop_children-returns-clause-outcome : goal.drop_children-returns-clause-outcome
drop_children-returns-clause-outcome g t c =
    answered c.loop-child.invariant.outcome (λ n h. drop_done (no_child c.args.children.now c.loop-child.child-index c.loop-child-test.false) h)

pub drop_below-returns-in-Ok-remove-clause-kept : goal.drop_below-returns-in-Ok-remove-clause-kept
drop_below-returns-in-Ok-remove-clause-kept g t c =
    kept_drop g.S.Blocks.holdings c.args.tx.now c.remove.new.tx c.drop_in.new.tx c.drop_in.ensures.below (kept_drop g.S.Blocks.holdings c.args.tx.now c.load_at.new.tx c.remove.new.tx (below_same g.S.Blocks.holdings c.load_at.new.tx c.remove.new.tx c.remove.ensures.store) (λ q h. ap (λ m. get m q) c.load_at.ensures.leaves.overlay) c.remove.ensures.kept) c.drop_in.ensures.kept

pub drop_below-returns-clause-kept : goal.drop_below-returns-clause-kept
drop_below-returns-clause-kept g t c =
    kept_drop g.S.Blocks.holdings c.args.tx.now c.load_at.new.tx c.remove.new.tx (below_same g.S.Blocks.holdings c.load_at.new.tx c.remove.new.tx c.remove.ensures.store) (λ q h. ap (λ m. get m q) c.load_at.ensures.leaves.overlay) c.remove.ensures.kept

pub drop_children-returns-in-Err-clause-kept : goal.drop_children-returns-in-Err-clause-kept
drop_children-returns-in-Err-clause-kept g t c =
    kept_drop g.S.Blocks.holdings c.args.tx.now c.loop-child.tx c.drop_below.new.tx c.drop_below.ensures.below c.loop-child.invariant.kept c.drop_below.ensures.kept
