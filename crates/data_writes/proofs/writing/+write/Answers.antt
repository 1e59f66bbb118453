use Rattle.std.proofs.Common.{◌≡◌, ◌+◌, ◌-◌, ◌*◌, ◌≤◌, sym, ◌∙◌, ap, subst, arith, length, List, [], take, drop, get_or, refl, ℕ, inl, rules}
use Rattle.block_id.specs.declared.id.BlockId.{BlockId}
use Rattle.data_tree.specs.store_outcome.Outcome.{first_, idle, then_, failed_, answered}
use Rattle.data_tree.specs.data_nodes.Layout.{node_of, ids_of, leaf, inner, room, fan_out, FitsPayload, IsNode}
use Rattle.data_writes.specs.Writing.{MayWrite, MayWriteNode, MayWriteTrees, LeafCost}
use Rattle.data_tree.specs.store_api.Txs.{tx_holdings, tx_laws, tx_steady}
use Rattle.data_tree.proofs.Forests.{below_of, root_apart, children_of, leaf_is, stays-same, stays-then}
use Rattle.data_tree.proofs.Gathering.{next_child, no_child, more_children, all_children}
use Rattle.data_tree.proofs.Counting.{is_zero, not_zero}
use Rattle.data_tree.proofs.Levels.{span-some}
use Rattle.data_tree.proofs.Leaving.{keeps_loaded, keeps_same_blocks, keeps_then}
use Rattle.data_writes.proofs.Costs.{cost_start, cost_next, cost_done, cost_leaf, cost_none, cost_same}
use Rattle.std.specs.FinMap as fin
use Rattle.std.specs.Prelude.{min}
use Rattle.data_tree.specs.Trees.{span, depth_in}
use Rattle.std.proofs.lemmas.List.{length-append, length-map}
use Rattle.data_tree.proofs.Puts.{keeps_below, unforged_before}
use Rattle.data_writes.proofs.Leaves.{only_next, only_leaf, only_below, only_since}
use Rattle.data_writes.proofs.Overwriting.{tree_at, wrote_nothing, wrote_since, wrote_leaf, wrote_inner, write_start, child_left, left_kept, write_next, write_done}
use Rattle.data_writes.proofs.writing.+write.Goals as goal

pub write_below-returns-then-is_empty-clause-outcome : goal.write_below-returns-then-is_empty-clause-outcome
write_below-returns-then-is_empty-clause-outcome g t c =
    let laws = tx_laws g.S.Blocks.meanings g.S.Blocks.holdings g.met.S.Blocks.lawful in
    idle laws c.args.tx.now _ c.requires.intact (λ n. wrote_nothing c.args.from c.args.bytes.now (is_zero (length c.args.bytes.now) c.if-is_empty.ensures) n.tree)

pub write_below-returns-in-Ok-clause-outcome : goal.write_below-returns-in-Ok-clause-outcome
write_below-returns-in-Ok-clause-outcome g t c =
    let H = tx_holdings g.S.Blocks.holdings in
    let laws = tx_laws g.S.Blocks.meanings g.S.Blocks.holdings g.met.S.Blocks.lawful in
    let stays = c.load_at.ensures.stays in
    let one = first_ {N = MayWrite H c.args.tx.now c.args.level.depth c.args.id.now.0 c.args.from (length c.args.bytes.now)} {R = λ n y. node_of y ≡ n.tree.tree.node} (λ n. n.tree) c.in-Ok.ensures.outcome (λ n y h. h) in
    then_ laws one (λ n p. record { tree = tree_at stays n.tree; is = p; inside = n.inside }) c.write_in.ensures.outcome (λ n p y w. wrote_since stays n.tree.told w)

pub write_in-returns-in-Leaf-clause-outcome : goal.write_in-returns-in-Leaf-clause-outcome
write_in-returns-in-Leaf-clause-outcome g t c =
    let H = tx_holdings g.S.Blocks.holdings in
    let a = c.args.tx.now in
    let node = node_of c.args.node.now in
    let old = c.deref.result.now in
    let leaf_at : leaf old ≡ node = ap leaf c.deref.ensures.value ∙ ap node_of (sym c.in-Leaf.is) in
    first_ {N = MayWriteNode H a c.args.level.depth c.args.id.now.0 node c.args.from (length c.args.bytes.now)}
    (λ n. subst (λ (x : List ℕ). c.args.from + length c.args.bytes.now ≤ length x) (sym (leaf_is (H.payload a) (H.content a) c.args.level.depth n.tree.tree.node n.tree.bytes old n.tree.tree.below n.tree.tree.holds (leaf_at ∙ n.is))) (n.inside c.requires.some))
    c.write_leaf.ensures.outcome
    (λ n y q. wrote_leaf node old c.args.from c.args.bytes.now q.0 n.tree n.is leaf_at (leaf_is (H.payload a) (H.content a) c.args.level.depth n.tree.tree.node n.tree.bytes old n.tree.tree.below n.tree.tree.holds (leaf_at ∙ n.is))
    q.1.0 q.1.1.0 q.1.1.1 (keeps_below g.S.Blocks.holdings a c.write_leaf.new.tx c.write_leaf.ensures.keeps.below))

pub write_in-returns-in-Inner-clause-outcome : goal.write_in-returns-in-Inner-clause-outcome
write_in-returns-in-Inner-clause-outcome g t c =
    let H = tx_holdings g.S.Blocks.holdings in
    let a = c.args.tx.now in
    let node = node_of c.args.node.now in
    let children = ids_of c.deref-in-Inner.result.now in
    let low = c.below-below.result.depth in
    let is = ap (λ (xs : List BlockId). inner c.in-Inner.depth (ids_of xs)) c.deref-in-Inner.ensures.value ∙ ap node_of (sym c.in-Inner.is) in
    first_ {N = MayWriteNode H a c.args.level.depth c.args.id.now.0 node c.args.from (length c.args.bytes.now)}
    (λ n. record { trees = children_of node c.in-Inner.depth low children is c.below-below.ensures.depth (below_of node n.tree n.is); inside = n.inside }) c.write_children.ensures.outcome
    (λ n y k. wrote_inner node c.in-Inner.depth low children n.tree n.is is c.requires.at.depth c.below-below.ensures.depth (root_apart n.tree) (keeps_below g.S.Blocks.holdings a c.write_children.new.tx c.write_children.ensures.keeps.below) k)

pub write_children-loop-child-init : goal.write_children-loop-child-init
write_children-loop-child-init g t c =
    let laws = tx_laws g.S.Blocks.meanings g.S.Blocks.holdings g.met.S.Blocks.lawful in
    let steady = tx_steady g.S.Blocks.meanings g.S.Blocks.holdings g.met.S.Blocks.steady in
    record {
      outcome = idle laws c.args.tx.now _ c.requires.intact (λ n. write_start c.args.from c.args.bytes.now n.trees n.inside);
      cost = cost_start (room ((tx_holdings g.S.Blocks.holdings).payload c.args.tx.now)) (fin.len c.args.tx.now.overlay) c.args.from (length c.args.bytes.now) c.args.level.room (omega (arith, steady.at_least c.args.tx.now c.requires.intact));
      only = λ n s h q. inl refl;
      below = stays-same g.S.Blocks.holdings c.args.tx.now.store;
      there = λ id h. h;
    }

pub write_children-returns-in-Err-clause-outcome : goal.write_children-returns-in-Err-clause-outcome
write_children-returns-in-Err-clause-outcome g t c =
    let laws = tx_laws g.S.Blocks.meanings g.S.Blocks.holdings g.met.S.Blocks.lawful in
    let inv = c.loop-child.invariant in
    let i = c.loop-child.child-index in
    let child : BlockId = get_or c.args.children.now i (record { 0 = [] }) in
    let rest = drop (i + 1) (ids_of c.args.children.now) in
    let here = next_child c.args.children.now i (record { 0 = [] }) c.loop-child-test.true in
    let sized = c.requires.level ∙ ap (λ p. span p c.args.level.depth) (sym inv.below.payload) in
    let cut = c.min.ensures ∙ ap (λ k. min k (length c.loop-child.rest.now)) c.saturating_sub.ensures in
    failed_ laws inv.outcome (λ n h. child_left child.0 rest c.args.level.room c.min.result c.split_at.result.0.now c.split_at.result.1.now (inv.below.told ∙ n.trees.told) n.trees.alone here sized cut c.split_at.ensures.front c.split_at.ensures.back h)
    c.in-Err.ensures.outcome

pub write_children-loop-child-preserved : goal.write_children-loop-child-preserved
write_children-loop-child-preserved g t c =
    let H = tx_holdings g.S.Blocks.holdings in
    let laws = tx_laws g.S.Blocks.meanings g.S.Blocks.holdings g.met.S.Blocks.lawful in
    let steady = tx_steady g.S.Blocks.meanings g.S.Blocks.holdings g.met.S.Blocks.steady in
    let inv = c.loop-child.invariant in
    let i = c.loop-child.child-index in
    let child : BlockId = get_or c.args.children.now i (record { 0 = [] }) in
    let rest = drop (i + 1) (ids_of c.args.children.now) in
    let here = next_child c.args.children.now i (record { 0 = [] }) c.loop-child-test.true in
    let grown = more_children c.args.children.now i (record { 0 = [] }) c.loop-child-test.true in
    let sized = c.requires.level ∙ ap (λ p. span p c.args.level.depth) (sym inv.below.payload) in
    let cut = c.min.ensures ∙ ap (λ k. min k (length c.loop-child.rest.now)) c.saturating_sub.ensures in
    let positive = span-some (H.payload c.loop-child.tx) c.args.level.depth (steady.at_least c.loop-child.tx inv.outcome.intact) in
    let now_len = c.split_at.ensures.front_len ∙ cut in
    let rest_len = ap length c.split_at.ensures.by_index.0 ∙ length-append c.split_at.result.0.now c.split_at.result.1.now in
    let paid = subst (λ p. LeafCost (room p) (fin.len c.loop-child.tx.overlay) (fin.len c.write_below.new.tx.overlay) c.loop-child.place (length c.split_at.result.0.now) c.args.level.room) inv.below.payload c.write_below.ensures.cost in
    record {
      outcome = then_ laws inv.outcome
          (λ n h. child_left child.0 rest c.args.level.room c.min.result c.split_at.result.0.now c.split_at.result.1.now (inv.below.told ∙ n.trees.told) n.trees.alone here sized cut c.split_at.ensures.front c.split_at.ensures.back h)
          c.in-Ok.ensures.outcome
          (λ n h y k. write_next child.0 rest (take (i + 1) (ids_of c.args.children.now)) c.args.level.room c.min.result c.saturating_sub-place.result c.split_at.result.0.now c.split_at.result.1.now positive (inv.below.told ∙ n.trees.told) n.trees.alone here sized cut
          c.split_at.ensures.front c.split_at.ensures.back h c.saturating_sub-place.ensures grown (keeps_below g.S.Blocks.holdings c.loop-child.tx c.write_below.new.tx c.write_below.ensures.keeps.below) k);
      cost = cost_next inv.cost (length c.split_at.result.0.now) paid now_len c.saturating_sub-place.result (length c.split_at.result.1.now) c.saturating_sub-place.ensures rest_len (omega (arith, positive, sized));
      only = λ n s h q.
          let before = unforged_before laws c.args.tx.now c.loop-child.tx c.write_below.new.tx c.write_below.ensures.outcome.loaded h in
          let grown = laws.forgeries_grow c.args.tx.now c.loop-child.tx inv.outcome.loaded in
          let r = inv.outcome.value n s before in
          let need = child_left child.0 rest c.args.level.room c.min.result c.split_at.result.0.now c.split_at.result.1.now (inv.below.told ∙ n.trees.told) n.trees.alone here sized cut c.split_at.ensures.front c.split_at.ensures.back r in
          only_next (H.payload c.args.tx.now) (H.payload c.loop-child.tx) (H.content c.args.tx.now) (H.content c.loop-child.tx) c.args.level.depth (ids_of c.args.children.now) child.0 rest c.args.tx.now.overlay c.loop-child.tx.overlay c.write_below.new.tx.overlay
          i c.args.level.room c.args.from (length c.args.bytes.now) (length c.loop-child.rest.now) c.loop-child.place (length c.split_at.result.0.now) need.tree.bytes need.tree.ids inv.below.payload (steady.at_least c.args.tx.now c.requires.intact) here c.requires.level
          now_len inv.cost.at inv.cost.fewer need.inside need.tree.tree (left_kept child.0 rest n.trees.alone here r) (inv.only n s before) (c.write_below.ensures.only need (inv.outcome.sound s before) (omega (arith, h, grown))) q;
      below = stays-then inv.below c.write_below.ensures.keeps.below;
      there = λ q h. c.write_below.ensures.keeps.there q (inv.there q h);
    }

pub write_children-returns-clause-outcome : goal.write_children-returns-clause-outcome
write_children-returns-clause-outcome g t c =
    answered c.loop-child.invariant.outcome (λ n h. write_done (no_child c.args.children.now c.loop-child.child-index c.loop-child-test.false) (all_children c.args.children.now c.loop-child.child-index c.loop-child-test.false) h)

pub write_children-returns-in-Err-clause-cost : goal.write_children-returns-in-Err-clause-cost
write_children-returns-in-Err-clause-cost g t c =
    let H = tx_holdings g.S.Blocks.holdings in
    let steady = tx_steady g.S.Blocks.meanings g.S.Blocks.holdings g.met.S.Blocks.steady in
    let inv = c.loop-child.invariant in
    let sized = c.requires.level ∙ ap (λ p. span p c.args.level.depth) (sym inv.below.payload) in
    let cut = c.min.ensures ∙ ap (λ k. min k (length c.loop-child.rest.now)) c.saturating_sub.ensures in
    let positive = span-some (H.payload c.loop-child.tx) c.args.level.depth (steady.at_least c.loop-child.tx inv.outcome.intact) in
    let now_len = c.split_at.ensures.front_len ∙ cut in
    let rest_len = ap length c.split_at.ensures.by_index.0 ∙ length-append c.split_at.result.0.now c.split_at.result.1.now in
    let paid = subst (λ p. LeafCost (room p) (fin.len c.loop-child.tx.overlay) (fin.len c.write_below.new.tx.overlay) c.loop-child.place (length c.split_at.result.0.now) c.args.level.room) inv.below.payload c.write_below.ensures.cost in
    let next = cost_next inv.cost (length c.split_at.result.0.now) paid now_len (c.loop-child.place - c.args.level.room) (length c.split_at.result.1.now) refl rest_len (omega (arith, positive, sized)) in
    cost_done (fan_out (H.payload c.args.tx.now)) next (omega (arith, c.loop-child-test.true, c.requires.few))

pub write_children-returns-clause-cost : goal.write_children-returns-clause-cost
write_children-returns-clause-cost g t c =
    cost_done (fan_out ((tx_holdings g.S.Blocks.holdings).payload c.args.tx.now)) c.loop-child.invariant.cost (omega (arith, c.loop-child.auto.child-index-end, c.requires.few))

pub write_in-returns-in-Leaf-clause-cost : goal.write_in-returns-in-Leaf-clause-cost
write_in-returns-in-Leaf-clause-cost g t c =
    let P = (tx_holdings g.S.Blocks.holdings).payload c.args.tx.now in
    let steady = tx_steady g.S.Blocks.meanings g.S.Blocks.holdings g.met.S.Blocks.steady in
    let leaf_at : leaf c.deref.result.now ≡ node_of c.args.node.now = ap leaf c.deref.ensures.value ∙ ap node_of (sym c.in-Leaf.is) in
    let low : 0 ≡ c.args.level.depth = ap depth_in leaf_at ∙ c.requires.at.depth in
    let all : c.args.level.room ≡ room P = c.requires.at.room ∙ ap (span P) (sym low) in
    cost_leaf (room P) _ _ c.args.from (length c.args.bytes.now) c.args.level.room (length c.deref.result.now) (omega (arith, steady.at_least c.args.tx.now c.requires.intact)) c.requires.some (subst (FitsPayload P) (sym leaf_at) c.requires.at.fits) all c.write_leaf.ensures.few

pub write_below-returns-then-is_empty-clause-cost : goal.write_below-returns-then-is_empty-clause-cost
write_below-returns-then-is_empty-clause-cost g t c =
    let P = (tx_holdings g.S.Blocks.holdings).payload c.args.tx.now in
    let steady = tx_steady g.S.Blocks.meanings g.S.Blocks.holdings g.met.S.Blocks.steady in
    cost_none (room P) _ _ c.args.from (length c.args.bytes.now) c.args.level.room (omega (arith, steady.at_least c.args.tx.now c.requires.intact)) (omega arith)

pub write_below-returns-in-Err-clause-cost : goal.write_below-returns-in-Err-clause-cost
write_below-returns-in-Err-clause-cost g t c =
    let P = (tx_holdings g.S.Blocks.holdings).payload c.args.tx.now in
    let steady = tx_steady g.S.Blocks.meanings g.S.Blocks.holdings g.met.S.Blocks.steady in
    cost_none (room P) _ _ c.args.from (length c.args.bytes.now) c.args.level.room (omega (arith, steady.at_least c.args.tx.now c.requires.intact)) (omega (arith, ap fin.len c.load_at.ensures.leaves.overlay))

pub write_below-returns-in-Ok-clause-cost : goal.write_below-returns-in-Ok-clause-cost
write_below-returns-in-Ok-clause-cost g t c =
    let old = fin.len c.args.tx.now.overlay in
    let new = fin.len c.write_in.new.tx.overlay in
    let cost = cost_same _ old _ new c.args.from (length c.args.bytes.now) c.args.level.room c.args.level.room (omega (arith, ap fin.len c.load_at.ensures.leaves.overlay)) refl c.write_in.ensures.cost in
    subst (λ p. LeafCost (room p) old new c.args.from (length c.args.bytes.now) c.args.level.room) c.load_at.ensures.stays.payload cost

pub write_in-returns-in-Inner-clause-cost : goal.write_in-returns-in-Inner-clause-cost
write_in-returns-in-Inner-clause-cost g t c =
    cost_same _ _ _ _ c.args.from (length c.args.bytes.now) _ c.args.level.room (omega arith) (ap (λ k. fan_out k * c.below-below.result.room) (sym c.payload.ensures) ∙ c.below-below.ensures.all) c.write_children.ensures.cost

pub write_children-returns-in-Err-clause-only : goal.write_children-returns-in-Err-clause-only
write_children-returns-in-Err-clause-only g t c =
    let H = tx_holdings g.S.Blocks.holdings in
    let laws = tx_laws g.S.Blocks.meanings g.S.Blocks.holdings g.met.S.Blocks.lawful in
    let steady = tx_steady g.S.Blocks.meanings g.S.Blocks.holdings g.met.S.Blocks.steady in
    let inv = c.loop-child.invariant in
    let i = c.loop-child.child-index in
    let child : BlockId = get_or c.args.children.now i (record { 0 = [] }) in
    let rest = drop (i + 1) (ids_of c.args.children.now) in
    let here = next_child c.args.children.now i (record { 0 = [] }) c.loop-child-test.true in
    let sized = c.requires.level ∙ ap (λ p. span p c.args.level.depth) (sym inv.below.payload) in
    let cut = c.min.ensures ∙ ap (λ k. min k (length c.loop-child.rest.now)) c.saturating_sub.ensures in
    let now_len = c.split_at.ensures.front_len ∙ cut in
    λ n s h q.
    let before = unforged_before laws c.args.tx.now c.loop-child.tx c.write_below.new.tx c.write_below.ensures.outcome.loaded h in
    let grown = laws.forgeries_grow c.args.tx.now c.loop-child.tx inv.outcome.loaded in
    let r = inv.outcome.value n s before in
    let need = child_left child.0 rest c.args.level.room c.min.result c.split_at.result.0.now c.split_at.result.1.now (inv.below.told ∙ n.trees.told) n.trees.alone here sized cut c.split_at.ensures.front c.split_at.ensures.back r in
    only_next (H.payload c.args.tx.now) (H.payload c.loop-child.tx) (H.content c.args.tx.now) (H.content c.loop-child.tx) c.args.level.depth (ids_of c.args.children.now) child.0 rest c.args.tx.now.overlay c.loop-child.tx.overlay c.write_below.new.tx.overlay
    i c.args.level.room c.args.from (length c.args.bytes.now) (length c.loop-child.rest.now) c.loop-child.place (length c.split_at.result.0.now) need.tree.bytes need.tree.ids inv.below.payload (steady.at_least c.args.tx.now c.requires.intact) here c.requires.level
    now_len inv.cost.at inv.cost.fewer need.inside need.tree.tree (left_kept child.0 rest n.trees.alone here r) (inv.only n s before) (c.write_below.ensures.only need (inv.outcome.sound s before) (omega (arith, h, grown))) q

pub write_in-returns-in-Leaf-clause-only : goal.write_in-returns-in-Leaf-clause-only
write_in-returns-in-Leaf-clause-only g t c n s h q =
    let H = tx_holdings g.S.Blocks.holdings in
    let a = c.args.tx.now in
    let leaf_at : leaf c.deref.result.now ≡ node_of c.args.node.now = ap leaf c.deref.ensures.value ∙ ap node_of (sym c.in-Leaf.is) in
    let low : 0 ≡ c.args.level.depth = ap depth_in leaf_at ∙ c.requires.at.depth in
    only_leaf (H.payload a) (H.content a) c.args.level.depth c.args.id.now.0 c.args.from (length c.args.bytes.now) a.overlay c.write_leaf.new.tx.overlay q low c.requires.some (c.write_leaf.ensures.others q)

pub write_in-returns-in-Inner-clause-only : goal.write_in-returns-in-Inner-clause-only
write_in-returns-in-Inner-clause-only g t c n s h =
    let H = tx_holdings g.S.Blocks.holdings in
    let a = c.args.tx.now in
    let node = node_of c.args.node.now in
    let children = ids_of c.deref-in-Inner.result.now in
    let low = c.below-below.result.depth in
    let is = ap (λ (xs : List BlockId). inner c.in-Inner.depth (ids_of xs)) c.deref-in-Inner.ensures.value ∙ ap node_of (sym c.in-Inner.is) in
    let need : MayWriteTrees H a low children c.args.from (length c.args.bytes.now) = record { trees = children_of node c.in-Inner.depth low children is c.below-below.ensures.depth (below_of node n.tree n.is); inside = n.inside } in
    only_below (H.payload a) (H.content a) c.args.level.depth c.in-Inner.depth low c.args.id.now.0 n.tree.tree.text children c.args.from (length c.args.bytes.now) a.overlay c.write_children.new.tx.overlay c.below-below.ensures.depth (ap depth_in is ∙ c.requires.at.depth)
    n.tree.tree.there (subst (IsNode n.tree.tree.text) (sym (is ∙ n.is)) n.tree.tree.is) (c.write_children.ensures.only need s h)

pub write_below-returns-in-Ok-clause-only : goal.write_below-returns-in-Ok-clause-only
write_below-returns-in-Ok-clause-only g t c n s h =
    let H = tx_holdings g.S.Blocks.holdings in
    let laws = tx_laws g.S.Blocks.meanings g.S.Blocks.holdings g.met.S.Blocks.lawful in
    let a = c.args.tx.now in
    let b = c.load_at.new.tx in
    let stays = c.load_at.ensures.stays in
    let before = unforged_before laws a b c.write_in.new.tx c.write_in.ensures.outcome.loaded h in
    let grown = laws.forgeries_grow a b c.load_at.ensures.outcome.loaded in
    let node : node_of c.in-Ok.node ≡ n.tree.tree.node = c.in-Ok.ensures.outcome.value n.tree s before in
    let need : MayWriteNode H b c.args.level.depth c.args.id.now.0 (node_of c.in-Ok.node) c.args.from (length c.args.bytes.now) = record { tree = tree_at stays n.tree; is = node; inside = n.inside } in
    only_since stays n.tree.told c.args.level.depth c.args.id.now.0 c.args.from (length c.args.bytes.now) b.overlay a.overlay c.write_in.new.tx.overlay c.load_at.ensures.leaves.overlay (c.write_in.ensures.only need (c.load_at.ensures.outcome.sound s before) (omega (arith, h, grown)))

pub write_below-returns-then-is_empty-clause-keeps : goal.write_below-returns-then-is_empty-clause-keeps
write_below-returns-then-is_empty-clause-keeps g t c = keeps_same_blocks g.S.Blocks.holdings c.args.tx.now

pub write_below-returns-in-Ok-clause-keeps : goal.write_below-returns-in-Ok-clause-keeps
write_below-returns-in-Ok-clause-keeps g t c = keeps_then (keeps_loaded c.load_at.ensures.leaves c.load_at.ensures.stays) c.write_in.ensures.keeps

pub write_below-returns-in-Err-clause-keeps : goal.write_below-returns-in-Err-clause-keeps
write_below-returns-in-Err-clause-keeps g t c = keeps_loaded c.load_at.ensures.leaves c.load_at.ensures.stays

pub write_children-returns-in-Err-clause-keeps : goal.write_children-returns-in-Err-clause-keeps
write_children-returns-in-Err-clause-keeps g t c =
    let inv = c.loop-child.invariant in
    let below = c.write_below.ensures.keeps in
    record { below = stays-then inv.below below.below; there = λ q h. below.there q (inv.there q h) }

pub write_children-returns-clause-keeps : goal.write_children-returns-clause-keeps
write_children-returns-clause-keeps g t c = record { below = c.loop-child.invariant.below; there = c.loop-child.invariant.there }

pub write_in-below-below-requires-clause-room : goal.write_in-below-below-requires-clause-room
write_in-below-below-requires-clause-room g t c = c.requires.at.room ∙ ap (λ p. span p c.args.level.depth) (sym c.payload.ensures)

pub write_in-below-below-requires-clause-deep : goal.write_in-below-below-requires-clause-deep
write_in-below-below-requires-clause-deep g t c =
    let fits = subst (FitsPayload (g.S.Blocks.holdings.payload c.args.tx.now.store)) (ap node_of c.in-Inner.is) c.requires.at.fits in
    omega (arith, fits.0, ap (λ x. depth_in (node_of x)) c.in-Inner.is, c.requires.at.depth)

pub write_in-write_leaf-requires-clause-fits : goal.write_in-write_leaf-requires-clause-fits
write_in-write_leaf-requires-clause-fits g t c =
    let leaf_at : leaf c.deref.result.now ≡ node_of c.args.node.now = ap leaf c.deref.ensures.value ∙ ap node_of (sym c.in-Leaf.is) in
    subst (FitsPayload (g.S.Blocks.holdings.payload c.args.tx.now.store)) (sym leaf_at) c.requires.at.fits

pub write_below-write_in-requires : goal.write_below-write_in-requires
write_below-write_in-requires g t c κs within =
    let same = sym c.load_at.ensures.stays.payload in
    let room = c.requires.level ∙ ap (λ p. span p c.args.level.depth) same in
    let fits = subst (λ p. FitsPayload p (node_of c.in-Ok.node)) same c.in-Ok.ensures.fits in
    let there = c.load_at.ensures.stays.ids c.args.id.now.0 ∙ c.in-Ok.ensures.there in
    (search rules, (within, (c.in-Ok.ensures.outcome.intact, (record { fits = fits; depth = c.in-Ok.ensures.depth; room = room }, (there, not_zero (length c.args.bytes.now) c.if-is_empty.ensures)))))

pub write_in-write_children-requires : goal.write_in-write_children-requires
write_in-write_children-requires g t c κs within =
    let items = c.deref-in-Inner.result.now in
    let is = ap (λ (xs : List BlockId). inner c.in-Inner.depth (ids_of xs)) c.deref-in-Inner.ensures.value ∙ ap node_of (sym c.in-Inner.is) in
    let fits = subst (FitsPayload (g.S.Blocks.holdings.payload c.args.tx.now.store)) (sym is) c.requires.at.fits in
    let level = c.below-below.ensures.room ∙ ap (λ p. span p c.below-below.result.depth) c.payload.ensures in
    (search rules, (within, (c.requires.intact, (level, omega (arith, fits.2, length-map items (λ (x : BlockId). x.0))))))
