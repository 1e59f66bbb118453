use Rattle.std.proofs.Common.{◌≡◌, ◌≤◌, ◌<◌, inl, inr, ◌+◌, ◌-◌, ◌*◌, ◌/◌, ◌^◌, ◌++◌, [], ◌∷◌, refl, sym, ◌∙◌, ap, subst, take, drop, length, List, arith, append_assoc, rules}
use Rattle.std.proofs.lemmas.List.{length-append, length-map, length-take, length-drop, take-append-drop, take_all}
use Rattle.std.specs.FinMap.{get}
use Rattle.block_id.specs.declared.id.BlockId.{BlockId}
use Rattle.data_tree.specs.store_outcome.Outcome.{first_, idle, answered, passed}
use Rattle.data_tree.specs.data_nodes.Layout.{node_of, ids_of, leaf, inner, fan_out, FitsPayload}
use Rattle.data_tree.specs.store_api.Overlay.{changed_over}
use Rattle.data_tree.specs.Needs.{HasBelow, HasTrees}
use Rattle.data_tree.specs.Trees.{span, depth_in}
use Rattle.data_tree.specs.store_api.Txs.{changes_in, drawn_in, store_in, tx_holdings, tx_laws, tx_steady}
use Rattle.data_tree.proofs.Forests.{children_of, leaf_is}
use Rattle.data_tree.proofs.Levels.{span-some}
use Rattle.data_tree.proofs.Leaving.{keeps_added, keeps_loaded, keeps_put, keeps_same_blocks, keeps_then}
use Rattle.data_tree.proofs.Puts.{keeps_below, keeps_same, memory_after, memory_first, unforged_on}
use Rattle.data_growth.specs.Growing.{Grown, GrownTrees}
use Rattle.data_growth.proofs.Borders.{border_inner, inner_only, put_last, then_only}
use Rattle.data_growth.proofs.Growth.{last_id, last_alone, last_then, split_of, split_tree, grown_trees, grown_leaf_is, grown_inner_is, filled, taken}
use Rattle.data_growth.proofs.growing.+grow.Goals as goal

pub grown_node-returns-in-Ok-clause-outcome : goal.grown_node-returns-in-Ok-clause-outcome
grown_node-returns-in-Ok-clause-outcome g t c =
    let H = tx_holdings g.S.Blocks.holdings in
    let laws = tx_laws g.S.Blocks.meanings g.S.Blocks.holdings g.met.S.Blocks.lawful in
    let a = c.args.tx.now in
    let node = node_of c.args.node.now in
    let old = c.deref.result.now in
    let leaf_at : leaf old ≡ node = ap leaf c.deref.ensures.value ∙ ap node_of (sym c.in-Leaf.is) in
    let low : 0 ≡ c.args.level.depth = ap depth_in leaf_at ∙ c.requires.at.depth in
    let room : c.args.level.room ≡ H.payload a - 8 = c.requires.at.room ∙ ap (span (H.payload a)) (sym low) in
    let fits : length old ≤ H.payload a - 8 = subst (FitsPayload (H.payload a)) (sym leaf_at) c.requires.at.fits in
    idle laws a _ c.requires.intact (λ n.
    let is = leaf_is (H.payload a) (H.content a) c.args.level.depth node n.bytes old n.ids n.holds leaf_at in (
      subst (λ x. Grown H a a c.args.level.depth x (n.bytes ++ take c.in-Ok.grown.1 c.args.bytes.now) n.ids) (sym c.in-Ok.ensures.node) (grown_leaf_is node old (take c.in-Ok.grown.1 c.args.bytes.now) leaf_at n is),
      λ less. omega (arith, c.in-Ok.ensures.used, ap length is, less, room, fits),
    ))

pub grown_node-returns-in-Err-clause-outcome : goal.grown_node-returns-in-Err-clause-outcome
grown_node-returns-in-Err-clause-outcome g t c = memory_first g.S.Blocks.meanings g.S.Blocks.holdings g.met.S.Blocks.lawful c.args.tx.now c.args.tx.now c.requires.intact refl refl c.requires.intact

pub grown_node-returns-in-Ok-grown_inner-clause-outcome : goal.grown_node-returns-in-Ok-grown_inner-clause-outcome
grown_node-returns-in-Ok-grown_inner-clause-outcome g t c =
    let H = tx_holdings g.S.Blocks.holdings in
    let a = c.args.tx.now in
    let e = c.grown_inner.new.tx in
    let node = node_of c.args.node.now in
    let bytes = c.args.bytes.now in
    let low = c.below-below.result.depth in
    let children = ids_of c.deref-in-Inner.result.now in
    let is = ap (λ (xs : List BlockId). inner c.in-Inner.depth (ids_of xs)) c.deref-in-Inner.ensures.value ∙ ap node_of (sym c.in-Inner.is) in
    let one = first_ {N = HasBelow H a c.args.level.depth node} {R = λ n y. GrownTrees H a e low (ids_of y.0.items) (n.bytes ++ take y.1 bytes) n.ids × (y.1 < length bytes → length n.bytes + y.1 ≡ fan_out (H.payload a) * c.below-below.result.room)}
    (λ n. children_of node c.in-Inner.depth low children is c.below-below.ensures.depth n) c.in-Ok-grown_inner.ensures.outcome (λ n y h. h) in
    answered one (λ n p. (
      grown_inner_is c.args.level.depth c.in-Inner.depth low (ids_of c.in-Ok-grown_inner.children.items) (n.bytes ++ take c.in-Ok-grown_inner.used bytes) n.ids (ap depth_in is ∙ c.requires.at.depth) c.below-below.ensures.depth p.0,
      λ less. p.1 less ∙ ap (λ k. fan_out k * c.below-below.result.room) (sym c.payload.ensures) ∙ c.below-below.ensures.all,
    ))

pub grown_node-returns-in-Err-grown_inner-clause-outcome : goal.grown_node-returns-in-Err-grown_inner-clause-outcome
grown_node-returns-in-Err-grown_inner-clause-outcome g t c =
    let H = tx_holdings g.S.Blocks.holdings in
    let a = c.args.tx.now in
    let node = node_of c.args.node.now in
    let low = c.below-below.result.depth in
    let children = ids_of c.deref-in-Inner.result.now in
    let is = ap (λ (xs : List BlockId). inner c.in-Inner.depth (ids_of xs)) c.deref-in-Inner.ensures.value ∙ ap node_of (sym c.in-Inner.is) in
    passed (first_ {N = HasBelow H a c.args.level.depth node} {R = λ _ _. Unit {0}} (λ n. children_of node c.in-Inner.depth low children is c.below-below.ensures.depth n) c.in-Err-grown_inner.ensures.outcome (λ _ _ _. tt))

pub grown_inner-grown_children-requires-clause-room : goal.grown_inner-grown_children-requires-clause-room
grown_inner-grown_children-requires-clause-room g t c =
    let steady = tx_steady g.S.Blocks.meanings g.S.Blocks.holdings g.met.S.Blocks.steady in
    omega (arith, span-some ((tx_holdings g.S.Blocks.holdings).payload c.args.tx.now) c.args.level.depth (steady.at_least c.args.tx.now c.requires.intact), c.requires.level)

pub grown_inner-grown_children-requires-clause-places : goal.grown_inner-grown_children-requires-clause-places
grown_inner-grown_children-requires-clause-places g t c =
    let same = ap g.S.Blocks.holdings.payload c.in-Ok-put_node.ensures.puts.store ∙ c.grown_node.ensures.keeps.below.payload ∙ c.load_at.ensures.leaves.below.payload in
    omega (arith, c.payload.ensures, same, c.requires.count.few)

pub grown_inner-grown_children-requires-clause-small : goal.grown_inner-grown_children-requires-clause-small
grown_inner-grown_children-requires-clause-small g t c =
    let same = ap g.S.Blocks.holdings.payload c.in-Ok-put_node.ensures.puts.store ∙ c.grown_node.ensures.keeps.below.payload ∙ c.load_at.ensures.leaves.below.payload in
    subst (λ p. fan_out p * c.args.level.room < 2 ^ 64) (sym same) c.requires.small

pub grown_inner-returns-in-Err-clause-outcome : goal.grown_inner-returns-in-Err-clause-outcome
grown_inner-returns-in-Err-clause-outcome g t c =
    let H = tx_holdings g.S.Blocks.holdings in
    let steady = tx_steady g.S.Blocks.meanings g.S.Blocks.holdings g.met.S.Blocks.steady in
    let a = c.args.tx.now in
    let children = c.args.children.now in
    passed (first_ {N = HasTrees H a c.args.level.depth (ids_of children)} {R = λ _ _. Unit {0}} (λ n. split_tree n (split_of {H = H} {a = a} children c.requires.count.some (steady.at_least a c.requires.intact) n)) c.in-Err.ensures.outcome (λ _ _ _. tt))

pub grown_inner-returns-in-Err-grown_node-clause-outcome : goal.grown_inner-returns-in-Err-grown_node-clause-outcome
grown_inner-returns-in-Err-grown_node-clause-outcome g t c =
    let M = g.S.Blocks.meanings in
    let H0 = g.S.Blocks.holdings in
    let laws = tx_laws M H0 g.met.S.Blocks.lawful in
    let steady = tx_steady M H0 g.met.S.Blocks.steady in
    let a = c.args.tx.now in
    let d = c.grown_node.new.tx in
    passed (last_then M H0 laws a c.load_at.new.tx d c.args.children.now c.requires.count.some (steady.at_least a c.requires.intact) c.in-Ok.ensures.outcome c.load_at.ensures.stays c.in-Err-grown_node.ensures.outcome)

pub grown_inner-returns-in-Err-put_node-clause-outcome : goal.grown_inner-returns-in-Err-put_node-clause-outcome
grown_inner-returns-in-Err-put_node-clause-outcome g t c =
    let M = g.S.Blocks.meanings in
    let H0 = g.S.Blocks.holdings in
    let laws = tx_laws M H0 g.met.S.Blocks.lawful in
    let steady = tx_steady M H0 g.met.S.Blocks.steady in
    let a = c.args.tx.now in
    let d = c.grown_node.new.tx in
    memory_after M H0 a d c.put_node.new.tx c.put_node.ensures.puts.store c.put_node.ensures.puts.seed c.put_node.ensures.intact (last_then M H0 laws a c.load_at.new.tx d c.args.children.now c.requires.count.some (steady.at_least a c.requires.intact) c.in-Ok.ensures.outcome c.load_at.ensures.stays c.in-Ok-grown_node.ensures.outcome)

pub grown_inner-returns-clause-outcome : goal.grown_inner-returns-clause-outcome
grown_inner-returns-clause-outcome g t c =
    let M = g.S.Blocks.meanings in
    let H0 = g.S.Blocks.holdings in
    let laws = tx_laws M H0 g.met.S.Blocks.lawful in
    let steady = tx_steady M H0 g.met.S.Blocks.steady in
    let a = c.args.tx.now in
    let d = c.grown_node.new.tx in
    memory_after M H0 a d c.grown_children.new.tx (c.grown_children.ensures.adds.store ∙ c.put_node.ensures.puts.store) (c.grown_children.ensures.adds.seed ∙ c.put_node.ensures.puts.seed) c.grown_children.ensures.intact (last_then M H0 laws a c.load_at.new.tx d c.args.children.now c.requires.count.some (steady.at_least a c.requires.intact) c.in-Ok.ensures.outcome c.load_at.ensures.stays c.in-Ok-grown_node.ensures.outcome)

pub grown_inner-returns-in-Ok-grown_children-clause-outcome : goal.grown_inner-returns-in-Ok-grown_children-clause-outcome
grown_inner-returns-in-Ok-grown_children-clause-outcome g t c =
    let M = g.S.Blocks.meanings in
    let H0 = g.S.Blocks.holdings in
    let H = tx_holdings H0 in
    let laws = tx_laws M H0 g.met.S.Blocks.lawful in
    let steady = tx_steady M H0 g.met.S.Blocks.steady in
    let a = c.args.tx.now in
    let b = c.load_at.new.tx in
    let d = c.grown_node.new.tx in
    let e = c.put_node.new.tx in
    let f = c.grown_children.new.tx in
    let low = c.args.level.depth in
    let room = c.args.level.room in
    let children = c.args.children.now in
    let bytes = c.args.bytes.now in
    let used = c.in-Ok-grown_node.grown.1 in
    let more = c.in-Ok-grown_children.more in
    let node = node_of c.in-Ok-grown_node.grown.0 in
    let i = length children - 1 in
    let last = last_id children in
    let at = last_alone children c.requires.count.some in
    let least = steady.at_least a c.requires.intact in
    let built = c.in-Ok-grown_children.ensures.children.built in
    let fits : used ≤ length bytes = c.in-Ok-grown_node.ensures.took.used in
    let rest : take (length bytes - used) (drop used bytes) ≡ drop used bytes = take_all (length bytes - used) (drop used bytes) (omega (arith, length-drop used bytes)) in
    let rest_len : length (take (length bytes - used) (drop used bytes)) ≡ length bytes - used = ap length rest ∙ length-drop used bytes in
    let t1 = take used bytes in
    let t2 = take more (take (length bytes - used) (drop used bytes)) in
    let sum : t1 ++ t2 ≡ take (used + more) bytes = ap (λ xs. t1 ++ take more xs) rest ∙ sym (taken used more bytes fits) in
    let listed : ids_of c.in-Ok-grown_children.all.items ≡ take i (ids_of children) ++ last ∷ built.0 =
    built.1.0 ∙ ap (λ xs. xs ++ built.0) (sym (take-append-drop i (ids_of children)) ∙ ap (λ xs. take i (ids_of children) ++ xs) at.1) ∙ append_assoc (take i (ids_of children)) (last ∷ []) built.0 in
    let two = last_then M H0 laws a b d children c.requires.count.some least c.in-Ok.ensures.outcome c.load_at.ensures.stays c.in-Ok-grown_node.ensures.outcome in
    changed_over store_in changes_in drawn_in M H0 a d f (c.grown_children.ensures.adds.store ∙ c.put_node.ensures.puts.store) (c.grown_children.ensures.adds.seed ∙ c.put_node.ensures.puts.seed) c.grown_children.ensures.intact two (λ n p.
    let s = split_of {H = H} {a = a} children c.requires.count.some least n in
    let w2_len : length (s.w2 ++ t1) ≡ length s.w2 + used = omega (arith, length-append s.w2 t1, length-take used bytes, fits) in (
      subst (λ w. GrownTrees H a f low (ids_of c.in-Ok-grown_children.all.items) (n.bytes ++ w) n.ids) sum
          (grown_trees (ids_of c.in-Ok-grown_children.all.items) built.0 node t1 t2 n s listed c.load_at.ensures.stays (keeps_below H0 b d c.grown_node.ensures.keeps.below) (keeps_same H0 d e c.put_node.ensures.puts.store) (keeps_same H0 e f c.grown_children.ensures.adds.store) p.1.0
          c.in-Ok-put_node.ensures.sets (λ some. w2_len ∙ p.1.1 (omega (arith, some, length-take more (take (length bytes - used) (drop used bytes)), rest_len)) ∙ c.requires.level) built.1.1),
      λ less. filled i (length children) ((c.payload.result - 8) / 16 - length children) (fan_out (H.payload a)) room (length s.w1) (length s.w2 + used) more (length n.bytes + (used + more)) (omega (arith, c.requires.count.some)) (omega (arith, c.payload.ensures, c.requires.count.few))
          (s.full ∙ ap (λ k. k * span (H.payload a) low) (let l : length (take i (ids_of children)) ≡ i = omega (arith, length-take i (ids_of children), at.0) in l) ∙ ap (λ k. i * k) (sym c.requires.level)) (p.1.1 (omega (arith, less)))
          (omega (arith, c.in-Ok-grown_children.ensures.children.used, less, rest_len)) (omega (arith, ap length s.bytes, length-append s.w1 s.w2)),
    ))

pub grown_inner-returns-in-Err-grown_node-clause-only : goal.grown_inner-returns-in-Err-grown_node-clause-only
grown_inner-returns-in-Err-grown_node-clause-only g t c n s h q there =
    let M = g.S.Blocks.meanings in
    let H0 = g.S.Blocks.holdings in
    let laws = tx_laws M H0 g.met.S.Blocks.lawful in
    let steady = tx_steady M H0 g.met.S.Blocks.steady in
    let a = c.args.tx.now in
    let d = c.grown_node.new.tx in
    inner_only M H0 laws a c.load_at.new.tx d c.args.children.now c.requires.count.some (steady.at_least a c.requires.intact) c.in-Ok.ensures.outcome c.load_at.ensures.stays c.load_at.ensures.leaves.overlay c.grown_node.ensures.outcome.loaded c.grown_node.ensures.only n s h q there

pub grown_inner-returns-in-Err-put_node-clause-only : goal.grown_inner-returns-in-Err-put_node-clause-only
grown_inner-returns-in-Err-put_node-clause-only g t c n s h q there =
    let M = g.S.Blocks.meanings in
    let H0 = g.S.Blocks.holdings in
    let laws = tx_laws M H0 g.met.S.Blocks.lawful in
    let steady = tx_steady M H0 g.met.S.Blocks.steady in
    let a = c.args.tx.now in
    let d = c.grown_node.new.tx in
    let one = inner_only M H0 laws a c.load_at.new.tx d c.args.children.now c.requires.count.some (steady.at_least a c.requires.intact) c.in-Ok.ensures.outcome c.load_at.ensures.stays c.load_at.ensures.leaves.overlay c.grown_node.ensures.outcome.loaded c.grown_node.ensures.only n s (unforged_on M a d c.put_node.new.tx c.put_node.ensures.puts.store h) q there in
    put_last H0 a d c.put_node.new.tx c.args.level.depth c.args.children.now c.requires.count.some q (c.put_node.ensures.puts.others q) (one)

pub grown_inner-returns-in-Ok-grown_children-clause-only : goal.grown_inner-returns-in-Ok-grown_children-clause-only
grown_inner-returns-in-Ok-grown_children-clause-only g t c n s h q there =
    let M = g.S.Blocks.meanings in
    let H0 = g.S.Blocks.holdings in
    let laws = tx_laws M H0 g.met.S.Blocks.lawful in
    let steady = tx_steady M H0 g.met.S.Blocks.steady in
    let a = c.args.tx.now in
    let d = c.grown_node.new.tx in
    let f = c.grown_children.new.tx in
    let one = inner_only M H0 laws a c.load_at.new.tx d c.args.children.now c.requires.count.some (steady.at_least a c.requires.intact) c.in-Ok.ensures.outcome c.load_at.ensures.stays c.load_at.ensures.leaves.overlay c.grown_node.ensures.outcome.loaded c.grown_node.ensures.only n s (unforged_on M a d f (c.grown_children.ensures.adds.store ∙ c.put_node.ensures.puts.store) h) q there in
    then_only a.overlay c.put_node.new.tx.overlay f.overlay q (c.grown_children.ensures.adds.kept q (c.put_node.ensures.there q (c.grown_node.ensures.keeps.there q (c.load_at.ensures.stays.ids q ∙ there)))) (put_last H0 a d c.put_node.new.tx c.args.level.depth c.args.children.now c.requires.count.some q (c.put_node.ensures.puts.others q) (one))

pub grown_inner-returns-clause-only : goal.grown_inner-returns-clause-only
grown_inner-returns-clause-only g t c n s h q there =
    let M = g.S.Blocks.meanings in
    let H0 = g.S.Blocks.holdings in
    let laws = tx_laws M H0 g.met.S.Blocks.lawful in
    let steady = tx_steady M H0 g.met.S.Blocks.steady in
    let a = c.args.tx.now in
    let d = c.grown_node.new.tx in
    let f = c.grown_children.new.tx in
    let one = inner_only M H0 laws a c.load_at.new.tx d c.args.children.now c.requires.count.some (steady.at_least a c.requires.intact) c.in-Ok.ensures.outcome c.load_at.ensures.stays c.load_at.ensures.leaves.overlay c.grown_node.ensures.outcome.loaded c.grown_node.ensures.only n s (unforged_on M a d f (c.grown_children.ensures.adds.store ∙ c.put_node.ensures.puts.store) h) q there in
    then_only a.overlay c.put_node.new.tx.overlay f.overlay q (c.grown_children.ensures.adds.kept q (c.put_node.ensures.there q (c.grown_node.ensures.keeps.there q (c.load_at.ensures.stays.ids q ∙ there)))) (put_last H0 a d c.put_node.new.tx c.args.level.depth c.args.children.now c.requires.count.some q (c.put_node.ensures.puts.others q) (one))

pub grown_node-returns-in-Ok-grown_inner-clause-only : goal.grown_node-returns-in-Ok-grown_inner-clause-only
grown_node-returns-in-Ok-grown_inner-clause-only g t c n s h q there =
    let H = tx_holdings g.S.Blocks.holdings in
    let node = node_of c.args.node.now in
    let low = c.below-below.result.depth in
    let children = ids_of c.deref-in-Inner.result.now in
    let is = ap (λ (xs : List BlockId). inner c.in-Inner.depth (ids_of xs)) c.deref-in-Inner.ensures.value ∙ ap node_of (sym c.in-Inner.is) in
    elim (c.in-Ok-grown_inner.ensures.only (children_of node c.in-Inner.depth low children is c.below-below.ensures.depth n) s h q there) [
      | inl same ↦ inl same
      | inr found ↦ inr (border_inner (H.content c.args.tx.now) c.args.level.depth c.in-Inner.depth low node children q is c.requires.at.depth c.below-below.ensures.depth found)
    ]

pub grown_node-returns-in-Err-grown_inner-clause-only : goal.grown_node-returns-in-Err-grown_inner-clause-only
grown_node-returns-in-Err-grown_inner-clause-only g t c n s h q there =
    let H = tx_holdings g.S.Blocks.holdings in
    let node = node_of c.args.node.now in
    let low = c.below-below.result.depth in
    let children = ids_of c.deref-in-Inner.result.now in
    let is = ap (λ (xs : List BlockId). inner c.in-Inner.depth (ids_of xs)) c.deref-in-Inner.ensures.value ∙ ap node_of (sym c.in-Inner.is) in
    elim (c.in-Err-grown_inner.ensures.only (children_of node c.in-Inner.depth low children is c.below-below.ensures.depth n) s h q there) [
      | inl same ↦ inl same
      | inr found ↦ inr (border_inner (H.content c.args.tx.now) c.args.level.depth c.in-Inner.depth low node children q is c.requires.at.depth c.below-below.ensures.depth found)
    ]

pub grown_inner-grown_node-requires : goal.grown_inner-grown_node-requires
grown_inner-grown_node-requires g t c =
    let same = sym c.load_at.ensures.stays.payload in
    let level = c.requires.level ∙ ap (λ p. span p c.args.level.depth) same in
    let fits = subst (λ p. FitsPayload p (node_of c.in-Ok.child)) same c.in-Ok.ensures.fits in
    λ κs lives. (search rules, (search rules, (c.in-Ok.ensures.outcome.intact, record { fits = fits; depth = c.in-Ok.ensures.depth; room = level })))

pub grown_node-grown_inner-requires : goal.grown_node-grown_inner-requires
grown_node-grown_inner-requires g t c κs within =
    let payload = g.S.Blocks.holdings.payload c.args.tx.now.store in
    let below = c.below-below.result in
    let items = c.deref-in-Inner.result.now in
    let is = ap (λ (xs : List BlockId). inner c.in-Inner.depth (ids_of xs)) c.deref-in-Inner.ensures.value ∙ ap node_of (sym c.in-Inner.is) in
    let fits = subst (FitsPayload payload) (sym is) c.requires.at.fits in
    let count = length-map items (λ (x : BlockId). x.0) in
    let level = c.below-below.ensures.room ∙ ap (λ p. span p below.depth) c.payload.ensures in
    let wide : c.args.level.room < 2 ^ 64 = search rules in
    let small = subst (λ n. n < 2 ^ 64) (sym c.below-below.ensures.all ∙ ap (λ p. fan_out p * below.room) c.payload.ensures) wide in
    (search rules, (within, (c.requires.intact, (level, (small, record { some = omega (arith, fits.1, count); few = omega (arith, fits.2, count) })))))

pub grown_node-below-below-requires-clause-deep : goal.grown_node-below-below-requires-clause-deep
grown_node-below-below-requires-clause-deep g t c =
    let fits = subst (FitsPayload (g.S.Blocks.holdings.payload c.args.tx.now.store)) (ap node_of c.in-Inner.is) c.requires.at.fits in
    omega (arith, fits.0, ap (λ x. depth_in (node_of x)) c.in-Inner.is, c.requires.at.depth)

pub grown_node-below-below-requires-clause-payload : goal.grown_node-below-below-requires-clause-payload
grown_node-below-below-requires-clause-payload g t c = omega (arith, g.met.S.Blocks.steady.at_least c.args.tx.now.store c.requires.intact.0, c.payload.ensures)

pub grown_node-below-below-requires-clause-room : goal.grown_node-below-below-requires-clause-room
grown_node-below-below-requires-clause-room g t c = c.requires.at.room ∙ ap (λ p. span p c.args.level.depth) (sym c.payload.ensures)

pub grown_inner-put_node-requires-clause-fits : goal.grown_inner-put_node-requires-clause-fits
grown_inner-put_node-requires-clause-fits g t c = subst (λ p. FitsPayload p (node_of c.in-Ok-grown_node.grown.0)) (sym c.grown_node.ensures.keeps.below.payload) c.in-Ok-grown_node.ensures.took.fits

pub grown_inner-put_node-requires-clause-there : goal.grown_inner-put_node-requires-clause-there
grown_inner-put_node-requires-clause-there g t c =
    let last = last_id c.args.children.now in
    c.grown_node.ensures.keeps.there last (c.load_at.ensures.stays.ids last ∙ c.in-Ok.ensures.there)

pub grown_inner-grown_children-requires-clause-level : goal.grown_inner-grown_children-requires-clause-level
grown_inner-grown_children-requires-clause-level g t c =
    let same = ap g.S.Blocks.holdings.payload c.in-Ok-put_node.ensures.puts.store ∙ c.grown_node.ensures.keeps.below.payload ∙ c.load_at.ensures.leaves.below.payload in
    c.requires.level ∙ ap (λ p. span p c.args.level.depth) (sym same)

pub grown_node-returns-in-Ok-clause-took : goal.grown_node-returns-in-Ok-clause-took
grown_node-returns-in-Ok-clause-took g t c =
    let payload = g.S.Blocks.holdings.payload c.args.tx.now.store in
    let old = c.deref.result.now in
    let leaf_at : leaf old ≡ node_of c.args.node.now = ap leaf c.deref.ensures.value ∙ ap node_of (sym c.in-Leaf.is) in
    let low : 0 ≡ c.args.level.depth = ap depth_in leaf_at ∙ c.requires.at.depth in
    let room : c.args.level.room ≡ payload - 8 = c.requires.at.room ∙ ap (span payload) (sym low) in
    let fits : length old ≤ payload - 8 = subst (FitsPayload payload) (sym leaf_at) c.requires.at.fits in
    let new = take c.in-Ok.grown.1 c.args.bytes.now in
    record {
      used = omega (arith, c.in-Ok.ensures.used);
      fits = subst (FitsPayload payload) (sym c.in-Ok.ensures.node) (omega (arith, length-append old new, length-take c.in-Ok.grown.1 c.args.bytes.now, c.in-Ok.ensures.used, room, fits));
    }

pub grown_node-returns-in-Ok-clause-only : goal.grown_node-returns-in-Ok-clause-only
grown_node-returns-in-Ok-clause-only g t c n s h q there = inl refl

pub grown_node-returns-in-Err-clause-only : goal.grown_node-returns-in-Err-clause-only
grown_node-returns-in-Err-clause-only g t c n s h q there = inl refl

pub grown_node-returns-in-Ok-grown_inner-clause-took : goal.grown_node-returns-in-Ok-grown_inner-clause-took
grown_node-returns-in-Ok-grown_inner-clause-took g t c =
    let payload = g.S.Blocks.holdings.payload c.args.tx.now.store in
    let made = c.in-Ok-grown_inner.ensures.took in
    let fits = subst (FitsPayload payload) (ap node_of c.in-Inner.is) c.requires.at.fits in
    let count = length-map c.in-Ok-grown_inner.children.items (λ (x : BlockId). x.0) in
    record {
      used = made.used;
      fits = (fits.0, omega (arith, count, made.count.some), omega (arith, count, made.count.few));
    }

pub grown_inner-returns-in-Err-clause-only : goal.grown_inner-returns-in-Err-clause-only
grown_inner-returns-in-Err-clause-only g t c n s h q there = inl (ap (λ m. get m q) c.load_at.ensures.leaves.overlay)

pub grown_inner-returns-in-Ok-grown_children-clause-took : goal.grown_inner-returns-in-Ok-grown_children-clause-took
grown_inner-returns-in-Ok-grown_children-clause-took g t c =
    let bytes = c.args.bytes.now in
    let used = c.in-Ok-grown_node.grown.1 in
    let made = c.in-Ok-grown_children.ensures.children in
    let all = c.in-Ok-grown_children.all.items in
    let same = ap g.S.Blocks.holdings.payload c.in-Ok-put_node.ensures.puts.store ∙ c.grown_node.ensures.keeps.below.payload ∙ c.load_at.ensures.leaves.below.payload in
    let left : length (take (length bytes - used) (drop used bytes)) ≤ length bytes - used = omega (arith, length-take (length bytes - used) (drop used bytes)) in
    record {
      used = omega (arith, c.in-Ok-grown_node.ensures.took.used, made.used, left);
      count = record { some = omega (arith, made.some, c.requires.count.some); few = subst (λ p. length all ≤ fan_out p) same made.few };
    }

pub grown_node-returns-in-Ok-clause-keeps : goal.grown_node-returns-in-Ok-clause-keeps
grown_node-returns-in-Ok-clause-keeps g t c = keeps_same_blocks g.S.Blocks.holdings c.args.tx.now

pub grown_node-returns-in-Err-clause-keeps : goal.grown_node-returns-in-Err-clause-keeps
grown_node-returns-in-Err-clause-keeps g t c = keeps_same_blocks g.S.Blocks.holdings c.args.tx.now

pub grown_inner-returns-in-Err-clause-keeps : goal.grown_inner-returns-in-Err-clause-keeps
grown_inner-returns-in-Err-clause-keeps g t c = keeps_loaded c.load_at.ensures.leaves c.load_at.ensures.stays

pub grown_inner-returns-in-Err-grown_node-clause-keeps : goal.grown_inner-returns-in-Err-grown_node-clause-keeps
grown_inner-returns-in-Err-grown_node-clause-keeps g t c = keeps_then (keeps_loaded c.load_at.ensures.leaves c.load_at.ensures.stays) c.grown_node.ensures.keeps

pub grown_inner-returns-in-Err-put_node-clause-keeps : goal.grown_inner-returns-in-Err-put_node-clause-keeps
grown_inner-returns-in-Err-put_node-clause-keeps g t c =
    let H = g.S.Blocks.holdings in
    let grown = keeps_then (keeps_loaded c.load_at.ensures.leaves c.load_at.ensures.stays) c.grown_node.ensures.keeps in
    let put = keeps_put H c.grown_node.new.tx c.put_node.new.tx c.put_node.ensures.puts c.put_node.ensures.there in
    keeps_then grown put

pub grown_inner-returns-in-Ok-grown_children-clause-keeps : goal.grown_inner-returns-in-Ok-grown_children-clause-keeps
grown_inner-returns-in-Ok-grown_children-clause-keeps g t c =
    let H = g.S.Blocks.holdings in
    let grown = keeps_then (keeps_loaded c.load_at.ensures.leaves c.load_at.ensures.stays) c.grown_node.ensures.keeps in
    let put = keeps_put H c.grown_node.new.tx c.put_node.new.tx c.put_node.ensures.puts c.put_node.ensures.there in
    keeps_then (keeps_then grown put) (keeps_added c.grown_children.ensures.adds)

pub grown_inner-returns-clause-keeps : goal.grown_inner-returns-clause-keeps
grown_inner-returns-clause-keeps g t c =
    let H = g.S.Blocks.holdings in
    let grown = keeps_then (keeps_loaded c.load_at.ensures.leaves c.load_at.ensures.stays) c.grown_node.ensures.keeps in
    let put = keeps_put H c.grown_node.new.tx c.put_node.new.tx c.put_node.ensures.puts c.put_node.ensures.there in
    keeps_then (keeps_then grown put) (keeps_added c.grown_children.ensures.adds)
