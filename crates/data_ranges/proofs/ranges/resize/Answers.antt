use Rattle.std.proofs.Common.{◌≡◌, ◌-◌, ◌++◌, sym, ◌∙◌, ap, subst, length, inl, inr, arith, append-nil}
use Rattle.std.specs.FinMap.{get}
use Rattle.std.proofs.lemmas.List.{take_all, length-replicate}
use Rattle.block_id.specs.Contents.{resized, zeros}
use Rattle.data_reads.specs.store_outcome.Outcome.{answered, no_memory, passed, then_}
use Rattle.data_reads.specs.data_nodes.Layout.{node_of}
use Rattle.data_reads.specs.data_tree.Roots.{IsAtLevel, IsNewRoot}
use Rattle.data_reads.specs.data_tree.Trees.{IsDepth, span}
use Rattle.data_reads.proofs.data_tree_lemmas.Forests.{alone_root, below_on, below_root, root_at, stays-then}
use Rattle.data_reads.specs.store_api.Txs.{tx_holdings, tx_laws, tx_steady}
use Rattle.data_reads.proofs.data_tree_lemmas.Puts.{keeps_below, on_any, unforged_before}
use Rattle.data_cuts.specs.Cutting.{OnlyBorder, MayCutNode}
use Rattle.data_ranges.proofs.Borders.{grew_nothing, grew_since}
use Rattle.data_cuts.proofs.Cuts.{cut_root_is, depth_least, on_ok_if}
use Rattle.data_ranges.proofs.Inside.{new_since, root_same}
use Rattle.data_ranges.proofs.ranges.resize.Goals as goal

pub returns-then-n-len-clause-outcome : goal.returns-then-n-len-clause-outcome
returns-then-n-len-clause-outcome g c =
    answered c.in-Ok.ensures.outcome (λ n p. root_same c.open_root.ensures.stays p.0 n (take_all c.args.n n.bytes (omega (arith, c.if-n-len.true, p.1.1))) (omega (arith, c.if-n-len.true, p.1.1)))

pub returns-then-n-len-2-clause-outcome : goal.returns-then-n-len-2-clause-outcome
returns-then-n-len-2-clause-outcome g c =
    let M = g.S.Blocks.meanings in
    let H0 = g.S.Blocks.holdings in
    let H = tx_holdings H0 in
    let laws = tx_laws M H0 g.met.S.Blocks.lawful in
    let a = c.args.tx.now in
    let b = c.open_root.new.tx in
    let d = c.cut_root.new.tx in
    let root = c.args.root.now.0 in
    let n = c.args.n in
    let stays = c.open_root.ensures.stays in
    let node = node_of c.in-Ok.found.0 in
    let own = c.in-Ok.found.1.depth in
    let depth = c.level_for-depth.result.depth in
    let keeps = keeps_below H0 b d c.cut_root.ensures.drops.below in
    let deep : IsDepth (H.payload d) depth n = subst (λ p. IsDepth p depth n) (c.payload.ensures ∙ sym keeps.payload) c.level_for-depth.ensures.deep in
    then_ laws c.in-Ok.ensures.outcome
    (λ r p. record { below = below_on stays (below_root node own p.0 r p.1.0 c.in-Ok.ensures.level.depth); apart = (alone_root r).0; fits = omega (arith, c.if-n-len-2.true, p.1.1) }) c.cut_root.ensures.outcome
    (λ r p y cut. cut_root_is {H = H} {a = a} {b = b} {c = d} stays p.0 r (omega (arith, c.if-n-len-2.true, p.1.1)) deep cut.0)

pub returns-then-n-len-2-clause-shallow : goal.returns-then-n-len-2-clause-shallow
returns-then-n-len-2-clause-shallow g c s h =
    let laws = tx_laws g.S.Blocks.meanings g.S.Blocks.holdings g.met.S.Blocks.lawful in
    on_any c.cut_root.result (c.in-Ok.ensures.shallow s (unforged_before laws c.args.tx.now c.open_root.new.tx c.cut_root.new.tx c.cut_root.ensures.outcome.loaded h))

pub returns-clause-shallow : goal.returns-clause-shallow
returns-clause-shallow g c s h =
    let laws = tx_laws g.S.Blocks.meanings g.S.Blocks.holdings g.met.S.Blocks.lawful in
    on_any c.append.result (c.in-Ok.ensures.shallow s (unforged_before laws c.args.tx.now c.open_root.new.tx c.append.new.tx c.append.ensures.outcome.loaded h))

pub returns-in-Err-after_zeros-clause-outcome : goal.returns-in-Err-after_zeros-clause-outcome
returns-in-Err-after_zeros-clause-outcome g c = no_memory c.in-Ok.ensures.outcome

pub cut_root-requires-clause-low : goal.cut_root-requires-clause-low
cut_root-requires-clause-low g c =
    let steady = tx_steady g.S.Blocks.meanings g.S.Blocks.holdings g.met.S.Blocks.steady in
    let H = tx_holdings g.S.Blocks.holdings in
    let b = c.open_root.new.tx in
    let room : c.in-Ok.found.1.room ≡ span (H.payload b) c.in-Ok.found.1.depth = c.in-Ok.ensures.level.room ∙ ap (λ p. span p c.in-Ok.found.1.depth) (sym c.open_root.ensures.stays.payload) in
    depth_least (H.payload b) c.level_for-depth.result.depth c.in-Ok.found.1.depth c.args.n (steady.at_least b c.open_root.ensures.outcome.intact) (subst (λ p. IsDepth p c.level_for-depth.result.depth c.args.n) c.payload.ensures c.level_for-depth.ensures.deep) (omega (arith, c.if-n-len-2.true, c.in-Ok.ensures.most, room))

pub returns-then-n-len-2-clause-fewer : goal.returns-then-n-len-2-clause-fewer
returns-then-n-len-2-clause-fewer g c r s h q there = sym (c.open_root.ensures.stays.ids q) ∙ c.cut_root.ensures.drops.fewer q there

pub returns-clause-fewer : goal.returns-clause-fewer
returns-clause-fewer g c r s h q there =
    let laws = tx_laws g.S.Blocks.meanings g.S.Blocks.holdings g.met.S.Blocks.lawful in
    let before = unforged_before laws c.args.tx.now c.open_root.new.tx c.append.new.tx c.append.ensures.outcome.loaded h in
    let p = c.in-Ok.ensures.outcome.value r.tree s before in
    absurd (omega (arith, c.if-n-len.false, c.if-n-len-2.false, p.1.1, r.fits))

pub returns-then-n-len-clause-shrank : goal.returns-then-n-len-clause-shrank
returns-then-n-len-clause-shrank g c r s h =
    let H = tx_holdings g.S.Blocks.holdings in
    let stays = c.open_root.ensures.stays in
    let p = c.in-Ok.ensures.outcome.value r.tree s h in
    let deep : IsDepth (H.payload c.open_root.new.tx) r.tree.depth c.args.n = subst (λ k. IsDepth k r.tree.depth c.args.n) (sym stays.payload) (subst (IsDepth (H.payload c.args.tx.now) r.tree.depth) (omega (arith, c.if-n-len.true, p.1.1)) r.tree.deep) in
    (r.tree.depth, (deep, record { fewer = λ q there. sym (stays.ids q) ∙ there; only = λ q there. inl (ap (λ m. get m q) c.open_root.ensures.leaves.overlay) }))

pub returns-clause-shrank : goal.returns-clause-shrank
returns-clause-shrank g c r s h =
    let laws = tx_laws g.S.Blocks.meanings g.S.Blocks.holdings g.met.S.Blocks.lawful in
    let before = unforged_before laws c.args.tx.now c.open_root.new.tx c.append.new.tx c.append.ensures.outcome.loaded h in
    let p = c.in-Ok.ensures.outcome.value r.tree s before in
    absurd (omega (arith, c.if-n-len.false, c.if-n-len-2.false, p.1.1, r.fits))

pub returns-then-n-len-2-clause-shrank : goal.returns-then-n-len-2-clause-shrank
returns-then-n-len-2-clause-shrank g c r s h =
    let M = g.S.Blocks.meanings in
    let H0 = g.S.Blocks.holdings in
    let H = tx_holdings H0 in
    let laws = tx_laws M H0 g.met.S.Blocks.lawful in
    let a = c.args.tx.now in
    let b = c.open_root.new.tx in
    let d = c.cut_root.new.tx in
    let root = c.args.root.now.0 in
    let n = c.args.n in
    let stays = c.open_root.ensures.stays in
    let node = node_of c.in-Ok.found.0 in
    let own = c.in-Ok.found.1.depth in
    let depth = c.level_for-depth.result.depth in
    let keeps = keeps_below H0 b d c.cut_root.ensures.drops.below in
    let deep : IsDepth (H.payload d) depth n = subst (λ p. IsDepth p depth n) (c.payload.ensures ∙ sym keeps.payload) c.level_for-depth.ensures.deep in
    let before = unforged_before laws a b d c.cut_root.ensures.outcome.loaded h in
    let loaded = laws.forgeries_grow a b c.open_root.ensures.outcome.loaded in
    let p = c.in-Ok.ensures.outcome.value r.tree s before in
    let need : MayCutNode H b own root node n = record { below = below_on stays (below_root node own p.0 r.tree p.1.0 c.in-Ok.ensures.level.depth); apart = (alone_root r.tree).0; fits = omega (arith, r.fits) } in
    on_ok_if c.cut_root.result
    (λ y cut. (depth, (deep, record { fewer = λ q there. sym (stays.ids q) ∙ c.cut_root.ensures.drops.fewer q there; only = subst (λ o. OnlyBorder (H.content d) depth root o d.overlay) c.open_root.ensures.leaves.overlay cut.1 })))
    (c.cut_root.ensures.outcome.value need (c.open_root.ensures.outcome.sound s before) (omega (arith, h, loaded)))

pub returns-clause-outcome : goal.returns-clause-outcome
returns-clause-outcome g c =
    let H = tx_holdings g.S.Blocks.holdings in
    let laws = tx_laws g.S.Blocks.meanings g.S.Blocks.holdings g.met.S.Blocks.lawful in
    let b = c.open_root.new.tx in
    let e = c.append.new.tx in
    let stays = c.open_root.ensures.stays in
    let size = c.args.n in
    let long = c.in-Ok.found.2 in
    let tail = c.deref.result.now in
    let made : tail ≡ zeros (size - long) = c.deref.ensures.value ∙ c.in-Ok-after_zeros.ensures ∙ append-nil (zeros (size - long)) in
    let tail_len : length tail ≡ size - long = ap length made ∙ length-replicate (size - long) 0 in
    then_ laws c.in-Ok.ensures.outcome (λ n p. record { tree = root_at stays p.0 n; sum = omega (arith, p.1.1, tail_len, c.if-n-len-2.false) }) c.append.ensures.outcome
    (λ n p y r.
    let more : size - long ≡ size - length n.bytes = ap (λ k. size - k) p.1.1 in
    let is : n.bytes ++ tail ≡ resized n.bytes size = ap (λ xs. n.bytes ++ xs) (made ∙ ap zeros more) ∙ ap (λ xs. xs ++ zeros (size - length n.bytes)) (sym (take_all size n.bytes (omega (arith, p.1.1, c.if-n-len-2.false)))) in
    new_since stays p.0 (subst (λ v. IsNewRoot H b e c.args.root.now.0 n.ids v) is r))

pub returns-in-Err-clause-grown : goal.returns-in-Err-clause-grown
returns-in-Err-clause-grown g c r s h =
    let H = tx_holdings g.S.Blocks.holdings in
    let a = c.args.tx.now in
    let b = c.open_root.new.tx in
    grew_nothing {H = H} {a = a} {b = b} (H.payload a) r.tree.depth c.args.root.now.0 c.args.n (length r.tree.bytes) a.overlay b.overlay c.open_root.ensures.stays c.open_root.ensures.leaves.overlay

pub returns-in-Err-after_zeros-clause-grown : goal.returns-in-Err-after_zeros-clause-grown
returns-in-Err-after_zeros-clause-grown g c r s h =
    let H = tx_holdings g.S.Blocks.holdings in
    let a = c.args.tx.now in
    let b = c.open_root.new.tx in
    grew_nothing {H = H} {a = a} {b = b} (H.payload a) r.tree.depth c.args.root.now.0 c.args.n (length r.tree.bytes) a.overlay b.overlay c.open_root.ensures.stays c.open_root.ensures.leaves.overlay

pub returns-then-n-len-clause-grown : goal.returns-then-n-len-clause-grown
returns-then-n-len-clause-grown g c r s h =
    let H = tx_holdings g.S.Blocks.holdings in
    let a = c.args.tx.now in
    let b = c.open_root.new.tx in
    grew_nothing {H = H} {a = a} {b = b} (H.payload a) r.tree.depth c.args.root.now.0 c.args.n (length r.tree.bytes) a.overlay b.overlay c.open_root.ensures.stays c.open_root.ensures.leaves.overlay

pub returns-then-n-len-2-clause-grown : goal.returns-then-n-len-2-clause-grown
returns-then-n-len-2-clause-grown g c r s h =
    let laws = tx_laws g.S.Blocks.meanings g.S.Blocks.holdings g.met.S.Blocks.lawful in
    let before = unforged_before laws c.args.tx.now c.open_root.new.tx c.cut_root.new.tx c.cut_root.ensures.outcome.loaded h in
    let p = c.in-Ok.ensures.outcome.value r.tree s before in
    absurd (omega (arith, c.if-n-len-2.true, p.1.1, r.over))

pub returns-clause-grown : goal.returns-clause-grown
returns-clause-grown g c r s h =
    let H = tx_holdings g.S.Blocks.holdings in
    let laws = tx_laws g.S.Blocks.meanings g.S.Blocks.holdings g.met.S.Blocks.lawful in
    let a = c.args.tx.now in
    let b = c.open_root.new.tx in
    let e = c.append.new.tx in
    let root = c.args.root.now.0 in
    let len = length r.tree.bytes in
    let stays = c.open_root.ensures.stays in
    let before = unforged_before laws a b e c.append.ensures.outcome.loaded h in
    let loaded = laws.forgeries_grow a b c.open_root.ensures.outcome.loaded in
    let p = c.in-Ok.ensures.outcome.value r.tree s before in
    let only = c.append.ensures.only (root_at stays p.0 r.tree) (c.open_root.ensures.outcome.sound s before) (omega (arith, h, loaded)) in
    grew_since {H = H} {a = a} {b = b} {c = e} r.tree.depth root c.args.n len a.overlay b.overlay e.overlay stays p.0 c.open_root.ensures.leaves.overlay (record {
      stay = c.append.ensures.keeps.there;
      only = λ q there. elim (only q there) [ inl same ↦ inl same | inr on ↦ inr (inl on) ];
    })

pub returns-in-Err-clause-outcome : goal.returns-in-Err-clause-outcome
returns-in-Err-clause-outcome g c = passed c.in-Err.ensures.outcome

pub returns-in-Err-clause-shallow : goal.returns-in-Err-clause-shallow
returns-in-Err-clause-shallow g c s h = tt

pub returns-in-Err-clause-shrank : goal.returns-in-Err-clause-shrank
returns-in-Err-clause-shrank g c n s h = tt

pub returns-in-Err-after_zeros-clause-shallow : goal.returns-in-Err-after_zeros-clause-shallow
returns-in-Err-after_zeros-clause-shallow g c s h = tt

pub returns-in-Err-after_zeros-clause-shrank : goal.returns-in-Err-after_zeros-clause-shrank
returns-in-Err-after_zeros-clause-shrank g c n s h = tt

pub returns-in-Err-clause-fewer : goal.returns-in-Err-clause-fewer
returns-in-Err-clause-fewer g c n s h q there = sym (c.open_root.ensures.stays.ids q) ∙ there

pub returns-in-Err-clause-below : goal.returns-in-Err-clause-below
returns-in-Err-clause-below g c = c.open_root.ensures.leaves.below

pub returns-in-Err-after_zeros-clause-fewer : goal.returns-in-Err-after_zeros-clause-fewer
returns-in-Err-after_zeros-clause-fewer g c n s h q there = sym (c.open_root.ensures.stays.ids q) ∙ there

pub returns-in-Err-after_zeros-clause-below : goal.returns-in-Err-after_zeros-clause-below
returns-in-Err-after_zeros-clause-below g c = c.open_root.ensures.leaves.below

pub returns-then-n-len-clause-fewer : goal.returns-then-n-len-clause-fewer
returns-then-n-len-clause-fewer g c n s h q there = sym (c.open_root.ensures.stays.ids q) ∙ there

pub returns-then-n-len-clause-below : goal.returns-then-n-len-clause-below
returns-then-n-len-clause-below g c = c.open_root.ensures.leaves.below

pub returns-then-n-len-2-clause-below : goal.returns-then-n-len-2-clause-below
returns-then-n-len-2-clause-below g c = stays-then c.open_root.ensures.leaves.below c.cut_root.ensures.drops.below

pub returns-clause-below : goal.returns-clause-below
returns-clause-below g c = stays-then c.open_root.ensures.leaves.below c.append.ensures.keeps.below

pub cut_root-requires-clause-at : goal.cut_root-requires-clause-at
cut_root-requires-clause-at g c = subst (λ p. IsAtLevel p (node_of c.in-Ok.found.0) c.in-Ok.found.1) (sym c.open_root.ensures.stays.payload) c.in-Ok.ensures.level
