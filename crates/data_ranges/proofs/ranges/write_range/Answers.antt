use Rattle.std.proofs.Common.{◌≡◌, ◌≤◌, ◌+◌, true, refl, sym, ◌∙◌, ap, inl, subst, length, arith}
use Rattle.std.specs.FinMap as fin
use Rattle.std.specs.Prelude.{is_some}
use Rattle.block_id.specs.Contents.{pieces}
use Rattle.data_reads.specs.store_outcome.Outcome.{idle, then_, passed}
use Rattle.data_reads.specs.data_nodes.Layout.{node_of, room}
use Rattle.data_reads.specs.data_tree.Roots.{IsAtLevel}
use Rattle.data_reads.specs.store_api.Content.{Id}
use Rattle.data_reads.specs.store_api.Txs.{tx_holdings, tx_laws, tx_steady}
use Rattle.data_reads.proofs.data_tree_lemmas.Counting.{is_zero, not_zero}
use Rattle.data_reads.proofs.data_tree_lemmas.Forests.{root_at, stays-same, stays-then}
use Rattle.data_reads.proofs.data_tree_lemmas.Puts.{keeps_below, on_any, unforged_before}
use Rattle.data_ranges.specs.Border.{Grew}
use Rattle.data_writes.specs.Leaves.{OnlyLeaves}
use Rattle.data_writes.specs.Writing.{MayWriteNode}
use Rattle.data_ranges.proofs.Borders.{grew_nothing, grew_since}
use Rattle.data_writes.proofs.Costs.{cost_few}
use Rattle.data_ranges.proofs.Inside.{root_depth, root_tree, new_since, root_kept, wrote_root, enough, ids_same}
use Rattle.data_writes.proofs.Leaves.{only_since}
use Rattle.data_writes.proofs.Overwriting.{tree_at}
use Rattle.data_ranges.proofs.ranges.write_range.Goals as goal

pub returns-then-from-bytes-clause-outcome : goal.returns-then-from-bytes-clause-outcome
returns-then-from-bytes-clause-outcome g c =
    let H = tx_holdings g.S.Blocks.holdings in
    let laws = tx_laws g.S.Blocks.meanings g.S.Blocks.holdings g.met.S.Blocks.lawful in
    let a = c.args.tx.now in
    let b = c.open_root.new.tx in
    let node = node_of c.in-Ok.found.0 in
    let depth = c.in-Ok.found.1.depth in
    let stays = c.open_root.ensures.stays in
    then_ laws c.in-Ok.ensures.outcome
    (λ n p. record { tree = tree_at stays (root_tree depth p.0 n (root_depth node depth n p.1.0 c.in-Ok.ensures.level.depth)); is = p.1.0; inside = λ some. omega (arith, c.if-from-bytes.true, p.1.1) }) c.write_in.ensures.outcome
    (λ n p y w. wrote_root depth c.args.from c.args.bytes.now stays p.0 n (root_depth node depth n p.1.0 c.in-Ok.ensures.level.depth) (not_zero (length c.args.bytes.now) c.if-is_empty.ensures) (omega (arith, c.if-from-bytes.true, p.1.1))
    (keeps_below g.S.Blocks.holdings b c.write_in.new.tx c.write_in.ensures.keeps.below) w)

pub returns-then-from-bytes-clause-shallow : goal.returns-then-from-bytes-clause-shallow
returns-then-from-bytes-clause-shallow g c s h some =
    let laws = tx_laws g.S.Blocks.meanings g.S.Blocks.holdings g.met.S.Blocks.lawful in
    on_any c.write_in.result (c.in-Ok.ensures.shallow s (unforged_before laws c.args.tx.now c.open_root.new.tx c.write_in.new.tx c.write_in.ensures.outcome.loaded h))

pub returns-clause-outcome : goal.returns-clause-outcome
returns-clause-outcome g c =
    let laws = tx_laws g.S.Blocks.meanings g.S.Blocks.holdings g.met.S.Blocks.lawful in
    let stays = c.open_root.ensures.stays in
    let node = node_of c.in-Ok.found.0 in
    let depth = c.in-Ok.found.1.depth in
    then_ laws c.in-Ok.ensures.outcome (λ n p. record { tree = root_at stays p.0 n; told = stays.told ∙ p.0; same = root_depth node depth n p.1.0 c.in-Ok.ensures.level.depth; long = p.1.1 }) c.write_over.ensures.outcome (λ n p y r. new_since stays p.0 r)

pub returns-clause-shallow : goal.returns-clause-shallow
returns-clause-shallow g c s h some =
    let laws = tx_laws g.S.Blocks.meanings g.S.Blocks.holdings g.met.S.Blocks.lawful in
    on_any c.write_over.result (c.in-Ok.ensures.shallow s (unforged_before laws c.args.tx.now c.open_root.new.tx c.write_over.new.tx c.write_over.ensures.outcome.loaded h))

pub returns-then-is_empty-clause-grown : goal.returns-then-is_empty-clause-grown
returns-then-is_empty-clause-grown g c n s h =
    let H = tx_holdings g.S.Blocks.holdings in
    let a = c.args.tx.now in
    grew_nothing {H = H} {a = a} {b = a} (H.payload a) n.tree.depth c.args.root.now.0 c.args.from (length n.tree.bytes) a.overlay a.overlay (stays-same H a) refl

pub returns-in-Err-clause-grown : goal.returns-in-Err-clause-grown
returns-in-Err-clause-grown g c n s h =
    let H = tx_holdings g.S.Blocks.holdings in
    let a = c.args.tx.now in
    let b = c.open_root.new.tx in
    grew_nothing {H = H} {a = a} {b = b} (H.payload a) n.tree.depth c.args.root.now.0 c.args.from (length n.tree.bytes) a.overlay b.overlay c.open_root.ensures.stays c.open_root.ensures.leaves.overlay

pub returns-then-from-bytes-clause-grown : goal.returns-then-from-bytes-clause-grown
returns-then-from-bytes-clause-grown g c n s h =
    let laws = tx_laws g.S.Blocks.meanings g.S.Blocks.holdings g.met.S.Blocks.lawful in
    let before = unforged_before laws c.args.tx.now c.open_root.new.tx c.write_in.new.tx c.write_in.ensures.outcome.loaded h in
    let p = c.in-Ok.ensures.outcome.value n.tree s before in
    absurd (omega (arith, c.if-from-bytes.true, p.1.1, n.over))

pub returns-clause-grown : goal.returns-clause-grown
returns-clause-grown g c n s h =
    let H = tx_holdings g.S.Blocks.holdings in
    let laws = tx_laws g.S.Blocks.meanings g.S.Blocks.holdings g.met.S.Blocks.lawful in
    let a = c.args.tx.now in
    let b = c.open_root.new.tx in
    let e = c.write_over.new.tx in
    let stays = c.open_root.ensures.stays in
    let before = unforged_before laws a b e c.write_over.ensures.outcome.loaded h in
    let loaded = laws.forgeries_grow a b c.open_root.ensures.outcome.loaded in
    let p = c.in-Ok.ensures.outcome.value n.tree s before in
    let same = root_depth (node_of c.in-Ok.found.0) c.in-Ok.found.1.depth n.tree p.1.0 c.in-Ok.ensures.level.depth in
    let grew = c.write_over.ensures.grown (record { tree = root_at stays p.0 n.tree; told = stays.told ∙ p.0; same = same; long = p.1.1 }) (c.open_root.ensures.outcome.sound s before) (omega (arith, h, loaded)) in
    grew_since {H = H} {a = a} {b = b} {c = e} n.tree.depth c.args.root.now.0 c.args.from (length n.tree.bytes) a.overlay b.overlay e.overlay stays p.0 c.open_root.ensures.leaves.overlay (subst (λ k. Grew (H.payload b) (H.content b) (H.content e) n.tree.depth c.args.root.now.0 c.args.from k b.overlay e.overlay) p.1.1 grew)

pub returns-then-is_empty-clause-outcome : goal.returns-then-is_empty-clause-outcome
returns-then-is_empty-clause-outcome g c =
    let laws = tx_laws g.S.Blocks.meanings g.S.Blocks.holdings g.met.S.Blocks.lawful in
    idle laws c.args.tx.now _ c.requires.intact (λ n. root_kept n c.args.from c.args.bytes.now (is_zero (length c.args.bytes.now) c.if-is_empty.ensures))

pub returns-in-Err-clause-outcome : goal.returns-in-Err-clause-outcome
returns-in-Err-clause-outcome g c = passed c.in-Err.ensures.outcome

pub returns-then-is_empty-clause-shallow : goal.returns-then-is_empty-clause-shallow
returns-then-is_empty-clause-shallow g c s h some = absurd (omega (arith, some, is_zero (length c.args.bytes.now) c.if-is_empty.ensures))

pub returns-in-Err-clause-shallow : goal.returns-in-Err-clause-shallow
returns-in-Err-clause-shallow g c s h some = tt

pub returns-then-is_empty-clause-empty : goal.returns-then-is_empty-clause-empty
returns-then-is_empty-clause-empty g c e = refl

pub returns-in-Err-clause-empty : goal.returns-in-Err-clause-empty
returns-in-Err-clause-empty g c e = absurd (omega (arith, e, not_zero (length c.args.bytes.now) c.if-is_empty.ensures))

pub returns-then-from-bytes-clause-empty : goal.returns-then-from-bytes-clause-empty
returns-then-from-bytes-clause-empty g c e = absurd (omega (arith, e, not_zero (length c.args.bytes.now) c.if-is_empty.ensures))

pub returns-clause-empty : goal.returns-clause-empty
returns-clause-empty g c e = absurd (omega (arith, e, not_zero (length c.args.bytes.now) c.if-is_empty.ensures))

pub returns-then-is_empty-clause-below : goal.returns-then-is_empty-clause-below
returns-then-is_empty-clause-below g c = stays-same g.S.Blocks.holdings c.args.tx.now.store

pub returns-in-Err-clause-below : goal.returns-in-Err-clause-below
returns-in-Err-clause-below g c = c.open_root.ensures.leaves.below

pub returns-then-from-bytes-clause-below : goal.returns-then-from-bytes-clause-below
returns-then-from-bytes-clause-below g c = stays-then c.open_root.ensures.leaves.below c.write_in.ensures.keeps.below

pub returns-clause-below : goal.returns-clause-below
returns-clause-below g c = stays-then c.open_root.ensures.leaves.below c.write_over.ensures.below

pub write_in-requires-clause-at : goal.write_in-requires-clause-at
write_in-requires-clause-at g c = subst (λ p. IsAtLevel p (node_of c.in-Ok.found.0) c.in-Ok.found.1) (sym c.open_root.ensures.stays.payload) c.in-Ok.ensures.level

pub write_in-requires-clause-there : goal.write_in-requires-clause-there
write_in-requires-clause-there g c = c.open_root.ensures.stays.ids c.args.root.now.0 ∙ c.in-Ok.ensures.there

pub write_over-requires-clause-over : goal.write_over-requires-clause-over
write_over-requires-clause-over g c = omega (arith, c.if-from-bytes.false)

pub returns-then-is_empty-clause-inside : goal.returns-then-is_empty-clause-inside
returns-then-is_empty-clause-inside g c n s h = absurd (omega (arith, n.some, is_zero (length c.args.bytes.now) c.if-is_empty.ensures))

pub returns-clause-inside : goal.returns-clause-inside
returns-clause-inside g c n s h =
    let laws = tx_laws g.S.Blocks.meanings g.S.Blocks.holdings g.met.S.Blocks.lawful in
    let before = unforged_before laws c.args.tx.now c.open_root.new.tx c.write_over.new.tx c.write_over.ensures.outcome.loaded h in
    let p = c.in-Ok.ensures.outcome.value n.tree s before in
    absurd (omega (arith, c.if-from-bytes.false, p.1.1, n.fits))

pub returns-in-Err-clause-inside : goal.returns-in-Err-clause-inside
returns-in-Err-clause-inside g c n s h =
    let same = c.open_root.ensures.leaves.overlay in
    record {
      only = λ q. inl (ap (λ m. fin.get m q) same);
      few = omega (arith, ap fin.len same);
      ids = λ q. c.open_root.ensures.stays.ids q;
    }

pub returns-then-from-bytes-clause-inside : goal.returns-then-from-bytes-clause-inside
returns-then-from-bytes-clause-inside g c n s h =
    let H = tx_holdings g.S.Blocks.holdings in
    let laws = tx_laws g.S.Blocks.meanings g.S.Blocks.holdings g.met.S.Blocks.lawful in
    let a = c.args.tx.now in
    let b = c.open_root.new.tx in
    let d = c.write_in.new.tx in
    let node = node_of c.in-Ok.found.0 in
    let depth = c.in-Ok.found.1.depth in
    let stays = c.open_root.ensures.stays in
    let before = unforged_before laws a b d c.write_in.ensures.outcome.loaded h in
    let grown = laws.forgeries_grow a b c.open_root.ensures.outcome.loaded in
    let p = c.in-Ok.ensures.outcome.value n.tree s before in
    let same = root_depth node depth n.tree p.1.0 c.in-Ok.ensures.level.depth in
    let need : MayWriteNode H b depth c.args.root.now.0 node c.args.from (length c.args.bytes.now) = record { tree = tree_at stays (root_tree depth p.0 n.tree same); is = p.1.0; inside = λ some. n.fits } in
    let only = c.write_in.ensures.only need (c.open_root.ensures.outcome.sound s before) (omega (arith, h, grown)) in
    let wrote : OnlyLeaves (H.payload a) (H.content a) n.tree.depth c.args.root.now.0 c.args.from (length c.args.bytes.now) a.overlay d.overlay =
    subst (λ k. OnlyLeaves (H.payload a) (H.content a) k c.args.root.now.0 c.args.from (length c.args.bytes.now) a.overlay d.overlay) (sym same)
    (only_since stays p.0 depth c.args.root.now.0 c.args.from (length c.args.bytes.now) b.overlay a.overlay d.overlay c.open_root.ensures.leaves.overlay only) in
    let k = length c.args.bytes.now in
    let steady = tx_steady g.S.Blocks.meanings g.S.Blocks.holdings g.met.S.Blocks.steady in
    let least = steady.at_least b c.open_root.ensures.outcome.intact in
    let few = cost_few c.write_in.ensures.cost (pieces k (room (H.payload b))) (enough k (room (H.payload b)) (omega (arith, least))) in
    let below = stays-then c.open_root.ensures.leaves.below c.write_in.ensures.keeps.below in
    let there = λ (q : Id) (h : is_some (H.content a q) ≡ true). c.write_in.ensures.keeps.there q (c.open_root.ensures.stays.ids q ∙ h) in
    record {
      only = wrote;
      few = subst (λ o. fin.len d.overlay ≤ fin.len o + (pieces k (room (H.payload a)) + 1)) c.open_root.ensures.leaves.overlay
          (subst (λ p. fin.len d.overlay ≤ fin.len b.overlay + (pieces k (room p) + 1)) c.open_root.ensures.stays.payload few);
      ids = ids_same g.S.Blocks.holdings a d c.args.root.now.0 c.args.from k (steady.at_least a c.requires.intact) n.tree n.fits below there wrote;
    }
