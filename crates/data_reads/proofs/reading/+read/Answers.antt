use Rattle.std.proofs.Common.{◌⊎◌, ◌++◌, sym, ◌∙◌, ap, inl, inr, arith, append-nil, drop, get_or, [], ◌≤◌, ◌+◌, List, refl, rules, subst}
use Rattle.block_id.specs.declared.id.BlockId.{BlockId}
use Rattle.data_tree.specs.store_outcome.Outcome.{idle, first_, then_, failed_, answered, passed}
use Rattle.data_tree.specs.data_nodes.Layout.{node_of, ids_of, inner, FitsPayload}
use Rattle.data_reads.specs.Reading.{between}
use Rattle.data_tree.specs.Trees.{span, depth_in}
use Rattle.data_tree.specs.store_api.Txs.{tx_holdings, tx_laws}
use Rattle.data_tree.proofs.Puts.{memory_first}
use Rattle.data_reads.proofs.Parts.{between-none}
use Rattle.data_tree.proofs.Forests.{below_on, below_of, children_of, stays-then, stays-same, leaf_is}
use Rattle.data_tree.proofs.Gathering.{next_child, no_child}
use Rattle.data_reads.proofs.Gathering.{tree_on, tree-length, first_tree, read_start, read_next, read_done}
use Rattle.data_reads.proofs.reading.+read.Goals as goal
use Rattle.data_reads.proofs.reading.+read.Goals.{read_below-then-part-via-then-part, read_below-then-part-via-else-part+then-level-part}

pub read_below-returns-then-part-clause-outcome : goal.read_below-returns-then-part-clause-outcome
read_below-returns-then-part-clause-outcome g t c =
    let laws = tx_laws g.S.Blocks.meanings g.S.Blocks.holdings g.met.S.Blocks.lawful in
    let outside : (c.args.part.to ≤ c.args.part.from) ⊎ (c.args.level.room ≤ c.args.part.from) =
    elim c.then-part.branch [ read_below-then-part-via-then-part w ↦ inl w.if-part.true | read_below-then-part-via-else-part+then-level-part w ↦ inr w.if-level-part.true ] in
    idle laws c.args.tx.now _ c.requires.intact (λ n. sym (ap (λ xs. c.args.out.now.items ++ xs) (between-none c.args.part.from c.args.part.to n.bytes
    (elim outside [ inl l ↦ inl l | inr l ↦ inr (omega (arith, tree-length n, c.requires.level)) ])) ∙ append-nil c.args.out.now.items))

pub read_below-returns-in-Ok-clause-outcome : goal.read_below-returns-in-Ok-clause-outcome
read_below-returns-in-Ok-clause-outcome g t c =
    let laws = tx_laws g.S.Blocks.meanings g.S.Blocks.holdings g.met.S.Blocks.lawful in
    then_ laws c.in-Ok.ensures.outcome (λ n p. below_on c.load_at.ensures.stays (below_of (node_of c.in-Ok.node) n p)) c.read_in.ensures.outcome (λ n p y h. h)

pub read_in-returns-in-Ok-clause-outcome : goal.read_in-returns-in-Ok-clause-outcome
read_in-returns-in-Ok-clause-outcome g t c =
    let H = tx_holdings g.S.Blocks.holdings in
    let laws = tx_laws g.S.Blocks.meanings g.S.Blocks.holdings g.met.S.Blocks.lawful in
    let a = c.args.tx.now in
    idle laws a _ c.requires.intact (λ n.
    let is = leaf_is (H.payload a) (H.content a) c.args.level.depth (node_of c.args.node.now) n.bytes c.in-Leaf.bytes.items n.ids n.holds (ap node_of (sym c.in-Leaf.is)) in
    c.in-Ok.ensures ∙ ap (λ w. c.args.out.now.items ++ between c.args.part.from c.args.part.to w) (c.deref.ensures.value ∙ is))

pub read_in-returns-in-Inner-clause-outcome : goal.read_in-returns-in-Inner-clause-outcome
read_in-returns-in-Inner-clause-outcome g t c =
    let children = ids_of c.deref-in-Inner.result.now in
    let is = ap (λ (xs : List BlockId). inner c.in-Inner.depth (ids_of xs)) c.deref-in-Inner.ensures.value ∙ ap node_of (sym c.in-Inner.is) in
    first_ (λ n. children_of (node_of c.args.node.now) c.in-Inner.depth c.below-below.result.depth children is c.below-below.ensures.depth n) c.read_children.ensures.outcome (λ n y h. h)

pub read_children-loop-child-init : goal.read_children-loop-child-init
read_children-loop-child-init g t c =
    let laws = tx_laws g.S.Blocks.meanings g.S.Blocks.holdings g.met.S.Blocks.lawful in
    record {
      outcome = idle laws c.args.tx.now _ c.requires.intact (λ n. read_start c.args.out.now.items c.args.part.from c.args.part.to n);
      stays = stays-same (tx_holdings g.S.Blocks.holdings) c.args.tx.now;
      below = stays-same g.S.Blocks.holdings c.args.tx.now.store;
      overlay = λ i. c.args.tx.now.overlay;
    }

pub read_children-returns-in-Err-clause-outcome : goal.read_children-returns-in-Err-clause-outcome
read_children-returns-in-Err-clause-outcome g t c =
    let laws = tx_laws g.S.Blocks.meanings g.S.Blocks.holdings g.met.S.Blocks.lawful in
    let inv = c.loop-child.invariant in
    let i = c.loop-child.child-index in
    let child : BlockId = get_or c.args.children.now i (record { 0 = [] }) in
    failed_ laws inv.outcome (λ n h. tree_on inv.stays (first_tree child.0 (drop (i + 1) (ids_of c.args.children.now)) n.told (next_child c.args.children.now i (record { 0 = [] }) c.loop-child-test.true) h))
    c.in-Err.ensures.outcome

pub read_children-loop-child-preserved : goal.read_children-loop-child-preserved
read_children-loop-child-preserved g t c =
    let laws = tx_laws g.S.Blocks.meanings g.S.Blocks.holdings g.met.S.Blocks.lawful in
    let inv = c.loop-child.invariant in
    let i = c.loop-child.child-index in
    let child : BlockId = get_or c.args.children.now i (record { 0 = [] }) in
    let rest = drop (i + 1) (ids_of c.args.children.now) in
    let here = next_child c.args.children.now i (record { 0 = [] }) c.loop-child-test.true in
    record {
      outcome = then_ laws inv.outcome (λ n h. tree_on inv.stays (first_tree child.0 rest n.told here h)) c.in-Ok.ensures.outcome
          (λ n h y k. read_next child.0 rest c.read_below.new.out.items c.args.level.room c.after-rest.result.from c.after-rest.result.to here h c.requires.level c.after-rest.ensures.from c.after-rest.ensures.to k);
      stays = stays-then inv.stays c.read_below.ensures.stays;
      below = stays-then inv.below c.read_below.ensures.below;
      overlay = c.read_below.ensures.overlay ∙ inv.overlay;
    }

pub read_children-returns-clause-outcome : goal.read_children-returns-clause-outcome
read_children-returns-clause-outcome g t c =
    answered c.loop-child.invariant.outcome (λ n h. read_done (no_child c.args.children.now c.loop-child.child-index c.loop-child-test.false) h)

pub read_below-returns-then-part-clause-stays : goal.read_below-returns-then-part-clause-stays
read_below-returns-then-part-clause-stays g t c = stays-same (tx_holdings g.S.Blocks.holdings) c.args.tx.now

pub read_below-returns-then-part-clause-below : goal.read_below-returns-then-part-clause-below
read_below-returns-then-part-clause-below g t c = stays-same g.S.Blocks.holdings c.args.tx.now.store

pub read_in-returns-in-Ok-clause-stays : goal.read_in-returns-in-Ok-clause-stays
read_in-returns-in-Ok-clause-stays g t c = stays-same (tx_holdings g.S.Blocks.holdings) c.args.tx.now

pub read_in-returns-in-Ok-clause-below : goal.read_in-returns-in-Ok-clause-below
read_in-returns-in-Ok-clause-below g t c = stays-same g.S.Blocks.holdings c.args.tx.now.store

pub read_in-returns-in-Err-clause-stays : goal.read_in-returns-in-Err-clause-stays
read_in-returns-in-Err-clause-stays g t c = stays-same (tx_holdings g.S.Blocks.holdings) c.args.tx.now

pub read_in-returns-in-Err-clause-below : goal.read_in-returns-in-Err-clause-below
read_in-returns-in-Err-clause-below g t c = stays-same g.S.Blocks.holdings c.args.tx.now.store

pub read_below-returns-in-Ok-clause-stays : goal.read_below-returns-in-Ok-clause-stays
read_below-returns-in-Ok-clause-stays g t c = stays-then c.load_at.ensures.stays c.read_in.ensures.stays

pub read_below-returns-in-Ok-clause-below : goal.read_below-returns-in-Ok-clause-below
read_below-returns-in-Ok-clause-below g t c = stays-then c.load_at.ensures.leaves.below c.read_in.ensures.below

pub read_children-returns-in-Err-clause-stays : goal.read_children-returns-in-Err-clause-stays
read_children-returns-in-Err-clause-stays g t c = stays-then c.loop-child.invariant.stays c.read_below.ensures.stays

pub read_children-returns-in-Err-clause-below : goal.read_children-returns-in-Err-clause-below
read_children-returns-in-Err-clause-below g t c = stays-then c.loop-child.invariant.below c.read_below.ensures.below

pub read_below-returns-in-Err-clause-outcome : goal.read_below-returns-in-Err-clause-outcome
read_below-returns-in-Err-clause-outcome g t c = passed c.in-Err.ensures.outcome

pub read_in-returns-in-Err-clause-outcome : goal.read_in-returns-in-Err-clause-outcome
read_in-returns-in-Err-clause-outcome g t c = memory_first g.S.Blocks.meanings g.S.Blocks.holdings g.met.S.Blocks.lawful c.args.tx.now c.args.tx.now c.requires.intact refl refl c.requires.intact

pub read_below-read_in-requires : goal.read_below-read_in-requires
read_below-read_in-requires g t c κs within =
    let same = sym c.load_at.ensures.stays.payload in
    let level = c.requires.level ∙ ap (λ p. span p c.args.level.depth) same in
    let fits = subst (λ p. FitsPayload p (node_of c.in-Ok.node)) same c.in-Ok.ensures.fits in
    (search rules, (within, (c.in-Ok.ensures.outcome.intact, (level, (fits, c.in-Ok.ensures.depth)))))

pub read_in-read_children-requires : goal.read_in-read_children-requires
read_in-read_children-requires g t c κs within =
    let level = c.below-below.ensures.room ∙ ap (λ p. span p c.below-below.result.depth) c.payload.ensures in
    (search rules, (within, (c.requires.intact, level)))

pub read_in-below-below-requires-clause-deep : goal.read_in-below-below-requires-clause-deep
read_in-below-below-requires-clause-deep g t c =
    let fits = subst (FitsPayload ((tx_holdings g.S.Blocks.holdings).payload c.args.tx.now)) (ap node_of c.in-Inner.is) c.requires.fits in
    omega (arith, fits.0, ap (λ x. depth_in (node_of x)) c.in-Inner.is, c.requires.depth)

pub read_in-below-below-requires-clause-payload : goal.read_in-below-below-requires-clause-payload
read_in-below-below-requires-clause-payload g t c = omega (arith, g.met.S.Blocks.steady.at_least c.args.tx.now.store c.requires.intact.0, c.payload.ensures)

pub read_in-below-below-requires-clause-room : goal.read_in-below-below-requires-clause-room
read_in-below-below-requires-clause-room g t c = c.requires.level ∙ ap (λ p. span p c.args.level.depth) (sym c.payload.ensures)

pub read_children-read_below-requires : goal.read_children-read_below-requires
read_children-read_below-requires g t c κs within =
    let inv = c.loop-child.invariant in
    let level = c.requires.level ∙ ap (λ p. span p c.args.level.depth) (sym inv.stays.payload) in
    (search rules, (within, (inv.outcome.intact, level)))

pub read_below-returns-in-Err-clause-stays : goal.read_below-returns-in-Err-clause-stays
read_below-returns-in-Err-clause-stays g t c = c.load_at.ensures.stays

pub read_below-returns-in-Err-clause-below : goal.read_below-returns-in-Err-clause-below
read_below-returns-in-Err-clause-below g t c = c.load_at.ensures.leaves.below

pub read_in-returns-in-Inner-clause-stays : goal.read_in-returns-in-Inner-clause-stays
read_in-returns-in-Inner-clause-stays g t c = c.read_children.ensures.stays

pub read_in-returns-in-Inner-clause-below : goal.read_in-returns-in-Inner-clause-below
read_in-returns-in-Inner-clause-below g t c = c.read_children.ensures.below

pub read_children-returns-clause-stays : goal.read_children-returns-clause-stays
read_children-returns-clause-stays g t c = c.loop-child.invariant.stays

pub read_children-returns-clause-below : goal.read_children-returns-clause-below
read_children-returns-clause-below g t c = c.loop-child.invariant.below

pub read_below-returns-in-Ok-clause-overlay : goal.read_below-returns-in-Ok-clause-overlay
read_below-returns-in-Ok-clause-overlay g t c = c.read_in.ensures.overlay ∙ c.load_at.ensures.leaves.overlay

pub read_below-returns-in-Err-clause-overlay : goal.read_below-returns-in-Err-clause-overlay
read_below-returns-in-Err-clause-overlay g t c = c.load_at.ensures.leaves.overlay
