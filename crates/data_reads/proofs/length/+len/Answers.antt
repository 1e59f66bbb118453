use Rattle.std.proofs.Common.{◌≡◌, sym, ◌∙◌, ap, subst, drop, [], ◌∷◌, length, ◌+◌, ◌-◌, ◌<◌, arith, rules}
use Rattle.std.proofs.lemmas.List.{length-map}
use Rattle.block_id.specs.declared.id.BlockId.{BlockId}
use Rattle.data_tree.specs.store_outcome.Outcome.{idle, first_, then_, answered, passed}
use Rattle.data_tree.specs.data_nodes.Layout.{node_of, ids_of, fan_out, FitsPayload}
use Rattle.data_tree.specs.Trees.{span, depth_in}
use Rattle.data_tree.specs.Needs.{HasBelow}
use Rattle.data_tree.specs.store_api.Txs.{tx_holdings, tx_laws}
use Rattle.data_tree.proofs.Forests.{below_on, below_of, children_of, leaf_is, stays-then, stays-same}
use Rattle.data_reads.proofs.Lasts.{last_fits, last_of, last-length, sum_is}
use Rattle.data_tree.proofs.Gathering.{last_child}
use Rattle.data_tree.proofs.Leaving.{leaves_same, leaves_then}
use Rattle.data_reads.proofs.length.+len.Goals as goal

pub len_below-returns-in-Ok-clause-outcome : goal.len_below-returns-in-Ok-clause-outcome
len_below-returns-in-Ok-clause-outcome g t c =
    let laws = tx_laws g.S.Blocks.meanings g.S.Blocks.holdings g.met.S.Blocks.lawful in
    then_ laws c.in-Ok.ensures.outcome (λ n p. below_on c.load_at.ensures.stays (below_of (node_of c.in-Ok.node) n p)) c.len_in.ensures.outcome (λ n p y h. h)

pub len_in-returns-in-Leaf-clause-outcome : goal.len_in-returns-in-Leaf-clause-outcome
len_in-returns-in-Leaf-clause-outcome g t c =
    let H = tx_holdings g.S.Blocks.holdings in
    let laws = tx_laws g.S.Blocks.meanings g.S.Blocks.holdings g.met.S.Blocks.lawful in
    let a = c.args.tx.now in
    idle laws a _ c.requires.intact (λ n.
    let is = leaf_is (H.payload a) (H.content a) c.args.level.depth (node_of c.args.node.now) n.bytes c.in-Leaf.bytes.items n.ids n.holds (ap node_of (sym c.in-Leaf.is)) in
    c.len.ensures ∙ c.in-Leaf.bytes.ok.0 ∙ ap length is)

pub len_in-returns-in-Ok-clause-outcome : goal.len_in-returns-in-Ok-clause-outcome
len_in-returns-in-Ok-clause-outcome g t c =
    let H = tx_holdings g.S.Blocks.holdings in
    let a = c.args.tx.now in
    let low = c.below-below.result.depth in
    let children = ids_of c.in-Inner.children.items in
    let i = c.len-before.result - 1 in
    let is = ap node_of (sym c.in-Inner.is) in
    let fits = subst (FitsPayload ((tx_holdings g.S.Blocks.holdings).payload c.args.tx.now)) (sym is) c.requires.at.fits in
    let whole : i + 1 ≡ length c.in-Inner.children.items = omega (arith, c.len-before.ensures, c.in-Inner.children.ok.0, fits.1, length-map c.in-Inner.children.items (λ (x : BlockId). x.0)) in
    let some : i < length children = omega (arith, whole, length-map c.in-Inner.children.items (λ (x : BlockId). x.0)) in
    let last : drop i children ≡ c.index.result.now.0 ∷ [] = last_child c.in-Inner.children.items i c.index.result.now whole ∙ ap (λ (x : BlockId). x.0 ∷ []) (sym c.index.ensures) in
    let deep = c.below-below.ensures.depth in
    let one = first_ {N = HasBelow H a c.args.level.depth (node_of c.args.node.now)} {R = λ n y. y ≡ length (last_of {H = H} {a = a} {depth = low} children i c.index.result.now.0 some last (children_of (node_of c.args.node.now) c.in-Inner.depth low children is deep n)).bytes}
    (λ n. last_of children i c.index.result.now.0 some last (children_of (node_of c.args.node.now) c.in-Inner.depth low children is deep n)) c.in-Ok.ensures.outcome (λ n y h. h) in
    answered one (λ n p. let e = last-length {H = H} {a = a} {depth = low} children i c.index.result.now.0 some last (children_of (node_of c.args.node.now) c.in-Inner.depth low children is deep n) in sym (e ∙ sum_is i (span (H.payload a) low) c.below-below.result.room _ c.in-Ok.len (sym (c.below-below.ensures.room ∙ ap (λ p. span p low) c.payload.ensures)) (sym p)))

pub len_in-returns-in-Err-clause-outcome : goal.len_in-returns-in-Err-clause-outcome
len_in-returns-in-Err-clause-outcome g t c =
    let children = ids_of c.in-Inner.children.items in
    let i = c.len-before.result - 1 in
    let is = ap node_of (sym c.in-Inner.is) in
    let fits = subst (FitsPayload ((tx_holdings g.S.Blocks.holdings).payload c.args.tx.now)) (sym is) c.requires.at.fits in
    let whole : i + 1 ≡ length c.in-Inner.children.items = omega (arith, c.len-before.ensures, c.in-Inner.children.ok.0, fits.1, length-map c.in-Inner.children.items (λ (x : BlockId). x.0)) in
    let some : i < length children = omega (arith, whole, length-map c.in-Inner.children.items (λ (x : BlockId). x.0)) in
    let last : drop i children ≡ c.index.result.now.0 ∷ [] = last_child c.in-Inner.children.items i c.index.result.now whole ∙ ap (λ (x : BlockId). x.0 ∷ []) (sym c.index.ensures) in
    passed (first_ {R = λ n y. Unit {0}} (λ n. last_of children i c.index.result.now.0 some last (children_of (node_of c.args.node.now) c.in-Inner.depth c.below-below.result.depth children is c.below-below.ensures.depth n)) c.in-Err.ensures.outcome (λ n y h. tt))

pub len_in-overflow_mul-result : goal.len_in-overflow_mul-result
len_in-overflow_mul-result g t c =
    let i = c.len-before.result - 1 in
    let fits = subst (FitsPayload ((tx_holdings g.S.Blocks.holdings).payload c.args.tx.now)) (ap node_of c.in-Inner.is) c.requires.at.fits in
    let few : i < fan_out c.payload.result = omega (arith, c.len-before.ensures, c.in-Inner.children.ok.0, fits.1, fits.2, length-map c.in-Inner.children.items (λ (x : BlockId). x.0), c.payload.ensures) in
    let all = last_fits i (fan_out c.payload.result) c.below-below.result.room 0 c.args.level.room few c.below-below.ensures.all (omega arith) in
    omega (arith, all, c.requires.small)

pub len_in-overflow_add-result : goal.len_in-overflow_add-result
len_in-overflow_add-result g t c =
    let i = c.len-before.result - 1 in
    let fits = subst (FitsPayload ((tx_holdings g.S.Blocks.holdings).payload c.args.tx.now)) (ap node_of c.in-Inner.is) c.requires.at.fits in
    let few : i < fan_out c.payload.result = omega (arith, c.len-before.ensures, c.in-Inner.children.ok.0, fits.1, fits.2, length-map c.in-Inner.children.items (λ (x : BlockId). x.0), c.payload.ensures) in
    let all = last_fits i (fan_out c.payload.result) c.below-below.result.room c.in-Ok.len c.args.level.room few c.below-below.ensures.all c.in-Ok.ensures.most in
    omega (arith, all, c.requires.small)

pub len_in-returns-in-Ok-clause-most : goal.len_in-returns-in-Ok-clause-most
len_in-returns-in-Ok-clause-most g t c =
    let i = c.len-before.result - 1 in
    let fits = subst (FitsPayload ((tx_holdings g.S.Blocks.holdings).payload c.args.tx.now)) (ap node_of c.in-Inner.is) c.requires.at.fits in
    let few : i < fan_out c.payload.result = omega (arith, c.len-before.ensures, c.in-Inner.children.ok.0, fits.1, fits.2, length-map c.in-Inner.children.items (λ (x : BlockId). x.0), c.payload.ensures) in
    let all = last_fits i (fan_out c.payload.result) c.below-below.result.room c.in-Ok.len c.args.level.room few c.below-below.ensures.all c.in-Ok.ensures.most in
    all

pub len_below-returns-in-Err-clause-outcome : goal.len_below-returns-in-Err-clause-outcome
len_below-returns-in-Err-clause-outcome g t c = passed c.in-Err.ensures.outcome

pub len_below-len_in-requires : goal.len_below-len_in-requires
len_below-len_in-requires g t c κs within =
    let same = sym c.load_at.ensures.stays.payload in
    let level = c.requires.level ∙ ap (λ p. span p c.args.level.depth) same in
    let fits = subst (λ p. FitsPayload p (node_of c.in-Ok.node)) same c.in-Ok.ensures.fits in
    (search rules, (within, (c.in-Ok.ensures.outcome.intact, (c.requires.small, record { fits = fits; depth = c.in-Ok.ensures.depth; room = level }))))

pub len_in-len_below-requires : goal.len_in-len_below-requires
len_in-len_below-requires g t c κs within =
    let level = c.below-below.ensures.room ∙ ap (λ p. span p c.below-below.result.depth) c.payload.ensures in
    let fits = subst (FitsPayload ((tx_holdings g.S.Blocks.holdings).payload c.args.tx.now)) (ap node_of c.in-Inner.is) c.requires.at.fits in
    let some : 0 < fan_out c.payload.result = omega (arith, fits.1, fits.2, c.payload.ensures) in
    let all = last_fits 0 (fan_out c.payload.result) c.below-below.result.room c.below-below.result.room c.args.level.room some c.below-below.ensures.all (omega arith) in
    (search rules, (within, (c.requires.intact, (level, omega (arith, all, c.requires.small)))))

pub len_in-below-below-requires-clause-deep : goal.len_in-below-below-requires-clause-deep
len_in-below-below-requires-clause-deep g t c =
    let fits = subst (FitsPayload ((tx_holdings g.S.Blocks.holdings).payload c.args.tx.now)) (ap node_of c.in-Inner.is) c.requires.at.fits in
    omega (arith, fits.0, ap (λ x. depth_in (node_of x)) c.in-Inner.is, c.requires.at.depth)

pub len_in-below-below-requires-clause-payload : goal.len_in-below-below-requires-clause-payload
len_in-below-below-requires-clause-payload g t c = omega (arith, g.met.S.Blocks.steady.at_least c.args.tx.now.store c.requires.intact.0, c.payload.ensures)

pub len_in-below-below-requires-clause-room : goal.len_in-below-below-requires-clause-room
len_in-below-below-requires-clause-room g t c = c.requires.at.room ∙ ap (λ p. span p c.args.level.depth) (sym c.payload.ensures)

pub len_below-returns-in-Ok-clause-stays : goal.len_below-returns-in-Ok-clause-stays
len_below-returns-in-Ok-clause-stays g t c = stays-then c.load_at.ensures.stays c.len_in.ensures.stays

pub len_below-returns-in-Ok-clause-leaves : goal.len_below-returns-in-Ok-clause-leaves
len_below-returns-in-Ok-clause-leaves g t c = leaves_then c.load_at.ensures.leaves c.len_in.ensures.leaves

pub len_below-returns-in-Err-clause-stays : goal.len_below-returns-in-Err-clause-stays
len_below-returns-in-Err-clause-stays g t c = c.load_at.ensures.stays

pub len_below-returns-in-Err-clause-leaves : goal.len_below-returns-in-Err-clause-leaves
len_below-returns-in-Err-clause-leaves g t c = c.load_at.ensures.leaves

pub len_in-returns-in-Leaf-clause-stays : goal.len_in-returns-in-Leaf-clause-stays
len_in-returns-in-Leaf-clause-stays g t c = stays-same (tx_holdings g.S.Blocks.holdings) c.args.tx.now

pub len_in-returns-in-Leaf-clause-leaves : goal.len_in-returns-in-Leaf-clause-leaves
len_in-returns-in-Leaf-clause-leaves g t c = leaves_same g.S.Blocks.holdings c.args.tx.now

pub len_in-returns-in-Ok-clause-stays : goal.len_in-returns-in-Ok-clause-stays
len_in-returns-in-Ok-clause-stays g t c = c.len_below.ensures.stays

pub len_in-returns-in-Ok-clause-leaves : goal.len_in-returns-in-Ok-clause-leaves
len_in-returns-in-Ok-clause-leaves g t c = c.len_below.ensures.leaves

pub len_in-returns-in-Err-clause-stays : goal.len_in-returns-in-Err-clause-stays
len_in-returns-in-Err-clause-stays g t c = c.len_below.ensures.stays

pub len_in-returns-in-Err-clause-leaves : goal.len_in-returns-in-Err-clause-leaves
len_in-returns-in-Err-clause-leaves g t c = c.len_below.ensures.leaves
