use Rattle.std.proofs.Common.{◌≡◌, ◌≤◌, ◌+◌, ◌*◌, suc, List, [], ◌++◌, length, sym, ◌∙◌, ap, subst, refl, arith}
use Rattle.std.proofs.lemmas.List.{length-map}
use Rattle.std.proofs.Math.Nat.{mul-le-mul_right}
use Rattle.block_id.specs.declared.id.BlockId.{BlockId}
use Rattle.data_tree.specs.data_nodes.Layout.{node_of, ids_of, leaf, inner, FitsPayload, fan_out}
use Rattle.data_tree.specs.Trees.{IsTree, Forest, NoDoubles, span, depth_in}
use Rattle.data_tree.specs.Stored.{BlobTree}
use Rattle.check_walk.specs.Fronts.{joined_front}
use Rattle.check_walk.specs.Needs.{top, IsTop}
use Rattle.check_walk.proofs.Halting.{halted_then, halted_here, if_err}
use Rattle.check_walk.proofs.Onward.{unfit_as, flaw_in, flaw_among, no_level}
use Rattle.check_walk.proofs.Walking.{walked_then, walked_as, walked_bytes, if_ok}
use Rattle.check_walk.proofs.Filling.{leaf_blob, inner_blob}
use Rattle.data_tree.specs.store_outcome.Outcome.{then_}
use Rattle.check_walk.proofs.walk.walk_root.Goals as goal

pub returns-in-Ok-push-clause-walked : goal.returns-in-Ok-push-clause-walked
returns-in-Ok-push-clause-walked g c =
    let p = g.B.Blocks.holdings.payload c.args.store.now in
    let w = c.in-Leaf.bytes.items in
    let id = c.args.root.now.0 in
    let node = node_of c.in-Ok.node in
    let is = ap node_of c.in-Leaf.is in
    let told : c.len.result ≡ length w = c.len.ensures ∙ (sym c.deref.ensures.len ∙ ap length c.deref.ensures.value) in
    let fits = subst (FitsPayload p) is c.in-Ok.ensures.fits in
    let bytes = walked_bytes {X = λ C v jds. (v ≡ w) × (jds ≡ [])} {P = λ v. c.len.result ≡ length v} w (λ C. (refl, refl)) told c.push.ensures.most (c.in-Ok-push.ensures.ok ∙ ap (joined_front c.args.front.now) c.deref.ensures.value) in
    walked_as (walked_then {Z = λ C v ids. NoDoubles ids → BlobTree p C id v ids} {R = λ v. c.len.result ≡ length v} c.requires.owner (c.in-Ok.ensures.walked c.args.front.now) bytes
    (λ C u v ids jds none len at rest alone. leaf_blob p id node v C u v ids jds alone (is ∙ ap leaf (sym rest.0)) rest.1 (omega (arith, fits, ap length rest.0)) at)
    (λ u v none len. len ∙ ap (λ xs. length (xs ++ v)) (sym none)))
    (λ C v ids alone len blob. blob alone) (λ v len. len)

pub returns-clause-walked : goal.returns-clause-walked
returns-clause-walked g c =
    let p = g.B.Blocks.holdings.payload c.args.store.now in
    let id = c.args.root.now.0 in
    let node = node_of c.in-Ok.node in
    let same = c.load_node.ensures.stays.payload in
    let children = ids_of c.deref-in-Inner.result.now in
    let count = length c.deref-in-Inner.result.now in
    let is = ap node_of c.in-Inner.is ∙ ap (λ (xs : List BlockId). inner c.in-Inner.depth (ids_of xs)) (sym c.deref-in-Inner.ensures.value) in
    let fits = subst (FitsPayload p) is c.in-Ok.ensures.fits in
    let long = length-map c.deref-in-Inner.result.now (λ (x : BlockId). x.0) in
    let low = c.below-below.result.depth in
    let level : c.in-Inner.depth ≡ low + 1 = sym (ap depth_in is) ∙ (sym c.depth_of.ensures ∙ (sym c.in-Some.ensures.depth ∙ sym c.below-below.ensures.depth)) in
    let sized : c.below-below.result.room ≡ span p low = c.below-below.ensures.room ∙ ap (λ q. span q low) (c.payload-in-Inner.ensures ∙ same) in
    let two : 2 ≤ count = omega (arith, c.if-len-lt2.false, c.len-in-Inner.ensures, c.deref-in-Inner.ensures.len) in
    let few : count ≤ fan_out p = omega (arith, long, fits.1) in
    if_ok c.walk_children.result (λ len walked.
    walked_as (walked_then {Z = λ C v ids. NoDoubles ids → BlobTree p C id v ids} {R = λ v. len ≡ length v} c.requires.owner (c.in-Ok.ensures.walked c.args.front.now) walked
    (λ C u v ids jds none fills at forest alone. inner_blob p low c.in-Inner.depth c.below-below.result.room len count id node children C u v ids jds alone is level sized two few at fills
    (subst (λ q. Forest (IsTree q C low) (span q low) children v jds) same forest))
    (λ u v none fills. fills.told ∙ ap (λ xs. length (xs ++ v)) (sym none)))
    (λ C v ids alone len blob. blob alone) (λ v told. told)) c.walk_children.ensures.walked

-- ---- why it stops

pub returns-in-Err-clause-halted : goal.returns-in-Err-clause-halted
returns-in-Err-clause-halted g c = c.in-Err.ensures.halted top

pub returns-in-None-clause-halted : goal.returns-in-None-clause-halted
returns-in-None-clause-halted g c =
    let p = g.B.Blocks.holdings.payload c.args.store.now in
    let node = node_of c.in-Ok.node in
    halted_here (c.in-Ok.ensures.walked c.args.front.now) (λ C w ids none at. record {
      way = [];
      need = top;
      reached = (refl, refl);
      text = at.text;
      there = at.there;
      unfit = unfit_as p top at.text node at.is (no_level p c.payload.result c.depth_of.result node (c.payload.ensures ∙ c.load_node.ensures.stays.payload) c.depth_of.ensures c.in-None.ensures.none);
    })

pub returns-in-Leaf-clause-halted : goal.returns-in-Leaf-clause-halted
returns-in-Leaf-clause-halted g c = halted_here (c.in-Ok.ensures.walked c.args.front.now) (λ C w ids none at. tt)

pub returns-then-len-lt2-clause-halted : goal.returns-then-len-lt2-clause-halted
returns-then-len-lt2-clause-halted g c =
    let p = g.B.Blocks.holdings.payload c.args.store.now in
    let node = node_of c.in-Ok.node in
    let is = ap node_of c.in-Inner.is in
    let long = length-map c.in-Inner.children.items (λ (x : BlockId). x.0) in
    halted_here (c.in-Ok.ensures.walked c.args.front.now) (λ C w ids none at. record {
      way = [];
      need = top;
      reached = (refl, refl);
      text = at.text;
      there = at.there;
      unfit = unfit_as p top at.text node at.is (λ s.
          let two = (subst (IsTop p) is s).0 in
          omega (arith, two, long, c.if-len-lt2.true, c.len-in-Inner.ensures, c.in-Inner.children.ok));
    })

pub returns-clause-halted : goal.returns-clause-halted
returns-clause-halted g c =
    let H = g.B.Blocks.holdings in
    let p = H.payload c.args.store.now in
    let id = c.args.root.now.0 in
    let node = node_of c.in-Ok.node in
    let stays = c.load_node.ensures.stays in
    let children = ids_of c.deref-in-Inner.result.now in
    let is = ap node_of c.in-Inner.is ∙ ap (λ (xs : List BlockId). inner c.in-Inner.depth (ids_of xs)) (sym c.deref-in-Inner.ensures.value) in
    let low = c.below-below.result.depth in
    let level : c.in-Inner.depth ≡ suc low = omega (arith, ap depth_in is, c.depth_of.ensures, c.in-Some.ensures.depth, c.below-below.ensures.depth) in
    if_err c.walk_children.result (λ halt h. halted_then c.requires.owner (c.in-Ok.ensures.walked c.args.front.now) h
    (λ C w ids flaw none at marked f. flaw_in p (H.payload c.load_node.new.store) C c.args.marks.now c.load_node.new.marks (H.content c.args.store.now) (H.content c.load_node.new.store) c.args.owner id node top w ids stays.payload marked stays.ids at flaw
    (flaw_among (H.payload c.load_node.new.store) C c.load_node.new.marks (H.content c.load_node.new.store) id node top low c.in-Inner.depth children is level flaw f))) c.walk_children.ensures.halted

pub returns-clause-outcome : goal.returns-clause-outcome
returns-clause-outcome g c = then_ g.met.B.Blocks.lawful c.in-Ok.ensures.outcome (λ m h. tt) c.walk_children.ensures.outcome (λ m h y k. tt)

pub walk_children-requires-clause-trees : goal.walk_children-requires-clause-trees
walk_children-requires-clause-trees g c =
    let p = g.B.Blocks.holdings.payload c.args.store.now in
    let below = c.below-below.result in
    let count = length c.deref-in-Inner.result.now in
    let is = ap node_of c.in-Inner.is ∙ ap (λ (xs : List BlockId). inner c.in-Inner.depth (ids_of xs)) (sym c.deref-in-Inner.ensures.value) in
    let fits = subst (FitsPayload p) is c.in-Ok.ensures.fits in
    let long = length-map c.deref-in-Inner.result.now (λ (x : BlockId). x.0) in
    let fan : c.payload-in-Inner.result ≡ p = c.payload-in-Inner.ensures ∙ c.load_node.ensures.stays.payload in
    let two : 2 ≤ count = omega (arith, c.if-len-lt2.false, c.len-in-Inner.ensures, c.deref-in-Inner.ensures.len) in
    let few : count ≤ fan_out p = omega (arith, long, fits.1) in
    let here : count ≤ fan_out c.payload-in-Inner.result = subst (λ q. count ≤ fan_out q) (sym fan) few in
    let much : count * below.room ≤ fan_out c.payload-in-Inner.result * below.room = mul-le-mul_right below.room here in
    record {
      owner = c.requires.owner;
      room = c.below-below.ensures.room ∙ ap (λ q. span q below.depth) c.payload-in-Inner.ensures;
      some = omega (arith, two);
      small = omega (arith, much, c.below-below.ensures.all, c.in-Some.ensures.fits);
    }
