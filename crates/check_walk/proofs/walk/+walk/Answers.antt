use Rattle.std.proofs.Common.{◌≡◌, ◌<◌, ◌≤◌, ◌+◌, ◌-◌, ◌*◌, ◌^◌, List, [], ◌∷◌, ◌++◌, length, get_or, true, sym, ◌∙◌, ap, subst, refl, arith, take, suc, ◌/◌, inl, rules}
use Rattle.std.specs.Prelude.{min, Some}
use Rattle.std.specs.List.{slice_get}
use Rattle.std.proofs.lemmas.List.{length-take, length-map, get_or-take}
use Rattle.std.proofs.Math.Nat.{mul-le-mul_right}
use Rattle.block_id.specs.declared.id.BlockId.{BlockId}
use Rattle.data_tree.specs.store_outcome.Outcome.{idle, then_}
use Rattle.data_tree.specs.data_nodes.Layout.{node_of, ids_of, inner, FitsPayload, fan_out}
use Rattle.data_tree.specs.Trees.{IsTree, Holds, Forest, span, depth_in}
use Rattle.data_tree.proofs.Forests.{stays-then, stays-same}
use Rattle.data_tree.proofs.Gathering.{more_children, all_children}
use Rattle.check_walk.specs.Fronts.{joined_front}
use Rattle.check_walk.proofs.Marking.{not_zero}
use Rattle.check_walk.specs.Walks.{FillsTrees}
use Rattle.check_walk.specs.Needs.{under, IsFilled, IsFull, Leads, LeadsAmong}
use Rattle.check_walk.proofs.Halting.{halted_then, halted_here, halted_as, halted_none, if_err}
use Rattle.check_walk.proofs.Onward.{unfit_as, flaw_then, flaw_in, flaw_among, among_onward, flag_before, flag_last, child_is}
use Rattle.check_walk.proofs.Walking.{walked_then, walked_as, walked_none, walked_bytes, if_ok}
use Rattle.check_walk.proofs.Filling.{tree_of, fills_behind, leaf_holds, inner_holds, fills_more, fills_last, fills_node, forest_next, never, whole_leaf, full_count}
use Rattle.check_walk.proofs.walk.+walk.Goals as goal
use Rattle.check_walk.proofs.walk.+walk.Goals.{walk_in-else-full-2-via-then-full-2+else-len-payload, walk_in-else-full-2-via-else-full-2, walk_in-then-len-eq0-via-then-len-eq0, walk_in-then-len-eq0-via-else-len-eq0+then-len-level, walk_in-then-full, walk_in-else-full}

pub walk_below-returns-clause-walked : goal.walk_below-returns-clause-walked
walk_below-returns-clause-walked g t c =
    let p = g.B.Blocks.holdings.payload c.args.store.now in
    let node = node_of c.in-Ok.node in
    let same = c.load_node.ensures.stays.payload in
    if_ok c.walk_in.result (λ len walked. walked_then c.requires.tree.owner (c.in-Ok.ensures.walked c.args.front.now) walked
    (λ C w v ids jds none fills at holds. tree_of p c.args.need.level.depth c.args.id.now.0 node C w v ids jds at (subst (λ q. Holds q C c.args.need.level.depth node v jds) same holds))
    (λ w v none fills. fills_behind len c.args.need.level.room c.args.need.full w v none fills)) c.walk_in.ensures.walked

pub walk_children-loop-child-init : goal.walk_children-loop-child-init
walk_children-loop-child-init g t c = record {
  outcome = idle g.met.B.Blocks.lawful c.args.store.now tt c.requires.intact (λ n. tt);
  stays = stays-same g.B.Blocks.holdings c.args.store.now;
  walked = walked_none (λ C. (refl, refl)) (record { told = refl; whole = omega arith });
}

pub walk_children-loop-child-preserved : goal.walk_children-loop-child-preserved
walk_children-loop-child-preserved g t c =
    let p = g.B.Blocks.holdings.payload c.args.store.now in
    let inv = c.loop-child.invariant in
    let i = c.loop-child.child-index in
    let n = length c.args.children.now in
    let lt : i < n - 1 = omega (arith, length-take (n - 1) c.args.children.now, c.loop-child-test.true) in
    let child : BlockId = get_or (take (n - 1) c.args.children.now) i (record { 0 = [] }) in
    let same : child ≡ get_or c.args.children.now i (record { 0 = [] }) = get_or-take (n - 1) c.args.children.now i (record { 0 = [] }) lt in
    let more : take i (ids_of c.args.children.now) ++ child.0 ∷ [] ≡ take (i + 1) (ids_of c.args.children.now) =
    ap (λ (x : BlockId). take i (ids_of c.args.children.now) ++ x.0 ∷ []) same ∙ sym (more_children c.args.children.now i (record { 0 = [] }) (omega (arith, lt))) in
    record {
      outcome = then_ g.met.B.Blocks.lawful inv.outcome (λ m h. tt) c.in-Ok.ensures.outcome (λ m h y k. tt);
      stays = stays-then inv.stays c.walk_below.ensures.stays;
      walked = walked_then c.requires.trees.owner inv.walked c.in-Ok.ensures.walked
          (λ C w v ids jds all one f tree. subst (λ cs. Forest (IsTree p C c.args.need.level.depth) (span p c.args.need.level.depth) cs (w ++ v) (ids ++ jds)) more
          (forest_next p c.args.need.level.depth c.args.need.level.room c.loop-child.len c.in-Ok.own i true (take i (ids_of c.args.children.now)) child.0 C w v ids jds c.requires.trees.room
          (omega (arith, length-take i (ids_of c.args.children.now), length-map c.args.children.now (λ (x : BlockId). x.0), lt)) all one f (subst (λ q. IsTree q C c.args.need.level.depth child.0 v jds) inv.stays.payload tree)))
          (λ w v all one. fills_more c.loop-child.len c.in-Ok.own i c.args.need.level.room w v all one);
    }

pub walk_children-returns-in-Ok-walk_below-clause-walked : goal.walk_children-returns-in-Ok-walk_below-clause-walked
walk_children-returns-in-Ok-walk_below-clause-walked g t c =
    let p = g.B.Blocks.holdings.payload c.args.store.now in
    let inv = c.loop-child.invariant in
    let i = c.loop-child.child-index in
    let n = length c.args.children.now in
    let long : length (take (n - 1) c.args.children.now) ≡ min (n - 1) n = length-take (n - 1) c.args.children.now in
    let at : i ≡ n - 1 = omega (arith, long, c.loop-child-test.false, c.loop-child.auto.child-index-end) in
    let child : BlockId = get_or c.args.children.now (n - 1) (record { 0 = [] }) in
    let more : take i (ids_of c.args.children.now) ++ child.0 ∷ [] ≡ ids_of c.args.children.now =
    ap (λ k. take k (ids_of c.args.children.now) ++ child.0 ∷ []) at
    ∙ (sym (more_children c.args.children.now (n - 1) (record { 0 = [] }) (omega (arith, c.requires.trees.some))) ∙ all_children c.args.children.now (n - 1 + 1) (omega (arith, c.requires.trees.some))) in
    let count : i + 1 ≡ n = omega (arith, at, c.requires.trees.some) in
    walked_then c.requires.trees.owner inv.walked c.in-Ok-walk_below.ensures.walked
    (λ C w v ids jds all one f tree. subst (λ cs. Forest (IsTree p C c.args.need.level.depth) (span p c.args.need.level.depth) cs (w ++ v) (ids ++ jds)) more
    (forest_next p c.args.need.level.depth c.args.need.level.room c.loop-child.len c.in-Ok-walk_below.own i c.args.need.full (take i (ids_of c.args.children.now)) child.0 C w v ids jds c.requires.trees.room
    (omega (arith, length-take i (ids_of c.args.children.now), length-map c.args.children.now (λ (x : BlockId). x.0), at)) all one f (subst (λ q. IsTree q C c.args.need.level.depth child.0 v jds) inv.stays.payload tree)))
    (λ w v all one. subst (λ k. FillsTrees (c.loop-child.len + c.in-Ok-walk_below.own) k c.args.need.level.room c.args.need.full (w ++ v)) count (fills_last c.loop-child.len c.in-Ok-walk_below.own i c.args.need.level.room c.args.need.full w v all one))

pub walk_in-returns-in-Ok-clause-walked : goal.walk_in-returns-in-Ok-clause-walked
walk_in-returns-in-Ok-clause-walked g t c =
    let p = g.B.Blocks.holdings.payload c.args.store.now in
    let w = c.in-Leaf.bytes.items in
    let is = ap node_of c.in-Leaf.is in
    let told : c.len-len.result ≡ length w = c.len-len.ensures ∙ (sym c.deref.ensures.len ∙ ap length c.deref.ensures.value) in
    let fits = subst (FitsPayload p) is c.requires.node.at.fits in
    let zero : 0 ≡ c.args.need.level.depth = sym (ap depth_in is) ∙ c.requires.node.at.depth in
    let room : c.args.need.level.room ≡ span p 0 = c.requires.node.at.room ∙ ap (span p) (sym zero) in
    let short : length w ≤ c.args.need.level.room = omega (arith, room, fits) in
    walked_bytes w (λ C. leaf_holds p C c.args.need.level.depth (node_of c.args.node.now) w is c.requires.node.at.depth)
    (record {
      told = told;
      some = not_zero (length w) (λ e. c.if-len-eq0.false (told ∙ e));
      fits = short;
      whole = whole_leaf c.args.need.full c.args.need.level.room c.len-len.result (length w) c.if-len-level.either told short;
    })
    c.push.ensures.most (c.in-Ok.ensures.ok ∙ ap (joined_front c.args.front.now) c.deref.ensures.value)

pub walk_in-returns-else-full-2-clause-walked : goal.walk_in-returns-else-full-2-clause-walked
walk_in-returns-else-full-2-clause-walked g t c =
    let p = g.B.Blocks.holdings.payload c.args.store.now in
    let children = ids_of c.deref-in-Inner.result.now in
    let is = ap node_of c.in-Inner.is ∙ ap (λ (xs : List BlockId). inner c.in-Inner.depth (ids_of xs)) (sym c.deref-in-Inner.ensures.value) in
    let fits = subst (FitsPayload p) is c.requires.node.at.fits in
    let long = length-map c.deref-in-Inner.result.now (λ (x : BlockId). x.0) in
    let all : fan_out p * c.below-below.result.room ≡ c.args.need.level.room = ap (λ q. fan_out q * c.below-below.result.room) (sym c.payload-in-Inner.ensures) ∙ c.below-below.ensures.all in
    let count = length c.deref-in-Inner.result.now in
    let few : count ≤ fan_out p = omega (arith, long, fits.1) in
    let whole : c.args.need.full ≡ true → count ≡ fan_out p = λ e. elim c.else-full-2.branch [
      | walk_in-else-full-2-via-then-full-2+else-len-payload w ↦ full_count count w.len.result w.payload.result p few (sym (c.deref-in-Inner.ensures.len ∙ sym w.len.ensures)) w.payload.ensures w.if-len-payload.false
      | walk_in-else-full-2-via-else-full-2 w ↦ never c.args.need.full w.if-full-2.false e
    ] in
    if_ok c.walk_children.result (λ len walked. walked_as walked
    (λ C w ids alone f forest. inner_holds p C c.args.need.level.depth c.below-below.result.depth c.in-Inner.depth (node_of c.args.node.now) w children ids is c.requires.node.at.depth c.below-below.ensures.depth forest)
    (λ w f. fills_node len count (fan_out p) c.below-below.result.room c.args.need.level.room c.args.need.full w all few whole f)) c.walk_children.ensures.walked

-- ---- why a walk stops

pub walk_below-returns-in-Err-clause-halted : goal.walk_below-returns-in-Err-clause-halted
walk_below-returns-in-Err-clause-halted g t c = c.in-Err.ensures.halted (under c.args.need.level.depth c.args.need.full)

pub walk_below-returns-then-depth_of-need-clause-halted : goal.walk_below-returns-then-depth_of-need-clause-halted
walk_below-returns-then-depth_of-need-clause-halted g t c =
    let p = g.B.Blocks.holdings.payload c.args.store.now in
    let node = node_of c.in-Ok.node in
    let need = under c.args.need.level.depth c.args.need.full in
    halted_here (c.in-Ok.ensures.walked c.args.front.now) (λ C w ids none at. record {
      way = [];
      need = need;
      reached = (refl, refl);
      text = at.text;
      there = at.there;
      unfit = unfit_as p need at.text node at.is (λ s. c.if-depth_of-need.true (c.depth_of.ensures ∙ s.deep));
    })

pub walk_below-returns-clause-halted : goal.walk_below-returns-clause-halted
walk_below-returns-clause-halted g t c =
    let H = g.B.Blocks.holdings in
    let id = c.args.id.now.0 in
    let node = node_of c.in-Ok.node in
    let stays = c.load_node.ensures.stays in
    if_err c.walk_in.result (λ halt h. halted_then c.requires.tree.owner (c.in-Ok.ensures.walked c.args.front.now) h
    (λ C w ids flaw none at marked f. flaw_in (H.payload c.args.store.now) (H.payload c.load_node.new.store) C c.args.marks.now c.load_node.new.marks (H.content c.args.store.now) (H.content c.load_node.new.store) c.args.need.owner id node
    (under c.args.need.level.depth c.args.need.full) w ids stays.payload marked stays.ids at flaw f)) c.walk_in.ensures.halted

pub walk_children-returns-in-Err-clause-halted : goal.walk_children-returns-in-Err-clause-halted
walk_children-returns-in-Err-clause-halted g t c =
    let H = g.B.Blocks.holdings in
    let p = H.payload c.args.store.now in
    let inv = c.loop-child.invariant in
    let i = c.loop-child.child-index in
    let n = length c.args.children.now in
    let depth = c.args.need.level.depth in
    let cs = ids_of c.args.children.now in
    let long : length cs ≡ n = length-map c.args.children.now (λ (x : BlockId). x.0) in
    let lt : i < n - 1 = omega (arith, length-take (n - 1) c.args.children.now, c.loop-child-test.true) in
    let child : BlockId = get_or (take (n - 1) c.args.children.now) i (record { 0 = [] }) in
    let same : get_or c.args.children.now i (record { 0 = [] }) ≡ child = sym (get_or-take (n - 1) c.args.children.now i (record { 0 = [] }) lt) in
    let at : slice_get cs i ≡ Some child.0 = child_is c.args.children.now i (record { 0 = [] }) (omega (arith, lt)) ∙ ap (λ (x : BlockId). Some x.0) same in
    let flag = flag_before i (length cs) c.args.need.full (omega (arith, long, lt)) in
    halted_then c.requires.trees.owner inv.walked c.in-Err.ensures.halted
    (λ C w ids flaw all f marked h. flaw_then p (H.payload c.loop-child.store) C c.args.marks.now c.loop-child.marks (H.content c.args.store.now) (H.content c.loop-child.store) c.args.need.owner ids (Leads C child.0 (under depth true)) (LeadsAmong C depth c.args.need.full cs)
    inv.stays.payload marked inv.stays.ids (among_onward p C depth (span p depth) c.args.need.full true cs i child.0 w ids at flag f) flaw h)

pub walk_children-returns-in-Err-walk_below-clause-halted : goal.walk_children-returns-in-Err-walk_below-clause-halted
walk_children-returns-in-Err-walk_below-clause-halted g t c =
    let H = g.B.Blocks.holdings in
    let p = H.payload c.args.store.now in
    let inv = c.loop-child.invariant in
    let i = c.loop-child.child-index in
    let n = length c.args.children.now in
    let depth = c.args.need.level.depth in
    let cs = ids_of c.args.children.now in
    let long : length cs ≡ n = length-map c.args.children.now (λ (x : BlockId). x.0) in
    let cut : length (take (n - 1) c.args.children.now) ≡ min (n - 1) n = length-take (n - 1) c.args.children.now in
    let last : i ≡ n - 1 = omega (arith, cut, c.loop-child-test.false, c.loop-child.auto.child-index-end) in
    let child : BlockId = get_or c.args.children.now (n - 1) (record { 0 = [] }) in
    let at : slice_get cs i ≡ Some child.0 = ap (slice_get cs) last ∙ child_is c.args.children.now (n - 1) (record { 0 = [] }) (omega (arith, c.requires.trees.some)) in
    let flag = flag_last i (length cs) c.args.need.full (omega (arith, long, last)) in
    halted_then c.requires.trees.owner inv.walked c.in-Err-walk_below.ensures.halted
    (λ C w ids flaw all f marked h. flaw_then p (H.payload c.loop-child.store) C c.args.marks.now c.loop-child.marks (H.content c.args.store.now) (H.content c.loop-child.store) c.args.need.owner ids (Leads C child.0 (under depth c.args.need.full)) (LeadsAmong C depth c.args.need.full cs)
    inv.stays.payload marked inv.stays.ids (among_onward p C depth (span p depth) c.args.need.full c.args.need.full cs i child.0 w ids at flag f) flaw h)

pub walk_in-returns-then-len-eq0-clause-halted : goal.walk_in-returns-then-len-eq0-clause-halted
walk_in-returns-then-len-eq0-clause-halted g t c =
    let p = g.B.Blocks.holdings.payload c.args.store.now in
    let w = c.in-Leaf.bytes.items in
    let is = ap node_of c.in-Leaf.is in
    let told : c.len-len.result ≡ length w = omega (arith, c.len-len.ensures, c.in-Leaf.bytes.ok) in
    let zero : 0 ≡ c.args.need.level.depth = sym (ap depth_in is) ∙ c.requires.node.at.depth in
    let room : c.args.need.level.room ≡ span p 0 = c.requires.node.at.room ∙ ap (span p) (sym zero) in
    halted_none refl (λ C. inl (
      refl,
      λ s. elim c.then-len-eq0.branch [
        | walk_in-then-len-eq0-via-then-len-eq0 v ↦ let some : 0 < length w = subst IsFilled is s.some in absurd (omega (arith, some, told, v.if-len-eq0.true))
        | walk_in-then-len-eq0-via-else-len-eq0+then-len-level v ↦ elim v.if-full.branch [
          | walk_in-then-full u ↦ let whole : length w ≡ span p 0 = subst (IsFull p) is (s.whole u.if-full.true) in absurd (omega (arith, whole, told, room, v.if-len-level.true))
          | walk_in-else-full u ↦ absurd (cc)
        ]
      ],
    ))

pub walk_in-returns-then-len-payload-clause-halted : goal.walk_in-returns-then-len-payload-clause-halted
walk_in-returns-then-len-payload-clause-halted g t c =
    let p = g.B.Blocks.holdings.payload c.args.store.now in
    let is = ap node_of c.in-Inner.is in
    let long = length-map c.in-Inner.children.items (λ (x : BlockId). x.0) in
    let told : c.len.result ≡ length c.in-Inner.children.items = omega (arith, c.len.ensures, c.in-Inner.children.ok) in
    let fan : (c.payload.result - 8) / 16 ≡ fan_out p = ap fan_out c.payload.ensures in
    halted_none refl (λ C. inl (
      refl,
      λ s.
          let whole : length (ids_of c.in-Inner.children.items) ≡ fan_out p = subst (IsFull p) is (s.whole c.if-full-2.true) in
          omega (arith, whole, long, told, fan, c.if-len-payload.true),
    ))

pub walk_in-returns-in-Err-clause-halted : goal.walk_in-returns-in-Err-clause-halted
walk_in-returns-in-Err-clause-halted g t c = halted_none refl (λ C. tt)

pub walk_in-returns-else-full-2-clause-halted : goal.walk_in-returns-else-full-2-clause-halted
walk_in-returns-else-full-2-clause-halted g t c =
    let H = g.B.Blocks.holdings in
    let children = ids_of c.deref-in-Inner.result.now in
    let is = ap node_of c.in-Inner.is ∙ ap (λ (xs : List BlockId). inner c.in-Inner.depth (ids_of xs)) (sym c.deref-in-Inner.ensures.value) in
    let level : c.in-Inner.depth ≡ suc c.below-below.result.depth = omega (arith, ap depth_in is, c.requires.node.at.depth, c.below-below.ensures.depth) in
    if_err c.walk_children.result (λ halt h. halted_as h
    (λ C flaw f. flaw_among (H.payload c.args.store.now) C c.args.marks.now (H.content c.args.store.now) c.args.id.now.0 (node_of c.args.node.now) (under c.args.need.level.depth c.args.need.full) c.below-below.result.depth c.in-Inner.depth children is level flaw f))
    c.walk_children.ensures.halted

-- ---- what was loaded on the way

pub walk_below-returns-clause-outcome : goal.walk_below-returns-clause-outcome
walk_below-returns-clause-outcome g t c = then_ g.met.B.Blocks.lawful c.in-Ok.ensures.outcome (λ m h. tt) c.walk_in.ensures.outcome (λ m h y k. tt)

pub walk_children-returns-in-Err-clause-outcome : goal.walk_children-returns-in-Err-clause-outcome
walk_children-returns-in-Err-clause-outcome g t c = then_ g.met.B.Blocks.lawful c.loop-child.invariant.outcome (λ m h. tt) c.in-Err.ensures.outcome (λ m h y k. tt)

pub walk_children-returns-in-Ok-walk_below-clause-outcome : goal.walk_children-returns-in-Ok-walk_below-clause-outcome
walk_children-returns-in-Ok-walk_below-clause-outcome g t c = then_ g.met.B.Blocks.lawful c.loop-child.invariant.outcome (λ m h. tt) c.in-Ok-walk_below.ensures.outcome (λ m h y k. tt)

pub walk_children-returns-in-Err-walk_below-clause-outcome : goal.walk_children-returns-in-Err-walk_below-clause-outcome
walk_children-returns-in-Err-walk_below-clause-outcome g t c = then_ g.met.B.Blocks.lawful c.loop-child.invariant.outcome (λ m h. tt) c.in-Err-walk_below.ensures.outcome (λ m h y k. tt)

-- ---- what the steps are given

pub walk_below-walk_in-requires : goal.walk_below-walk_in-requires
walk_below-walk_in-requires g t c κs within =
    let same = sym c.load_node.ensures.stays.payload in
    let room = c.requires.tree.room ∙ ap (λ p. span p c.args.need.level.depth) same in
    let fits = subst (λ p. FitsPayload p (node_of c.in-Ok.node)) same c.in-Ok.ensures.fits in
    let depth : depth_in (node_of c.in-Ok.node) ≡ c.args.need.level.depth = sym c.depth_of.ensures ∙ c.if-depth_of-need.false in
    (search rules, (within, (c.load_node.ensures.outcome.intact, record { owner = c.requires.tree.owner; small = c.requires.tree.small; at = record { fits = fits; depth = depth; room = room } })))

pub walk_in-walk_children-requires : goal.walk_in-walk_children-requires
walk_in-walk_children-requires g t c κs within =
    let p = g.B.Blocks.holdings.payload c.args.store.now in
    let below = c.below-below.result in
    let count = length c.deref-in-Inner.result.now in
    let is = ap node_of c.in-Inner.is ∙ ap (λ (xs : List BlockId). inner c.in-Inner.depth (ids_of xs)) (sym c.deref-in-Inner.ensures.value) in
    let fits = subst (FitsPayload p) is c.requires.node.at.fits in
    let long = length-map c.deref-in-Inner.result.now (λ (x : BlockId). x.0) in
    let room = c.below-below.ensures.room ∙ ap (λ q. span q below.depth) c.payload-in-Inner.ensures in
    let all : fan_out p * below.room ≡ c.args.need.level.room = ap (λ q. fan_out q * below.room) (sym c.payload-in-Inner.ensures) ∙ c.below-below.ensures.all in
    let few : count ≤ fan_out p = omega (arith, long, fits.1, fits.2) in
    let some : 0 < count = omega (arith, long, fits.1, fits.2) in
    let much : count * below.room ≤ fan_out p * below.room = mul-le-mul_right below.room few in
    let small : count * below.room < 2 ^ 63 = omega (arith, much, all, c.requires.node.small) in
    (search rules, (within, (c.requires.intact, record { owner = c.requires.node.owner; room = room; some = some; small = small })))
