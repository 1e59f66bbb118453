use Rattle.std.proofs.Common.{◌≡◌, ◌≤◌, ◌<◌, ◌+◌, ◌-◌, ◌*◌, ◌/◌, ◌++◌, ◌∷◌, [], List, refl, sym, ◌∙◌, ap, subst, take, drop, length, get_or, arith, rules}
use Rattle.std.proofs.lemmas.List.{drop-map, length-drop, length-map, take-map, take_all}
use Rattle.std.proofs.Math.Nat.{div-mul-le_self, lt-div-mul-add, mul-le-mul_right}
use Rattle.block_id.specs.declared.id.BlockId.{BlockId}
use Rattle.data_tree.specs.store_outcome.Outcome.{Outcome, first_, idle, then_, failed_, unbuilt}
use Rattle.data_tree.specs.data_nodes.Layout.{node_of, ids_of, leaf, inner, fan_out, FitsPayload}
use Rattle.data_tree.specs.Needs.{HasTrees, SetsNode}
use Rattle.data_tree.specs.Trees.{IsTree, Replaces, depth_in, span}
use Rattle.data_tree.proofs.Forests.{below_of, below_on, children_of, forest-length, leaf_is, root_apart}
use Rattle.data_tree.proofs.Gathering.{more_children, next_child}
use Rattle.data_tree.proofs.Levels.{span-some}
use Rattle.data_tree.specs.store_api.Txs.{tx_holdings, tx_laws, tx_meanings, tx_steady}
use Rattle.data_tree.proofs.Puts.{changed_, keeps_below, keeps_same, memory_first}
use Rattle.data_tree.proofs.Leaving.{drops_same, drops_then}
use Rattle.data_cuts.specs.Cutting.{OnlyBorder, IsCut, MayCut, MayCutNode, MayCutTrees}
use Rattle.data_cuts.proofs.Cuts.{cut_at, cut_behind, cut_fits, cut_inner_is, cut_last, cut_leaf_is, cut_only, cut_since, put_border}
use Rattle.data_cuts.proofs.Drops.{drops_kept, drops_loaded, drops_put}
use Rattle.data_cuts.proofs.cutting.+cut.Goals as goal

pub cut_below-returns-in-Ok-clause-outcome : goal.cut_below-returns-in-Ok-clause-outcome
cut_below-returns-in-Ok-clause-outcome g t c =
    let H = tx_holdings g.S.Blocks.holdings in
    let laws = tx_laws g.S.Blocks.meanings g.S.Blocks.holdings g.met.S.Blocks.lawful in
    let a = c.args.tx.now in
    let b = c.load_at.new.tx in
    let d = c.cut_in.new.tx in
    let id = c.args.id.now.0 in
    let depth = c.args.level.depth in
    let stays = c.load_at.ensures.stays in
    let node = node_of c.in-Ok.node in
    let one = first_ {N = MayCut H a depth id c.args.n} {R = λ m y. node_of y ≡ m.tree.tree.node} (λ m. m.tree) c.in-Ok.ensures.outcome (λ m y h. h) in
    then_ laws one (λ m is. record { below = below_on stays (below_of node m.tree is); apart = root_apart m.tree; fits = m.fits }) c.cut_in.ensures.outcome
    (λ m is y r. (
      subst (λ xs. IsCut H a d depth id (take c.args.n m.tree.bytes) xs) (sym m.tree.tree.all) (cut_since {H = H} {a = a} {b = b} {c = d} stays m.tree.told r.0),
      subst (λ o. OnlyBorder (H.content d) depth id o d.overlay) c.load_at.ensures.leaves.overlay r.1,
    ))

pub cut_in-returns-in-Leaf-clause-outcome : goal.cut_in-returns-in-Leaf-clause-outcome
cut_in-returns-in-Leaf-clause-outcome g t c =
    let H = tx_holdings g.S.Blocks.holdings in
    let a = c.args.tx.now in
    let d = c.cut_leaf.new.tx in
    let node = node_of c.args.node.now in
    let depth = c.args.level.depth in
    let old = c.deref.result.now in
    let at : leaf old ≡ node = ap leaf c.deref.ensures.value ∙ ap node_of (sym c.in-Leaf.is) in
    first_ {N = MayCutNode H a depth c.args.id.now.0 node c.args.n} (λ m. omega (arith, m.fits, ap length (leaf_is (H.payload a) (H.content a) depth node m.below.bytes old m.below.ids m.below.holds at))) c.cut_leaf.ensures.outcome
    (λ m y sets. (cut_leaf_is node old at m (keeps_below g.S.Blocks.holdings a d c.cut_leaf.ensures.drops.below) sets, put_border (H.content d) depth c.args.id.now.0 a.overlay d.overlay c.cut_leaf.ensures.others))

pub cut_in-returns-in-Inner-clause-outcome : goal.cut_in-returns-in-Inner-clause-outcome
cut_in-returns-in-Inner-clause-outcome g t c =
    let H = tx_holdings g.S.Blocks.holdings in
    let a = c.args.tx.now in
    let d = c.cut_children.new.tx in
    let node = node_of c.args.node.now in
    let id = c.args.id.now.0 in
    let low = c.below-below.result.depth in
    let deep = c.below-below.ensures.depth in
    let children = ids_of c.deref-in-Inner.result.now in
    let is = ap (λ (xs : List BlockId). inner c.in-Inner.depth (ids_of xs)) c.deref-in-Inner.ensures.value ∙ ap node_of (sym c.in-Inner.is) in
    first_ {N = MayCutNode H a c.args.level.depth id node c.args.n} (λ m. record { trees = children_of node c.in-Inner.depth low children is deep m.below; apart = m.apart; fits = m.fits }) c.cut_children.ensures.outcome
    (λ m y r. (subst (λ j. IsCut H a d j id (take c.args.n m.below.bytes) (id ∷ m.below.ids)) deep r.0, subst (λ j. OnlyBorder (H.content d) j id a.overlay d.overlay) deep r.1))

pub cut_children-nonzero_div-last : goal.cut_children-nonzero_div-last
cut_children-nonzero_div-last g t c =
    let steady = tx_steady g.S.Blocks.meanings g.S.Blocks.holdings g.met.S.Blocks.steady in
    omega (arith, span-some ((tx_holdings g.S.Blocks.holdings).payload c.args.tx.now) c.args.level.depth (steady.at_least c.args.tx.now c.requires.intact), c.requires.level)

pub cut_children-returns-then-last-children-clause-outcome : goal.cut_children-returns-then-last-children-clause-outcome
cut_children-returns-then-last-children-clause-outcome g t c =
    let H = tx_holdings g.S.Blocks.holdings in
    let laws = tx_laws g.S.Blocks.meanings g.S.Blocks.holdings g.met.S.Blocks.lawful in
    let a = c.args.tx.now in
    let low = c.args.level.depth in
    let room = c.args.level.room in
    let children = c.args.children.now in
    let none = idle laws {T = Unit {0}} {N = MayCutTrees H a low c.args.id.now.0 (ids_of children) c.args.n} {P = λ _ _. Unit {0}} a tt c.requires.intact (λ m. tt) in
    unbuilt laws none (λ m p.
    let most : length m.trees.bytes ≤ length (ids_of children) * span (H.payload a) low = forest-length (IsTree (H.payload a) (H.content a) low) (span (H.payload a) low) (ids_of children) m.trees.bytes m.trees.ids m.trees.trees in
    let count : length (ids_of children) * span (H.payload a) low ≡ length children * room = ap (λ k. k * span (H.payload a) low) (length-map children (λ (x : BlockId). x.0)) ∙ ap (λ k. length children * k) (sym c.requires.level) in
    let fewer : length children * room ≤ ((c.args.n - 1) / room) * room = mul-le-mul_right room c.if-last-children.true in
    absurd (omega (arith, m.fits, most, count, fewer, div-mul-le_self (c.args.n - 1) room, c.requires.some)))

pub cut_children-returns-in-Err-drop_children-clause-outcome : goal.cut_children-returns-in-Err-drop_children-clause-outcome
cut_children-returns-in-Err-drop_children-clause-outcome g t c =
    let M = g.S.Blocks.meanings in
    let H0 = g.S.Blocks.holdings in
    let H = tx_holdings H0 in
    let laws = tx_laws M H0 g.met.S.Blocks.lawful in
    let steady = tx_steady M H0 g.met.S.Blocks.steady in
    let a = c.args.tx.now in
    let b = c.put_node.new.tx in
    let d = c.drop_children.new.tx in
    let id = c.args.id.now.0 in
    let low = c.args.level.depth in
    let room = c.args.level.room in
    let children = c.args.children.now in
    let ids = ids_of children in
    let kept = ids_of c.in-Ok.kept.items in
    let k = (c.args.n - 1) / room in
    let last : BlockId = get_or children k (record { 0 = [] }) in
    let lt : k < length children = c.if-last-children.false in
    let more : k < length ids = omega (arith, lt, length-map children (λ (x : BlockId). x.0)) in
    let is = next_child children k (record { 0 = [] }) lt in
    let positive = span-some (H.payload a) low (steady.at_least a c.requires.intact) in
    let ab = keeps_same H0 a b c.put_node.ensures.puts.store in
    let s = λ (m : MayCutTrees H a low id ids c.args.n). cut_at (IsTree (H.payload a) (H.content a) low) (span (H.payload a) low) k ids last.0 m.trees.bytes m.trees.ids positive more is m.trees.trees in
    let none = idle laws {T = Unit {0}} {N = MayCutTrees H a low id ids c.args.n} {P = λ _ _. Unit {0}} a tt c.requires.intact (λ m. tt) in
    let one = changed_ M H0 {R = λ m. SetsNode H a b id (inner (low + 1) kept)} a a b c.put_node.ensures.puts.store c.put_node.ensures.puts.seed c.put_node.ensures.intact none (λ m p. c.in-Ok-put_node.ensures.sets) in
    let behind = take (length children - (k + 1)) (drop (k + 1) children) in
    let cut : ids_of behind ≡ drop (k + 1) ids = ap ids_of (take_all (length children - (k + 1)) (drop (k + 1) children) (omega (arith, length-drop (k + 1) children))) ∙ sym (drop-map (λ (x : BlockId). x.0) (k + 1) children) in
    let dropped = subst (λ cs. Outcome (tx_meanings M H0) (HasTrees H b low cs) b d c.drop_children.result (λ n _. Replaces (H.content b) (H.content d) n.ids [])) cut c.drop_children.ensures.outcome in
    failed_ laws one (λ m put. cut_behind m (s m) put ab) (subst (λ r. Outcome (tx_meanings M H0) (HasTrees H b low (drop (k + 1) ids)) b d r (λ n _. Replaces (H.content b) (H.content d) n.ids [])) c.in-Err-drop_children.is dropped)

pub cut_children-returns-clause-outcome : goal.cut_children-returns-clause-outcome
cut_children-returns-clause-outcome g t c =
    let M = g.S.Blocks.meanings in
    let H0 = g.S.Blocks.holdings in
    let H = tx_holdings H0 in
    let laws = tx_laws M H0 g.met.S.Blocks.lawful in
    let steady = tx_steady M H0 g.met.S.Blocks.steady in
    let a = c.args.tx.now in
    let b = c.put_node.new.tx in
    let d = c.drop_children.new.tx in
    let id = c.args.id.now.0 in
    let low = c.args.level.depth in
    let room = c.args.level.room in
    let children = c.args.children.now in
    let ids = ids_of children in
    let kept = ids_of c.in-Ok.kept.items in
    let k = (c.args.n - 1) / room in
    let last : BlockId = get_or children k (record { 0 = [] }) in
    let lt : k < length children = c.if-last-children.false in
    let more : k < length ids = omega (arith, lt, length-map children (λ (x : BlockId). x.0)) in
    let is = next_child children k (record { 0 = [] }) lt in
    let positive = span-some (H.payload a) low (steady.at_least a c.requires.intact) in
    let ab = keeps_same H0 a b c.put_node.ensures.puts.store in
    let s = λ (m : MayCutTrees H a low id ids c.args.n). cut_at (IsTree (H.payload a) (H.content a) low) (span (H.payload a) low) k ids last.0 m.trees.bytes m.trees.ids positive more is m.trees.trees in
    let none = idle laws {T = Unit {0}} {N = MayCutTrees H a low id ids c.args.n} {P = λ _ _. Unit {0}} a tt c.requires.intact (λ m. tt) in
    let one = changed_ M H0 {R = λ m. SetsNode H a b id (inner (low + 1) kept)} a a b c.put_node.ensures.puts.store c.put_node.ensures.puts.seed c.put_node.ensures.intact none (λ m p. c.in-Ok-put_node.ensures.sets) in
    let behind = take (length children - (k + 1)) (drop (k + 1) children) in
    let cut : ids_of behind ≡ drop (k + 1) ids = ap ids_of (take_all (length children - (k + 1)) (drop (k + 1) children) (omega (arith, length-drop (k + 1) children))) ∙ sym (drop-map (λ (x : BlockId). x.0) (k + 1) children) in
    let e = c.cut_below.new.tx in
    let m = c.args.n - k * room in
    let depth = low + 1 in
    let bd = keeps_below H0 b d c.drop_children.ensures.below in
    let de = keeps_below H0 d e c.cut_below.ensures.drops.below in
    let least : k * room ≤ c.args.n - 1 = div-mul-le_self (c.args.n - 1) room in
    let most : c.args.n - 1 < k * room + room = lt-div-mul-add (omega (arith, positive, c.requires.level)) in
    let same : k * room ≡ k * span (H.payload a) low = ap (λ j. k * j) c.requires.level in
    let place : c.args.n ≡ k * span (H.payload a) low + m = omega (arith, least, same, c.requires.some) in
    let small : m ≤ span (H.payload a) low = omega (arith, most, least, c.requires.level, c.requires.some) in
    let some : 0 < m = omega (arith, least, c.requires.some) in
    let listed : kept ≡ take k ids ++ last.0 ∷ [] = ap ids_of (c.in-Ok.ensures.items_if_clones_equal (λ x y e. e)) ∙ sym (take-map (λ (x : BlockId). x.0) (k + 1) children) ∙ more_children children k (record { 0 = [] }) lt in
    let dropped = subst (λ cs. Outcome (tx_meanings M H0) (HasTrees H b low cs) b d c.drop_children.result (λ n _. Replaces (H.content b) (H.content d) n.ids [])) cut c.drop_children.ensures.outcome in
    let two = then_ laws {R = λ n y. SetsNode H a b id (inner depth kept) × Replaces (H.content b) (H.content d) (s n).ids3 []} one (λ n put. cut_behind n (s n) put ab) (subst (λ r. Outcome (tx_meanings M H0) (HasTrees H b low (drop (k + 1) ids)) b d r (λ n _. Replaces (H.content b) (H.content d) n.ids [])) c.in-Ok-drop_children.is dropped) (λ n put y r. (put, r)) in
    then_ laws two (λ n p. cut_last m n (s n) p.0 ab bd p.1 (cut_fits c.args.n m place small n.fits (s n))) c.cut_below.ensures.outcome
    (λ n p y r.
    let fits = cut_fits c.args.n m place small n.fits (s n) in
    let whole = cut_inner_is {H = H} {a = a} {b = b} {c = d} {d = e} depth m kept n (s n) p.0 ab bd de p.1 r.0 listed more refl place some small fits in
    (whole.0, cut_only (H.content d) (H.content e) depth low k id last.0 ids kept p.0.0 a.overlay b.overlay d.overlay e.overlay whole.1 p.0.1.0 listed refl c.cut_below.ensures.drops.fewer c.put_node.ensures.puts.others c.drop_children.ensures.kept r.1))

pub cut_children-overflow_mul-last : goal.cut_children-overflow_mul-last
cut_children-overflow_mul-last g t c = omega (arith, div-mul-le_self (c.args.n - 1) c.args.level.room, c.ranges.n.fits)

pub cut_children-overflow_sub-n : goal.cut_children-overflow_sub-n
cut_children-overflow_sub-n g t c = omega (arith, div-mul-le_self (c.args.n - 1) c.args.level.room)

pub cut_children-returns-in-Err-clause-outcome : goal.cut_children-returns-in-Err-clause-outcome
cut_children-returns-in-Err-clause-outcome g t c = memory_first g.S.Blocks.meanings g.S.Blocks.holdings g.met.S.Blocks.lawful c.args.tx.now c.args.tx.now c.requires.intact refl refl c.requires.intact

pub cut_children-returns-in-Err-put_node-clause-outcome : goal.cut_children-returns-in-Err-put_node-clause-outcome
cut_children-returns-in-Err-put_node-clause-outcome g t c = memory_first g.S.Blocks.meanings g.S.Blocks.holdings g.met.S.Blocks.lawful c.args.tx.now c.put_node.new.tx c.requires.intact c.put_node.ensures.puts.store c.put_node.ensures.puts.seed c.put_node.ensures.intact

pub cut_below-returns-in-Ok-clause-drops : goal.cut_below-returns-in-Ok-clause-drops
cut_below-returns-in-Ok-clause-drops g t c = drops_then (drops_loaded c.load_at.ensures.leaves c.load_at.ensures.stays) c.cut_in.ensures.drops

pub cut_below-returns-in-Err-clause-drops : goal.cut_below-returns-in-Err-clause-drops
cut_below-returns-in-Err-clause-drops g t c = drops_loaded c.load_at.ensures.leaves c.load_at.ensures.stays

pub cut_children-returns-then-last-children-clause-drops : goal.cut_children-returns-then-last-children-clause-drops
cut_children-returns-then-last-children-clause-drops g t c = drops_same g.S.Blocks.holdings c.args.tx.now

pub cut_children-returns-in-Err-clause-drops : goal.cut_children-returns-in-Err-clause-drops
cut_children-returns-in-Err-clause-drops g t c = drops_same g.S.Blocks.holdings c.args.tx.now

pub cut_children-returns-in-Err-put_node-clause-drops : goal.cut_children-returns-in-Err-put_node-clause-drops
cut_children-returns-in-Err-put_node-clause-drops g t c = drops_put g.S.Blocks.holdings c.args.tx.now c.put_node.new.tx c.args.id.now.0 c.requires.there c.put_node.ensures.puts

pub cut_children-returns-in-Err-drop_children-clause-drops : goal.cut_children-returns-in-Err-drop_children-clause-drops
cut_children-returns-in-Err-drop_children-clause-drops g t c =
    let put = drops_put g.S.Blocks.holdings c.args.tx.now c.put_node.new.tx c.args.id.now.0 c.requires.there c.put_node.ensures.puts in
    drops_then put (drops_kept g.S.Blocks.holdings c.put_node.new.tx c.drop_children.new.tx c.drop_children.ensures.below c.drop_children.ensures.kept)

pub cut_children-returns-clause-drops : goal.cut_children-returns-clause-drops
cut_children-returns-clause-drops g t c =
    let put = drops_put g.S.Blocks.holdings c.args.tx.now c.put_node.new.tx c.args.id.now.0 c.requires.there c.put_node.ensures.puts in
    drops_then (drops_then put (drops_kept g.S.Blocks.holdings c.put_node.new.tx c.drop_children.new.tx c.drop_children.ensures.below c.drop_children.ensures.kept)) c.cut_below.ensures.drops

pub cut_below-cut_in-requires : goal.cut_below-cut_in-requires
cut_below-cut_in-requires g t c κs within =
    let same = sym c.load_at.ensures.stays.payload in
    let room = c.requires.level ∙ ap (λ p. span p c.args.level.depth) same in
    let fits = subst (λ p. FitsPayload p (node_of c.in-Ok.node)) same c.in-Ok.ensures.fits in
    let there = c.load_at.ensures.stays.ids c.args.id.now.0 ∙ c.in-Ok.ensures.there in
    (search rules, (within, (c.in-Ok.ensures.outcome.intact, (record { fits = fits; depth = c.in-Ok.ensures.depth; room = room }, (there, c.requires.some)))))

pub cut_in-below-below-requires-clause-room : goal.cut_in-below-below-requires-clause-room
cut_in-below-below-requires-clause-room g t c = c.requires.at.room ∙ ap (λ p. span p c.args.level.depth) (sym c.payload.ensures)

pub cut_in-below-below-requires-clause-deep : goal.cut_in-below-below-requires-clause-deep
cut_in-below-below-requires-clause-deep g t c =
    let fits = subst (FitsPayload (g.S.Blocks.holdings.payload c.args.tx.now.store)) (ap node_of c.in-Inner.is) c.requires.at.fits in
    omega (arith, fits.0, ap (λ x. depth_in (node_of x)) c.in-Inner.is, c.requires.at.depth)

pub cut_in-cut_leaf-requires-clause-fits : goal.cut_in-cut_leaf-requires-clause-fits
cut_in-cut_leaf-requires-clause-fits g t c =
    let leaf_at : leaf c.deref.result.now ≡ node_of c.args.node.now = ap leaf c.deref.ensures.value ∙ ap node_of (sym c.in-Leaf.is) in
    subst (FitsPayload (g.S.Blocks.holdings.payload c.args.tx.now.store)) (sym leaf_at) c.requires.at.fits

pub cut_in-cut_children-requires : goal.cut_in-cut_children-requires
cut_in-cut_children-requires g t c κs within =
    let below = c.below-below.result in
    let items = c.deref-in-Inner.result.now in
    let is = ap (λ (xs : List BlockId). inner c.in-Inner.depth (ids_of xs)) c.deref-in-Inner.ensures.value ∙ ap node_of (sym c.in-Inner.is) in
    let fits = subst (FitsPayload (g.S.Blocks.holdings.payload c.args.tx.now.store)) (sym is) c.requires.at.fits in
    let level = c.below-below.ensures.room ∙ ap (λ p. span p below.depth) c.payload.ensures in
    let byte : c.args.level.depth < 256 = search rules in
    let deep : below.depth < 255 = omega (arith, byte, c.below-below.ensures.depth) in
    let few : length items ≤ fan_out (g.S.Blocks.holdings.payload c.args.tx.now.store) = omega (arith, fits.2, length-map items (λ (x : BlockId). x.0)) in
    let positive : 0 < c.args.level.depth = omega (arith, c.below-below.ensures.depth) in
    (search rules, (within, (c.requires.intact, (level, (c.requires.there, (deep, (few, c.requires.some positive)))))))
