use Rattle.std.proofs.Common.{◌≡◌, ◌≤◌, ◌<◌, ◌-◌, ◌∷◌, [], List, sym, ◌∙◌, ap, subst, take, drop, length, get_or, arith, rules}
use Rattle.std.specs.Prelude.{is_some, None}
use Rattle.std.proofs.lemmas.List.{drop-map, length-drop, length-map, take_all}
use Rattle.block_id.specs.declared.id.BlockId.{BlockId}
use Rattle.data_tree.specs.store_outcome.Outcome.{Outcome, first_, then_, failed_, passed}
use Rattle.data_tree.specs.data_nodes.Layout.{node_of, ids_of, inner, FitsPayload}
use Rattle.data_tree.specs.Needs.{HasTrees, Sets}
use Rattle.data_tree.specs.Trees.{IsDepth, IsTree, Replaces, span}
use Rattle.data_tree.proofs.Forests.{below_of, below_on, children_of}
use Rattle.data_tree.proofs.Gathering.{next_child}
use Rattle.data_tree.proofs.Levels.{span-some}
use Rattle.data_tree.specs.store_api.Txs.{tx_holdings, tx_laws, tx_meanings, tx_steady}
use Rattle.data_tree.proofs.Puts.{below_same, keeps_below, keeps_same}
use Rattle.data_tree.proofs.Leaving.{drops_same, drops_then}
use Rattle.data_cuts.specs.Cutting.{OnlyBorder, IsCut, MayCutNode, MayCutTrees}
use Rattle.data_cuts.proofs.Cuts.{cut_at, cut_fits, lower_apart, lower_first, lower_is, lower_only, lower_rest, lower_there, room_enough}
use Rattle.data_cuts.proofs.Drops.{drops_kept, drops_loaded}
use Rattle.data_cuts.proofs.cutting.+lower.Goals as goal

pub cut_root-returns-in-Inner-clause-outcome : goal.cut_root-returns-in-Inner-clause-outcome
cut_root-returns-in-Inner-clause-outcome g t c =
    let H = tx_holdings g.S.Blocks.holdings in
    let a = c.args.tx.now in
    let node = node_of c.args.node.now in
    let low = c.below-below.result.depth in
    let children = ids_of c.deref.result.now in
    let is = ap (λ (xs : List BlockId). inner c.in-Inner.depth (ids_of xs)) c.deref.ensures.value ∙ ap node_of (sym c.in-Inner.is) in
    first_ {N = MayCutNode H a c.args.level.depth c.args.root.now.0 node c.args.n} (λ m. record { trees = children_of node c.in-Inner.depth low children is c.below-below.ensures.depth m.below; apart = m.apart; fits = m.fits }) c.lower.ensures.outcome (λ m y r. r)

pub lower-returns-in-Err-clause-outcome : goal.lower-returns-in-Err-clause-outcome
lower-returns-in-Err-clause-outcome g t c =
    let M = g.S.Blocks.meanings in
    let H0 = g.S.Blocks.holdings in
    let H = tx_holdings H0 in
    let laws = tx_laws M H0 g.met.S.Blocks.lawful in
    let steady = tx_steady M H0 g.met.S.Blocks.steady in
    let a = c.args.tx.now in
    let b = c.load_at.new.tx in
    let root = c.args.root.now.0 in
    let low = c.args.level.depth in
    let depth = c.args.depth in
    let n = c.args.n in
    let children = c.args.children.now in
    let ids = ids_of children in
    let first : BlockId = get_or children 0 (record { 0 = [] }) in
    let some : 0 < length ids = omega (arith, c.requires.some, length-map children (λ (x : BlockId). x.0)) in
    let is : ids ≡ first.0 ∷ drop 1 ids = next_child children 0 (record { 0 = [] }) c.requires.some in
    let least = steady.at_least a c.requires.intact in
    let positive = span-some (H.payload a) low least in
    let s = λ (m : MayCutTrees H a low root ids n). cut_at (IsTree (H.payload a) (H.content a) low) (span (H.payload a) low) 0 ids first.0 m.trees.bytes m.trees.ids positive some is m.trees.trees in
    let one = first_ {N = MayCutTrees H a low root ids n} {R = λ m y. Unit {0}} (λ m. lower_first m (s m)) c.in-Err.ensures.outcome (λ m y h. tt) in
    passed one

pub lower-returns-in-Err-cut_root-clause-outcome : goal.lower-returns-in-Err-cut_root-clause-outcome
lower-returns-in-Err-cut_root-clause-outcome g t c =
    let M = g.S.Blocks.meanings in
    let H0 = g.S.Blocks.holdings in
    let H = tx_holdings H0 in
    let laws = tx_laws M H0 g.met.S.Blocks.lawful in
    let steady = tx_steady M H0 g.met.S.Blocks.steady in
    let a = c.args.tx.now in
    let b = c.load_at.new.tx in
    let root = c.args.root.now.0 in
    let low = c.args.level.depth in
    let depth = c.args.depth in
    let n = c.args.n in
    let children = c.args.children.now in
    let ids = ids_of children in
    let first : BlockId = get_or children 0 (record { 0 = [] }) in
    let some : 0 < length ids = omega (arith, c.requires.some, length-map children (λ (x : BlockId). x.0)) in
    let is : ids ≡ first.0 ∷ drop 1 ids = next_child children 0 (record { 0 = [] }) c.requires.some in
    let least = steady.at_least a c.requires.intact in
    let positive = span-some (H.payload a) low least in
    let s = λ (m : MayCutTrees H a low root ids n). cut_at (IsTree (H.payload a) (H.content a) low) (span (H.payload a) low) 0 ids first.0 m.trees.bytes m.trees.ids positive some is m.trees.trees in
    let one = first_ {N = MayCutTrees H a low root ids n} {R = λ m y. node_of y ≡ (s m).tree.node} (λ m. lower_first m (s m)) c.in-Ok.ensures.outcome (λ m y h. h) in
    let d = c.cut_root.new.tx in
    let stays = c.load_at.ensures.stays in
    let node = node_of c.in-Ok.child in
    let small = room_enough (H.payload a) depth low n least c.requires.low c.requires.deep in
    let fits = λ (m : MayCutTrees H a low root ids n). cut_fits n n (omega arith) small m.fits (s m) in
    let need : (m : MayCutTrees H a low root ids n) → node ≡ (s m).tree.node → MayCutNode H b low root node n = λ m at. record { below = below_on stays (below_of node (lower_first m (s m)) at); apart = (lower_apart m (s m)).top; fits = fits m } in
    failed_ laws one need c.in-Err-cut_root.ensures.outcome

pub lower-returns-in-Err-remove_loaded-clause-outcome : goal.lower-returns-in-Err-remove_loaded-clause-outcome
lower-returns-in-Err-remove_loaded-clause-outcome g t c =
    let M = g.S.Blocks.meanings in
    let H0 = g.S.Blocks.holdings in
    let H = tx_holdings H0 in
    let laws = tx_laws M H0 g.met.S.Blocks.lawful in
    let steady = tx_steady M H0 g.met.S.Blocks.steady in
    let a = c.args.tx.now in
    let b = c.load_at.new.tx in
    let root = c.args.root.now.0 in
    let low = c.args.level.depth in
    let depth = c.args.depth in
    let n = c.args.n in
    let children = c.args.children.now in
    let ids = ids_of children in
    let first : BlockId = get_or children 0 (record { 0 = [] }) in
    let some : 0 < length ids = omega (arith, c.requires.some, length-map children (λ (x : BlockId). x.0)) in
    let is : ids ≡ first.0 ∷ drop 1 ids = next_child children 0 (record { 0 = [] }) c.requires.some in
    let least = steady.at_least a c.requires.intact in
    let positive = span-some (H.payload a) low least in
    let s = λ (m : MayCutTrees H a low root ids n). cut_at (IsTree (H.payload a) (H.content a) low) (span (H.payload a) low) 0 ids first.0 m.trees.bytes m.trees.ids positive some is m.trees.trees in
    let one = first_ {N = MayCutTrees H a low root ids n} {R = λ m y. node_of y ≡ (s m).tree.node} (λ m. lower_first m (s m)) c.in-Ok.ensures.outcome (λ m y h. h) in
    let d = c.cut_root.new.tx in
    let stays = c.load_at.ensures.stays in
    let node = node_of c.in-Ok.child in
    let small = room_enough (H.payload a) depth low n least c.requires.low c.requires.deep in
    let fits = λ (m : MayCutTrees H a low root ids n). cut_fits n n (omega arith) small m.fits (s m) in
    let need : (m : MayCutTrees H a low root ids n) → node ≡ (s m).tree.node → MayCutNode H b low root node n = λ m at. record { below = below_on stays (below_of node (lower_first m (s m)) at); apart = (lower_apart m (s m)).top; fits = fits m } in
    let two = then_ laws {R = λ m y. IsCut H b d depth root (take n (s m).w2) (root ∷ (s m).tree.below) × OnlyBorder (H.content d) depth root b.overlay d.overlay} one need c.in-Ok-cut_root.ensures.outcome (λ m at y r. r) in
    let there = λ (m : MayCutTrees H a low root ids n) (r : IsCut H b d depth root (take n (s m).w2) (root ∷ (s m).tree.below) × OnlyBorder (H.content d) depth root b.overlay d.overlay). lower_there (lower_apart m (s m)) r.0 (ap is_some (stays.content m.trees.told first.0 ∙ (s m).tree.there)) in
    failed_ laws two there c.in-Err-remove_loaded.ensures.outcome

pub lower-returns-clause-outcome : goal.lower-returns-clause-outcome
lower-returns-clause-outcome g t c =
    let M = g.S.Blocks.meanings in
    let H0 = g.S.Blocks.holdings in
    let H = tx_holdings H0 in
    let laws = tx_laws M H0 g.met.S.Blocks.lawful in
    let steady = tx_steady M H0 g.met.S.Blocks.steady in
    let a = c.args.tx.now in
    let b = c.load_at.new.tx in
    let root = c.args.root.now.0 in
    let low = c.args.level.depth in
    let depth = c.args.depth in
    let n = c.args.n in
    let children = c.args.children.now in
    let ids = ids_of children in
    let first : BlockId = get_or children 0 (record { 0 = [] }) in
    let some : 0 < length ids = omega (arith, c.requires.some, length-map children (λ (x : BlockId). x.0)) in
    let is : ids ≡ first.0 ∷ drop 1 ids = next_child children 0 (record { 0 = [] }) c.requires.some in
    let least = steady.at_least a c.requires.intact in
    let positive = span-some (H.payload a) low least in
    let s = λ (m : MayCutTrees H a low root ids n). cut_at (IsTree (H.payload a) (H.content a) low) (span (H.payload a) low) 0 ids first.0 m.trees.bytes m.trees.ids positive some is m.trees.trees in
    let one = first_ {N = MayCutTrees H a low root ids n} {R = λ m y. node_of y ≡ (s m).tree.node} (λ m. lower_first m (s m)) c.in-Ok.ensures.outcome (λ m y h. h) in
    let d = c.cut_root.new.tx in
    let stays = c.load_at.ensures.stays in
    let node = node_of c.in-Ok.child in
    let small = room_enough (H.payload a) depth low n least c.requires.low c.requires.deep in
    let fits = λ (m : MayCutTrees H a low root ids n). cut_fits n n (omega arith) small m.fits (s m) in
    let need : (m : MayCutTrees H a low root ids n) → node ≡ (s m).tree.node → MayCutNode H b low root node n = λ m at. record { below = below_on stays (below_of node (lower_first m (s m)) at); apart = (lower_apart m (s m)).top; fits = fits m } in
    let e = c.remove_loaded.new.tx in
    let two = then_ laws {R = λ m y. IsCut H b d depth root (take n (s m).w2) (root ∷ (s m).tree.below) × OnlyBorder (H.content d) depth root b.overlay d.overlay} one need c.in-Ok-cut_root.ensures.outcome (λ m at y r. r) in
    let there = λ (m : MayCutTrees H a low root ids n) (r : IsCut H b d depth root (take n (s m).w2) (root ∷ (s m).tree.below) × OnlyBorder (H.content d) depth root b.overlay d.overlay). lower_there (lower_apart m (s m)) r.0 (ap is_some (stays.content m.trees.told first.0 ∙ (s m).tree.there)) in
    let f = c.drop_children.new.tx in
    let bd = keeps_below H0 b d c.cut_root.ensures.drops.below in
    let de = keeps_same H0 d e c.remove_loaded.ensures.store in
    let ef = keeps_below H0 e f c.drop_children.ensures.below in
    let rest = take (length children - 1) (drop 1 children) in
    let cut : ids_of rest ≡ drop 1 ids = ap ids_of (take_all (length children - 1) (drop 1 children) (omega (arith, length-drop 1 children))) ∙ sym (drop-map (λ (x : BlockId). x.0) 1 children) in
    let dropped = subst (λ cs. Outcome (tx_meanings M H0) (HasTrees H e low cs) e f c.drop_children.result (λ k _. Replaces (H.content e) (H.content f) k.ids [])) cut c.drop_children.ensures.outcome in
    let three = then_ laws {R = λ m y. (IsCut H b d depth root (take n (s m).w2) (root ∷ (s m).tree.below) × OnlyBorder (H.content d) depth root b.overlay d.overlay) × Sets (H.content d) (H.content e) first.0 None} two there c.in-Ok-remove_loaded.ensures.outcome (λ m r y sets. (r, sets)) in
    then_ laws three (λ m p. lower_rest m (s m) stays bd de p.0.0 p.1) dropped
    (λ m p y gone.
    let whole = lower_is {H = H} {a = a} {b = b} {c = d} {d = e} {e = f} m (s m) (fits m) least stays bd de ef p.0.0 p.1 gone in
    (whole.0, lower_only H0 a b d e f depth root c.load_at.ensures.leaves.overlay (below_same H0 d e c.remove_loaded.ensures.store) c.drop_children.ensures.below p.0.1 c.remove_loaded.ensures.kept c.drop_children.ensures.kept whole.1))

pub lower-returns-in-Err-clause-drops : goal.lower-returns-in-Err-clause-drops
lower-returns-in-Err-clause-drops g t c = drops_loaded c.load_at.ensures.leaves c.load_at.ensures.stays

pub lower-returns-in-Err-cut_root-clause-drops : goal.lower-returns-in-Err-cut_root-clause-drops
lower-returns-in-Err-cut_root-clause-drops g t c = drops_then (drops_loaded c.load_at.ensures.leaves c.load_at.ensures.stays) c.cut_root.ensures.drops

pub lower-returns-in-Err-remove_loaded-clause-drops : goal.lower-returns-in-Err-remove_loaded-clause-drops
lower-returns-in-Err-remove_loaded-clause-drops g t c =
    let H = g.S.Blocks.holdings in
    let cut = drops_then (drops_loaded c.load_at.ensures.leaves c.load_at.ensures.stays) c.cut_root.ensures.drops in
    drops_then cut (drops_kept H c.cut_root.new.tx c.remove_loaded.new.tx (below_same H c.cut_root.new.tx c.remove_loaded.new.tx c.remove_loaded.ensures.store) c.remove_loaded.ensures.kept)

pub lower-returns-clause-drops : goal.lower-returns-clause-drops
lower-returns-clause-drops g t c =
    let H = g.S.Blocks.holdings in
    let cut = drops_then (drops_loaded c.load_at.ensures.leaves c.load_at.ensures.stays) c.cut_root.ensures.drops in
    drops_then (drops_then cut (drops_kept H c.cut_root.new.tx c.remove_loaded.new.tx (below_same H c.cut_root.new.tx c.remove_loaded.new.tx c.remove_loaded.ensures.store) c.remove_loaded.ensures.kept)) (drops_kept H c.remove_loaded.new.tx c.drop_children.new.tx c.drop_children.ensures.below c.drop_children.ensures.kept)

pub cut_root-returns-in-Leaf-clause-drops : goal.cut_root-returns-in-Leaf-clause-drops
cut_root-returns-in-Leaf-clause-drops g t c = drops_same g.S.Blocks.holdings c.args.tx.now

pub cut_root-below-below-requires-clause-room : goal.cut_root-below-below-requires-clause-room
cut_root-below-below-requires-clause-room g t c = c.requires.at.room ∙ ap (λ p. span p c.args.level.depth) (sym c.payload.ensures)

pub lower-cut_root-requires : goal.lower-cut_root-requires
lower-cut_root-requires g t c κs within =
    let same = sym c.load_at.ensures.stays.payload in
    let room = c.requires.level ∙ ap (λ p. span p c.args.level.depth) same in
    let fits = subst (λ p. FitsPayload p (node_of c.in-Ok.child)) same c.in-Ok.ensures.fits in
    let there = c.load_at.ensures.stays.ids c.args.root.now.0 ∙ c.requires.there in
    let deep = subst (λ p. IsDepth p c.args.depth c.args.n) same c.requires.deep in
    (search rules, (within, (c.in-Ok.ensures.outcome.intact, (record { fits = fits; depth = c.in-Ok.ensures.depth; room = room }, (there, (c.requires.low, deep))))))

pub cut_root-lower-requires : goal.cut_root-lower-requires
cut_root-lower-requires g t c κs within =
    let below = c.below-below.result in
    let items = c.deref.result.now in
    let is = ap (λ (xs : List BlockId). inner c.in-Inner.depth (ids_of xs)) c.deref.ensures.value ∙ ap node_of (sym c.in-Inner.is) in
    let fits = subst (FitsPayload (g.S.Blocks.holdings.payload c.args.tx.now.store)) (sym is) c.requires.at.fits in
    let level = c.below-below.ensures.room ∙ ap (λ p. span p below.depth) c.payload.ensures in
    let low : c.args.depth ≤ below.depth = omega (arith, c.requires.low, c.below-below.ensures.depth) in
    let some : 0 < length items = omega (arith, fits.1, length-map items (λ (x : BlockId). x.0)) in
    (search rules, (within, (c.requires.intact, (level, (c.requires.there, (low, (some, c.requires.deep)))))))
