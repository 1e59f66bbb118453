-- Trees that stand side by side, the last of them grown, with new ones behind it.
use Rattle.std.proofs.Common.{◌≡◌, ℕ, ◌+◌, ◌-◌, ◌*◌, ◌<◌, ◌≤◌, true, false, cond, List, [], ◌∷◌, ◌++◌, length, take, drop, get_or, refl, sym, ◌∙◌, ap, subst, inl, inr, arith, append_assoc, append-nil}
use Rattle.std.specs.Prelude.{Some, is_some, Result, Ok}
use Rattle.std.proofs.lemmas.Bool.{cases_lt, false_from_ne_true, or_left}
use Rattle.std.proofs.lemmas.List.{take-append-drop, length-map, length-take, length-drop, length-append, take-append-le, drop-append-le, take_all, drop_all, nil_from_length}
use Rattle.std.proofs.Math.Seq.{take-append-add}
use Rattle.block_id.specs.declared.fail.Fail.{Fail}
use Rattle.block_id.specs.declared.id.BlockId.{BlockId}
use Rattle.block_id.proofs.Options.{none_is}
use Rattle.data_tree.specs.store_outcome.Meanings.{Meanings, Lawful}
use Rattle.data_tree.specs.store_outcome.Outcome.{Outcome, first_, then_}
use Rattle.data_tree.specs.data_nodes.declared.node.Node.{Node}
use Rattle.data_tree.specs.data_nodes.Layout.{NodeText, leaf, inner, ids_of, node_of}
use Rattle.data_tree.specs.store_api.declared.tx.Tx.{Tx}
use Rattle.data_tree.specs.store_api.Content.{Id, Content, same_id}
use Rattle.data_tree.specs.store_api.Holdings.{Holdings, Stays, has_id}
use Rattle.data_tree.specs.Trees.{IsTree, Holds, Forest, span, NoDoubles, Replaces}
use Rattle.data_tree.specs.Needs.{SetsNode, HasTree, HasTrees, HasBelow, KeepsShape, BuiltTrees}
use Rattle.data_tree.proofs.Ids.{same_self, apart, alone-parts, other}
use Rattle.data_tree.proofs.Changes.{holds_frame, tree_frame, trees_frame}
use Rattle.data_tree.proofs.Making.{alone-join, tree_there, trees_there}
use Rattle.data_tree.proofs.Anew.{replaces_then}
use Rattle.data_tree.proofs.Forests.{below_on, below_of, holds-length}
use Rattle.data_tree.proofs.Gathering.{last_child}
use Rattle.data_tree.proofs.Levels.{span-some}
use Rattle.data_tree.specs.store_api.Txs.{tx_holdings, tx_meanings}
use Rattle.data_tree.proofs.Borders.{holds_leaf, holds_inner, Split, one_more, forest_split, replace_part, replaces_put}
use Rattle.data_growth.specs.Growing.{Grown, GrownTrees}

join_full : (T : Id → List ℕ → List Id → Type 0) (size : ℕ) (xs ys : List Id) (w v : List ℕ) (ids jds : List Id) → Forest T size xs w ids → length w ≡ length xs * size → Forest T size ys v jds → Forest T size (xs ++ ys) (w ++ v) (ids ++ jds)
join_full T size [] ys w v ids jds f full g = subst (λ a. Forest T size ys (a ++ v) (ids ++ jds)) (sym f.0) (subst (λ a. Forest T size ys v (a ++ jds)) (sym f.1) g)
join_full T size (x ∷ xs) ys w v ids jds (some, (own, (rest, (first, (others, all))))) full g =
    let long : size ≤ length w = omega (arith, full, one_more (length xs) size) in
    let left : length (drop size w) ≡ length xs * size = omega (arith, full, one_more (length xs) size, length-drop size w) in
    let more = join_full T size xs ys (drop size w) v rest jds others left g in (
      omega (arith, length-append w v, some),
      (
        own,
        (
          rest ++ jds,
          (
            subst (λ a. T x a own) (sym (take-append-le size w v long)) first,
            (subst (λ a. Forest T size (xs ++ ys) a (rest ++ jds)) (sym (drop-append-le size w v long)) more, ap (λ a. a ++ jds) all ∙ append_assoc own rest jds),
          ),
        ),
      ),
    )

none_left : (T : Id → List ℕ → List Id → Type 0) (size : ℕ) (ys : List Id) (v : List ℕ) (jds : List Id) → Forest T size ys v jds → length v ≡ 0 → (ys ≡ []) × (jds ≡ [])
none_left T size [] v jds g none = (refl, g.1)
none_left T size (y ∷ ys) v jds g none = absurd (omega (arith, g.0))

pub forest_join : (T : Id → List ℕ → List Id → Type 0) (size : ℕ) (xs ys : List Id) (w v : List ℕ) (ids jds : List Id) → Forest T size xs w ids → (0 < length v → length w ≡ length xs * size) → Forest T size ys v jds → Forest T size (xs ++ ys) (w ++ v) (ids ++ jds)
forest_join T size xs ys w v ids jds f full g = elim (cases_lt 0 (length v)) [
  | inl some ↦ join_full T size xs ys w v ids jds f (full some) g
  | inr le ↦
      let none : length v ≡ 0 = omega arith in
      let ends = none_left T size ys v jds g none in
      let bytes : w ≡ w ++ v = sym (append-nil w) ∙ ap (λ a. w ++ a) (sym (nil_from_length v none)) in
      let nodes : xs ≡ xs ++ ys = sym (append-nil xs) ∙ ap (λ a. xs ++ a) (sym ends.0) in
      let names : ids ≡ ids ++ jds = sym (append-nil ids) ∙ ap (λ a. ids ++ a) (sym ends.1) in
      subst (λ a. Forest T size (xs ++ ys) (w ++ v) a) names (subst (λ a. Forest T size (xs ++ ys) a ids) bytes (subst (λ a. Forest T size a w ids) nodes f))
]

pub replaces_same : (A : Content) (ids : List Id) → Replaces A A ids ids
replaces_same A ids = record { kept = λ q o n. refl; gone = λ q o n. let bad : true ≡ false = sym o ∙ n in absurd (cc); came = λ q n. inl n }

-- a block that isn't one of those replaced stays, and isn't one of the new ones
pub off_the_new : (A B : Content) (old new : List Id) → Replaces A B old new → (q : Id) → is_some (A q) ≡ true → has_id old q ≡ false → (has_id new q ≡ false) × (B q ≡ A q)
off_the_new A B old new r q there o =
    let n = false_from_ne_true (has_id new q) (λ h. elim (r.came q h) [ inl was ↦ let bad : false ≡ true = sym o ∙ was in cc | inr none ↦ none_is (A q) none there ]) in
    (n, r.kept q o n)

-- the last of the children
abbrev pub last_id : List BlockId → Id
last_id children = (get_or children (length children - 1) (record { 0 = [] })).0

pub last_alone : (children : List BlockId) → 0 < length children → (length children - 1 < length (ids_of children)) × (drop (length children - 1) (ids_of children) ≡ last_id children ∷ [])
last_alone children some =
    let whole : length children - 1 + 1 ≡ length children = omega arith in
    (omega (arith, whole, length-map children (λ (x : BlockId). x.0)), last_child children (length children - 1) (record { 0 = [] }) whole)

pub split_of : {S : Type 0} {H : Holdings S} {a : S} {low : ℕ} (children : List BlockId) → 0 < length children → 50 ≤ H.payload a → (n : HasTrees H a low (ids_of children))
    → Split (IsTree (H.payload a) (H.content a) low) (span (H.payload a) low) (take (length children - 1) (ids_of children)) (last_id children) n.bytes n.ids
split_of {H = H} {a = a} {low = low} children some least n =
    let at = last_alone children some in
    forest_split (IsTree (H.payload a) (H.content a) low) (span (H.payload a) low) (length children - 1) (ids_of children) (last_id children) n.bytes n.ids (span-some (H.payload a) low least) at.0 at.1 n.trees

abbrev pub split_tree : {S : Type 0} {H : Holdings S} {a : S} {low : ℕ} {children front : List Id} {last : Id} (n : HasTrees H a low children) → Split (IsTree (H.payload a) (H.content a) low) (span (H.payload a) low) front last n.bytes n.ids → HasTree H a low last
split_tree n s = record { bytes = s.w2; ids = s.own; told = n.told; tree = s.tree; alone = (alone-parts s.ids1 s.own (subst NoDoubles s.names n.alone)).1 }

-- the last child was loaded, and a call was made on what stands below its node
pub last_then : {B : Type 0} (M : Meanings B) (H0 : Holdings B) (laws : Lawful (tx_meanings M H0)) (a b d : Tx B) {low : ℕ} (children : List BlockId) (some : 0 < length children) (least : 50 ≤ H0.payload a.store) {child : Node} {U : Type 0} {r : Result U Fail} {Q : HasBelow (tx_holdings H0) b low (node_of child) → U → Type 0}
    → Outcome (tx_meanings M H0) (HasTree (tx_holdings H0) a low (last_id children)) a b (Ok child) (λ n node. node_of node ≡ n.tree.node) → (stays : Stays (tx_holdings H0) a b) → Outcome (tx_meanings M H0) (HasBelow (tx_holdings H0) b low (node_of child)) b d r Q
    → Outcome (tx_meanings M H0) (HasTrees (tx_holdings H0) a low (ids_of children)) a d r
    (λ n y. (is : node_of child ≡ (split_of {H = tx_holdings H0} {a = a} children some least n).tree.node) × Q (below_on stays (below_of (node_of child) (split_tree n (split_of {H = tx_holdings H0} {a = a} children some least n)) is)) y)
last_then M H0 laws a b d {low = low} children some least {child = child} loaded stays called =
    let H = tx_holdings H0 in
    let one = first_ {N = HasTrees H a low (ids_of children)} {R = λ n node. node_of node ≡ (split_of {H = H} {a = a} children some least n).tree.node} (λ n. split_tree n (split_of {H = H} {a = a} children some least n)) loaded (λ n y h. h) in
    then_ laws one (λ n is. below_on stays (below_of (node_of child) (split_tree n (split_of {H = H} {a = a} children some least n)) is)) called (λ n is y h. (is, h))

pub grown_trees : {S : Type 0} {H : Holdings S} {a b c d e : S} {low : ℕ} {children front : List Id} {last : Id} (all new : List Id) (node : NodeText) (t1 t2 : List ℕ) (n : HasTrees H a low children)
    → (s : Split (IsTree (H.payload a) (H.content a) low) (span (H.payload a) low) front last n.bytes n.ids) → all ≡ front ++ last ∷ new → Stays H a b → KeepsShape H b c → KeepsShape H c d → KeepsShape H d e → Grown H b c low node (s.w2 ++ t1) s.tree.below → SetsNode H c d last node
    → (0 < length t2 → length (s.w2 ++ t1) ≡ span (H.payload a) low) → BuiltTrees H d e low new t2 → GrownTrees H a e low all (n.bytes ++ (t1 ++ t2)) n.ids
grown_trees {H = H} {a = a} {b = b} {c = c} {d = d} {e = e} {low = low} {front = front} {last = last} all new node t1 t2 n s listed stays bc cd de g (text, (is, (sized, sets))) full built =
    let A = H.content a in
    let C = H.content c in
    let D = H.content d in
    let E = H.content e in
    let P = H.payload e in
    let size = span P low in
    let ce : H.payload c ≡ P = sym (de.payload ∙ cd.payload) in
    let ae : H.payload a ≡ P = sym (de.payload ∙ cd.payload ∙ bc.payload ∙ stays.payload) in
    let ab : H.content b ≡ A = λ i q. stays.content n.told q i in
    let below = s.tree.below in
    let grown = last ∷ g.ids in
    let w2 = s.w2 ++ t1 in
    let apart_ids : NoDoubles (s.ids1 ++ s.own) = subst NoDoubles s.names n.alone in
    let own_alone : NoDoubles (last ∷ below) = subst NoDoubles s.tree.all (alone-parts s.ids1 s.own apart_ids).1 in
    let one : Replaces A C below g.ids = subst (λ X. Replaces X C below g.ids) ab g.replaces in
    let free = off_the_new A C below g.ids one last (ap is_some s.tree.there) own_alone.0 in
    let two : Replaces A D (last ∷ below) grown = replaces_then A C D (last ∷ below) grown grown (replace_part A C (last ∷ []) below g.ids one) (replaces_put C D last text grown sets (or_left (same_id last last) (has_id g.ids last) (same_self last))) in
    let put : IsTree P D low last w2 grown = record {
      text = text;
      node = node;
      below = g.ids;
      there = sets last ∙ ap (λ x. cond x (Some text) (C last)) (same_self last);
      sized = sized ∙ ce;
      is = is;
      holds = subst (λ p. Holds p D low node w2 g.ids) ce (holds_frame (H.payload c) C D low node w2 g.ids (other C D last (Some text) g.ids sets free.0) g.holds);
      all = refl;
    } in
    let still : (q : Id) → has_id grown q ≡ true → (has_id built.ids q ≡ false) × (E q ≡ D q) = λ q h. off_the_new D E [] built.ids built.came q (tree_there P D low last w2 grown put q h) refl in
    let tree : IsTree P E low last w2 grown = tree_frame P D E low last w2 grown (λ q h. (still q h).1) put in
    let three : Replaces D E grown (grown ++ built.ids) = subst (λ xs. Replaces D E xs (grown ++ built.ids)) (append-nil grown) (replace_part D E grown [] built.ids built.came) in
    let whole : Replaces A E (last ∷ below) (grown ++ built.ids) = replaces_then A D E (last ∷ below) grown (grown ++ built.ids) two three in
    let away : (q : Id) → has_id s.ids1 q ≡ true → (has_id (grown ++ built.ids) q ≡ false) × (E q ≡ A q) =
    λ q h. off_the_new A E (last ∷ below) (grown ++ built.ids) whole q (trees_there (H.payload a) A low (span (H.payload a) low) front s.w1 s.ids1 s.before q h) (subst (λ xs. has_id xs q ≡ false) s.tree.all (apart s.ids1 s.own apart_ids q h)) in
    let before : Forest (IsTree P E low) size front s.w1 s.ids1 =
    trees_frame P A E low size front s.w1 s.ids1 (λ q h. (away q h).1) (subst (λ p. Forest (IsTree p A low) (span p low) front s.w1 s.ids1) ae s.before) in
    let fits : length w2 ≤ size = holds-length P D low node text w2 g.ids put.holds is put.sized in
    let single : Forest (IsTree P E low) size (last ∷ []) w2 grown = (
      omega (arith, length-append s.w2 t1, s.some),
      (grown, ([], (subst (λ xs. IsTree P E low last xs grown) (sym (take_all size w2 fits)) tree, ((drop_all size w2 fits, refl), sym (append-nil grown))))),
    ) in
    let behind = forest_join (IsTree P E low) size (last ∷ []) new w2 t2 grown built.ids single (λ some. omega (arith, full some, ap (λ p. span p low) ae)) built.trees in
    let joined = forest_join (IsTree P E low) size front (last ∷ new) s.w1 (w2 ++ t2) s.ids1 (grown ++ built.ids) before (λ some. s.full ∙ ap (λ p. length front * span p low) ae) behind in
    let bytes : s.w1 ++ (w2 ++ t2) ≡ n.bytes ++ (t1 ++ t2) =
    ap (λ xs. s.w1 ++ xs) (append_assoc s.w2 t1 t2) ∙ sym (append_assoc s.w1 s.w2 (t1 ++ t2)) ∙ ap (λ xs. xs ++ (t1 ++ t2)) (sym s.bytes) in
    let names : s.ids1 ++ (last ∷ below) ≡ n.ids = sym (s.names ∙ ap (λ xs. s.ids1 ++ xs) s.tree.all) in
    record {
      ids = s.ids1 ++ (grown ++ built.ids);
      trees = subst (λ cs. Forest (IsTree P E low) size cs (n.bytes ++ (t1 ++ t2)) (s.ids1 ++ (grown ++ built.ids))) (sym listed) (subst (λ w. Forest (IsTree P E low) size (front ++ last ∷ new) w (s.ids1 ++ (grown ++ built.ids))) bytes joined);
      alone = alone-join s.ids1 (grown ++ built.ids) (alone-parts s.ids1 s.own apart_ids).0 (alone-join grown built.ids (free.0, g.alone) built.alone (λ q h. (still q h).0)) (λ q h. (away q h).0);
      replaces = subst (λ xs. Replaces A E xs (s.ids1 ++ (grown ++ built.ids))) names (replace_part A E s.ids1 (last ∷ below) (grown ++ built.ids) whole);
    }

pub grown_leaf_is : {S : Type 0} {H : Holdings S} {a : S} {depth : ℕ} (node : NodeText) (old piece : List ℕ) → leaf old ≡ node → (n : HasBelow H a depth node) → old ≡ n.bytes → Grown H a a depth (leaf (old ++ piece)) (n.bytes ++ piece) n.ids
grown_leaf_is {H = H} {a = a} {depth = depth} node old piece at n is = record {
  ids = n.ids;
  holds = subst (λ w. Holds (H.payload a) (H.content a) depth (leaf (old ++ piece)) (w ++ piece) n.ids) is (holds_leaf (H.payload a) (H.content a) (H.content a) depth node n.bytes old (old ++ piece) n.ids n.holds at);
  alone = n.alone;
  replaces = replaces_same (H.content a) n.ids;
}

pub grown_inner_is : {S : Type 0} {H : Holdings S} {a b : S} (depth d low : ℕ) (children : List Id) (w : List ℕ) (old : List Id) → d ≡ depth → low + 1 ≡ depth → GrownTrees H a b low children w old → Grown H a b depth (inner d children) w old
grown_inner_is {H = H} {b = b} depth d low children w old level deep g = record {
  ids = g.ids;
  holds = holds_inner (H.payload b) (H.content b) depth d low (inner d children) w children g.ids refl level deep g.trees;
  alone = g.alone;
  replaces = g.replaces;
}

pub filled : (i k places f room x y z n : ℕ) → i + 1 ≡ k → k + places ≡ f → x ≡ i * room → y ≡ room → z ≡ places * room → n ≡ x + y + z → n ≡ f * room
filled i k places f room x y z n next all first last rest sum =
    let f_is : i + 1 + places ≡ f = omega arith in
    subst (λ m. n ≡ m * room) f_is (let spread : (i + 1 + places) * room ≡ i * room + room + places * room = omega arith in omega arith)

pub taken : (m k : ℕ) (w : List ℕ) → m ≤ length w → take (m + k) w ≡ take m w ++ take k (drop m w)
taken m k w le =
    let len : length (take m w) ≡ m = omega (arith, length-take m w) in
    ap (take (m + k)) (sym (take-append-drop m w)) ∙ ap (λ j. take (j + k) (take m w ++ drop m w)) (sym len) ∙ take-append-add (take m w) (drop m w) k
