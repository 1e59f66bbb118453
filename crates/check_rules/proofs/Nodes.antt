-- What stands at the nodes of a blob's tree.
use Rattle.std.proofs.Common.{◌≡◌, ℕ, zero, suc, ◌*◌, ◌<◌, ◌≤◌, ◌^◌, true, false, List, ◌∷◌, length, refl, sym, ◌∙◌, ap, subst, inl, inr, arith}
use Rattle.std.specs.Prelude.{Some, nat_lt, ◌||◌}
use Rattle.std.specs.List.{slice_get}
use Rattle.std.proofs.lemmas.Bool.{or_cases, or_left, or_right, ltb-true}
use Rattle.std.proofs.Math.Nat.{mul-le-mul_right}
use Rattle.check_walk.specs.Needs.{NodeNeed, top, under, fills, Serves}
use Rattle.check_walk.specs.data_nodes.Layout.{NodeText, leaf, inner, IsNode, FitsPayload, fan_out}
use Rattle.check_walk.specs.data_tree.Trees.{IsTree, Holds, Forest, IsDepth, NoDoubles, span, depth_in}
use Rattle.check_walk.proofs.data_tree_lemmas.Counting.{count_few}
use Rattle.check_walk.proofs.data_tree_lemmas.Forests.{forest-length, inner_is}
use Rattle.check_walk.proofs.data_tree_lemmas.Ids.{same_self}
use Rattle.check_walk.proofs.data_tree_lemmas.Loads.{holds-depth}
use Rattle.check_walk.specs.store_api.Content.{Id, Content, same_id}
use Rattle.check_walk.specs.store_api.Holdings.{has_id}
use Rattle.check_rules.proofs.OneTree.{node_is}
use Rattle.check_rules.proofs.Pieces.{piece_at, one_piece}

-- ---- numbers

span_some : (payload depth : ℕ) → 0 < fan_out payload → 0 < span payload depth
span_some payload zero some = omega (arith, some)
span_some payload (suc depth) some = let low = span_some payload depth some in let more : 1 * span payload depth ≤ fan_out payload * span payload depth = mul-le-mul_right (span payload depth) (let le : 1 ≤ fan_out payload = omega (arith, some) in le) in omega (arith, low, more)

-- ---- one node

-- as much as the need asks for
abbrev pub FitsNeed : ℕ → NodeNeed → ℕ → List ℕ → Type 0
FitsNeed payload top depth bytes = IsDepth payload depth (length bytes) × (length bytes ≤ 2 ^ 40)
FitsNeed payload (under d full) depth bytes = (depth ≡ d) × ((0 < length bytes) × (full ≡ true → length bytes ≡ span payload depth))

-- a tree that stands below an id, of which that is needed
pub record TreeAt (payload : ℕ) (B : Content) (need : NodeNeed) (id : Id) : Type 0 where
  pub depth : ℕ
  pub bytes : List ℕ
  pub own : List Id
  pub tree : IsTree payload B depth id bytes own
  pub fits : FitsNeed payload need depth bytes

module _ (payload : ℕ) (B : Content) where
  -- what holds of an inner node
  record Inner (id : Id) (depth d : ℕ) (children : List Id) (bytes : List ℕ) (below : List Id) : Type 0 where
    deep : depth ≡ suc d
    forest : Forest (IsTree payload B d) (span payload d) children bytes below
    few : length children ≤ fan_out payload
    some : 0 < length children

  inner_at : (id : Id) (depth d : ℕ) (bytes : List ℕ) (own : List Id) (t : IsTree payload B depth id bytes own) (text : List ℕ) (children : List Id) → B id ≡ Some text → IsNode text (inner (suc d) children) → Inner id depth d children bytes t.below
  inner_at id depth d bytes own t text children there is =
      let node : t.node ≡ inner (suc d) children = node_is payload B (Holds payload B depth) id bytes own t text (inner (suc d) children) there is in
      let deep : depth ≡ suc d = sym (holds-depth payload B depth t.node bytes t.below t.holds) ∙ ap depth_in node in
      let long : length text ≡ payload = let both : Some t.text ≡ Some text = sym t.there ∙ there in let same : t.text ≡ text = cc in ap length (sym same) ∙ t.sized in
      let fits : FitsPayload payload (inner (suc d) children) = subst (λ n. FitsPayload n (inner (suc d) children)) long is.fits in
      record {
        deep = deep;
        forest = inner_is payload B depth (suc d) d t.node bytes children t.below t.holds (sym node) (omega (arith, deep));
        few = fits.2;
        some = fits.1;
      }

  -- the node is what is needed
  pub serves_at : (need : NodeNeed) (id : Id) (t : TreeAt payload B need id) (text : List ℕ) → B id ≡ Some text → Serves payload need text
  serves_at need id t text there =
      let both : Some t.tree.text ≡ Some text = sym t.tree.there ∙ there in
      let same : t.tree.text ≡ text = cc in
      subst (Serves payload need) same (by need t.depth t.tree.node t.bytes t.tree.below t.tree.text t.tree.is t.tree.sized t.tree.holds t.fits)
    where
      full_count : (d count : ℕ) (w : List ℕ) → 0 < count → count ≤ fan_out payload → length w ≤ count * span payload d → length w ≡ fan_out payload * span payload d → count ≡ fan_out payload
      full_count d count w some few most whole =
          let wide = span_some payload d (omega (arith, some, few)) in
          let least = count_few (fan_out payload) (span payload d) (length w) count (omega (arith, wide, whole)) most in
          omega (arith, least, few)

      by : (need : NodeNeed) (depth : ℕ) (node : NodeText) (w : List ℕ) (below : List Id) (text : List ℕ) → IsNode text node → length text ≡ payload → Holds payload B depth node w below → FitsNeed payload need depth w → Serves payload need text
      by top zero node w below text is sized (leaf_is, none) fits = record { node = leaf w; is = subst (IsNode text) leaf_is is; serves = tt }
      by top (suc depth) node w below text is sized (children, (inner_is, forest)) fits =
          let most = forest-length (IsTree payload B depth) (span payload depth) children w below forest in
          record {
            node = inner (suc depth) children;
            is = subst (IsNode text) inner_is is;
            serves = (count_few 2 (span payload depth) (length w) (length children) (omega (arith, fits.0.0)) most, (length w, (fits.1, fits.0)));
          }
      by (under d full) zero node w below text is sized (leaf_is, none) fits = record {
        node = leaf w;
        is = subst (IsNode text) leaf_is is;
        serves = record { deep = fits.0; some = fits.1.0; whole = fits.1.1 };
      }
      by (under d full) (suc depth) node w below text is sized (children, (inner_is, forest)) fits =
          let most = forest-length (IsTree payload B depth) (span payload depth) children w below forest in
          let listed : FitsPayload payload (inner (suc depth) children) = subst (FitsPayload payload) inner_is (subst (λ n. FitsPayload n node) sized is.fits) in
          record {
            node = inner (suc depth) children;
            is = subst (IsNode text) inner_is is;
            serves = record { deep = fits.0; some = listed.1; whole = λ e. full_count depth (length children) w listed.1 listed.2 most (fits.1.1 e) };
          }

  -- ---- one child

  -- a tree whose ids are among these
  pub record Below (need : NodeNeed) (x : Id) (own : List Id) : Type 0 where
    pub at : TreeAt payload B need x
    pub inside : (y : Id) → has_id at.own y ≡ true → has_id own y ≡ true

  child_full : (need : NodeNeed) (d : ℕ) (children : List Id) (w : List ℕ) → fills need ≡ true → FitsNeed payload need (suc d) w → length children ≤ fan_out payload → length children * span payload d ≤ length w
  child_full top d children w e fits few = absurd (cc)
  child_full (under k full) d children w e fits few =
      let most : length children * span payload d ≤ fan_out payload * span payload d = mul-le-mul_right (span payload d) few in
      let whole = fits.1.1 e in
      omega (arith, most, whole)

  pub child_at : (need : NodeNeed) (id : Id) (t : TreeAt payload B need id) (text : List ℕ) (d : ℕ) (children : List Id) (i : ℕ) (child : Id) → B id ≡ Some text → IsNode text (inner (suc d) children) → slice_get children i ≡ Some child
      → Below (under d (nat_lt (suc i) (length children) || fills need)) child t.tree.below
  child_at need id t text d children i child there is at =
      let n = inner_at id t.depth d t.bytes t.own t.tree text children there is in
      let p = piece_at (IsTree payload B d) (span payload d) children t.bytes t.tree.below n.forest i child at in
      let wide = span_some payload d (omega (arith, n.some, n.few)) in
      let fits : FitsNeed payload need (suc d) t.bytes = subst (λ k. FitsNeed payload need k t.bytes) n.deep t.fits in
      record {
        at = record {
          depth = d;
          bytes = p.bytes;
          own = p.own;
          tree = p.tree;
          fits = (
            refl,
            (
              p.some wide,
              λ e. elim (or_cases (nat_lt (suc i) (length children)) (fills need) e) [
                | inl before ↦ p.whole (ltb-true (suc i) (length children) before)
                | inr last ↦ p.last (child_full need d children t.bytes last fits n.few)
              ],
            ),
          );
        };
        inside = p.inside;
      }

  -- no id stands twice in a child's tree, where none does in the node's
  pub child_alone : (need : NodeNeed) (id : Id) (t : TreeAt payload B need id) (text : List ℕ) (d : ℕ) (children : List Id) (i : ℕ) (child : Id) (there : B id ≡ Some text) (is : IsNode text (inner (suc d) children)) (at : slice_get children i ≡ Some child)
      → NoDoubles t.tree.below → NoDoubles (child_at need id t text d children i child there is at).at.own
  unfolding child_at
  child_alone need id t text d children i child there is at alone =
      (piece_at (IsTree payload B d) (span payload d) children t.bytes t.tree.below (inner_at id t.depth d t.bytes t.own t.tree text children there is).forest i child at).alone alone

  -- then an id is in the tree of one child alone
  pub one_child : (need : NodeNeed) (id : Id) (t : TreeAt payload B need id) (text : List ℕ) (d : ℕ) (children : List Id) (i j : ℕ) (c e : Id) (there : B id ≡ Some text) (is : IsNode text (inner (suc d) children)) (at : slice_get children i ≡ Some c) (on : slice_get children j ≡ Some e)
      → NoDoubles t.tree.below → (x : Id) → has_id (child_at need id t text d children i c there is at).at.own x ≡ true → has_id (child_at need id t text d children j e there is on).at.own x ≡ true → i ≡ j
  unfolding child_at
  one_child need id t text d children i j c e there is at on alone x h k =
      one_piece (IsTree payload B d) (span payload d) children t.bytes t.tree.below (inner_at id t.depth d t.bytes t.own t.tree text children there is).forest alone i j c e at on x h k

  pub in_own : (need : NodeNeed) (id : Id) (t : TreeAt payload B need id) (y : Id) → has_id t.tree.below y ≡ true → has_id t.own y ≡ true
  in_own need id t y h = subst (λ xs. has_id xs y ≡ true) (sym t.tree.all) (or_right (same_id y id) (has_id t.tree.below y) h)

  pub root_has : (need : NodeNeed) (id : Id) (t : TreeAt payload B need id) → has_id t.own id ≡ true
  root_has need id t = subst (λ xs. has_id xs id ≡ true) (sym t.tree.all) (or_left (same_id id id) (has_id t.tree.below id) (same_self id))

  -- the root isn't below itself
  pub root_apart : (need : NodeNeed) (id : Id) (t : TreeAt payload B need id) → NoDoubles t.own → (has_id t.tree.below id ≡ false) × NoDoubles t.tree.below
  root_apart need id t alone = let both : NoDoubles (id ∷ t.tree.below) = subst NoDoubles t.tree.all alone in both
