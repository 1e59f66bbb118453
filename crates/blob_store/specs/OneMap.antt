-- A content stores one map of blobs at most.
use Rattle.std.proofs.Common.{◌≡◌, ◌⊎◌, ◌<◌, ◌≤◌, ℕ, zero, suc, true, List, [], ◌∷◌, take, drop, refl, sym, ◌∙◌, ap, subst, inl, inr, arith}
use Rattle.std.specs.Prelude.{Option, Some, None, is_some}
use Rattle.std.specs.FinMap.{get, same_map, slice_cmp-IsAntisymmetric, nat_cmp-IsAntisymmetric}
use Rattle.std.specs.Cmp.Lexicographic.{nat_list_cmp_total}
use Rattle.std.proofs.lemmas.Bool.{or_cases, or_right, or_left}
use Rattle.block_id.proofs.Options.{some_of}
use Rattle.data_tree.specs.data_nodes.Layout.{NodeText}
use Rattle.store_api.specs.Content.{Id, Content, same_id}
use Rattle.store_api.specs.Holdings.{has_id}
use Rattle.store_api.proofs.Rising.{same_id_is}
use Rattle.data_tree.specs.Trees.{IsTree, Holds, Forest, span}
use Rattle.data_tree.proofs.Ids.{in_left, in_right, in_one, same_self}
use Rattle.data_tree.proofs.OneTree.{same_tree}
use Rattle.blob_api.specs.BlobMap.{BlobMap}
use Rattle.data_tree.specs.Stored.{StoresBlobs}

-- ---- the trees inside a tree

-- a tree that stands inside another one, which is of this depth and has these ids
record Lower (payload : ℕ) (B : Content) (depth : ℕ) (ids : List Id) (id : Id) : Type 0 where
  height : ℕ
  bytes : List ℕ
  own : List Id
  lower : height < depth
  tree : IsTree payload B height id bytes own
  inside : (x : Id) → has_id own x ≡ true → has_id ids x ≡ true

-- one of the trees that stand side by side has the id
record Child (T : Id → List ℕ → List Id → Type 0) (ids : List Id) (x : Id) : Type 0 where
  root : Id
  bytes : List ℕ
  own : List Id
  tree : T root bytes own
  has : has_id own x ≡ true
  inside : (y : Id) → has_id own y ≡ true → has_id ids y ≡ true

child_with : (T : Id → List ℕ → List Id → Type 0) (size : ℕ) (children : List Id) (w : List ℕ) (ids : List Id) → Forest T size children w ids → (x : Id) → has_id ids x ≡ true → Child T ids x
child_with T size [] w ids f x h = let none : has_id [] x ≡ true = subst (λ xs. has_id xs x ≡ true) f.1 h in absurd (cc)
child_with T size (child ∷ children) w ids (some, (own, (rest, (first, (others, all))))) x h =
    elim (in_one own rest x (subst (λ xs. has_id xs x ≡ true) all h)) [
      | inl here ↦ record { root = child; bytes = take size w; own = own; tree = first; has = here; inside = λ y k. subst (λ xs. has_id xs y ≡ true) (sym all) (in_left own rest y k) }
      | inr later ↦
          let found = child_with T size children (drop size w) rest others x later.1 in
          record {
            root = found.root;
            bytes = found.bytes;
            own = found.own;
            tree = found.tree;
            has = found.has;
            inside = λ y k. subst (λ xs. has_id xs y ≡ true) (sym all) (in_right own rest y (found.inside y k));
          }
    ]

lower_of : (payload : ℕ) (B : Content) (depth : ℕ) (node : NodeText) (w : List ℕ) (below : List Id) → Holds payload B depth node w below → (x : Id) → has_id below x ≡ true → Lower payload B depth below x
lower_of payload B zero node w below h x e = let none : has_id [] x ≡ true = subst (λ xs. has_id xs x ≡ true) h.1 e in absurd (cc)
lower_of payload B (suc depth) node w below (children, (is, f)) x e =
    let child = child_with (IsTree payload B depth) (span payload depth) children w below f x e in
    elim (or_cases (same_id x child.root) (has_id child.tree.below x) (subst (λ xs. has_id xs x ≡ true) child.tree.all child.has)) [
      | inl same ↦ record {
        height = depth;
        bytes = child.bytes;
        own = child.own;
        lower = omega arith;
        tree = subst (λ r. IsTree payload B depth r child.bytes child.own) (sym (same_id_is x child.root same)) child.tree;
        inside = child.inside;
      }
      | inr later ↦
          let low = lower_of payload B depth child.tree.node child.bytes child.tree.below child.tree.holds x later in
          record {
            height = low.height;
            bytes = low.bytes;
            own = low.own;
            lower = omega (arith, low.lower);
            tree = low.tree;
            inside = λ y k. child.inside y (subst (λ xs. has_id xs y ≡ true) (sym child.tree.all) (or_right (same_id y child.root) (has_id child.tree.below y) (low.inside y k)));
          }
    ]

-- an id of a tree is its root, or the root of a lower tree inside it
root_or_lower : (payload : ℕ) (B : Content) (depth : ℕ) (id : Id) (w : List ℕ) (ids : List Id) → IsTree payload B depth id w ids → (x : Id) → has_id ids x ≡ true → (x ≡ id) ⊎ Lower payload B depth ids x
root_or_lower payload B depth id w ids n x h =
    elim (or_cases (same_id x id) (has_id n.below x) (subst (λ xs. has_id xs x ≡ true) n.all h)) [
      | inl same ↦ inl (same_id_is x id same)
      | inr later ↦
          let low = lower_of payload B depth n.node w n.below n.holds x later in
          inr (record {
            height = low.height;
            bytes = low.bytes;
            own = low.own;
            lower = low.lower;
            tree = low.tree;
            inside = λ y k. subst (λ xs. has_id xs y ≡ true) (sym n.all) (or_right (same_id y id) (has_id n.below y) (low.inside y k));
          })
    ]

-- ---- one map

pub root_in : (payload : ℕ) (B : Content) (depth : ℕ) (id : Id) (w : List ℕ) (ids : List Id) → IsTree payload B depth id w ids → has_id ids id ≡ true
root_in payload B depth id w ids n = subst (λ xs. has_id xs id ≡ true) (sym n.all) (or_left (same_id id id) (has_id n.below id) (same_self id))

module _ (payload : ℕ) (B : Content) (M N : Id → Option (List ℕ)) (s : StoresBlobs payload B M) (t : StoresBlobs payload B N) where
  -- a tree of the second map stands inside a tree of the first, which isn't lower
  record Inside (depth : ℕ) (ids : List Id) : Type 0 where
    root : Id
    bytes : List ℕ
    there : M root ≡ Some bytes
    deep : depth ≤ (s.blob root bytes there).depth
    inside : (x : Id) → has_id ids x ≡ true → has_id (s.ids root) x ≡ true

  inside_one : (id : Id) (w : List ℕ) (p : N id ≡ Some w) → Inside (t.blob id w p).depth (t.ids id)
  inside_one id w p =
      let own = t.blob id w p in
      let found = s.all id (ap is_some own.tree.there) in
      let bytes = some_of (M found.0) found.1.0 in
      let around = s.blob found.0 bytes.0 bytes.1 in
      elim (root_or_lower payload B around.depth found.0 bytes.0 (s.ids found.0) around.tree id found.1.1) [
        | inl is ↦
            let tree : IsTree payload B around.depth id bytes.0 (s.ids found.0) = subst (λ r. IsTree payload B around.depth r bytes.0 (s.ids found.0)) (sym is) around.tree in
            let same = same_tree payload B own.depth around.depth id w bytes.0 (t.ids id) (s.ids found.0) own.tree tree in
            record { root = found.0; bytes = bytes.0; there = bytes.1; deep = omega (arith, same.depth); inside = λ x h. subst (λ xs. has_id xs x ≡ true) same.ids h }
        | inr low ↦
            let same = same_tree payload B own.depth low.height id w low.bytes (t.ids id) low.own own.tree low.tree in
            record { root = found.0; bytes = bytes.0; there = bytes.1; deep = omega (arith, same.depth, low.lower); inside = λ x h. low.inside x (subst (λ xs. has_id xs x ≡ true) same.ids h) }
      ]

  has_both : (id : Id) (w : List ℕ) → M id ≡ Some w → N id ≡ Some w
  has_both id w p =
      let own = s.blob id w p in
      let found = t.all id (ap is_some own.tree.there) in
      let bytes = some_of (N found.0) found.1.0 in
      let around = t.blob found.0 bytes.0 bytes.1 in
      elim (root_or_lower payload B around.depth found.0 bytes.0 (t.ids found.0) around.tree id found.1.1) [
        | inl is ↦
            let tree : IsTree payload B around.depth id bytes.0 (t.ids found.0) = subst (λ r. IsTree payload B around.depth r bytes.0 (t.ids found.0)) (sym is) around.tree in
            let same = same_tree payload B own.depth around.depth id w bytes.0 (s.ids id) (t.ids found.0) own.tree tree in
            ap N is ∙ bytes.1 ∙ ap Some (sym same.bytes)
        | inr low ↦
            let same = same_tree payload B own.depth low.height id w low.bytes (s.ids id) low.own own.tree low.tree in
            let out = inside_one found.0 bytes.0 bytes.1 in
            let root : out.root ≡ id = s.apart out.root id id (ap is_some out.there) (ap is_some p) (out.inside id found.1.1) (root_in payload B own.depth id w (s.ids id) own.tree) in
            let outer = s.blob out.root out.bytes out.there in
            let tree : IsTree payload B outer.depth id out.bytes (s.ids out.root) = subst (λ r. IsTree payload B outer.depth r out.bytes (s.ids out.root)) root outer.tree in
            let again = same_tree payload B own.depth outer.depth id w out.bytes (s.ids id) (s.ids out.root) own.tree tree in
            absurd (omega (arith, same.depth, low.lower, out.deep, again.depth))
      ]

same_option : (o r : Option (List ℕ)) → ((w : List ℕ) → o ≡ Some w → r ≡ Some w) → ((w : List ℕ) → r ≡ Some w → o ≡ Some w) → o ≡ r
same_option None None f g = refl
same_option None (Some w) f g = g w refl
same_option (Some w) r f g = sym (f w refl)

-- two maps that a content stores are one
pub one_map : (payload : ℕ) (B : Content) (m n : BlobMap) → StoresBlobs payload B (get m) → StoresBlobs payload B (get n) → m ≡ n
one_map payload B m n s t = same_map nat_list_cmp_total (slice_cmp-IsAntisymmetric nat_cmp-IsAntisymmetric) m n
    (λ id. same_option (get m id) (get n id) (has_both payload B (get m) (get n) s t id) (has_both payload B (get n) (get m) t s id))
