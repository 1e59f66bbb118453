-- One blob of a forest changes, comes or goes, or the paths of all get other names.
use Rattle.std.specs.Prelude.{◌≡◌, ℕ, true, cond, List, is_some}
use Rattle.std.proofs.Common.{refl, sym, ◌∙◌, ap, subst, ◌⊎◌, inl, inr}
use Rattle.std.specs.FinMap.{get, insert, remove, get-insert, get-remove}
use Rattle.std.specs.declared.option.Option.TheVariants.{None, Some}
use Rattle.std.proofs.lemmas.Option.{same_Some, none-some}
use Rattle.block_id.proofs.Options.{none_is, some_of}
use Rattle.fs_blobs.specs.blob_api.BlobMap.{Id, BlobMap}
use Rattle.fs_model.specs.declared.attr.Kind.{Kind}
use Rattle.fs_model.specs.declared.attr.Kind.TheVariants.{Directory, File, Link}
use Rattle.fs_model.specs.Tree.{Path, Row, Tree}
use Rattle.fs_model.proofs.TreeLemmas.{name_total, name_same, name_apart, name_split, path_split}
use Rattle.fs_blobs.specs.Headers.{blob}
use Rattle.path_walks.specs.Nodes.{Look, IsBodyOf, IsBlobOf, IsForest}

-- ---- maps of blobs

pub map_apart : (m : BlobMap) (id : Id) (v : List ℕ) (other : Id) → (other ≡ id → ⊥) → get (insert m id v) other ≡ get m other
map_apart m id v other differ = get-insert name_total m id v other ∙ ap (λ b. cond b (Some v) (get m other)) (name_apart other id differ)

pub map_gone : (m : BlobMap) (id : Id) → get (remove m id) id ≡ None
map_gone m id = get-remove name_total m id id ∙ ap (λ b. cond b None (get m id)) (name_same id)

pub map_gone_apart : (m : BlobMap) (id other : Id) → (other ≡ id → ⊥) → get (remove m id) other ≡ get m other
map_gone_apart m id other differ = get-remove name_total m id other ∙ ap (λ b. cond b None (get m other)) (name_apart other id differ)

-- ---- nodes

content_as : (kind : Kind) (bytes bytes2 : List ℕ) (look look2 : Look) (body : List ℕ) → bytes ≡ bytes2 → ((n : List ℕ) → look n ≡ look2 n) → IsBodyOf kind bytes look body → IsBodyOf kind bytes2 look2 body
content_as Directory bytes bytes2 look look2 body e f h = record { listing = h.listing; is = h.is; entries = λ n. h.entries n ∙ f n }
content_as File bytes bytes2 look look2 body e f h = h ∙ e
content_as Link bytes bytes2 look look2 body e f h = h ∙ e

-- the same node of another map, with equal parts
pub node_as : (m m2 : BlobMap) (id id2 : Id) (kind kind2 : Kind) (parent parent2 : Id) (bytes bytes2 : List ℕ) (look look2 : Look) → IsBlobOf m id kind parent bytes look
    → get m2 id2 ≡ get m id → kind ≡ kind2 → parent ≡ parent2 → bytes ≡ bytes2 → ((n : List ℕ) → look n ≡ look2 n) → IsBlobOf m2 id2 kind2 parent2 bytes2 look2
node_as m m2 id id2 kind kind2 parent parent2 bytes bytes2 look look2 x there k p b f =
    subst (λ z. IsBlobOf m2 id2 z parent2 bytes2 look2) k (record {
      body = x.body;
      there = there ∙ (x.there ∙ ap (λ z. Some (blob kind z x.body)) p);
      content = content_as kind bytes bytes2 look look2 x.body b f x.content;
    })

-- ---- forests

module _ (m : BlobMap) (t : Tree) (ids : Path → Id) (parents : Path → Id) (looks : Path → Look) (forest : IsForest m t ids parents looks) where
  -- another blob stands at the id of the path d
  pub blob_set : (d : Path) → is_some (get t d) ≡ true → (v : List ℕ) (t2 : Tree) (row2 : Row) (parents2 : Path → Id) (looks2 : Path → Look)
      → get t2 d ≡ Some row2 → ((p : Path) → (p ≡ d → ⊥) → get t2 p ≡ get t p)
      → IsBlobOf (insert m (ids d) v) (ids d) row2.attr.kind (parents2 d) row2.bytes (looks2 d)
      → ((p : Path) → is_some (get t p) ≡ true → (p ≡ d → ⊥) → parents p ≡ parents2 p) → ((p : Path) → is_some (get t p) ≡ true → (p ≡ d → ⊥) → (n : List ℕ) → looks p n ≡ looks2 p n)
      → IsForest (insert m (ids d) v) t2 ids parents2 looks2
  blob_set d old v t2 row2 parents2 looks2 here others node same_parents same_looks = record {
    nodes = λ p row there. elim (path_split p d) [
      | inl e ↦
          let same : row2 ≡ row = same_Some _ _ (sym here ∙ (ap (get t2) (sym e) ∙ there)) in
          subst (λ z. IsBlobOf (insert m (ids d) v) (ids z) row.attr.kind (parents2 z) row.bytes (looks2 z)) (sym e)
          (subst (λ (r : Row). IsBlobOf (insert m (ids d) v) (ids d) r.attr.kind (parents2 d) r.bytes (looks2 d)) same node)
      | inr differ ↦
          let was : get t p ≡ Some row = sym (others p differ) ∙ there in
          node_as m (insert m (ids d) v) (ids p) (ids p) row.attr.kind row.attr.kind (parents p) (parents2 p) row.bytes row.bytes (looks p) (looks2 p) (forest.nodes p row was)
          (map_apart m (ids d) v (ids p) (λ e. differ (forest.distinct p d (ap is_some was) old e))) refl (same_parents p (ap is_some was) differ) refl (same_looks p (ap is_some was) differ)
    ];
    distinct = λ p q a b e. forest.distinct p q (back p a) (back q b) e;
    all = λ id s. elim (name_split id (ids d)) [
      | inl e ↦ (d, ap is_some here, sym e)
      | inr differ ↦ onward id (forest.all id (ap is_some (sym (map_apart m (ids d) v id differ)) ∙ s))
    ];
  }
    where
      back : (p : Path) → is_some (get t2 p) ≡ true → is_some (get t p) ≡ true
      back p s = elim (path_split p d) [
        | inl e ↦ ap (λ z. is_some (get t z)) e ∙ old
        | inr differ ↦ ap is_some (sym (others p differ)) ∙ s
      ]

      forth : (p : Path) → is_some (get t p) ≡ true → is_some (get t2 p) ≡ true
      forth p s = elim (path_split p d) [
        | inl e ↦ ap (λ z. is_some (get t2 z)) e ∙ ap is_some here
        | inr differ ↦ ap is_some (others p differ) ∙ s
      ]

      onward : (id : Id) → (p : Path) × (is_some (get t p) ≡ true) × (ids p ≡ id) → (p : Path) × (is_some (get t2 p) ≡ true) × (ids p ≡ id)
      onward id x = (x.0, forth x.0 x.1, x.2)

  -- one more blob, at the path d
  pub blob_added : (d : Path) → get t d ≡ None → (new : Id) → get m new ≡ None → (v : List ℕ) (t2 : Tree) (row2 : Row) (ids2 : Path → Id) (parents2 : Path → Id) (looks2 : Path → Look)
      → get t2 d ≡ Some row2 → ((p : Path) → (p ≡ d → ⊥) → get t2 p ≡ get t p)
      → ids2 d ≡ new → ((p : Path) → (p ≡ d → ⊥) → ids2 p ≡ ids p)
      → IsBlobOf (insert m new v) new row2.attr.kind (parents2 d) row2.bytes (looks2 d)
      → ((p : Path) → is_some (get t p) ≡ true → (p ≡ d → ⊥) → parents p ≡ parents2 p) → ((p : Path) → is_some (get t p) ≡ true → (p ≡ d → ⊥) → (n : List ℕ) → looks p n ≡ looks2 p n)
      → IsForest (insert m new v) t2 ids2 parents2 looks2
  blob_added d none new unused v t2 row2 ids2 parents2 looks2 here others id_here id_others node same_parents same_looks = record {
    nodes = λ p row there. elim (path_split p d) [
      | inl e ↦
          let same : row2 ≡ row = same_Some _ _ (sym here ∙ (ap (get t2) (sym e) ∙ there)) in
          subst (λ z. IsBlobOf (insert m new v) z row.attr.kind (parents2 p) row.bytes (looks2 p)) (sym (ap ids2 e ∙ id_here))
          (subst (λ z. IsBlobOf (insert m new v) new row.attr.kind (parents2 z) row.bytes (looks2 z)) (sym e)
          (subst (λ (r : Row). IsBlobOf (insert m new v) new r.attr.kind (parents2 d) r.bytes (looks2 d)) same node))
      | inr differ ↦
          let was : get t p ≡ Some row = sym (others p differ) ∙ there in
          let x = forest.nodes p row was in
          node_as m (insert m new v) (ids p) (ids2 p) row.attr.kind row.attr.kind (parents p) (parents2 p) row.bytes row.bytes (looks p) (looks2 p) x
          (ap (get (insert m new v)) (id_others p differ) ∙ map_apart m new v (ids p) (not_new p (ap is_some was))) refl (same_parents p (ap is_some was) differ) refl (same_looks p (ap is_some was) differ)
    ];
    distinct = λ p q a b e. elim (sorts p a) [
      | inl x ↦ elim (sorts q b) [
        | inl y ↦ x.0 ∙ sym y.0
        | inr y ↦ absurd (not_new q y.0 (sym y.1 ∙ (sym e ∙ x.1)))
      ]
      | inr x ↦ elim (sorts q b) [
        | inl y ↦ absurd (not_new p x.0 (sym x.1 ∙ (e ∙ y.1)))
        | inr y ↦ forest.distinct p q x.0 y.0 (sym x.1 ∙ (e ∙ y.1))
      ]
    ];
    all = λ id s. elim (name_split id new) [
      | inl e ↦ (d, ap is_some here, id_here ∙ sym e)
      | inr differ ↦ onward id (forest.all id (ap is_some (sym (map_apart m new v id differ)) ∙ s))
    ];
  }
    where
      not_new : (p : Path) → is_some (get t p) ≡ true → ids p ≡ new → ⊥
      not_new p s e =
          let r = some_of (get t p) s in
          let x = forest.nodes p r.0 r.1 in
          none-some (blob r.0.attr.kind (parents p) x.body) (sym unused ∙ (ap (get m) (sym e) ∙ x.there))

      old : (p : Path) → is_some (get t p) ≡ true → p ≡ d → ⊥
      old p s e = none_is (get t p) (ap (get t) e ∙ none) s

      sorts : (p : Path) → is_some (get t2 p) ≡ true → ((p ≡ d) × (ids2 p ≡ new)) ⊎ ((is_some (get t p) ≡ true) × (ids2 p ≡ ids p))
      sorts p s = elim (path_split p d) [
        | inl e ↦ inl (e, ap ids2 e ∙ id_here)
        | inr differ ↦ inr (ap is_some (sym (others p differ)) ∙ s, id_others p differ)
      ]

      onward : (id : Id) → (p : Path) × (is_some (get t p) ≡ true) × (ids p ≡ id) → (p : Path) × (is_some (get t2 p) ≡ true) × (ids2 p ≡ id)
      onward id x = (x.0, ap is_some (others x.0 (old x.0 x.1)) ∙ x.1, id_others x.0 (old x.0 x.1) ∙ x.2)

  -- the blob of the path d goes
  pub blob_dropped : (d : Path) → is_some (get t d) ≡ true → (t2 : Tree) → get t2 d ≡ None → ((p : Path) → (p ≡ d → ⊥) → get t2 p ≡ get t p) → IsForest (remove m (ids d)) t2 ids parents looks
  blob_dropped d old t2 gone others = record {
    nodes = λ p row there.
        let was : get t p ≡ Some row = sym (others p (apart_from p (ap is_some there))) ∙ there in
        node_as m (remove m (ids d)) (ids p) (ids p) row.attr.kind row.attr.kind (parents p) (parents p) row.bytes row.bytes (looks p) (looks p) (forest.nodes p row was)
        (map_gone_apart m (ids d) (ids p) (λ e. apart_from p (ap is_some there) (forest.distinct p d (ap is_some was) old e))) refl refl refl (λ n. refl);
    distinct = λ p q a b e. forest.distinct p q (back p a) (back q b) e;
    all = λ id s. elim (name_split id (ids d)) [
      | inl e ↦ absurd (none_is (get (remove m (ids d)) id) (ap (get (remove m (ids d))) e ∙ map_gone m (ids d)) s)
      | inr differ ↦ onward id differ (forest.all id (ap is_some (sym (map_gone_apart m (ids d) id differ)) ∙ s))
    ];
  }
    where
      apart_from : (p : Path) → is_some (get t2 p) ≡ true → p ≡ d → ⊥
      apart_from p s e = none_is (get t2 p) (ap (get t2) e ∙ gone) s

      back : (p : Path) → is_some (get t2 p) ≡ true → is_some (get t p) ≡ true
      back p s = ap is_some (sym (others p (apart_from p s))) ∙ s

      onward : (id : Id) → (id ≡ ids d → ⊥) → (p : Path) × (is_some (get t p) ≡ true) × (ids p ≡ id) → (p : Path) × (is_some (get t2 p) ≡ true) × (ids p ≡ id)
      onward id differ x = (x.0, ap is_some (others x.0 (λ e. differ (sym x.2 ∙ ap ids e))) ∙ x.1, x.2)

-- the node at a path of the new tree is that of a path of the old one
pub record Carries (t : Tree) (parents : Path → Id) (looks : Path → Look) (row2 : Row) (parent2 : Id) (look2 : Look) (o : Path) : Type 0 where
  pub row : Row
  pub there : get t o ≡ Some row
  pub kind : row.attr.kind ≡ row2.attr.kind
  pub bytes : row.bytes ≡ row2.bytes
  pub parent : parents o ≡ parent2
  pub look : (n : List ℕ) → looks o n ≡ look2 n

-- the paths get other names: the node at p is the one that was at `from p`, and the one at o is now at `onto o`
pub paths_renamed : (m : BlobMap) (t : Tree) (ids : Path → Id) (parents : Path → Id) (looks : Path → Look) → IsForest m t ids parents looks
    → (t2 : Tree) (parents2 : Path → Id) (looks2 : Path → Look) (from onto : Path → Path)
    → ((p : Path) (row2 : Row) → get t2 p ≡ Some row2 → Carries t parents looks row2 (parents2 p) (looks2 p) (from p) × (onto (from p) ≡ p))
    → ((o : Path) → is_some (get t o) ≡ true → (is_some (get t2 (onto o)) ≡ true) × (from (onto o) ≡ o))
    → IsForest m t2 (λ p. ids (from p)) parents2 looks2
paths_renamed m t ids parents looks forest t2 parents2 looks2 from onto carried goes = record {
  nodes = λ p row2 there.
      let c = (carried p row2 there).0 in
      node_as m m (ids (from p)) (ids (from p)) c.row.attr.kind row2.attr.kind (parents (from p)) (parents2 p) c.row.bytes row2.bytes (looks (from p)) (looks2 p) (forest.nodes (from p) c.row c.there)
      refl c.kind c.parent c.bytes c.look;
  distinct = λ p q a b e.
      let x = some_of (get t2 p) a in
      let y = some_of (get t2 q) b in
      let cx = carried p x.0 x.1 in
      let cy = carried q y.0 y.1 in
      sym cx.1 ∙ (ap onto (forest.distinct (from p) (from q) (ap is_some cx.0.there) (ap is_some cy.0.there) e) ∙ cy.1);
  all = λ id s.
      let x = forest.all id s in
      let g = goes x.0 x.1 in
      (onto x.0, g.0, ap ids g.1 ∙ x.2);
}

-- the same forest, said in other words
pub forest_as : (m : BlobMap) (t : Tree) (ids : Path → Id) (parents : Path → Id) (looks : Path → Look) → IsForest m t ids parents looks
    → (t2 : Tree) (parents2 : Path → Id) (looks2 : Path → Look)
    → ((p : Path) (row2 : Row) → get t2 p ≡ Some row2 → Carries t parents looks row2 (parents2 p) (looks2 p) p)
    → ((p : Path) → is_some (get t p) ≡ true → is_some (get t2 p) ≡ true)
    → IsForest m t2 ids parents2 looks2
forest_as m t ids parents looks forest t2 parents2 looks2 carried goes =
    paths_renamed m t ids parents looks forest t2 parents2 looks2 (λ p. p) (λ p. p) (λ p row2 there. (carried p row2 there, refl)) (λ o s. (goes o s, refl))
