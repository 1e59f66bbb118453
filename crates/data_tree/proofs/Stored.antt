-- The blobs after the tree of one was replaced, made or dropped.
use Rattle.std.proofs.Common.{◌≡◌, ℕ, Bool, true, false, cond, List, refl, sym, ◌∙◌, ap, subst, inl, inr}
use Rattle.std.specs.Prelude.{Option, Some, is_some}
use Rattle.std.proofs.lemmas.Bool.{false_from_ne_true}
use Rattle.block_id.proofs.Options.{none_is, some_of}
use Rattle.store_api.specs.Content.{Id, Content, same_id}
use Rattle.store_api.specs.Holdings.{has_id}
use Rattle.store_api.proofs.Rising.{same_id_is}
use Rattle.data_tree.specs.Trees.{Replaces}
use Rattle.data_tree.specs.Stored.{BlobTree, StoresBlobs, with_blob}
use Rattle.data_tree.proofs.Ids.{same_self}
use Rattle.data_tree.proofs.Changes.{tree_frame}
use Rattle.data_tree.proofs.Making.{tree_there}

-- `old` are the ids of the blob under this root, or none where there was none; `new` are those of its new tree, or none
module _ (payload : ℕ) (A B : Content) (M : Id → Option (List ℕ)) (s : StoresBlobs payload A M) (root : Id) (change : Option (List ℕ)) (old new : List Id)
    (to : (x : Id) → has_id old x ≡ true → (is_some (M root) ≡ true) × (has_id (s.ids root) x ≡ true)) (from : (x : Id) → is_some (M root) ≡ true → has_id (s.ids root) x ≡ true → has_id old x ≡ true)
    (r : Replaces A B old new) (made : (w : List ℕ) → change ≡ Some w → BlobTree payload B root w new) (none : (x : Id) → has_id new x ≡ true → is_some change ≡ true) where
  -- the ids of another blob are neither old nor new
  other_old : (id x : Id) → same_id id root ≡ false → is_some (M id) ≡ true → has_id (s.ids id) x ≡ true → has_id old x ≡ false
  other_old id x differs here h = false_from_ne_true (has_id old x) (λ o.
      let own = to x o in
      let same : id ≡ root = s.apart id root x here own.0 h own.1 in
      let bad : false ≡ true = sym differs ∙ subst (λ y. same_id id y ≡ true) same (same_self id) in cc)

  other_new : (id x : Id) → same_id id root ≡ false → is_some (M id) ≡ true → has_id (s.ids id) x ≡ true → has_id new x ≡ false
  other_new id x differs here h = false_from_ne_true (has_id new x) (λ n. elim (r.came x n) [
    | inl o ↦ let bad : false ≡ true = sym (other_old id x differs here h) ∙ o in cc
    | inr gone ↦ let w = some_of (M id) here in let b = s.blob id w.0 w.1 in none_is (A x) gone (tree_there payload A b.depth id w.0 (s.ids id) b.tree x h)
  ])

  kept_blob : (id : Id) (w : List ℕ) → same_id id root ≡ false → M id ≡ Some w → BlobTree payload B id w (s.ids id)
  kept_blob id w differs p =
      let b = s.blob id w p in
      let here : is_some (M id) ≡ true = ap is_some p in
      record {
        depth = b.depth;
        deep = b.deep;
        tree = tree_frame payload A B b.depth id w (s.ids id) (λ q h. r.kept q (other_old id q differs here h) (other_new id q differs here h)) b.tree;
        alone = b.alone;
      }

  ids_now : Bool → Id → List Id
  ids_now b id = cond b new (s.ids id)

  blob_now : (id : Id) (w : List ℕ) (b : Bool) → same_id id root ≡ b → cond b change (M id) ≡ Some w → BlobTree payload B id w (cond b new (s.ids id))
  blob_now id w true e p = subst (λ x. BlobTree payload B x w new) (sym (same_id_is id root e)) (made w p)
  blob_now id w false e p = kept_blob id w e p

  apart_now : (a b x : Id) (f g : Bool) → same_id a root ≡ f → same_id b root ≡ g → is_some (cond f change (M a)) ≡ true → is_some (cond g change (M b)) ≡ true
      → has_id (cond f new (s.ids a)) x ≡ true → has_id (cond g new (s.ids b)) x ≡ true → a ≡ b
  apart_now a b x true true e f p q h k = same_id_is a root e ∙ sym (same_id_is b root f)
  apart_now a b x true false e f p q h k = absurd (let bad : false ≡ true = sym (other_new b x f q k) ∙ h in cc)
  apart_now a b x false true e f p q h k = absurd (let bad : false ≡ true = sym (other_new a x e p h) ∙ k in cc)
  apart_now a b x false false e f p q h k = s.apart a b x p q h k

  all_now : (x : Id) → is_some (B x) ≡ true → (n o : Bool) → has_id new x ≡ n → has_id old x ≡ o → (id : Id) × ((is_some (with_blob root change M id) ≡ true) × (has_id (cond (same_id id root) new (s.ids id)) x ≡ true))
  all_now x there true o e f =
      (root, (ap (λ b. is_some (cond b change (M root))) (same_self root) ∙ none x e, ap (λ b. has_id (cond b new (s.ids root)) x) (same_self root) ∙ e))
  all_now x there false true e f = absurd (none_is (B x) (r.gone x f e) there)
  all_now x there false false e f =
      let found = s.all x (ap is_some (sym (r.kept x f e)) ∙ there) in
      let differs : same_id found.0 root ≡ false = false_from_ne_true (same_id found.0 root) (λ same.
      let is : found.0 ≡ root = same_id_is found.0 root same in
      let bad : false ≡ true = sym f ∙ from x (subst (λ y. is_some (M y) ≡ true) is found.1.0) (subst (λ y. has_id (s.ids y) x ≡ true) is found.1.1) in cc) in
      (found.0, (ap (λ b. is_some (cond b change (M found.0))) differs ∙ found.1.0, ap (λ b. has_id (cond b new (s.ids found.0)) x) differs ∙ found.1.1))

  pub blobs_changed : StoresBlobs payload B (with_blob root change M)
  blobs_changed = record {
    ids = λ id. cond (same_id id root) new (s.ids id);
    blob = λ id w p. blob_now id w (same_id id root) refl p;
    apart = λ a b x p q h k. apart_now a b x (same_id a root) (same_id b root) refl refl p q h k;
    all = λ x there. all_now x there (has_id new x) (has_id old x) refl refl;
  }
