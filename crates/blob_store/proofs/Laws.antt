-- Contents that store the same blobs, none, or one that fits a leaf.
use Rattle.std.proofs.Common.{◌≡◌, ℕ, ◌≤◌, Bool, true, false, List, [], ◌∷◌, length, refl, sym, ◌∙◌, ap, subst}
use Rattle.std.specs.Prelude.{Option, Some, None, is_some, ◌||◌}
use Rattle.block_id.proofs.Options.{none_is}
use Rattle.data_tree.specs.data_nodes.Layout.{leaf, IsNode, room}
use Rattle.store_api.specs.Content.{Id, Content, same_id, SameContent}
use Rattle.store_api.proofs.Rising.{same_id_is}
use Rattle.data_tree.specs.Stored.{BlobTree, StoresBlobs}

pub stores_same : (payload : ℕ) (A B : Content) (M : Id → Option (List ℕ)) → SameContent A B → StoresBlobs payload A M → StoresBlobs payload B M
stores_same payload A B M same s =
    let path : A ≡ B = λ i id. sym (same id) i in
    subst (λ C. StoresBlobs payload C M) path s

-- the one block is a leaf, and the one blob has its bytes
module _ (payload : ℕ) (B : Content) (M : Id → Option (List ℕ)) (root : Id) (text w : List ℕ) (is : IsNode text (leaf w)) (sized : length text ≡ payload) (fits : length w ≤ room payload)
    (block : B root ≡ Some text) (no_block : (q : Id) → same_id q root ≡ false → B q ≡ None) (blob : M root ≡ Some w) (no_blob : (q : Id) → same_id q root ≡ false → M q ≡ None) where
  root_alone : (F : Id → Option (List ℕ)) → ((q : Id) → same_id q root ≡ false → F q ≡ None) → (x : Id) → is_some (F x) ≡ true → same_id x root ≡ true
  root_alone F none x here = by (same_id x root) refl
    where
      by : (b : Bool) → same_id x root ≡ b → same_id x root ≡ true
      by true e = e
      by false e = absurd (none_is (F x) (none x e) here)

  the_root : (x : Id) → is_some (M x) ≡ true → x ≡ root
  the_root x here = same_id_is x root (root_alone M no_blob x here)

  leaf_tree : (id : Id) (v : List ℕ) → M id ≡ Some v → BlobTree payload B id v (root ∷ [])
  leaf_tree id v e =
      let same : root ≡ id = sym (the_root id (ap is_some e)) in
      let both : Some w ≡ Some v = sym blob ∙ (ap M same ∙ e) in
      let bytes : w ≡ v = cc in
      subst (λ x. BlobTree payload B x v (root ∷ [])) same
      (subst (λ x. BlobTree payload B root x (root ∷ [])) bytes (record { depth = 0; deep = fits; tree = record { text = text; node = leaf w; below = []; there = block; sized = sized; is = is; holds = (refl, refl); all = refl }; alone = (refl, tt) }))

  here_too : (a : Bool) → a ≡ true → (a || false) ≡ true
  here_too true h = refl
  here_too false h = absurd (cc)

  pub stores_leaf : StoresBlobs payload B M
  stores_leaf = record {
    ids = λ id. root ∷ [];
    blob = leaf_tree;
    apart = λ a b x p q h k. the_root a p ∙ sym (the_root b q);
    all = λ x there. (root, (ap is_some blob, here_too (same_id x root) (root_alone B no_block x there)));
  }
