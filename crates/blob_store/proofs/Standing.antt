-- What the blocks stand for after a call on one tree.
use Rattle.std.proofs.Common.{◌≡◌, ℕ, true, List, [], refl, sym, ◌∙◌, ap, subst, inl, inr}
use Rattle.std.specs.Prelude.{Option, Some, None, is_some}
use Rattle.std.specs.FinMap.{get, empty, insert, remove, get-insert, get-remove, get-empty}
use Rattle.std.specs.Cmp.Lexicographic.{nat_list_cmp_total}
use Rattle.std.proofs.lemmas.Option.{none-some}
use Rattle.block_id.proofs.Options.{none_is}
use Rattle.blob_api.specs.store_outcome.Meanings.{Meanings}
use Rattle.store_api.specs.Content.{Id, id_cmp, Changes, or_else, over}
use Rattle.store_api.specs.Holdings.{Holdings, Stays, Changed, has_id}
use Rattle.data_tree.specs.Trees.{Replaces}
use Rattle.data_tree.specs.Needs.{KeepsShape}
use Rattle.data_tree.specs.Roots.{IsNewRoot}
use Rattle.data_tree.specs.Stored.{BlobTree, StoresBlobs, with_blob}
use Rattle.blob_api.specs.BlobMap.{BlobMap}
use Rattle.blob_store.specs.OneMap.{root_in}
use Rattle.blob_store.specs.Meanings.{StoresMap}
use Rattle.data_tree.proofs.Stored.{blobs_changed}
use Rattle.blob_store.proofs.Laws.{stores_same}

module _ {B : Type 0} (H : Holdings B) where
  -- blocks were only loaded
  pub stands_on : (a b : B) (m : BlobMap) → Stays H a b → StoresMap H a m → StoresMap H b m
  stands_on a b m stays s =
      (stays.told ∙ s.0, stores_same (H.payload b) (H.content a) (H.content b) (get m) (stays.content s.0) (subst (λ p. StoresBlobs p (H.content a) (get m)) (sym stays.payload) s.1))

  -- one list was set in the map, or taken from it
  stands_by : (a b : B) (m n : BlobMap) (id : Id) (change : Option (List ℕ)) → KeepsShape H a b → H.told a ≡ true → ((q : Id) → get n q ≡ with_blob id change (get m) q) → StoresBlobs (H.payload a) (H.content b) (with_blob id change (get m)) → StoresMap H b n
  stands_by a b m n id change keeps told is s =
      let path : with_blob id change (get m) ≡ get n = λ i q. sym (is q) i in
      (keeps.told ∙ told, subst (λ p. StoresBlobs p (H.content b) (get n)) (sym keeps.payload) (subst (StoresBlobs (H.payload a) (H.content b)) path s))

  made_tree : (a b : B) (id : Id) (old : List Id) (w : List ℕ) (n : IsNewRoot H a b id old w) → KeepsShape H a b → (v : List ℕ) → Some w ≡ Some v → BlobTree (H.payload a) (H.content b) id v n.ids
  made_tree a b id old w n keeps v e =
      let same : w ≡ v = cc in
      subst (λ x. BlobTree (H.payload a) (H.content b) id x n.ids) same
      (subst (λ p. BlobTree p (H.content b) id w n.ids) keeps.payload (record { depth = n.depth; deep = n.deep; tree = n.tree; alone = n.alone }))

  -- the tree of a blob was replaced
  pub stands_replaced : (a b : B) (m : BlobMap) (id : Id) (v w : List ℕ) → (s : StoresMap H a m) → get m id ≡ Some v → KeepsShape H a b → IsNewRoot H a b id (s.1.ids id) w → StoresMap H b (insert m id w)
  stands_replaced a b m id v w s there keeps n =
      let here : is_some (get m id) ≡ true = ap is_some there in
      stands_by a b m (insert m id w) id (Some w) keeps s.0 (λ q. get-insert nat_list_cmp_total m id w q)
      (blobs_changed (H.payload a) (H.content a) (H.content b) (get m) s.1 id (Some w) (s.1.ids id) n.ids (λ x h. (here, h)) (λ x p h. h) n.replaces (made_tree a b id (s.1.ids id) w n keeps) (λ x h. refl))

  -- a new tree stands under an id that no blob had
  pub fresh_root : (a b : B) (m : BlobMap) (id : Id) (w : List ℕ) → StoresMap H a m → IsNewRoot H a b id [] w → get m id ≡ None
  fresh_root a b m id w s n = by (get m id) refl
    where
      by : (o : Option (List ℕ)) → get m id ≡ o → get m id ≡ None
      by None e = e
      by (Some v) e = absurd (elim (n.replaces.came id (root_in (H.payload b) (H.content b) n.depth id w n.ids n.tree)) [
        | inl never ↦ let no : has_id [] id ≡ true = never in cc
        | inr none ↦ let own = (s.1.blob id v e).tree in none-some own.text (sym none ∙ own.there)
      ])

  pub stands_made : (a b : B) (m : BlobMap) (id : Id) (w : List ℕ) → (s : StoresMap H a m) → KeepsShape H a b → IsNewRoot H a b id [] w → StoresMap H b (insert m id w)
  stands_made a b m id w s keeps n =
      let fresh : get m id ≡ None = fresh_root a b m id w s n in
      stands_by a b m (insert m id w) id (Some w) keeps s.0 (λ q. get-insert nat_list_cmp_total m id w q)
      (blobs_changed (H.payload a) (H.content a) (H.content b) (get m) s.1 id (Some w) [] n.ids (λ x h. absurd (let no : has_id [] x ≡ true = h in cc)) (λ x p h. absurd (none_is (get m id) fresh p)) n.replaces (made_tree a b id [] w n keeps) (λ x h. refl))

  -- the tree of a blob was dropped
  pub stands_dropped : (a b : B) (m : BlobMap) (id : Id) → (s : StoresMap H a m) → (v : List ℕ) → get m id ≡ Some v → KeepsShape H a b → Replaces (H.content a) (H.content b) (s.1.ids id) [] → StoresMap H b (remove m id)
  stands_dropped a b m id s v there keeps r =
      let here : is_some (get m id) ≡ true = ap is_some there in
      stands_by a b m (remove m id) id None keeps s.0 (λ q. get-remove nat_list_cmp_total m id q)
      (blobs_changed (H.payload a) (H.content a) (H.content b) (get m) s.1 id None (s.1.ids id) [] (λ x h. (here, h)) (λ x p h. h) r (λ w e. absurd (none-some w e)) (λ x h. absurd (let no : has_id [] x ≡ true = h in cc)))

  -- where there are no changes, they show what the store shows
  pub stands_bare : (s : B) (changes : Changes) (m : BlobMap) → changes ≡ empty → StoresMap H s m → (H.told s ≡ true) × StoresBlobs (H.payload s) (over changes (H.content s)) (get m)
  stands_bare s changes m none stands =
      (stands.0, stores_same (H.payload s) (H.content s) (over changes (H.content s)) (get m) (λ q. ap (λ (c : Changes). or_else (get c q) (H.content s q)) none ∙ ap (λ o. or_else o (H.content s q)) (get-empty id_cmp q)) stands.1)

  -- the store shows what the changes showed that were made
  pub stands_committed : (M : Meanings B) (a b : B) (changes : Changes) (m : BlobMap) → Changed M H a b changes → (H.told a ≡ true) × StoresBlobs (H.payload a) (over changes (H.content a)) (get m) → StoresMap H b m
  stands_committed M a b changes m made stands =
      (made.told ∙ stands.0, stores_same (H.payload b) (over changes (H.content a)) (H.content b) (get m) (made.content stands.0) (subst (λ p. StoresBlobs p (over changes (H.content a)) (get m)) (sym made.payload) stands.1))
