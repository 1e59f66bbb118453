-- What each change of a tree does to the blobs that show it.
use Rattle.std.specs.Prelude.{◌≡◌, ℕ, true, false, cond, List, [], ◌∷◌, is_some}
use Rattle.std.proofs.Common.{refl, sym, ◌∙◌, ap, subst, inl, inr, length, arith}
use Rattle.std.specs.FinMap.{get, insert, remove}
use Rattle.std.specs.declared.option.Option.{Option}
use Rattle.std.specs.declared.option.Option.TheVariants.{None, Some}
use Rattle.std.proofs.lemmas.Option.{same_Some}
use Rattle.block_id.proofs.Options.{none_is}
use Rattle.fs_blobs.specs.blob_api.BlobMap.{Id, BlobMap}
use Rattle.fs_model.specs.declared.attr.Kind.{Kind}
use Rattle.fs_model.specs.declared.attr.Kind.TheVariants.{Directory, File, Link}
use Rattle.fs_model.specs.Tree.{Path, Row, Tree, same_path, is_directory, is_folder, IsWellFormed}
use Rattle.fs_model.proofs.TreeLemmas.{same_name, name_same, name_apart, name_split, path_same, path_split, apart, insert_here, insert_apart, remove_here, remove_apart, none_of}
use Rattle.fs_blobs.specs.Headers.{blob}
use Rattle.dir_entries.specs.Layout.{EntryTarget}
use Rattle.fs_blobs.proofs.Parts.{map_here}
use Rattle.path_walks.specs.Nodes.{Look, Lists, IsBodyOf, IsBlobOf, IsForest}
use Rattle.path_walks.specs.Shows.{above, target_for, entries_at, ShowsBy}
use Rattle.path_walks.specs.Midst.{with_entry, ids_with}
use Rattle.path_walks.proofs.Forests.{blob_set, blob_added, blob_dropped, Carries, forest_as}

-- ---- rows and entries

pub directory_is : (kind : Kind) → is_directory kind ≡ true → kind ≡ Directory
directory_is Directory e = refl
directory_is File e = let bad : false ≡ true = e in cc
directory_is Link e = let bad : false ≡ true = e in cc

-- the row of a directory
pub record IsFolderRow (t : Tree) (p : Path) : Type 0 where
  pub row : Row
  pub there : get t p ≡ Some row
  pub kind : row.attr.kind ≡ Directory

folder_of : (t : Tree) (p : Path) (o : Option Row) → get t p ≡ o → is_folder o ≡ true → IsFolderRow t p
folder_of t p None e h = let bad : false ≡ true = h in cc
folder_of t p (Some row) e h = record { row = row; there = e; kind = directory_is row.attr.kind h }

pub folder_row : (t : Tree) (p : Path) → is_folder (get t p) ≡ true → IsFolderRow t p
folder_row t p h = folder_of t p (get t p) refl h

pub entry_here : (looks : Path → Look) (q : Path) (v : Option EntryTarget) (p : Path) (n : List ℕ) → n ∷ p ≡ q → with_entry looks q v p n ≡ v
entry_here looks q v p n e = ap (λ b. cond b v (looks p n)) (ap (λ z. same_path z q) e ∙ path_same q)

pub entry_apart : (looks : Path → Look) (q : Path) (v : Option EntryTarget) (p : Path) (n : List ℕ) → (n ∷ p ≡ q → ⊥) → with_entry looks q v p n ≡ looks p n
entry_apart looks q v p n differ = ap (λ b. cond b v (looks p n)) (apart (n ∷ p) q differ)

tail_is : (a b : List ℕ) (p q : Path) → a ∷ p ≡ b ∷ q → p ≡ q
tail_is a b p q e = cc

head_is : (a b : List ℕ) (p q : Path) → a ∷ p ≡ b ∷ q → a ≡ b
head_is a b p q e = cc

pub same_last : (n k : List ℕ) (d : Path) → same_path (n ∷ d) (k ∷ d) ≡ same_name n k
same_last n k d = elim (name_split n k) [
  | inl e ↦ ap (λ z. same_path (n ∷ d) (z ∷ d)) (sym e) ∙ (path_same (n ∷ d) ∙ (sym (name_same n) ∙ ap (same_name n) e))
  | inr differ ↦ apart (n ∷ d) (k ∷ d) (λ e. differ (head_is n k d d e)) ∙ sym (name_apart n k differ)
]

-- the directory d gets another entry k, or loses it
pub entry_set : (m : BlobMap) (t : Tree) (ids : Path → Id) (parents : Path → Id) (looks : Path → Look) → IsForest m t ids parents looks
    → (d : Path) → IsFolderRow t d → (k : List ℕ) (v : Option EntryTarget) (body : List ℕ) → Lists (λ n. cond (same_name n k) v (looks d n)) body
    → IsForest (insert m (ids d) (blob Directory (parents d) body)) t ids parents (with_entry looks (k ∷ d) v)
entry_set m t ids parents looks forest d folder k v body lists =
    blob_set m t ids parents looks forest d (ap is_some folder.there) (blob Directory (parents d) body) t folder.row parents (with_entry looks (k ∷ d) v) folder.there (λ p differ. refl)
    (subst (λ z. IsBlobOf (insert m (ids d) (blob Directory (parents d) body)) (ids d) z (parents d) folder.row.bytes (with_entry looks (k ∷ d) v d)) (sym folder.kind) (record {
      body = body;
      there = map_here m (ids d) (blob Directory (parents d) body);
      content = record { listing = lists.listing; is = lists.is; entries = λ n. lists.entries n ∙ ap (λ b. cond b v (looks d n)) (sym (same_last n k d)) };
    }))
    (λ p s differ. refl)
    (λ p s differ n. sym (entry_apart looks (k ∷ d) v p n (λ e. differ (tail_is n k p d e))))

-- ---- one more row

ids_here : (ids : Path → Id) (d : Path) (new : Id) → ids_with ids d new d ≡ new
ids_here ids d new = ap (λ b. cond b new (ids d)) (path_same d)

ids_apart : (ids : Path → Id) (d : Path) (new : Id) (p : Path) → (p ≡ d → ⊥) → ids_with ids d new p ≡ ids p
ids_apart ids d new p differ = ap (λ b. cond b new (ids p)) (apart p d differ)

module _ (m : BlobMap) (root : Id) (t : Tree) (ids : Path → Id) (shows : ShowsBy m root t ids) (n : List ℕ) (p : Path) (folder : is_folder (get t p) ≡ true) where
  abbrev q : Path
  q = n ∷ p

  parent_there : is_some (get t p) ≡ true
  parent_there = ap is_some (folder_row t p folder).there

  module _ (none : get t q ≡ None) (row : Row) (new : Id) (unused : get m new ≡ None) (body : List ℕ) (content : IsBodyOf row.attr.kind row.bytes (λ k. None) body) where
    old : (r : Path) → is_some (get t r) ≡ true → r ≡ q → ⊥
    old r s e = none_is (get t r) (ap (get t) e ∙ none) s

    above_same : (r : Path) → is_some (get t r) ≡ true → above ids r ≡ above (ids_with ids q new) r
    above_same [] s = refl
    above_same (k ∷ r) s = sym (ids_apart ids q new r (old r (ap is_some (folder_row t r (shows.well_formed.rooted.parents k r s)).there)))

    nothing_below : (k : List ℕ) → get t (k ∷ q) ≡ None
    nothing_below k = none_of (get t (k ∷ q)) (λ s. let bad : false ≡ true = ap is_folder (sym none) ∙ shows.well_formed.rooted.parents k q s in cc)

    -- a new blob under an id that the blobs don't have
    pub blob_made : IsForest (insert m new (blob row.attr.kind (ids p) body)) (insert t q row) (ids_with ids q new) (above (ids_with ids q new)) (entries_at t ids)
    blob_made =
        blob_added m t ids (above ids) (entries_at t ids) shows.forest q none new unused (blob row.attr.kind (ids p) body) (insert t q row) row (ids_with ids q new) (above (ids_with ids q new)) (entries_at t ids)
        (insert_here t q row) (λ r differ. insert_apart t q row r differ) (ids_here ids q new) (λ r differ. ids_apart ids q new r differ)
        (record {
          body = body;
          there = map_here m new (blob row.attr.kind (ids p) body) ∙ ap (λ z. Some (blob row.attr.kind z body)) (sym (ids_apart ids q new p (old p parent_there)));
          content = nothing_as row.attr.kind content;
        })
        (λ r s differ. above_same r s) (λ r s differ k. refl)
      where
        nothing_as : (kind : Kind) → IsBodyOf kind row.bytes (λ k. None) body → IsBodyOf kind row.bytes (entries_at t ids q) body
        nothing_as Directory c = record { listing = c.listing; is = c.is; entries = λ k. c.entries k ∙ sym (ap (target_for (ids (k ∷ q))) (nothing_below k)) }
        nothing_as File c = c
        nothing_as Link c = c

    -- and then its entry in the directory
    pub made_shows : (listed : List ℕ) → Lists (λ k. cond (same_name k n) (Some (record { attr = row.attr; blob = new })) (entries_at t ids p k)) listed → IsWellFormed (insert t q row)
        → ShowsBy (insert (insert m new (blob row.attr.kind (ids p) body)) (ids p) (blob Directory (above ids p) listed)) root (insert t q row) (ids_with ids q new)
    made_shows listed lists well_formed =
        let target : EntryTarget = record { attr = row.attr; blob = new } in
        let ids2 = ids_with ids q new in
        let m1 = insert m new (blob row.attr.kind (ids p) body) in
        let t2 = insert t q row in
        let folder2 : IsFolderRow t2 p = folder_row t2 p (ap is_folder (insert_apart t q row p (old p parent_there)) ∙ folder) in
        let set = entry_set m1 t2 ids2 (above ids2) (entries_at t ids) blob_made p folder2 n (Some target) listed lists in
        record {
          well_formed = well_formed;
          wide = shows.wide;
          at_root = ids_apart ids q new [] (λ e. absurd cc) ∙ shows.at_root;
          forest = forest_as _ t2 ids2 (above ids2) (with_entry (entries_at t ids) q (Some target))
              (subst (λ z. IsForest (insert m1 z (blob Directory (above ids p) listed)) t2 ids2 (above ids2) (with_entry (entries_at t ids) q (Some target))) (ids_apart ids q new p (old p parent_there))
              (subst (λ z. IsForest (insert m1 (ids2 p) (blob Directory z listed)) t2 ids2 (above ids2) (with_entry (entries_at t ids) q (Some target))) (sym (above_same p parent_there)) set))
              t2 (above ids2) (entries_at t2 ids2)
              (λ r row2 there. record { row = row2; there = there; kind = refl; bytes = refl; parent = refl; look = look_same r })
              (λ r s. s);
        }
      where
        look_same : (r : Path) (k : List ℕ) → with_entry (entries_at t ids) q (Some (record { attr = row.attr; blob = new })) r k ≡ entries_at (insert t q row) (ids_with ids q new) r k
        look_same r k = elim (path_split (k ∷ r) q) [
          | inl e ↦ entry_here (entries_at t ids) q (Some (record { attr = row.attr; blob = new })) r k e
              ∙ (ap (λ z. target_for z (Some row)) (sym (ids_here ids q new)) ∙ (ap (target_for (ids_with ids q new q)) (sym (insert_here t q row)) ∙ ap (λ z. target_for (ids_with ids q new z) (get (insert t q row) z)) (sym e)))
          | inr differ ↦ entry_apart (entries_at t ids) q (Some (record { attr = row.attr; blob = new })) r k differ
              ∙ (ap (λ z. target_for z (get t (k ∷ r))) (sym (ids_apart ids q new (k ∷ r) differ)) ∙ ap (target_for (ids_with ids q new (k ∷ r))) (sym (insert_apart t q row (k ∷ r) differ)))
        ]

  -- ---- one row less, which has nothing below it

  pub gone_shows : (row : Row) → get t q ≡ Some row → (listed : List ℕ) → Lists (λ k. cond (same_name k n) None (entries_at t ids p k)) listed → IsWellFormed (remove t q)
      → ShowsBy (remove (insert m (ids p) (blob Directory (above ids p) listed)) (ids q)) root (remove t q) ids
  gone_shows row there listed lists well_formed =
      let set = entry_set m t ids (above ids) (entries_at t ids) shows.forest p (folder_row t p folder) n None listed lists in
      let m1 = insert m (ids p) (blob Directory (above ids p) listed) in
      record {
        well_formed = well_formed;
        wide = shows.wide;
        at_root = shows.at_root;
        forest = forest_as _ (remove t q) ids (above ids) (with_entry (entries_at t ids) q None)
            (blob_dropped m1 t ids (above ids) (with_entry (entries_at t ids) q None) set q (ap is_some there) (remove t q) (remove_here t q) (λ r differ. remove_apart t q r differ))
            (remove t q) (above ids) (entries_at (remove t q) ids)
            (λ r row2 here. record { row = row2; there = here; kind = refl; bytes = refl; parent = refl; look = look_same r })
            (λ r s. s);
      }
    where
      look_same : (r : Path) (k : List ℕ) → with_entry (entries_at t ids) q None r k ≡ entries_at (remove t q) ids r k
      look_same r k = elim (path_split (k ∷ r) q) [
        | inl e ↦ entry_here (entries_at t ids) q None r k e ∙ ap (target_for (ids (k ∷ r))) (sym (ap (get (remove t q)) e ∙ remove_here t q))
        | inr differ ↦ entry_apart (entries_at t ids) q None r k differ ∙ ap (target_for (ids (k ∷ r))) (sym (remove_apart t q (k ∷ r) differ))
      ]

  -- ---- a row with other attributes, of the same kind

  pub attributes_show : (row row2 : Row) → get t q ≡ Some row → row.attr.kind ≡ row2.attr.kind → row.bytes ≡ row2.bytes
      → (listed : List ℕ) → Lists (λ k. cond (same_name k n) (Some (record { attr = row2.attr; blob = ids q })) (entries_at t ids p k)) listed → IsWellFormed (insert t q row2)
      → ShowsBy (insert m (ids p) (blob Directory (above ids p) listed)) root (insert t q row2) ids
  attributes_show row row2 there kind bytes listed lists well_formed =
      let target : EntryTarget = record { attr = row2.attr; blob = ids q } in
      record {
        well_formed = well_formed;
        wide = shows.wide;
        at_root = shows.at_root;
        forest = forest_as _ t ids (above ids) (with_entry (entries_at t ids) q (Some target))
            (entry_set m t ids (above ids) (entries_at t ids) shows.forest p (folder_row t p folder) n (Some target) listed lists)
            (insert t q row2) (above ids) (entries_at (insert t q row2) ids)
            carried goes;
      }
    where
      look_same : (r : Path) (k : List ℕ) → with_entry (entries_at t ids) q (Some (record { attr = row2.attr; blob = ids q })) r k ≡ entries_at (insert t q row2) ids r k
      look_same r k = elim (path_split (k ∷ r) q) [
        | inl e ↦ entry_here (entries_at t ids) q (Some (record { attr = row2.attr; blob = ids q })) r k e
            ∙ (ap (target_for (ids q)) (sym (insert_here t q row2)) ∙ ap (λ z. target_for (ids z) (get (insert t q row2) z)) (sym e))
        | inr differ ↦ entry_apart (entries_at t ids) q (Some (record { attr = row2.attr; blob = ids q })) r k differ ∙ ap (target_for (ids (k ∷ r))) (sym (insert_apart t q row2 (k ∷ r) differ))
      ]

      carried : (r : Path) (x : Row) → get (insert t q row2) r ≡ Some x → Carries t (above ids) (with_entry (entries_at t ids) q (Some (record { attr = row2.attr; blob = ids q }))) x (above ids r) (entries_at (insert t q row2) ids r) r
      carried r x here = elim (path_split r q) [
        | inl e ↦
            let same : row2 ≡ x = same_Some _ _ (sym (insert_here t q row2) ∙ (ap (get (insert t q row2)) (sym e) ∙ here)) in
            record { row = row; there = ap (get t) e ∙ there; kind = kind ∙ ap (λ (z : Row). z.attr.kind) same; bytes = bytes ∙ ap (λ (z : Row). z.bytes) same; parent = refl; look = look_same r }
        | inr differ ↦ record { row = x; there = sym (insert_apart t q row2 r differ) ∙ here; kind = refl; bytes = refl; parent = refl; look = look_same r }
      ]

      goes : (r : Path) → is_some (get t r) ≡ true → is_some (get (insert t q row2) r) ≡ true
      goes r s = elim (path_split r q) [
        | inl e ↦ ap (λ z. is_some (get (insert t q row2) z)) e ∙ ap is_some (insert_here t q row2)
        | inr differ ↦ ap is_some (insert_apart t q row2 r differ) ∙ s
      ]

  -- ---- a file with other bytes

  pub content_shows : (row row2 : Row) → get t q ≡ Some row → row.attr.kind ≡ row2.attr.kind → (body : List ℕ) → IsBodyOf row2.attr.kind row2.bytes (entries_at t ids q) body
      → (listed : List ℕ) → Lists (λ k. cond (same_name k n) (Some (record { attr = row2.attr; blob = ids q })) (entries_at t ids p k)) listed → IsWellFormed (insert t q row2)
      → ShowsBy (insert (insert m (ids q) (blob row2.attr.kind (ids p) body)) (ids p) (blob Directory (above ids p) listed)) root (insert t q row2) ids
  content_shows row row2 there kind body content listed lists well_formed =
      let target : EntryTarget = record { attr = row2.attr; blob = ids q } in
      let t2 = insert t q row2 in
      let m1 = insert m (ids q) (blob row2.attr.kind (ids p) body) in
      let set = blob_set m t ids (above ids) (entries_at t ids) shows.forest q (ap is_some there) (blob row2.attr.kind (ids p) body) t2 row2 (above ids) (entries_at t ids) (insert_here t q row2) (λ r differ. insert_apart t q row2 r differ)
      (record { body = body; there = map_here m (ids q) (blob row2.attr.kind (ids p) body); content = content }) (λ r s differ. refl) (λ r s differ k. refl) in
      let folder2 : IsFolderRow t2 p = folder_row t2 p (ap is_folder (insert_apart t q row2 p (not_itself n p)) ∙ folder) in
      record {
        well_formed = well_formed;
        wide = shows.wide;
        at_root = shows.at_root;
        forest = forest_as _ t2 ids (above ids) (with_entry (entries_at t ids) q (Some target))
            (entry_set m1 t2 ids (above ids) (entries_at t ids) set p folder2 n (Some target) listed lists)
            t2 (above ids) (entries_at t2 ids)
            (λ r x here. record { row = x; there = here; kind = refl; bytes = refl; parent = refl; look = look_same r })
            (λ r s. s);
      }
    where
      not_itself : (k : List ℕ) (r : Path) → r ≡ k ∷ r → ⊥
      not_itself k r e = absurd (omega (arith, ap length e))

      look_same : (r : Path) (k : List ℕ) → with_entry (entries_at t ids) q (Some (record { attr = row2.attr; blob = ids q })) r k ≡ entries_at (insert t q row2) ids r k
      look_same r k = elim (path_split (k ∷ r) q) [
        | inl e ↦ entry_here (entries_at t ids) q (Some (record { attr = row2.attr; blob = ids q })) r k e
            ∙ (ap (target_for (ids q)) (sym (insert_here t q row2)) ∙ ap (λ z. target_for (ids z) (get (insert t q row2) z)) (sym e))
        | inr differ ↦ entry_apart (entries_at t ids) q (Some (record { attr = row2.attr; blob = ids q })) r k differ ∙ ap (target_for (ids (k ∷ r))) (sym (insert_apart t q row2 (k ∷ r) differ))
      ]
