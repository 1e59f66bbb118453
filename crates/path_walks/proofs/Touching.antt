-- Directories whose children changed, over blobs.
use Rattle.std.proofs.Common.{◌≡◌, ℕ, ◌≤◌, true, false, List, [], ◌∷◌, refl, sym, ◌∙◌, ap, subst, inl, inr}
use Rattle.std.specs.Prelude.{is_some}
use Rattle.std.specs.FinMap.{get, insert}
use Rattle.std.specs.declared.option.Option.TheVariants.{Some}
use Rattle.dir_blob.specs.blob_api.BlobMap.{Id, BlobHoldings}
use Rattle.fs_model.specs.declared.attr.Attr.{Attr}
use Rattle.fs_model.specs.declared.limits.TheConstants.{MAX_MODE}
use Rattle.fs_model.specs.Instant.{Instant}
use Rattle.fs_model.specs.Tree.{Path, upward, is_directory, FitsKind, IsWellFormed}
use Rattle.fs_model.specs.Step.{with_moments, touched}
use Rattle.fs_model.proofs.TreeLemmas.{same_name, name_same, name_split, name_apart}
use Rattle.fs_model.proofs.PutRows.{insert_found}
use Rattle.fs_model.proofs.Touches.{touched-apart, touched-set, touched-again}
use Rattle.path_walks.specs.Showing.{IsShownBy}
use Rattle.path_walks.specs.declared.spots.Folder.{Folder}
use Rattle.path_walks.specs.Sights.{IsAt}
use Rattle.path_walks.specs.Entries.{Setting}
use Rattle.path_walks.specs.Touching.{Touching, TouchingBoth}
use Rattle.path_walks.proofs.Places.{still_at}

-- the attributes of a row that is touched
abbrev pub stamped : Instant → Attr → Attr
stamped now a = record a { mtime = now; ctime = now }

module _ {S : Type 0} {H : BlobHoldings S} {a : S} {dir : Folder} (w : Touching H a dir) (now : Instant) where
  abbrev pub p : Path
  p = upward dir.names.now

  -- the root isn't touched
  pub root_stays : p ≡ [] → IsShownBy H a w.root (touched w.tree now p) w.ids
  root_stays e = subst (λ z. IsShownBy H a w.root (touched w.tree now z) w.ids) (sym e) (record { map = w.map; stands = w.stands; shows = w.shows })

  module _ (n : List ℕ) (d : Path) (split : p ≡ n ∷ d) where
    pub at_name : IsAt w.tree w.ids (n ∷ d) dir.place
    at_name = subst (λ z. IsAt w.tree w.ids z dir.place) split w.at

    pub there_as : (z : List ℕ) → n ≡ z → get w.tree (z ∷ d) ≡ Some at_name.row
    there_as z e = ap (λ x. get w.tree (x ∷ d)) (sym e) ∙ at_name.there

    pub blob_as : (z : List ℕ) → n ≡ z → (blob : Id) → dir.place.blob.0 ≡ blob → w.ids (z ∷ d) ≡ blob
    blob_as z e blob is = ap (λ x. w.ids (x ∷ d)) (sym e) ∙ (at_name.blob ∙ is)

    pub kind_as : (attr : Attr) → attr ≡ stamped now dir.place.attr → at_name.row.attr.kind ≡ attr.kind
    kind_as attr is = ap (λ (x : Attr). x.kind) at_name.attr ∙ ap (λ (x : Attr). x.kind) (sym is)

    pub mode_as : dir.place.attr.mode ≤ MAX_MODE → (attr : Attr) → attr ≡ stamped now dir.place.attr → attr.mode ≤ MAX_MODE
    mode_as mode attr is = subst (λ (x : Attr). x.mode ≤ MAX_MODE) (sym is) mode

    pub formed_as : (z : List ℕ) → n ≡ z → dir.place.attr.mode ≤ MAX_MODE → (attr : Attr) → attr ≡ stamped now dir.place.attr → (bytes : List ℕ) → FitsKind attr.kind bytes
        → IsWellFormed (insert w.tree (z ∷ d) (record { attr = attr; bytes = bytes }))
    formed_as z e mode attr is bytes fits =
        insert_found w.tree z d (record { attr = attr; bytes = bytes }) at_name.row w.shows.well_formed (there_as z e) (ap is_directory (kind_as attr is)) (record { content = fits; mode = mode_as mode attr is })

    -- its entry is set
    abbrev pub setting : (z : List ℕ) → n ≡ z → dir.place.attr.mode ≤ MAX_MODE → (attr : Attr) → attr ≡ stamped now dir.place.attr → (blob : Id) → dir.place.blob.0 ≡ blob → Setting H a dir.place.holder.0 (z, record { attr = attr; blob = blob })
    setting z e mode attr is blob same = record {
      map = w.map;
      stands = w.stands;
      root = w.root;
      tree = w.tree;
      ids = w.ids;
      shows = w.shows;
      path = d;
      row = at_name.row;
      there = there_as z e;
      dir_id = at_name.holder;
      blob = blob_as z e blob same;
      kind = kind_as attr is;
      well_formed = formed_as z e mode attr is;
    }

    -- and then the blobs show the touched tree
    pub touched_then : (b : S) (z : List ℕ) → n ≡ z → (attr : Attr) → attr ≡ stamped now dir.place.attr → IsShownBy H b w.root (insert w.tree (z ∷ d) (record { attr = attr; bytes = at_name.row.bytes })) w.ids → IsShownBy H b w.root (touched w.tree now p) w.ids
    touched_then b z e attr is h =
        let row : record { attr = attr; bytes = at_name.row.bytes } ≡ with_moments at_name.row now = ap (λ (x : Attr). record { attr = x; bytes = at_name.row.bytes }) (is ∙ ap (stamped now) (sym at_name.attr)) in
        let set : insert w.tree (z ∷ d) (record { attr = attr; bytes = at_name.row.bytes }) ≡ touched w.tree now p =
        ap (λ x. insert w.tree (x ∷ d) (record { attr = attr; bytes = at_name.row.bytes })) (sym e)
        ∙ (ap (insert w.tree (n ∷ d)) row
        ∙ (sym (touched-set w.tree now (n ∷ d) at_name.row refl at_name.there) ∙ ap (touched w.tree now) (sym split))) in
        subst (λ t. IsShownBy H b w.root t w.ids) set h

-- ---- two directories

module _ {S : Type 0} {H : BlobHoldings S} {a : S} {from to : Folder} (w : TouchingBoth H a from to) (now : Instant) where
  abbrev pub first : Touching H a from
  first = record { map = w.map; stands = w.stands; root = w.root; tree = w.tree; ids = w.ids; shows = w.shows; at = w.from_at }

  same_blob : (x y : Id) → same_name x y ≡ true → x ≡ y
  same_blob x y e = elim (name_split x y) [
    | inl same ↦ same
    | inr differ ↦ let bad : true ≡ false = sym e ∙ name_apart x y differ in cc
  ]

  -- one directory
  pub one : (b : S) → same_name from.place.blob.0 to.place.blob.0 ≡ true → IsShownBy H b w.root (touched w.tree now (upward from.names.now)) w.ids
      → IsShownBy H b w.root (touched (touched w.tree now (upward from.names.now)) now (upward to.names.now)) w.ids
  one b e h =
      let p = upward from.names.now in
      let q = upward to.names.now in
      let path : p ≡ q = w.shows.forest.distinct p q (ap is_some w.from_at.there) (ap is_some w.to_at.there) (w.from_at.blob ∙ (same_blob from.place.blob.0 to.place.blob.0 e ∙ sym w.to_at.blob)) in
      subst (λ t. IsShownBy H b w.root t w.ids) (sym (touched-again w.tree now p) ∙ ap (touched (touched w.tree now p) now) path) h

  apart : same_name from.place.blob.0 to.place.blob.0 ≡ false → upward to.names.now ≡ upward from.names.now → ⊥
  apart e path =
      let same : from.place.blob.0 ≡ to.place.blob.0 = sym w.from_at.blob ∙ (ap w.ids (sym path) ∙ w.to_at.blob) in
      let bad : false ≡ true = sym e ∙ (ap (same_name from.place.blob.0) (sym same) ∙ name_same from.place.blob.0) in
      cc

  -- the other one after the first was touched
  pub to_still : (b : S) → same_name from.place.blob.0 to.place.blob.0 ≡ false → IsShownBy H b w.root (touched w.tree now (upward from.names.now)) w.ids → IsAt (touched w.tree now (upward from.names.now)) w.ids (upward to.names.now) to.place
  to_still b e h =
      still_at w.tree (touched w.tree now (upward from.names.now)) w.ids w.ids (upward to.names.now) to.place h.shows.well_formed.rooted
      (touched-apart w.tree now (upward from.names.now) (upward to.names.now) (apart e)) refl (λ n d is. refl) w.to_at

  abbrev pub second : (b : S) → same_name from.place.blob.0 to.place.blob.0 ≡ false → IsShownBy H b w.root (touched w.tree now (upward from.names.now)) w.ids → Touching H b to
  second b e h = record {
    map = h.map;
    stands = h.stands;
    root = w.root;
    tree = touched w.tree now (upward from.names.now);
    ids = w.ids;
    shows = h.shows;
    at = to_still b e h;
  }
