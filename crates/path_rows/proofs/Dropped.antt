-- A row that goes, over blobs.
use Rattle.std.proofs.Common.{◌≡◌, ℕ, ◌≤◌, true, List, ◌∷◌, length, ◌∙◌, ap, subst, arith}
use Rattle.std.specs.Prelude.{is_some, cond}
use Rattle.std.specs.FinMap.{get, insert, remove}
use Rattle.std.specs.declared.option.Option.TheVariants.{None}
use Rattle.path_walks.specs.blob_api.declared.blobs.TheConstants.{MAX_BLOB}
use Rattle.path_walks.specs.blob_api.BlobMap.{Id, BlobMap, BlobHoldings, Has}
use Rattle.fs_model.specs.declared.attr.Kind.TheVariants.{Directory}
use Rattle.fs_model.specs.Tree.{is_folder}
use Rattle.path_walks.specs.fs_blobs.Headers.{blob}
use Rattle.path_walks.proofs.fs_blobs_lemmas.Parts.{blob_fits}
use Rattle.fs_model.proofs.TreeLemmas.{same_name}
use Rattle.path_walks.specs.dir_entries.Layout.{body_of, IsListing}
use Rattle.path_walks.specs.dir_entries.Places.{without}
use Rattle.path_walks.specs.dir_blob.Directories.{HasName, HasNameIn, HasEntries}
use Rattle.path_walks.specs.Nodes.{Lists, IsBlobOf, IsForest}
use Rattle.path_walks.specs.Shows.{above, target_for, entries_at, ShowsBy}
use Rattle.path_walks.specs.Midst.{with_entry}
use Rattle.path_walks.proofs.Shown.{IsFolderRow, folder_row, entry_set, entry_apart, gone_shows}
use Rattle.path_walks.specs.Showing.{IsShownBy}
use Rattle.path_rows.specs.Changes.{Dropping}
use Rattle.path_walks.proofs.Nodes.{lists_at, directory_at, above_wide, content_fits, read_is}
use Rattle.path_rows.proofs.Edits.{lists_without}

module _ {S : Type 0} {H : BlobHoldings S} {a : S} {dir : Id} {body n : List ℕ} {id : Id} (w : Dropping H a dir body n id) where
  pub folder : is_folder (get w.tree w.path) ≡ true
  folder = w.shows.well_formed.rooted.parents n w.path (ap is_some w.there)

  pub row_above : IsFolderRow w.tree w.path
  row_above = folder_row w.tree w.path folder

  -- the directory has an entry of the name
  abbrev pub has_name : HasName H a dir n
  has_name = record {
    is = directory_at w.shows w.stands w.path row_above.row row_above.there row_above.kind dir w.dir_id;
    target = record { attr = w.row.attr; blob = w.ids (n ∷ w.path) };
    present = (lists_at w.shows w.path row_above.row row_above.there row_above.kind).entries n ∙ ap (target_for (w.ids (n ∷ w.path))) w.there;
  }

  abbrev pub has_name_in : (read : List ℕ) → read ≡ body → HasNameIn H a dir read n
  has_name_in read same = record { named = has_name; text = same ∙ read_is w.shows w.path row_above.row row_above.there row_above.kind body w.lists }

  abbrev pub listed : List ℕ
  listed = body_of (without n has_name.is.listing)

  pub lists_then : IsListing (without n has_name.is.listing) → Lists (λ k. cond (same_name k n) None (entries_at w.tree w.ids w.path k)) listed
  lists_then is = lists_without (entries_at w.tree w.ids w.path) has_name.is.listing n (lists_at w.shows w.path row_above.row row_above.there row_above.kind).entries is

  abbrev pub map1 : BlobMap
  map1 = insert w.map dir (blob Directory (above w.ids w.path) listed)

  look_apart : (k : List ℕ) → with_entry (entries_at w.tree w.ids) (n ∷ w.path) None (n ∷ w.path) k ≡ entries_at w.tree w.ids (n ∷ w.path) k
  look_apart k = entry_apart (entries_at w.tree w.ids) (n ∷ w.path) None (n ∷ w.path) k (λ e. omega (arith, ap length e))

  forest1 : IsListing (without n has_name.is.listing) → IsForest (insert w.map (w.ids w.path) (blob Directory (above w.ids w.path) listed)) w.tree w.ids (above w.ids) (with_entry (entries_at w.tree w.ids) (n ∷ w.path) None)
  forest1 is = entry_set w.map w.tree w.ids (above w.ids) (entries_at w.tree w.ids) w.shows.forest w.path row_above n None listed (lists_then is)

  pub node1 : IsListing (without n has_name.is.listing) → IsBlobOf map1 id w.row.attr.kind (above w.ids (n ∷ w.path)) w.row.bytes (with_entry (entries_at w.tree w.ids) (n ∷ w.path) None (n ∷ w.path))
  node1 is =
      subst (λ z. IsBlobOf map1 z w.row.attr.kind (above w.ids (n ∷ w.path)) w.row.bytes (with_entry (entries_at w.tree w.ids) (n ∷ w.path) None (n ∷ w.path))) w.blob_id
      (subst (λ z. IsBlobOf (insert w.map z (blob Directory (above w.ids w.path) listed)) (w.ids (n ∷ w.path)) w.row.attr.kind (above w.ids (n ∷ w.path)) w.row.bytes (with_entry (entries_at w.tree w.ids) (n ∷ w.path) None (n ∷ w.path))) w.dir_id
      ((forest1 is).nodes (n ∷ w.path) w.row w.there))

  pub fits_here : (is : IsListing (without n has_name.is.listing)) → length (blob w.row.attr.kind (above w.ids (n ∷ w.path)) (node1 is).body) ≤ MAX_BLOB
  fits_here is =
      blob_fits w.row.attr.kind (above w.ids (n ∷ w.path)) (node1 is).body (above_wide w.shows (n ∷ w.path) w.row w.there)
      (content_fits w.tree w.ids (n ∷ w.path) w.row.attr.kind w.row.bytes _ (node1 is).body (w.shows.well_formed.directories (n ∷ w.path)) (w.shows.well_formed.rows (n ∷ w.path) w.row w.there).content look_apart (node1 is).content)

  -- and then the blob is there
  abbrev pub has_blob : (b : S) → HasEntries H b w.map dir (above w.ids w.path) (without n has_name.is.listing) → Has H b id
  has_blob b h = record { map = map1; stands = h.stands; bytes = blob w.row.attr.kind (above w.ids (n ∷ w.path)) (node1 h.entries).body; there = (node1 h.entries).there; fits = fits_here h.entries }

  -- and when it went, the blobs show the tree without the row
  pub dropped : (b c : S) (h : HasEntries H b w.map dir (above w.ids w.path) (without n has_name.is.listing)) → H.stands_for c (remove map1 id) → IsShownBy H c w.root (remove w.tree (n ∷ w.path)) w.ids
  dropped b c h stands = record {
    map = remove map1 id;
    stands = stands;
    shows = subst (λ z. ShowsBy (remove map1 z) w.root (remove w.tree (n ∷ w.path)) w.ids) w.blob_id
        (subst (λ z. ShowsBy (remove (insert w.map z (blob Directory (above w.ids w.path) listed)) (w.ids (n ∷ w.path))) w.root (remove w.tree (n ∷ w.path)) w.ids) w.dir_id
        (gone_shows w.map w.root w.tree w.ids w.shows n w.path folder w.row w.there listed (lists_then h.entries) w.well_formed));
  }
