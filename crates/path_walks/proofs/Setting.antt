-- A row that gets other attributes, over blobs.
use Rattle.std.proofs.Common.{◌≡◌, ℕ, true, List, ◌∷◌, refl, sym, ◌∙◌, ap, subst}
use Rattle.std.specs.Prelude.{is_some, cond}
use Rattle.std.specs.FinMap.{get, find, insert, put}
use Rattle.std.specs.declared.option.Option.TheVariants.{Some}
use Rattle.dir_blob.specs.blob_api.BlobMap.{Id, BlobHoldings}
use Rattle.fs_model.specs.declared.attr.Kind.TheVariants.{Directory}
use Rattle.fs_model.specs.Tree.{Path, Row, name_cmp, is_folder, FitsKind}
use Rattle.fs_model.proofs.TreeLemmas.{same_name}
use Rattle.dir_blob.specs.fs_blobs.Headers.{blob}
use Rattle.dir_blob.specs.dir_entries.Layout.{EntryTarget, body_of, IsListing}
use Rattle.dir_blob.specs.Directories.{HasName, HasNameIn, HasEntries}
use Rattle.path_walks.specs.Nodes.{Lists}
use Rattle.path_walks.specs.Shows.{above, target_for, entries_at}
use Rattle.path_walks.proofs.Shown.{IsFolderRow, folder_row, attributes_show}
use Rattle.path_walks.specs.Showing.{IsShownBy}
use Rattle.path_walks.specs.Entries.{Setting, SettingIn}
use Rattle.path_walks.proofs.Nodes.{lists_at, directory_at, lists_with, read_is}

module _ {S : Type 0} {H : BlobHoldings S} {a : S} {dir : Id} {e : List ℕ × EntryTarget} (w : Setting H a dir e) where
  abbrev pub q : Path
  q = e.0 ∷ w.path

  pub folder : is_folder (get w.tree w.path) ≡ true
  folder = w.shows.well_formed.rooted.parents e.0 w.path (ap is_some w.there)

  pub row_above : IsFolderRow w.tree w.path
  row_above = folder_row w.tree w.path folder

  pub present : find name_cmp e.0 (lists_at w.shows w.path row_above.row row_above.there row_above.kind).listing ≡ Some (record { attr = w.row.attr; blob = w.ids q })
  present = (lists_at w.shows w.path row_above.row row_above.there row_above.kind).entries e.0 ∙ ap (target_for (w.ids q)) w.there

  -- the directory has an entry of the name
  abbrev pub has_name : HasName H a dir e.0
  has_name = record {
    is = directory_at w.shows w.stands w.path row_above.row row_above.there row_above.kind dir w.dir_id;
    target = record { attr = w.row.attr; blob = w.ids q };
    present = present;
  }

  abbrev pub listed : List ℕ
  listed = body_of (put name_cmp e.0 e.1 has_name.is.listing)

  abbrev pub row_with : List ℕ → Row
  row_with bytes = record { attr = e.1.attr; bytes = bytes }

  pub lists_then : IsListing (put name_cmp e.0 e.1 has_name.is.listing) → Lists (λ k. cond (same_name k e.0) (Some (record { attr = e.1.attr; blob = w.ids q })) (entries_at w.tree w.ids w.path k)) listed
  lists_then is =
      let target_is : e.1 ≡ record { attr = e.1.attr; blob = w.ids q } = λ i. record { attr = e.1.attr; blob = sym w.blob i } in
      subst (λ z. Lists (λ k. cond (same_name k e.0) (Some z) (entries_at w.tree w.ids w.path k)) listed) target_is
      (lists_with (entries_at w.tree w.ids w.path) has_name.is.listing e.0 e.1 (lists_at w.shows w.path row_above.row row_above.there row_above.kind).entries is)

  pub attributes_set : (b : S) → FitsKind e.1.attr.kind w.row.bytes → HasEntries H b w.map dir (above w.ids w.path) (put name_cmp e.0 e.1 has_name.is.listing) → IsShownBy H b w.root (insert w.tree q (row_with w.row.bytes)) w.ids
  attributes_set b fits h = record {
    map = insert w.map (w.ids w.path) (blob Directory (above w.ids w.path) listed);
    stands = subst (λ z. H.stands_for b (insert w.map z (blob Directory (above w.ids w.path) listed))) (sym w.dir_id) h.stands;
    shows = attributes_show w.map w.root w.tree w.ids w.shows e.0 w.path folder w.row (row_with w.row.bytes) w.there w.kind refl listed (lists_then h.entries) (w.well_formed w.row.bytes fits);
  }

  pub fits_still : FitsKind e.1.attr.kind w.row.bytes
  fits_still = subst (λ k. FitsKind k w.row.bytes) w.kind (w.shows.well_formed.rows q w.row w.there).content

-- and the body that was read is the directory's
module _ {S : Type 0} {H : BlobHoldings S} {a : S} {dir : Id} {body : List ℕ} {e : List ℕ × EntryTarget} (w : SettingIn H a dir body e) where
  pub body_here : body ≡ body_of (has_name w.setting).is.listing
  body_here = read_is w.setting.shows w.setting.path (row_above w.setting).row (row_above w.setting).there (row_above w.setting).kind body w.lists

  abbrev pub has_name_in : HasNameIn H a dir body e.0
  has_name_in = record { named = has_name w.setting; text = body_here }
