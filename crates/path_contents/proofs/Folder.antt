-- A directory of the shown tree, as its blob.
use Rattle.std.proofs.Common.{◌≡◌, map, sym, ◌∙◌, ap, cond, ℕ, List, [], ◌∷◌, true, refl}
use Rattle.path_walks.specs.blob_api.BlobMap.{Id, BlobHoldings}
use Rattle.fs_model.specs.declared.attr.Kind.TheVariants.{Directory}
use Rattle.fs_model.specs.declared.reply.Reply.TheVariants.{Rows}
use Rattle.fs_model.specs.declared.error.FsError.TheVariants.{NotDirectory}
use Rattle.fs_model.specs.Tree.{is_directory, children, Path, Row, Tree, name_cmp}
use Rattle.fs_model.specs.LookUp.{Found}
use Rattle.fs_model.specs.Step.{listed, answered, refused, list_row}
use Rattle.std.specs.FinMap.{entries, find}
use Rattle.path_walks.specs.dir_blob.Directories.{IsDirectory}
use Rattle.path_contents.specs.Listed.{InFolder, shown_row}
use Rattle.path_walks.proofs.Nodes.{lists_at, directory_at}
use Rattle.path_walks.proofs.Steps.{folder_is}
use Rattle.fs_model.specs.declared.attr.Attr.{Attr}
use Rattle.fs_model.specs.declared.reply.ListRow.{ListRow}
use Rattle.std.specs.FinMap.Entries.{is_sorted}
use Rattle.path_walks.specs.dir_entries.Layout.{EntryTarget, Listing}
use Rattle.path_walks.specs.Shows.{entries_at}
use Rattle.path_walks.proofs.Sizes.{with_values, attrs_shown}

row_of : List ℕ × Attr → ListRow
row_of e = record { kind = e.1.kind; name = e.0 }

rows-attr : (es : List (List ℕ × Row)) → map list_row es ≡ map row_of (with_values (λ (r : Row). r.attr) es)
unfolding row_of
rows-attr [] = refl
rows-attr (e ∷ es) = ap (λ xs. list_row e ∷ xs) (rows-attr es)

shown-attr : (es : Listing) → map shown_row es ≡ map row_of (with_values (λ (x : EntryTarget). x.attr) es)
unfolding row_of
shown-attr [] = refl
shown-attr (e ∷ es) = ap (λ xs. shown_row e ∷ xs) (shown-attr es)

pub rows_shown : (t : Tree) (ids : Path → Id) (p : Path) (listing : Listing) → is_sorted name_cmp listing ≡ true → ((n : List ℕ) → find name_cmp n listing ≡ entries_at t ids p n) → map shown_row listing ≡ map list_row (entries (children t p))
rows_shown t ids p listing sorted found = shown-attr listing ∙ (ap (map row_of) (sym (attrs_shown t ids p listing sorted found)) ∙ sym (rows-attr (entries (children t p))))

module _ {S : Type 0} {H : BlobHoldings S} {a : S} {dir : Id} (w : InFolder H a dir) where
  abbrev pub kind : w.standing.at.row.attr.kind ≡ Directory
  kind = folder_is w.standing.tree w.standing.ids w.standing.path w.place w.standing.at w.folder

  abbrev pub directory : IsDirectory H a dir
  directory = directory_at w.standing.shows w.standing.stands w.standing.path w.standing.at.row w.standing.at.there kind dir (w.standing.at.blob ∙ w.id)

  pub rows_told : Rows (map shown_row directory.listing) ≡ (listed w.standing.tree w.standing.path (Found w.standing.at.row)).reply
  rows_told =
      let lists = lists_at w.standing.shows w.standing.path w.standing.at.row w.standing.at.there kind in
      ap Rows (rows_shown w.standing.tree w.standing.ids w.standing.path lists.listing lists.is.entries.order lists.entries)
      ∙ sym (ap (λ k. (cond (is_directory k) (answered w.standing.tree (Rows (map list_row (entries (children w.standing.tree w.standing.path))))) (refused w.standing.tree NotDirectory)).reply) kind)
