-- The blobs of a new file system: one empty directory, which shows the empty tree.
use Rattle.std.specs.Prelude.{◌≡◌, true, [], ◌∷◌, length, is_some}
use Rattle.std.proofs.Common.{refl, sym, ◌∙◌, ap, subst, inl, inr}
use Rattle.std.specs.FinMap.{get, insert, empty, get-empty}
use Rattle.std.specs.declared.option.Option.TheVariants.{Some}
use Rattle.std.proofs.lemmas.List.Elements.{All-nil}
use Rattle.std.proofs.lemmas.Option.{same_Some}
use Rattle.block_id.specs.Fresh.{zero_id}
use Rattle.block_id.proofs.Options.{none_is}
use Rattle.fs_blobs.specs.blob_api.BlobMap.{Id, BlobMap, id_cmp}
use Rattle.fs_model.specs.declared.attr.Kind.TheVariants.{Directory}
use Rattle.fs_model.specs.Tree.{Path, Row, root_row, empty_tree}
use Rattle.fs_model.proofs.TreeLemmas.{name_split, insert_here}
use Rattle.fs_model.proofs.WellFormedStep.{empty_well_formed, empty_at}
use Rattle.fs_blobs.specs.Headers.{blob}
use Rattle.dir_entries.specs.Layout.{IsEntry}
use Rattle.fs_blobs.proofs.Parts.{map_here}
use Rattle.path_walks.specs.Nodes.{IsBlobOf}
use Rattle.path_walks.specs.Shows.{above, target_for, entries_at, ShowsBy}
use Rattle.path_walks.proofs.Forests.{map_apart}

abbrev pub new_blobs : Id → BlobMap
new_blobs root = insert empty root (blob Directory zero_id [])

pub empty_shows : (root : Id) → length root ≡ 16 → ShowsBy (new_blobs root) root empty_tree (λ p. root)
empty_shows root wide = record {
  well_formed = empty_well_formed;
  wide = wide;
  at_root = refl;
  forest = record {
    nodes = nodes;
    distinct = λ p q a b e. only p a ∙ sym (only q b);
    all = λ id s. elim (name_split id root) [
      | inl e ↦ ([], ap is_some (insert_here empty [] root_row), sym e)
      | inr d ↦ absurd (none_is (get (new_blobs root) id) (map_apart empty root (blob Directory zero_id []) id d ∙ get-empty id_cmp id) s)
    ];
  };
}
  where
    only : (p : Path) → is_some (get empty_tree p) ≡ true → p ≡ []
    only [] s = refl
    only (n ∷ p) s = absurd (none_is (get empty_tree (n ∷ p)) (empty_at n p) s)

    nodes : (p : Path) (row : Row) → get empty_tree p ≡ Some row → IsBlobOf (new_blobs root) root row.attr.kind (above (λ z. root) p) row.bytes (entries_at empty_tree (λ z. root) p)
    nodes [] row there =
        let same : root_row ≡ row = same_Some _ _ (sym (insert_here empty [] root_row) ∙ there) in
        subst (λ (r : Row). IsBlobOf (new_blobs root) root r.attr.kind zero_id r.bytes (entries_at empty_tree (λ z. root) [])) same (record {
          body = [];
          there = map_here empty root (blob Directory zero_id []);
          content = record {
            listing = [];
            is = record { entries = record { entries = All-nil IsEntry; order = refl }; text = refl };
            entries = λ n. sym (ap (target_for root) (empty_at n []));
          };
        })
    nodes (n ∷ p) row there = absurd (none_is (get empty_tree (n ∷ p)) (empty_at n p) (ap is_some there))
