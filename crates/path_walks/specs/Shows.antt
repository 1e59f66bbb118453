-- Blobs that show a tree.
use Rattle.std.specs.Prelude.{◌≡◌, [], ◌∷◌, length}
use Rattle.std.specs.FinMap.{get}
use Rattle.std.specs.declared.option.Option.{Option}
use Rattle.std.specs.declared.option.Option.TheVariants.{None, Some}
use Rattle.block_id.specs.Fresh.{zero_id}
use Rattle.fs_blobs.specs.blob_api.BlobMap.{Id, BlobMap}
use Rattle.fs_model.specs.Tree.{Path, Row, Tree, IsWellFormed}
use Rattle.dir_entries.specs.Layout.{EntryTarget}
use Rattle.path_walks.specs.Nodes.{Look, IsForest}

-- the parent that a header names: the blob of the directory above, and sixteen zero bytes for the root
abbrev pub above : (Path → Id) → Path → Id
above ids [] = zero_id
above ids (n ∷ p) = ids p

abbrev pub target_for : Id → Option Row → Option EntryTarget
target_for id None = None
target_for id (Some row) = Some (record { attr = row.attr; blob = id })

-- the entries of a directory: the rows below its path, with their blobs
abbrev pub entries_at : Tree → (Path → Id) → Path → Look
entries_at t ids p n = target_for (ids (n ∷ p)) (get t (n ∷ p))

-- the blob at `ids p` is the one of the path p
pub record ShowsBy (m : BlobMap) (root : Id) (t : Tree) (ids : Path → Id) : Type 0 where
  pub well_formed : IsWellFormed t
  pub wide : length root ≡ 16
  pub at_root : ids [] ≡ root
  pub forest : IsForest m t ids (above ids) (entries_at t ids)

-- the blobs show this tree of paths
abbrev pub ShowsTree : BlobMap → Id → Tree → Type 0
ShowsTree m root t = (ids : Path → Id) × ShowsBy m root t ids
