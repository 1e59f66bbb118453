-- What changes of the rows need.
use Rattle.std.specs.Prelude.{◌≡◌, ◌≤◌, ◌+◌, ℕ, List, ◌∷◌}
use Rattle.std.specs.FinMap.{get, remove}
use Rattle.std.specs.declared.option.Option.TheVariants.{Some}
use Rattle.path_walks.specs.blob_api.BlobMap.{Id, BlobMap, BlobHoldings}
use Rattle.fs_model.specs.declared.attr.Kind.TheVariants.{Directory}
use Rattle.fs_model.specs.declared.limits.TheConstants.{MAX_ENTRIES}
use Rattle.fs_model.specs.Tree.{Path, Row, Tree, upward, IsWellFormed, IsWithinLimits, entry_size, directory_size}
use Rattle.path_walks.specs.Nodes.{Lists}
use Rattle.path_walks.specs.Shows.{ShowsBy, entries_at}
use Rattle.path_walks.specs.declared.spots.Folder.{Folder}
use Rattle.path_walks.specs.declared.spots.Place.{Place}
use Rattle.path_walks.specs.Sights.{IsVacant, Standing}

-- a directory in which a name is free, where a row is to be made, and its body
pub record Making {S : Type 0} (H : BlobHoldings S) (a : S) (dir : Folder) (n body : List ℕ) (row : Row) : Type 0 where
  pub map : BlobMap
  pub stands : H.stands_for a map
  pub root : Id
  pub tree : Tree
  pub ids : Path → Id
  pub shows : ShowsBy map root tree ids
  pub path : Path
  pub names : path ≡ upward dir.names.now
  pub is : IsVacant tree ids path n dir.place
  pub lists : Lists (entries_at tree ids path) body
  pub limits : IsWithinLimits row

-- and there is room for its entry
pub record Adding {S : Type 0} (H : BlobHoldings S) (a : S) (dir : Folder) (n body : List ℕ) (row : Row) : Type 0 where
  pub making : Making H a dir n body row
  pub room : directory_size making.tree making.path + entry_size n ≤ MAX_ENTRIES

-- a row that may go, with its directory's blob and body and its own blob
pub record Dropping {S : Type 0} (H : BlobHoldings S) (a : S) (dir : Id) (body n : List ℕ) (blob : Id) : Type 0 where
  pub map : BlobMap
  pub stands : H.stands_for a map
  pub root : Id
  pub tree : Tree
  pub ids : Path → Id
  pub shows : ShowsBy map root tree ids
  pub path : Path
  pub row : Row
  pub there : get tree (n ∷ path) ≡ Some row
  pub dir_id : ids path ≡ dir
  pub blob_id : ids (n ∷ path) ≡ blob
  pub lists : Lists (entries_at tree ids path) body
  pub well_formed : IsWellFormed (remove tree (n ∷ path))

-- a directory stands there
pub record DirectoryAt {S : Type 0} (H : BlobHoldings S) (a : S) (place : Place) : Type 0 where
  pub standing : Standing H a place
  pub folder : place.attr.kind ≡ Directory
