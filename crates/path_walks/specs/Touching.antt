-- What touching a directory needs.
use Rattle.dir_blob.specs.blob_api.BlobMap.{Id, BlobMap, BlobHoldings}
use Rattle.fs_model.specs.Tree.{Path, Tree, upward}
use Rattle.path_walks.specs.Shows.{ShowsBy}
use Rattle.path_walks.specs.declared.spots.Folder.{Folder}
use Rattle.path_walks.specs.Sights.{IsAt}

-- a directory, as its place says it
pub record Touching {S : Type 0} (H : BlobHoldings S) (a : S) (dir : Folder) : Type 0 where
  pub map : BlobMap
  pub stands : H.stands_for a map
  pub root : Id
  pub tree : Tree
  pub ids : Path → Id
  pub shows : ShowsBy map root tree ids
  pub at : IsAt tree ids (upward dir.names.now) dir.place

-- two directories, which may be one
pub record TouchingBoth {S : Type 0} (H : BlobHoldings S) (a : S) (from to : Folder) : Type 0 where
  pub map : BlobMap
  pub stands : H.stands_for a map
  pub root : Id
  pub tree : Tree
  pub ids : Path → Id
  pub shows : ShowsBy map root tree ids
  pub from_at : IsAt tree ids (upward from.names.now) from.place
  pub to_at : IsAt tree ids (upward to.names.now) to.place
