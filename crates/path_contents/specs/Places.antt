-- What is asked of a place of the shown tree.
use Rattle.std.specs.Prelude.{◌≡◌, false}
use Rattle.path_walks.specs.blob_api.BlobMap.{BlobHoldings}
use Rattle.fs_model.specs.Tree.{is_directory}
use Rattle.path_walks.specs.declared.spots.Place.{Place}
use Rattle.path_walks.specs.Sights.{Standing}

-- a file or a link stands there
pub record Holding {S : Type 0} (H : BlobHoldings S) (a : S) (place : Place) : Type 0 where
  pub standing : Standing H a place
  pub plain : is_directory place.attr.kind ≡ false
