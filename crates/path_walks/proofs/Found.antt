-- What stands under a name, to be taken away or changed.
use Rattle.std.proofs.Common.{◌≡◌, Bool, ◌∷◌, ◌∙◌, ap}
use Rattle.dir_blob.specs.blob_api.BlobMap.{BlobHoldings}
use Rattle.fs_model.specs.declared.attr.Attr.{Attr}
use Rattle.fs_model.specs.declared.attr.Kind.{Kind}
use Rattle.fs_model.specs.Tree.{Path, is_directory}
use Rattle.path_walks.specs.declared.spots.Occupancy.{Occupancy}
use Rattle.path_walks.specs.Sights.{Finding}

module _ {S : Type 0} {H : BlobHoldings S} {a : S} {at : Occupancy} (w : Finding H a at) where
  abbrev pub q : Path
  q = at.name.now ∷ w.path

  pub is_kind : (k : Kind) → at.place.attr.kind ≡ k → w.is.here.row.attr.kind ≡ k
  is_kind k e = ap (λ (x : Attr). x.kind) w.is.here.attr ∙ e

  pub is_folder_by : (b : Bool) → is_directory at.place.attr.kind ≡ b → is_directory w.is.here.row.attr.kind ≡ b
  is_folder_by b e = ap (λ (x : Attr). is_directory x.kind) w.is.here.attr ∙ e
