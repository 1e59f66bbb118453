-- What a path comes to, for a command that changes its row.
use Rattle.std.specs.Prelude.{◌≡◌, ◌≤◌, [], ◌∷◌}
use Rattle.std.specs.declared.option.Option.{Option}
use Rattle.std.specs.declared.option.Option.TheVariants.{None, Some}
use Rattle.dir_blob.specs.blob_api.BlobMap.{Id}
use Rattle.fs_model.specs.declared.error.FsError.{FsError}
use Rattle.fs_model.specs.declared.error.FsError.TheVariants.{NoEntry}
use Rattle.fs_model.specs.declared.limits.TheConstants.{MAX_MODE}
use Rattle.fs_model.specs.Tree.{Path, Tree, upward}
use Rattle.fs_model.specs.LookUp.{LookedUp, Found, Free, Bad, look}
use Rattle.path_walks.specs.Nodes.{Lists}
use Rattle.path_walks.specs.Shows.{entries_at}
use Rattle.path_walks.specs.declared.spots.Occupancy.{Occupancy}
use Rattle.path_walks.specs.Sights.{IsFound}
use Rattle.path_walks.specs.declared.reaching.Reached.{Reached}
use Rattle.path_walks.specs.declared.reaching.Reached.TheVariants.{Row, Refused}

-- a row stands under the last name of the path, and its directory's body was read
pub record IsRow (t : Tree) (ids : Path → Id) (p : Path) (at : Occupancy) : Type 0 where
  pub split : p ≡ at.name.now ∷ upward at.dir.names.now
  pub is : IsFound t ids (upward at.dir.names.now) at.name.now at.dir.place at.place
  pub lists : Lists (entries_at t ids (upward at.dir.names.now)) at.body.items

-- the error of a path that has no row to change: the root, which no directory holds, gets its own
abbrev pub refusal : FsError → Path → LookedUp → Option FsError
refusal at_root [] s = Some at_root
refusal at_root (n ∷ d) Free = Some NoEntry
refusal at_root (n ∷ d) (Bad e) = Some e
refusal at_root (n ∷ d) (Found row) = None

abbrev pub ReachedIs : Tree → (Path → Id) → Path → FsError → Reached → Type 0
ReachedIs t ids p at_root (Row at) = IsRow t ids p at
ReachedIs t ids p at_root (Refused e) = refusal at_root p (look t p) ≡ Some e

-- the modes that were found are within their limit
abbrev pub HaveRowModes : Reached → Type 0
HaveRowModes (Row at) = (at.dir.place.attr.mode ≤ MAX_MODE) × (at.place.attr.mode ≤ MAX_MODE)
HaveRowModes (Refused e) = Unit {0}
