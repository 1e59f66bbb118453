-- What a walk sees of the tree that the blobs show.
use Rattle.std.specs.Prelude.{◌≡◌, ◌≤◌, List, Vec, ℕ, [], ◌∷◌}
use Rattle.std.specs.declared.alloc.Global.{Global}
use Rattle.std.specs.FinMap.{get}
use Rattle.std.specs.declared.option.Option.{Option}
use Rattle.std.specs.declared.option.Option.TheVariants.{None, Some}
use Rattle.block_id.specs.declared.id.BlockId.{BlockId}
use Rattle.dir_blob.specs.blob_api.BlobMap.{Id, BlobMap, BlobHoldings}
use Rattle.fs_model.specs.declared.attr.Attr.{Attr}
use Rattle.fs_model.specs.declared.attr.Kind.TheVariants.{Directory}
use Rattle.fs_model.specs.declared.error.FsError.{FsError}
use Rattle.fs_model.specs.declared.limits.TheConstants.{MAX_MODE}
use Rattle.fs_model.specs.Tree.{Path, Row, Tree, upward}
use Rattle.fs_model.specs.LookUp.{Found, Bad, walk}
use Rattle.path_walks.specs.Nodes.{Lists}
use Rattle.path_walks.specs.Shows.{ShowsBy, entries_at}
use Rattle.path_walks.specs.declared.spots.Occupancy.{Occupancy}
use Rattle.path_walks.specs.declared.spots.Place.{Place}
use Rattle.path_walks.specs.declared.spots.Spot.{Spot}
use Rattle.path_walks.specs.declared.spots.Spot.TheVariants.{Here, Wrong}
use Rattle.path_walks.specs.declared.spots.Sight.{Sight}
use Rattle.path_walks.specs.declared.spots.Sight.TheVariants as sight

-- the blob of the directory above
abbrev pub HolderIs : (Path → Id) → Path → Id → Type 0
HolderIs ids [] holder = Unit {0}
HolderIs ids (n ∷ p) holder = ids p ≡ holder

-- a row stands at the path, and its place says its attributes, its blob and its directory's
pub record IsAt (t : Tree) (ids : Path → Id) (p : Path) (place : Place) : Type 0 where
  pub row : Row
  pub there : get t p ≡ Some row
  pub walked : walk t p ≡ Found row
  pub attr : row.attr ≡ place.attr
  pub blob : ids p ≡ place.blob.0
  pub holder : HolderIs ids p place.holder.0

-- nothing stands at the path, and each path below it gets this error
pub record IsWrong (t : Tree) (p : Path) (e : FsError) : Type 0 where
  pub none : get t p ≡ None
  pub below : (n : List ℕ) → walk t (n ∷ p) ≡ Bad e

abbrev pub SpotIs : Tree → (Path → Id) → Path → Spot → Type 0
SpotIs t ids p (Here place) = IsAt t ids p place
SpotIs t ids p (Wrong e) = IsWrong t p e

-- what stands under a name of a directory
pub record IsFound (t : Tree) (ids : Path → Id) (p : Path) (n : List ℕ) (dir place : Place) : Type 0 where
  pub above : IsAt t ids p dir
  pub folder : dir.attr.kind ≡ Directory
  pub here : IsAt t ids (n ∷ p) place

-- the same, and these bytes list what stands in the directory
pub record IsFoundIn (t : Tree) (ids : Path → Id) (p : Path) (n : List ℕ) (dir place : Place) (body : List ℕ) : Type 0 where
  pub found : IsFound t ids p n dir place
  pub lists : Lists (entries_at t ids p) body

-- a directory in which a name is free
pub record IsVacant (t : Tree) (ids : Path → Id) (p : Path) (n : List ℕ) (dir : Place) : Type 0 where
  pub above : IsAt t ids p dir
  pub folder : dir.attr.kind ≡ Directory
  pub none : get t (n ∷ p) ≡ None

-- the same, and these bytes list what stands in it
pub record IsOpen (t : Tree) (ids : Path → Id) (p : Path) (n : List ℕ) (dir : Place) (body : List ℕ) : Type 0 where
  pub vacant : IsVacant t ids p n dir
  pub lists : Lists (entries_at t ids p) body

-- what a look in a directory comes to
abbrev pub sight_of : Place → Vec ℕ Global → Option (Attr × BlockId) → Sight
sight_of dir body None = sight.Vacant dir body
sight_of dir body (Some x) = sight.Found dir (record { attr = x.0; blob = x.1; holder = dir.blob }) body

abbrev pub SightIs : Tree → (Path → Id) → Path → List ℕ → Sight → Type 0
SightIs t ids p n (sight.Found dir place body) = IsFoundIn t ids p n dir place body.items
SightIs t ids p n (sight.Vacant dir body) = IsOpen t ids p n dir body.items
SightIs t ids p n (sight.Lost e) = walk t (n ∷ p) ≡ Bad e

-- the modes that were found are within their limit
abbrev pub HasMode : Spot → Type 0
HasMode (Here place) = place.attr.mode ≤ MAX_MODE
HasMode (Wrong e) = Unit {0}

abbrev pub HaveModes : Sight → Type 0
HaveModes (sight.Found dir place body) = (dir.attr.mode ≤ MAX_MODE) × (place.attr.mode ≤ MAX_MODE)
HaveModes (sight.Vacant dir body) = dir.attr.mode ≤ MAX_MODE
HaveModes (sight.Lost e) = Unit {0}

-- a walk along a path has come to this spot
pub record Walking {S : Type 0} (H : BlobHoldings S) (a : S) (spot : Spot) : Type 0 where
  pub map : BlobMap
  pub stands : H.stands_for a map
  pub root : Id
  pub tree : Tree
  pub ids : Path → Id
  pub shows : ShowsBy map root tree ids
  pub path : Path
  pub is : SpotIs tree ids path spot

-- a row stands at this place
pub record Standing {S : Type 0} (H : BlobHoldings S) (a : S) (place : Place) : Type 0 where
  pub map : BlobMap
  pub stands : H.stands_for a map
  pub root : Id
  pub tree : Tree
  pub ids : Path → Id
  pub shows : ShowsBy map root tree ids
  pub path : Path
  pub at : IsAt tree ids path place

-- a row stands under the name of a directory, and its body was read
pub record Finding {S : Type 0} (H : BlobHoldings S) (a : S) (at : Occupancy) : Type 0 where
  pub map : BlobMap
  pub stands : H.stands_for a map
  pub root : Id
  pub tree : Tree
  pub ids : Path → Id
  pub shows : ShowsBy map root tree ids
  pub path : Path
  pub names : path ≡ upward at.dir.names.now
  pub is : IsFound tree ids path at.name.now at.dir.place at.place
  pub lists : Lists (entries_at tree ids path) at.body.items
