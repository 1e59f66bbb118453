-- What the entries of directories refer to, from a root on.
use Rattle.std.specs.Prelude.{◌≡◌, ℕ, List, [], ◌∷◌, Some}
use Rattle.std.specs.FinMap.{find}
use Rattle.block_id.specs.Fresh.{zero_id}
use Rattle.check_walk.specs.Needs.{NodeNeed, top, Leads}
use Rattle.check_walk.specs.data_tree.Stored.{BlobTree}
use Rattle.path_walks.specs.dir_entries.Layout.{EntryTarget, Listing, IsBody}
use Rattle.path_walks.specs.fs_blobs.Headers.{blob}
use Rattle.fs_model.specs.declared.attr.Kind.{Kind}
use Rattle.fs_model.specs.declared.attr.Kind.TheVariants.{Directory}
use Rattle.fs_model.specs.Tree.{Path, name_cmp}
use Rattle.check_walk.specs.store_api.Content.{Id, Content}

-- a directory, to whose blob something refers so, has an entry of this name, which has this kind and refers to this blob
pub record IsEntryIn (payload : ℕ) (G : Content) (reached : Kind → Id → Id → Type 0) (name : List ℕ) (kind : Kind) (id parent : Id) : Type 0 where
  pub up : Id
  pub directory : reached Directory parent up
  pub body : List ℕ
  pub ids : List Id
  pub tree : BlobTree payload G parent (blob Directory up body) ids
  pub listing : Listing
  pub is : IsBody body listing
  pub target : EntryTarget
  pub listed : find name_cmp name listing ≡ Some target
  pub kind_is : kind ≡ target.attr.kind
  pub id_is : id ≡ target.blob

-- the path has this kind and this blob, whose header has to name that parent
abbrev pub IsReached : ℕ → Content → Id → Path → Kind → Id → Id → Type 0
IsReached payload G root [] kind id parent = (kind ≡ Directory) × ((id ≡ root) × (parent ≡ zero_id))
IsReached payload G root (name ∷ path) kind id parent = IsEntryIn payload G (IsReached payload G root path) name kind id parent

-- a path, and the numbers of the children that lead from its blob's root to a node
pub record Place : Type 0 where
  pub path : Path
  pub way : List ℕ

-- the node of this place has this id, and this is needed of it
pub record NeedsNode (payload : ℕ) (G : Content) (root : Id) (place : Place) (id : Id) (need : NodeNeed) : Type 0 where
  pub kind : Kind
  pub start : Id
  pub parent : Id
  pub reached : IsReached payload G root place.path kind start parent
  pub leads : Leads G start top place.way id need
