-- Which path owns each block, and that what was given shows so.
use Rattle.std.specs.Prelude.{◌≡◌, ℕ, true, T, List, map, Some, is_some}
use Rattle.std.specs.FinMap.{find, get, is_sorted}
use Rattle.path_walks.specs.blob_api.BlobMap.{BlobMap}
use Rattle.check_walk.specs.Given.{Given, content_of}
use Rattle.check_walk.specs.data_tree.Stored.{BlobTree, StoresBlobs}
use Rattle.check_walk.specs.data_tree.Trees.{NoDoubles}
use Rattle.path_walks.specs.Shows.{ShowsBy}
use Rattle.fs_model.specs.Tree.{Path, Tree}
use Rattle.check_walk.specs.store_api.Content.{Id, Content, id_cmp}
use Rattle.check_walk.specs.store_api.Holdings.{has_id}

-- ids, each with a path
abbrev pub Owners : Type 0
Owners = List (Id × Path)

-- the block of this id is one of those of the blob of this path
pub record IsOwner (payload : ℕ) (B : Content) (m : BlobMap) (tree : Tree) (ids : Path → Id) (id : Id) (path : Path) : Type 0 where
  pub there : is_some (get tree path) ≡ true
  pub bytes : List ℕ
  pub stored : get m (ids path) ≡ Some bytes
  pub nodes : List Id
  pub blob : BlobTree payload B (ids path) bytes nodes
  pub among : has_id nodes id ≡ true

-- the ids increase, are exactly those of the content, and each has its owner
pub record AreOwners (payload : ℕ) (B : Content) (m : BlobMap) (tree : Tree) (ids : Path → Id) (list : Owners) : Type 0 where
  pub order : T (is_sorted id_cmp list)
  pub all : (id : Id) → is_some (find id_cmp id list) ≡ is_some (B id)
  pub owned : (id : Id) (path : Path) → find id_cmp id list ≡ Some path → IsOwner payload B m tree ids id path

-- each live id was given once and nothing else, and what was given shows a tree from this root on, in which these are the owners
pub record Certifies (payload : ℕ) (root : Id) (live : List Id) (given : Given) (list : Owners) : Type 0 where
  pub once : NoDoubles (map (λ g. g.0) given)
  pub whole : (id : Id) → has_id (map (λ g. g.0) given) id ≡ has_id live id
  pub blobs : BlobMap
  pub tree : Tree
  pub ids : Path → Id
  pub stores : StoresBlobs payload (content_of given) (get blobs)
  pub shows : ShowsBy blobs root tree ids
  pub owners : AreOwners payload (content_of given) blobs tree ids list
