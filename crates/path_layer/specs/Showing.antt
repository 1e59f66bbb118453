-- The tree of files that blocks show.
use Rattle.std.specs.Prelude.{ℕ, List}
use Rattle.std.specs.FinMap.{get}
use Rattle.blob_store.specs.blob_api.BlobMap.{BlobMap}
use Rattle.blob_store.specs.data_tree.Stored.{StoresBlobs}
use Rattle.path_contents.specs.path_walks.Shows.{ShowsTree}
use Rattle.fs_model.specs.Tree.{Tree}
use Rattle.blob_store.specs.store_api.Content.{Content}

-- the payloads, of one length, are exactly the trees of blobs that show this tree from the root on
pub record ShowsFiles (payload : ℕ) (root : List ℕ) (content : Content) (tree : Tree) : Type 0 where
  pub map : BlobMap
  pub stores : StoresBlobs payload content (get map)
  pub shows : ShowsTree map root tree
