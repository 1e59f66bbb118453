-- What a command on blobs that show a tree needs, and what it leaves.
use Rattle.std.specs.Prelude.{◌≡◌}
use Rattle.fs_blobs.specs.blob_api.BlobMap.{Id, BlobMap, BlobHoldings}
use Rattle.fs_model.specs.declared.reply.Reply.{Reply}
use Rattle.fs_model.specs.Tree.{Path, Tree}
use Rattle.fs_model.specs.Step.{Stepped}
use Rattle.path_walks.specs.Shows.{ShowsBy}

-- what a command needs: the blobs show a tree
pub record BlobsShow {S : Type 0} (H : BlobHoldings S) (a : S) (root : Id) : Type 0 where
  pub map : BlobMap
  pub stands : H.stands_for a map
  pub tree : Tree
  pub ids : Path → Id
  pub shows : ShowsBy map root tree ids

-- the blobs show this tree, the blob at `ids p` being that of the path p
pub record IsShownBy {S : Type 0} (H : BlobHoldings S) (b : S) (root : Id) (tree : Tree) (ids : Path → Id) : Type 0 where
  pub map : BlobMap
  pub stands : H.stands_for b map
  pub shows : ShowsBy map root tree ids

-- the reply is the step's, and the blobs show the step's tree by these blobs
pub record PerformedBy {S : Type 0} (H : BlobHoldings S) (b : S) (root : Id) (stepped : Stepped) (reply : Reply) (ids : Path → Id) : Type 0 where
  pub told : reply ≡ stepped.reply
  pub shown : IsShownBy H b root stepped.tree ids

-- the reply is the step's, and the blobs show the step's tree
pub record Performed {S : Type 0} (H : BlobHoldings S) (b : S) (root : Id) (stepped : Stepped) (reply : Reply) : Type 0 where
  pub told : reply ≡ stepped.reply
  pub map : BlobMap
  pub stands : H.stands_for b map
  pub ids : Path → Id
  pub shows : ShowsBy map root stepped.tree ids
