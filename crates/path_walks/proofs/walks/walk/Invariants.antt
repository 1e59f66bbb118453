use Rattle.std.proofs.Common.{◌≡◌, take, Ok}
use Rattle.dir_blob.specs.store_outcome.Outcome.{Outcome}
use Rattle.fs_model.specs.Tree.{upward}
use Rattle.path_walks.specs.Showing.{BlobsShow}
use Rattle.path_walks.specs.Sights.{SpotIs, HasMode}
use Rattle.path_walks.proofs.walks.walk.Given as goal

abbrev pub invariant-loop-name : goal.invariant-loop-name
invariant-loop-name g l = record {
  outcome : Outcome g.B.Blobs.meanings (BlobsShow g.B.Blobs.holdings l.fn.b l.root.0) l.fn.b l.b (Ok l.spot)
      (λ n s. g.B.Blobs.holdings.stands_for l.b n.map × SpotIs n.tree n.ids (upward (take l.name-index l.names)) s);
  mode : HasMode l.spot;
  unchanged : g.B.Blobs.holdings.changed l.b ≡ g.B.Blobs.holdings.changed l.fn.b;
}
