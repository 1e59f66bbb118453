use Rattle.std.proofs.Common.{[], subst}
use Rattle.path_walks.specs.store_outcome.Outcome.{Outcome}
use Rattle.fs_model.specs.Tree.{upward}
use Rattle.fs_model.specs.LookUp.{look}
use Rattle.fs_model.specs.Step.{made}
use Rattle.path_walks.specs.Showing.{BlobsShow, Performed}
use Rattle.path_rows.proofs.making.make_directory.Goals as goal

pub returns-clause-outcome : goal.returns-clause-outcome
returns-clause-outcome g c =
    subst (λ z. Outcome g.B.Blobs.meanings (BlobsShow g.B.Blobs.holdings c.args.b.now c.args.root.now.0) c.args.b.now c.make.new.b c.make.result
    (λ n r. Performed g.B.Blobs.holdings c.make.new.b c.args.root.now.0 (made n.tree c.args.now (upward c.args.names.now) (record { attr = z; bytes = [] }) (look n.tree (upward c.args.names.now))) r)) c.new_attr-attr.ensures c.make.ensures.outcome
