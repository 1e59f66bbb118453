use Rattle.std.proofs.Common.{subst}
use Rattle.std.specs.FinMap.{insert}
use Rattle.blob_api.specs.store_outcome.Outcome.{first_}
use Rattle.fs_blobs.proofs.Parts.{has_bytes, resized_body}
use Rattle.fs_blobs.proofs.body.resize_body.Goals as goal

pub returns : goal.returns
returns g c =
    first_ (λ n. has_bytes n) c.resize.ensures
    (λ n y h. subst (λ z. g.B.Blobs.holdings.stands_for c.resize.new.self (insert n.map c.args.id.now.0 z)) (resized_body n.kind n.parent n.body c.args.n n.wide) h)
