use Rattle.std.proofs.Common.{subst, arith}
use Rattle.std.specs.FinMap.{insert}
use Rattle.blob_api.specs.store_outcome.Outcome.{first_}
use Rattle.fs_blobs.proofs.Parts.{has_bytes, written_body, length-blob}
use Rattle.fs_blobs.proofs.body.write_body.Goals as goal

pub returns-clause-outcome : goal.returns-clause-outcome
returns-clause-outcome g c =
    first_ (λ n. has_bytes n) c.write.ensures.outcome
    (λ n y h. subst (λ z. g.B.Blobs.holdings.stands_for c.write.new.self (insert n.map c.args.id.now.0 z)) (written_body n.kind n.parent n.body c.args.from c.args.bytes.now n.wide) h)

pub returns-clause-sparing : goal.returns-clause-sparing
returns-clause-sparing g c = λ n sound unforged l told some within. c.write.ensures.sparing (has_bytes n) sound unforged l told some (omega (arith, length-blob n.kind n.parent n.body n.wide, within))
