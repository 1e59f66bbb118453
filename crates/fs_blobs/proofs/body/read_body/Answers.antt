use Rattle.std.proofs.Common.{take, drop, ◌∙◌, ap, arith}
use Rattle.blob_api.specs.store_outcome.Outcome.{first_}
use Rattle.fs_blobs.specs.Headers.{blob}
use Rattle.fs_blobs.proofs.Parts.{has_bytes, blob_fits, read_behind, read_past}
use Rattle.fs_blobs.proofs.body.read_body.Goals as goal
use Rattle.fs_blobs.proofs.body.read_body.Goals.{then-from-gt-MAX_BLOB, else-from-gt-MAX_BLOB}
use Rattle.blob_api.specs.declared.blobs.TheConstants.{MAX_BLOB}

pub returns-clause-outcome : goal.returns-clause-outcome
returns-clause-outcome g c =
    first_ (λ n. has_bytes n) c.read.ensures.outcome
    (λ n y h. (
      h.0,
      h.1 ∙ elim c.if-from-gt-MAX_BLOB.branch [
        | then-from-gt-MAX_BLOB w ↦ ap (λ p. take c.args.count (drop p (blob n.kind n.parent n.body))) w.place-is
            ∙ read_past (blob n.kind n.parent n.body) n.body MAX_BLOB c.args.from c.args.count (blob_fits n.kind n.parent n.body n.wide n.fits) (omega (arith, n.fits, w.if-from-gt-MAX_BLOB.true))
        | else-from-gt-MAX_BLOB w ↦ ap (λ p. take c.args.count (drop p (blob n.kind n.parent n.body))) w.place-is ∙ ap (take c.args.count) (read_behind n.kind n.parent n.body c.args.from n.wide)
      ],
    ))
