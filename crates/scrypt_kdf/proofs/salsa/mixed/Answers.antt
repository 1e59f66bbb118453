use Rattle.std.proofs.Common.{ℕ, [], ◌∷◌, slice_index}
use Rattle.scrypt_kdf.proofs.Lanes.{four, mixed_by_shifts}
use Rattle.scrypt_kdf.proofs.salsa.mixed.Goals as goal

pub returns : goal.returns
returns c =
    let lane = λ (k : ℕ). mixed_by_shifts c.args.n (slice_index c.args.b k) (slice_index c.args.a k) (slice_index c.args.d k) c.requires.low c.requires.high in
    rw (four c.args.b c.fits-b.0) (rw (four c.args.a c.fits-a.0) (rw (four c.args.d c.fits-d.0)
    (λ t. lane 0 t ∷ lane 1 t ∷ lane 2 t ∷ lane 3 t ∷ [])))
