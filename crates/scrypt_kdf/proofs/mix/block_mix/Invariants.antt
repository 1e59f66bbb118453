use Rattle.std.proofs.Common.{◌≡◌, ◌+◌, ◌*◌, ℕ, List, length, take, drop}
use Rattle.scrypt_kdf.specs.Order.{on_diagonals}
use Rattle.scrypt_kdf.specs.Rows.{quarters}
use Rattle.scrypt_kdf.specs.Scrypt.{chained, joined, mix_output}
use Rattle.scrypt_kdf.proofs.mix.block_mix.Given as goal

abbrev pub invariant-loop-i : goal.invariant-loop-i
invariant-loop-i l = record {
  last : (p : List ℕ) → length p ≡ 128 * l.r → l.b ≡ on_diagonals p
      → l.x ≡ quarters (on_diagonals (chained l.r p (2 * l.i)));
  evens : (p : List ℕ) → length p ≡ 128 * l.r → l.b ≡ on_diagonals p
      → take (64 * l.i) l.y ≡ joined (λ i. on_diagonals (mix_output l.r p (2 * i))) l.i;
  odds : (p : List ℕ) → length p ≡ 128 * l.r → l.b ≡ on_diagonals p
      → take (64 * l.i) (drop (64 * l.r) l.y) ≡ joined (λ i. on_diagonals (mix_output l.r p (2 * i + 1))) l.i;
}
