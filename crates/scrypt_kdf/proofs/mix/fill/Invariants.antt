use Rattle.std.proofs.Common.{◌≡◌, ◌*◌, ℕ, List, length, vec_len}
use Rattle.scrypt_kdf.specs.Order.{on_diagonals}
use Rattle.scrypt_kdf.specs.Scrypt.{iterate, joined}
use Rattle.scrypt_kdf.proofs.mix.fill.Given as goal

abbrev pub invariant-loop-i : goal.invariant-loop-i
invariant-loop-i l = record {
  len : vec_len l.v ≡ 128 * l.r * l.i;
  iterates : (b : List ℕ) → length b ≡ 128 * l.r → l.fn.x ≡ on_diagonals b
      → l.v.items ≡ joined (λ i. on_diagonals (iterate l.r b i)) l.i;
  next : (b : List ℕ) → length b ≡ 128 * l.r → l.fn.x ≡ on_diagonals b → l.x ≡ on_diagonals (iterate l.r b l.i);
}
