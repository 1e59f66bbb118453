use Rattle.std.proofs.Common.{◌≡◌, ◌*◌, ℕ, List, length}
use Rattle.scrypt_kdf.specs.Order.{on_diagonals}
use Rattle.scrypt_kdf.specs.Scrypt.{iterate, iterates, joined, turned}
use Rattle.scrypt_kdf.proofs.mix.look_up.Given as goal

abbrev pub invariant-loop-turn : goal.invariant-loop-turn
invariant-loop-turn l =
    (b c : List ℕ) → length b ≡ 128 * l.r → length c ≡ 128 * l.r
    → l.v ≡ joined (λ i. on_diagonals (iterate l.r b i)) l.n → l.fn.x ≡ on_diagonals c
    → l.x ≡ on_diagonals (turned l.r l.n (iterates l.r l.n b) c l._turn)
