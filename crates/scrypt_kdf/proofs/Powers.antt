-- A number has one bit set exactly where it is a power of two.
use Rattle.std.proofs.Common.{◌≡◌, ℕ, zero, suc, ◌+◌, ◌*◌, ◌/◌, ◌%◌, ◌^◌, ◌<◌, refl, sym, ap, ◌∙◌, arith, inl, inr}
use Rattle.std.proofs.lemmas.Bool.{cases_lt}
use Rattle.std.proofs.lemmas.Nat.{ones_cat, pow_pos, zero_from_ones}
use Rattle.std.proofs.Math.Nat.{pow-suc}
use Rattle.std.specs.Int.{IsPowerOfTwo}
use Rattle.std.specs.Int.RustNames.{count_ones}

pub ones-pow : (k : ℕ) → count_ones (2 ^ k) ≡ 1
unfolding count_ones
ones-pow k =
    let e : 1 * 2 ^ k + 0 ≡ 2 ^ k = omega arith in
    sym (ap count_ones e) ∙ ones_cat k 1 0 (pow_pos k)

next : (k n : ℕ) → n % 2 ≡ 0 → n / 2 ≡ 2 ^ k → n ≡ 2 ^ suc k
next k n even half = let p : 2 ^ suc k ≡ 2 ^ k * 2 = pow-suc 2 k in omega arith

no_ones : count_ones 0 ≡ 0
unfolding count_ones
no_ones = refl

pub power_from_ones : (w n : ℕ) → n < 2 ^ w → count_ones n ≡ 1 → IsPowerOfTwo n
unfolding count_ones
power_from_ones zero n lt one =
    let none : n ≡ 0 = omega (arith, lt) in
    let zeros : count_ones n ≡ 0 = ap count_ones none ∙ no_ones in
    absurd (omega (arith, zeros, one))
power_from_ones (suc w) n lt one =
    let split : n / 2 * 2 ^ 1 + n % 2 ≡ n = omega arith in
    let cat : count_ones (n / 2 * 2 ^ 1 + n % 2) ≡ count_ones (n / 2) + count_ones (n % 2) =
    ones_cat 1 (n / 2) (n % 2) (omega arith) in
    let both : count_ones (n / 2) + count_ones (n % 2) ≡ 1 = sym cat ∙ ap count_ones split ∙ one in
    elim (cases_lt (n % 2) 1) [
      | inl even ↦
          let bit : n % 2 ≡ 0 = omega arith in
          let low : count_ones (n % 2) ≡ 0 = ap count_ones bit in
          let p : 2 ^ suc w ≡ 2 ^ w * 2 = pow-suc 2 w in
          let half : n / 2 < 2 ^ w = omega arith in
          let k = power_from_ones w (n / 2) half (omega arith) in
          (suc k.0, next k.0 n bit k.1)
      | inr odd ↦
          let bit : n % 2 ≡ 1 = omega arith in
          let low : count_ones (n % 2) ≡ 1 = ap count_ones bit in
          let none : n / 2 ≡ 0 = zero_from_ones (n / 2) (omega arith) in
          (0, omega arith)
    ]
