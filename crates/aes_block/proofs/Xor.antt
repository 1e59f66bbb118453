-- Sums of bytes in any order, and xtime through a sum.
use Rattle.std.proofs.Common.{◌≡◌, ℕ, ◌+◌, ◌*◌, ◌/◌, ◌%◌, ◌^◌, ◌<◌, bit_xor, add-zero, refl, ap, sym, ◌∙◌, arith, inl, inr}
use Rattle.std.proofs.lemmas.Bool.{cases_lt}
use Rattle.std.proofs.lemmas.Nat.{xor_block, xor_mod, xor_shr}
use Rattle.std.proofs.lemmas.Nat.Bits.{bit_at_xor, same_from_bits}
use Rattle.std.proofs.Math.Nat.{zero-mul, one-mul}
use Rattle.std.specs.Int.Bits.{xor_zero_l, xor_zero_r}
use Rattle.aes_block.specs.Field.{xtime, times}

-- (a + b) + (c + d) and (a + c) + (b + d)
pub xor_swap : (a b c d : ℕ) → bit_xor (bit_xor a b) (bit_xor c d) ≡ bit_xor (bit_xor a c) (bit_xor b d)
xor_swap a b c d = same_from_bits _ _ (λ i. simp bit_at_xor (omega arith))

-- the reduction's constant, by a bit
pub reduction-xor : (x y : ℕ) → x < 2 → y < 2 → bit_xor x y * 0x1b ≡ bit_xor (x * 0x1b) (y * 0x1b)
reduction-xor x y hx hy = elim (cases_lt x 1) [
  | inl x0 ↦
      let e : x ≡ 0 = omega arith in
      rw e refl
  | inr x1 ↦
      let e : x ≡ 1 = omega arith in
      elim (cases_lt y 1) [
        | inl y0 ↦
            let f : y ≡ 0 = omega arith in
            rw (e, f) refl
        | inr y1 ↦
            let f : y ≡ 1 = omega arith in
            rw (e, f) refl
      ]
]

pub doubled-xor : (a b : ℕ) → bit_xor a b * 2 ≡ bit_xor (a * 2) (b * 2)
doubled-xor a b =
    let h : bit_xor (a * 2 ^ 1 + 0) (b * 2 ^ 1 + 0) ≡ bit_xor a b * 2 ^ 1 + bit_xor 0 0 = xor_block 1 a b 0 0 (omega arith) (omega arith) in
    sym (simp add-zero at h)

pub xtime-xor : (a b : ℕ) → a < 256 → b < 256 → xtime (bit_xor a b) ≡ bit_xor (xtime a) (xtime b)
xtime-xor a b ha hb =
    let low : bit_xor a b * 2 % 256 ≡ bit_xor (a * 2 % 256) (b * 2 % 256) = ap (λ (x : ℕ). x % 256) (doubled-xor a b) ∙ xor_mod (a * 2) (b * 2) 8 in
    let high : bit_xor a b / 128 * 0x1b ≡ bit_xor (a / 128 * 0x1b) (b / 128 * 0x1b) =
    ap (λ (x : ℕ). x * 0x1b) (xor_shr a b 7) ∙ reduction-xor (a / 128) (b / 128) (omega arith) (omega arith) in
    rw (low, high) (xor_swap (a * 2 % 256) (b * 2 % 256) (a / 128 * 0x1b) (b / 128 * 0x1b))

pub times_two : (a : ℕ) → times 2 a ≡ xtime a
unfolding times
times_two a = simp (zero-mul, one-mul, xor_zero_l, xor_zero_r)

pub times_three : (a : ℕ) → times 3 a ≡ bit_xor a (xtime a)
unfolding times
times_three a = simp (zero-mul, one-mul, xor_zero_l, xor_zero_r)

-- one byte of MixColumns by a single doubling
pub mixed_short : (a b c d : ℕ) → a < 256 → b < 256
    → bit_xor (bit_xor (bit_xor (xtime (bit_xor a b)) b) c) d ≡ bit_xor (bit_xor (bit_xor (times 2 a) (times 3 b)) c) d
mixed_short a b c d ha hb =
    rw (times_two a, times_three b, xtime-xor a b ha hb)
    (same_from_bits _ _ (λ i. simp bit_at_xor (omega arith)))
