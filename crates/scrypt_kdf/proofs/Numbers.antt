-- The number that bytes are, modulo a power of two, by its low four bytes.
use Rattle.std.proofs.Common.{◌≡◌, ℕ, ◌+◌, ◌-◌, ◌*◌, ◌%◌, ◌^◌, ◌<◌, ◌≤◌, List, [], ◌∷◌, length, sym, ap, ◌∙◌, arith, get_or, inl, inr}
use Rattle.std.proofs.lemmas.Bool.{cases_lt}
use Rattle.std.proofs.lemmas.Nat.{pow-add, pow_below}
use Rattle.std.proofs.Math.Nat.{add-mul-mod_self_left, mul_assoc}
use Rattle.std.specs.Int.{w32, from_le_bytes}
use Rattle.scrypt_kdf.specs.Scrypt.{little_endian}

-- what stands 32 bits up doesn't count
low_bits : (m h k : ℕ) → k ≤ 32 → (m + 2 ^ 32 * h) % 2 ^ k ≡ m % 2 ^ k
low_bits m h k le =
    let e : k + (32 - k) ≡ 32 = omega arith in
    let p : 2 ^ 32 ≡ 2 ^ k * 2 ^ (32 - k) = ap (λ (i : ℕ). 2 ^ i) (sym e) ∙ pow-add 2 k (32 - k) in
    let q : 2 ^ 32 * h ≡ 2 ^ k * (2 ^ (32 - k) * h) = ap (λ (i : ℕ). i * h) p ∙ mul_assoc (2 ^ k) (2 ^ (32 - k)) h in
    ap (λ (i : ℕ). (m + i) % 2 ^ k) q ∙ add-mul-mod_self_left m (2 ^ k) (2 ^ (32 - k) * h)

pub low_four : (bytes : List ℕ) (k : ℕ) → 4 ≤ length bytes → k ≤ 32
    → little_endian bytes % 2 ^ k
    ≡ from_le_bytes w32 (get_or bytes 0 0 ∷ get_or bytes 1 0 ∷ get_or bytes 2 0 ∷ get_or bytes 3 0 ∷ []) % 2 ^ k
low_four (a ∷ b ∷ c ∷ d ∷ bytes) k long le =
    let low : ℕ = from_le_bytes w32 (a ∷ b ∷ c ∷ d ∷ []) in
    let split : little_endian (a ∷ b ∷ c ∷ d ∷ bytes) ≡ low + 2 ^ 32 * little_endian bytes = omega arith in
    ap (λ (i : ℕ). i % 2 ^ k) split ∙ low_bits low (little_endian bytes) k le
low_four _ k long le = absurd (omega arith)

-- the power of two is small where the number is
pub power_below : (n k : ℕ) → n ≡ 2 ^ k → n ≤ 2 ^ 20 → k ≤ 32
power_below n k power le = elim (cases_lt 20 k) [
  | inl large ↦ let h : 2 ^ 20 < 2 ^ k = pow_below 20 k large in absurd (omega arith)
  | inr small ↦ omega arith
]
