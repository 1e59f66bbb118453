-- The field GF(2^8) (FIPS 197, 4). A byte is a number below 256, whose bit i is the coefficient of
-- x ^ i. The sum of two bytes is bit_xor (4.1).
use Rattle.std.specs.Prelude.{ℕ, zero, suc, ◌*◌, ◌/◌, ◌%◌, ◌==◌, bit_xor, if◌then◌else◌}

-- b times x, modulo x^8 + x^4 + x^3 + x + 1 (4.2)
abbrev pub xtime : ℕ → ℕ
xtime b = bit_xor (b * 2 % 256) (b / 128 * 0x1b)

-- the sum of b * x ^ i over the bits i below n of a that are 1
abbrev pub times_bits : ℕ → ℕ → ℕ → ℕ
times_bits zero a b = 0
times_bits (suc n) a b = bit_xor (a % 2 * b) (times_bits n (a / 2) (xtime b))

-- the product of two bytes (4.2)
unfoldable pub times : ℕ → ℕ → ℕ
times a b = times_bits 8 a b

-- the last number c below n with b * c = 1, and 0 where there is none
abbrev pub inverse_below : ℕ → ℕ → ℕ
inverse_below zero b = 0
inverse_below (suc n) b = if times b n == 1 then n else inverse_below n b

-- the multiplicative inverse, and 0 of 0 (4.4)
unfoldable pub inverse : ℕ → ℕ
inverse b = inverse_below 256 b
