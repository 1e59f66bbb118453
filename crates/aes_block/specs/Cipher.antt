-- The cipher (FIPS 197, 5.1), on a state of sixteen bytes as a list, under an expanded key.
use Rattle.std.specs.Prelude.{ℕ, zero, suc, ◌+◌, ◌*◌, ◌/◌, ◌%◌, List, bit_xor, map, slice_index}
use Rattle.std.specs.Int.{bit_at}
use Rattle.std.specs.List.{range_with_len, slice_range}
use Rattle.aes_block.specs.Field.{inverse, times}

-- a state, given the byte at each place; the byte of row r and column c is at r + 4c (3.4)
abbrev pub state_of : (ℕ → ℕ) → List ℕ
state_of f = map f (range_with_len 0 16)

-- the byte of row r and column c, both modulo 4 (3.4)
abbrev pub at : List ℕ → ℕ → ℕ → ℕ
at s r c = slice_index s (r % 4 + 4 * (c % 4))

-- ---- SubBytes (5.1.1)

-- bit i of the affine transformation, with places modulo 8
abbrev pub affine_bit : ℕ → ℕ → ℕ
affine_bit b i =
    (bit_at b i + bit_at b ((i + 4) % 8) + bit_at b ((i + 5) % 8) + bit_at b ((i + 6) % 8)
    + bit_at b ((i + 7) % 8) + bit_at 0x63 i) % 2

-- the number with the bits f 0, …, f 7
abbrev pub of_bits : (ℕ → ℕ) → ℕ
of_bits f = f 0 + 2 * f 1 + 4 * f 2 + 8 * f 3 + 16 * f 4 + 32 * f 5 + 64 * f 6 + 128 * f 7

-- the S-box: the inverse, then the affine transformation
unfoldable pub sub_byte : ℕ → ℕ
sub_byte b = of_bits (affine_bit (inverse b))

abbrev pub sub_bytes : List ℕ → List ℕ
sub_bytes s = map sub_byte s

-- ---- ShiftRows (5.1.2)

-- row r is rotated left by r places
abbrev pub shift_rows : List ℕ → List ℕ
shift_rows s = state_of (λ k. at s (k % 4) (k / 4 + k % 4))

-- ---- MixColumns (5.1.3)

-- the byte of row r and column c afterwards
abbrev pub mixed : List ℕ → ℕ → ℕ → ℕ
mixed s r c = bit_xor (bit_xor (bit_xor (times 2 (at s r c)) (times 3 (at s (r + 1) c))) (at s (r + 2) c)) (at s (r + 3) c)

abbrev pub mix_columns : List ℕ → List ℕ
mix_columns s = state_of (λ k. mixed s (k % 4) (k / 4))

-- ---- AddRoundKey (5.1.4)

-- round key r of an expanded key
abbrev pub round_key : List ℕ → ℕ → List ℕ
round_key w r = slice_range w (16 * r) (16 * r + 16)

-- the state with round key r added
abbrev pub add_round_key : List ℕ → ℕ → List ℕ → List ℕ
add_round_key w r s = state_of (λ k. bit_xor (slice_index s k) (slice_index (round_key w r) k))

-- ---- the cipher (5.1)

-- the state after the first round key and n rounds
unfoldable pub rounds : List ℕ → List ℕ → ℕ → List ℕ
rounds w block zero = add_round_key w 0 block
rounds w block (suc n) = add_round_key w (n + 1) (mix_columns (shift_rows (sub_bytes (rounds w block n))))

-- Cipher, with 14 rounds, the last of which leaves MixColumns out
unfoldable pub cipher : List ℕ → List ℕ → List ℕ
cipher w block = add_round_key w 14 (shift_rows (sub_bytes (rounds w block 13)))
