-- GHASH (SP 800-38D, 6.3 and 6.4). A block of 128 bits is the number below 2 ^ 128 that its sixteen
-- bytes make, the first byte the highest, so that bit i of a block, counted from the left, has the
-- weight 2 ^ (127 - i).
use Rattle.std.specs.Prelude.{ℕ, zero, suc, ◌+◌, ◌-◌, ◌*◌, ◌/◌, ◌%◌, ◌^◌, List, length, bit_xor}
use Rattle.std.specs.Int.{w128, bit_at, from_be_bytes, to_be_bytes}
use Rattle.std.specs.List.{slice_range}

-- bit i of a block, from the left
abbrev pub block_bit : ℕ → ℕ → ℕ
block_bit x i = bit_at x (127 - i)

-- ---- the product of two blocks (6.3)

-- R: 11100001 and then 120 zero bits
abbrev pub reduction : ℕ
reduction = 0xe1 * 2 ^ 120

-- V shifted right by one bit, with R added where the bit that falls out is 1
abbrev pub next_v : ℕ → ℕ
next_v v = bit_xor (v / 2) (v % 2 * reduction)

-- V i, from V 0 = y
unfoldable pub v_at : ℕ → ℕ → ℕ
v_at y zero = y
v_at y (suc i) = next_v (v_at y i)

-- Z i, from Z 0 = 0: the sum of the V k, k below i, for which bit k of x is 1
unfoldable pub z_at : ℕ → ℕ → ℕ → ℕ
z_at x y zero = 0
z_at x y (suc i) = bit_xor (z_at x y i) (block_bit x i * v_at y i)

-- x • y
abbrev pub times : ℕ → ℕ → ℕ
times x y = z_at x y 128

-- ---- the hash of a list of blocks (6.4)

-- block i of a list of bytes
unfoldable pub block_at : List ℕ → ℕ → ℕ
block_at bytes i = from_be_bytes w128 (slice_range bytes (16 * i) (16 * i + 16))

-- Y n over the first n blocks, from Y 0 = y, with the hash subkey h
unfoldable pub hashed : ℕ → ℕ → List ℕ → ℕ → ℕ
hashed h y bytes zero = y
hashed h y bytes (suc n) = times (bit_xor (hashed h y bytes n) (block_at bytes n)) h

-- GHASH of a list of bytes, a whole number of blocks
unfoldable pub ghash : ℕ → List ℕ → List ℕ
ghash h bytes = to_be_bytes w128 (hashed h 0 bytes (length bytes / 16))
