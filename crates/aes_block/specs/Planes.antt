-- Sixteen blocks side by side, as eight planes: plane k has bit k of each byte. Lane p of a plane has that bit
-- of byte p of each even block, and lane 16 + p of each odd one. Bit j of a lane is that of block 2j or 2j + 1.
use Rattle.std.specs.Prelude.{◌≡◌, ℕ, ◌+◌, ◌*◌, ◌/◌, ◌%◌, ◌<◌, List, [], bit_xor, drop, length, map, replicate, slice_index, slice_index_or, take}
use Rattle.std.specs.Int.{bit_at}
use Rattle.std.specs.List.{range_with_len}
use Rattle.std.specs.Simd.Lanes.{zip2}
use Rattle.aes_block.specs.Cipher.{of_bits, round_key, state_of}

-- bit k of the byte that has bit j of lane p
abbrev pub bit_of : List (List ℕ) → ℕ → ℕ → ℕ → ℕ
bit_of planes p j k = bit_at (slice_index (slice_index_or planes k []) p) j

-- that byte
abbrev pub byte_of : List (List ℕ) → ℕ → ℕ → ℕ
byte_of planes p j = of_bits (bit_of planes p j)

-- the sixteen blocks
abbrev pub blocks_of : List (List ℕ) → List (List ℕ)
blocks_of planes = map (λ b. state_of (λ p. byte_of planes (16 * (b % 2) + p) (b / 2))) (range_with_len 0 16)

-- thirty-two lanes of eight bits
abbrev pub IsVector : List ℕ → Type 0
IsVector v = (length v ≡ 32) × ((p : ℕ) → p < 32 → slice_index v p < 256)

-- the lower sixteen lanes, half 0, or the higher, half 1
abbrev pub half : ℕ → List ℕ → List ℕ
half h v = take 16 (drop (16 * h) v)

abbrev pub AreVectors : List (List ℕ) → Type 0
AreVectors vs = (k : ℕ) → k < 8 → IsVector (slice_index_or vs k [])

-- the round keys of an expanded key, each of them sixteen times
abbrev pub repeated_keys : List ℕ → List (List (List ℕ))
repeated_keys w = map (λ r. replicate 16 (round_key w r)) (range_with_len 0 15)

-- ---- vectors

-- the first n vectors
abbrev pub first : ℕ → List (List ℕ) → List (List ℕ)
first n vs = map (λ k. slice_index_or vs k []) (range_with_len 0 n)

-- the sums of two times eight vectors
abbrev pub sums : List (List ℕ) → List (List ℕ) → List (List ℕ)
sums vs ws = map (λ k. zip2 bit_xor (slice_index_or vs k []) (slice_index_or ws k [])) (range_with_len 0 8)

-- the vector that has in lane p lane f p
abbrev pub shuffled : (ℕ → ℕ) → List ℕ → List ℕ
shuffled f v = map (λ p. slice_index v (f p)) (range_with_len 0 32)

-- the lane that ShiftRows puts at p
abbrev pub shifted_row : ℕ → ℕ
shifted_row p = p / 16 * 16 + 5 * p % 16

-- the lane one row down from p in its column, and two rows down
abbrev pub next_row : ℕ → ℕ
next_row p = p / 4 * 4 + (p + 1) % 4

abbrev pub opposite_row : ℕ → ℕ
opposite_row p = p / 4 * 4 + (p + 2) % 4
