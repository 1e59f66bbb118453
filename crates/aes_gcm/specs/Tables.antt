-- Tables of the multiples of a hash subkey, for a nibble at each place of a block.
use Rattle.std.specs.Prelude.{◌≡◌, ℕ, ◌*◌, ◌/◌, ◌%◌, ◌<◌, List, [], bit_xor, slice_index, slice_index_or}
use Rattle.aes_gcm.specs.Ghash.{next_v, v_at}

-- the sum of v, v1, v2 and v3, each where its bit of the nibble b, from the left, is 1
abbrev pub entry_of : ℕ → ℕ → ℕ → ℕ → ℕ → ℕ
entry_of v v1 v2 v3 b =
    bit_xor (bit_xor (bit_xor (b / 8 % 2 * v) (b / 4 % 2 * v1)) (b / 2 % 2 * v2)) (b % 2 * v3)

-- the same of v and the three V after it
abbrev pub entry : ℕ → ℕ → ℕ
entry v b = entry_of v (next_v v) (next_v (next_v v)) (next_v (next_v (next_v v))) b

-- row p has the sixteen entries for the nibble at place p, from the left
unfoldable pub AreTables : ℕ → List (List ℕ) → Type 0
AreTables h t = (p b : ℕ) → p < 32 → b < 16 → slice_index (slice_index_or t p []) b ≡ entry (v_at h (4 * p)) b
