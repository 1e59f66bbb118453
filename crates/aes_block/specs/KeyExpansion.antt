-- The key expansion of a key of eight words (FIPS 197, 5.2), and AES-256 as a whole. A word is a
-- list of four bytes, and an expanded key is the list of the bytes of its words.
use Rattle.std.specs.Prelude.{ℕ, zero, suc, ◌+◌, ◌-◌, ◌*◌, ◌/◌, ◌%◌, ◌==◌, List, [], ◌∷◌, ◌++◌, bit_xor, map, slice_index, if◌then◌else◌}
use Rattle.std.specs.List.{range_with_len, slice_range}
use Rattle.aes_block.specs.Field.{xtime}
use Rattle.aes_block.specs.Cipher.{cipher, sub_byte}

-- x ^ n in the field
abbrev pub x_power : ℕ → ℕ
x_power zero = 1
x_power (suc n) = xtime (x_power n)

-- Rcon j, for j from 1
abbrev pub round_constant : ℕ → List ℕ
round_constant j = x_power (j - 1) ∷ 0 ∷ 0 ∷ 0 ∷ []

-- RotWord: rotated left by one byte
abbrev pub rot_word : List ℕ → List ℕ
rot_word a = slice_index a 1 ∷ slice_index a 2 ∷ slice_index a 3 ∷ slice_index a 0 ∷ []

-- SubWord
abbrev pub sub_word : List ℕ → List ℕ
sub_word a = map sub_byte a

-- the sum of two words
abbrev pub add_word : List ℕ → List ℕ → List ℕ
add_word a b = map (λ j. bit_xor (slice_index a j) (slice_index b j)) (range_with_len 0 4)

-- word i of an expanded key
abbrev pub word : List ℕ → ℕ → List ℕ
word w i = slice_range w (4 * i) (4 * i + 4)

-- what word i - 8 is added to, given word i - 1
abbrev pub key_step : ℕ → List ℕ → List ℕ
key_step i last =
    if i % 8 == 0 then add_word (sub_word (rot_word last)) (round_constant (i / 8))
    else (if i % 8 == 4 then sub_word last else last)

-- the key and n more words
unfoldable pub key_words : List ℕ → ℕ → List ℕ
key_words key zero = key
key_words key (suc n) =
    key_words key n ++ add_word (word (key_words key n) n) (key_step (n + 8) (word (key_words key n) (n + 7)))

-- KeyExpansion: 60 words
abbrev pub key_expansion : List ℕ → List ℕ
key_expansion key = key_words key 52

-- AES-256 of a block under a key
unfoldable pub aes256 : List ℕ → List ℕ → List ℕ
aes256 key block = cipher (key_expansion key) block
