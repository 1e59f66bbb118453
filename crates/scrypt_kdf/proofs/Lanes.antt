-- Vectors of four words by their lanes, and their bytes.
use Rattle.std.proofs.Common.{◌≡◌, ℕ, ◌+◌, ◌-◌, ◌*◌, ◌/◌, ◌%◌, ◌^◌, ◌<◌, List, [], ◌∷◌, length, get_or, slice_index, bit_or, bit_xor, refl, sym, ap, ◌∙◌, arith}
use Rattle.std.proofs.lemmas.List.FromFn.{fill_by_all}
use Rattle.std.proofs.lemmas.Simd.{below_from_Fits, get_or_narrower, get_or_wider, length-chunk}
use Rattle.std.specs.Int.{w32, from_le_bytes}
use lib.Lanes.{Each1, chunk, digits_l, number_l}
use mir.Syntax.{w8}
use mir.Val.{Fits}
use Rattle.scrypt_kdf.specs.Rows.{lanes}
use Rattle.scrypt_kdf.specs.Salsa.{bytes_of, mixed, word_at}

pub four : (v : List ℕ) → length v ≡ 4 → v ≡ lanes (slice_index v)
four v long = fill_by_all (slice_index v) v 4 0 long (λ k lt. refl)

-- a word, rotated by two shifts
pub mixed_by_shifts : (n b a d : ℕ) → 0 < n → n < 32
    → bit_xor b (bit_or (((a + d) % 2 ^ 32 * 2 ^ n) % 2 ^ 32) ((a + d) % 2 ^ 32 / 2 ^ (32 - n))) ≡ mixed n b a d
unfolding mixed
mixed_by_shifts n b a d low high =
    let left : n ≡ n % 32 = omega arith in
    let right : 32 - n ≡ (32 - n % 32) % 32 = omega arith in
    λ t. bit_xor b (bit_or (((a + d) % 2 ^ 32 * 2 ^ left t) % 2 ^ 32) ((a + d) % 2 ^ 32 / 2 ^ right t))

-- four bytes as a number, as vectors and as words have it
number_word : (ys : List ℕ) → length ys ≡ 4 → number_l 256 ys ≡ from_le_bytes w32 ys
number_word (a ∷ b ∷ c ∷ d ∷ []) long = omega arith
number_word _ long = absurd (omega arith)

-- the words of sixteen bytes, as vectors have them
pub words_of_bytes : (v : List ℕ) → length v ≡ 16 → Each1 (Fits w8) v
    → digits_l (2 ^ 32) 4 (number_l 256 v) ≡ lanes (word_at v)
words_of_bytes v long fits =
    let bytes = below_from_Fits w8 v fits in
    let wide : (j : ℕ) → j < 4 → get_or (digits_l (2 ^ 32) 4 (number_l 256 v)) j 0 ≡ number_l 256 (chunk (4 * j) 4 v) =
    λ j lt. get_or_wider 256 4 (2 ^ 32) 4 v j refl bytes lt in
    let w0 = wide 0 (omega arith) ∙ number_word (chunk 0 4 v) (length-chunk 0 4 v (omega arith)) in
    let w1 = wide 1 (omega arith) ∙ number_word (chunk 4 4 v) (length-chunk 4 4 v (omega arith)) in
    let w2 = wide 2 (omega arith) ∙ number_word (chunk 8 4 v) (length-chunk 8 4 v (omega arith)) in
    let w3 = wide 3 (omega arith) ∙ number_word (chunk 12 4 v) (length-chunk 12 4 v (omega arith)) in
    λ t. w0 t ∷ w1 t ∷ w2 t ∷ w3 t ∷ []

-- the bytes of a row, as vectors and as words have them
pub bytes_of_row : (row : List ℕ) → length row ≡ 4 → Each1 (λ x. x < 2 ^ 32) row
    → digits_l 256 16 (number_l (2 ^ 32) row) ≡ bytes_of row
bytes_of_row row long fits =
    let byte : (j i : ℕ) → i < 4 → 4 * j + i < 16
    → get_or (digits_l 256 16 (number_l (2 ^ 32) row)) (4 * j + i) 0 ≡ get_or row j 0 / 256 ^ i % 256 =
    λ j i li lm. get_or_narrower (2 ^ 32) 4 256 16 row j i refl fits li lm in
    let low : (n : ℕ) → n / 256 ^ 0 % 256 ≡ n % 256 = λ n. omega arith in
    let b0 = byte 0 0 (omega arith) (omega arith) ∙ low (get_or row 0 0) in
    let b1 = byte 0 1 (omega arith) (omega arith) in
    let b2 = byte 0 2 (omega arith) (omega arith) in
    let b3 = byte 0 3 (omega arith) (omega arith) in
    let b4 = byte 1 0 (omega arith) (omega arith) ∙ low (get_or row 1 0) in
    let b5 = byte 1 1 (omega arith) (omega arith) in
    let b6 = byte 1 2 (omega arith) (omega arith) in
    let b7 = byte 1 3 (omega arith) (omega arith) in
    let b8 = byte 2 0 (omega arith) (omega arith) ∙ low (get_or row 2 0) in
    let b9 = byte 2 1 (omega arith) (omega arith) in
    let b10 = byte 2 2 (omega arith) (omega arith) in
    let b11 = byte 2 3 (omega arith) (omega arith) in
    let b12 = byte 3 0 (omega arith) (omega arith) ∙ low (get_or row 3 0) in
    let b13 = byte 3 1 (omega arith) (omega arith) in
    let b14 = byte 3 2 (omega arith) (omega arith) in
    let b15 = byte 3 3 (omega arith) (omega arith) in
    (λ t. b0 t ∷ b1 t ∷ b2 t ∷ b3 t ∷ b4 t ∷ b5 t ∷ b6 t ∷ b7 t ∷ b8 t ∷ b9 t ∷ b10 t ∷ b11 t ∷ b12 t ∷ b13 t ∷ b14 t ∷ b15 t ∷ [])
    ∙ sym (ap bytes_of (four row long))
