-- Names digit by digit, and back.
use Rattle.std.proofs.Common.{◌≡◌, ℕ, ◌+◌, ◌*◌, ◌/◌, ◌%◌, ◌<◌, List, [], ◌∷◌, ◌++◌, length, take, Some, slice_index, slice_set, refl, ap, ◌∙◌, arith, append_assoc}
use Rattle.std.proofs.lemmas.List.{length-set, take_more, take_more_set}
use Rattle.std.specs.Result.{result_ok}
use Rattle.hex.proofs.HexLemmas.{decode_of-encode_upper, decode_sized-twice, length-encode_with}
use Rattle.hex.specs.Hex.{IsBytes, encode_with, upper_digits}
use Rattle.block_id.specs.Name.{id_in, name_of}

-- the digits of one more byte
encode_with-push : (t xs : List ℕ) (b : ℕ)
    → encode_with t (xs ++ b ∷ []) ≡ encode_with t xs ++ slice_index t (b / 16) ∷ slice_index t (b % 16) ∷ []
unfolding encode_with
encode_with-push t [] b = refl
encode_with-push t (x ∷ xs) b = ap (λ (l : List ℕ). slice_index t (x / 16) ∷ slice_index t (x % 16) ∷ l) (encode_with-push t xs b)

-- one more byte of a name written
pub name_more : (id name : List ℕ) (i b : ℕ) → i < length id → length name ≡ 2 * length id → b ≡ slice_index id i
    → take (2 * i) name ≡ name_of (take i id)
    → take (2 * (i + 1)) (slice_set (slice_set name (2 * i) (slice_index upper_digits (b / 16))) (2 * i + 1) (slice_index upper_digits (b % 16)))
    ≡ name_of (take (i + 1) id)
name_more id name i b lt len eb held =
    let high : ℕ = slice_index upper_digits (b / 16) in
    let low : ℕ = slice_index upper_digits (b % 16) in
    let twice : 2 * (i + 1) ≡ 2 * i + 1 + 1 = omega arith in
    let set_len : length (slice_set name (2 * i) high) ≡ length name = length-set name (2 * i) high in
    let second = take_more_set (slice_set name (2 * i) high) (2 * i + 1) low (omega arith) in
    let first = take_more_set name (2 * i) high (omega arith) in
    rw (twice, second, first, held, take_more id i 0 lt, encode_with-push upper_digits (take i id) (slice_index id i), ← eb) (append_assoc (name_of (take i id)) (high ∷ []) (low ∷ []))

-- the name of an id names it
pub id_in-name_of : (id : List ℕ) → length id ≡ 16 → IsBytes id → id_in (name_of id) ≡ Some id
id_in-name_of id len bytes =
    ap result_ok (decode_sized-twice (name_of id) 16 (omega (arith, length-encode_with upper_digits id)) ∙ decode_of-encode_upper id bytes)

-- a name has 32 digits
pub length-name_of : (id : List ℕ) → length id ≡ 16 → length (name_of id) ≡ 32
length-name_of id len = omega (arith, length-encode_with upper_digits id)
