-- Bytes in hexadecimal, pair by pair.
use Rattle.std.proofs.Common.{◌≡◌, ℕ, ◌+◌, ◌*◌, ◌%◌, ◌<◌, ◌≤◌, ◌⊎◌, inl, inr, Bool, true, false, cond, List, [], ◌∷◌, ◌++◌, length, take, drop, slice_index, slice_set, Option, Some, None, unwrap_or, is_some, Result, Ok, Err, refl, sym, ap, ◌∙◌, arith}
use Rattle.std.proofs.lemmas.Bool.{false≢true}
use Rattle.std.proofs.lemmas.List.{take_more, take_all, flat_map_more}
use Rattle.std.specs.List.{flat_map}
use Rattle.std.specs.Result.{result_ok}
use Rattle.hex.specs.Hex.{decode_of, decode_pairs, hex_digit_value, is_hex_digit, pair_value, value_at, digit_or_error}
use Rattle.hex.specs.declared.error.FromHexError.{FromHexError}
use Rattle.hex.proofs.HexLemmas.{decode_of-even, decode_of-ok}
use Rattle.hex.proofs.Pairs.{prepend, decode_start, decode_step, decode_done, take-two_writes}
use Rattle.script_text.specs.Texts.{hex_byte}

-- a digit's value, and 255 for another byte
abbrev pub value : ℕ → ℕ
value c = unwrap_or (hex_digit_value c) 255

small : (c v : ℕ) → hex_digit_value c ≡ Some v → v < 16
small c v h = grind (arith)

digit_by : (c : ℕ) (o : Option ℕ) → hex_digit_value c ≡ o → unwrap_or o 255 < 16 → hex_digit_value c ≡ Some (unwrap_or o 255)
digit_by c (Some v) e h = e
digit_by c None e h = absurd (omega arith)

other_by : (c : ℕ) (o : Option ℕ) → hex_digit_value c ≡ o → 16 ≤ unwrap_or o 255 → is_hex_digit c ≡ false
other_by c (Some v) e h = let l = small c v e in absurd (omega arith)
other_by c None e h = ap (λ (o : Option ℕ). is_some o) e

pair_by : (high low i x y : ℕ) → value_at high i ≡ Ok x → value_at low (i + 1) ≡ Ok y → pair_value high low i ≡ Ok (x * 16 + y)
pair_by high low i x y a b = rw (a, b) refl

pair_read : (high low i : ℕ) → value high < 16 → value low < 16 → pair_value high low i ≡ Ok (value high * 16 + value low)
pair_read high low i h l =
    let a : hex_digit_value high ≡ Some (value high) = digit_by high (hex_digit_value high) refl h in
    let b : hex_digit_value low ≡ Some (value low) = digit_by low (hex_digit_value low) refl l in
    pair_by high low i (value high) (value low) (ap (digit_or_error high i) a) (ap (digit_or_error low (i + 1)) b)

-- The pairs before place i are read: each digit is one, or one of the bytes isn't.
pub record Read (word bytes : List ℕ) (i most : ℕ) : Type 0 where
  pub good : most < 16 → decode_pairs 0 word ≡ prepend (take i bytes) (decode_pairs (2 * i) (drop (2 * i) word))
  pub bad : 16 ≤ most → (k : ℕ) × (k < length word) × (is_hex_digit (slice_index word k) ≡ false)

pub read_start : (word bytes : List ℕ) → Read word bytes 0 0
read_start word bytes = record { good = λ h. decode_start word bytes; bad = λ h. absurd (omega arith) }

-- two values as a byte
pub joined : (high low : ℕ) → high < 16 → low < 16 → (high * 16 % 256 + low) % 256 ≡ high * 16 + low
joined high low h l = omega arith

-- one pair more
pub read_more : (word bytes : List ℕ) (i most high low byte next : ℕ) → 2 * i + 1 < length word → i < length bytes
    → high ≡ value (slice_index word (2 * i)) → low ≡ value (slice_index word (2 * i + 1))
    → (high < 16 → low < 16 → byte ≡ high * 16 + low)
    → (mid : ℕ) → (mid ≡ most) ⊎ (mid ≡ high) → (most ≤ mid) × (high ≤ mid)
    → (next ≡ mid) ⊎ (next ≡ low) → (mid ≤ next) × (low ≤ next)
    → Read word bytes i most → Read word (slice_set bytes i byte) (i + 1) next
read_more word bytes i most high low byte next fits room e f join mid one bound other above so_far = record {
  good = λ n.
      let x : high < 16 = omega (arith, bound.1, above.0) in
      let y : low < 16 = omega (arith, above.1) in
      let h : value (slice_index word (2 * i)) < 16 = omega (arith, e) in
      let l : value (slice_index word (2 * i + 1)) < 16 = omega (arith, f) in
      let b : value (slice_index word (2 * i)) * 16 + value (slice_index word (2 * i + 1)) ≡ byte = omega (arith, e, f, join x y) in
      decode_step word bytes i byte fits room (pair_read (slice_index word (2 * i)) (slice_index word (2 * i + 1)) (2 * i) h l ∙ ap (λ (v : ℕ). Ok v) b) (so_far.good (omega (arith, bound.0, above.0)));
  bad = λ n. elim other [
    | inr second ↦ (2 * i + 1, fits, other_by (slice_index word (2 * i + 1)) (hex_digit_value (slice_index word (2 * i + 1))) refl (omega (arith, f)))
    | inl before ↦ elim one [
      | inl earlier ↦ so_far.bad (omega arith)
      | inr first ↦ (2 * i, omega arith, other_by (slice_index word (2 * i)) (hex_digit_value (slice_index word (2 * i))) refl (omega (arith, e)))
    ]
  ];
}

refused : (word : List ℕ) (k : ℕ) (r : Result (List ℕ) FromHexError) → decode_of word ≡ r → k < length word → is_hex_digit (slice_index word k) ≡ false → result_ok r ≡ None
refused word k (Err d) e h n = refl
refused word k (Ok bytes) e h n = absurd (false≢true (sym n ∙ (decode_of-ok word bytes e).1 k 0 h))

-- all of them
pub read_all : (word bytes : List ℕ) (i most : ℕ) (b : Bool) → length word ≡ 2 * length bytes → length bytes ≤ i
    → (b ≡ true → most < 16) → (b ≡ false → 16 ≤ most)
    → Read word bytes i most → result_ok (decode_of word) ≡ cond b (Some bytes) None
read_all word bytes i most true len past few many so_far =
    ap result_ok (decode_of-even word (omega (arith, len)) ∙ decode_done word bytes i past (omega (arith, len)) (so_far.good (few refl)))
read_all word bytes i most false len past few many so_far =
    let k = so_far.bad (many refl) in
    refused word k.0 (decode_of word) refl k.1 k.2

-- two digits more
pub written_more : (bytes text : List ℕ) (i x y : ℕ) → i < length bytes → 2 * i + 1 < length text
    → (x ∷ y ∷ []) ≡ hex_byte (slice_index bytes i)
    → take (2 * i) text ≡ flat_map hex_byte (take i bytes)
    → take (2 * (i + 1)) (slice_set (slice_set text (2 * i) x) (2 * i + 1) y) ≡ flat_map hex_byte (take (i + 1) bytes)
written_more bytes text i x y within fits e so_far =
    let two : 2 * (i + 1) ≡ 2 * i + 2 = omega arith in
    ap (λ (n : ℕ). take n (slice_set (slice_set text (2 * i) x) (2 * i + 1) y)) two
    ∙ take-two_writes text (2 * i) x y fits
    ∙ ap (λ (front : List ℕ). front ++ x ∷ y ∷ []) so_far
    ∙ ap (λ (back : List ℕ). flat_map hex_byte (take i bytes) ++ back) e
    ∙ flat_map_more hex_byte [] (take i bytes) (slice_index bytes i)
    ∙ ap (flat_map hex_byte) (sym (take_more bytes i 0 within))

pub written_all : (bytes text : List ℕ) (i : ℕ) → length bytes ≤ i → length text ≡ 2 * length bytes
    → take (2 * i) text ≡ flat_map hex_byte (take i bytes) → text ≡ flat_map hex_byte bytes
written_all bytes text i past len so_far =
    sym (take_all (2 * i) text (omega (arith, len))) ∙ so_far ∙ ap (flat_map hex_byte) (take_all i bytes past)

pub length_of_hex : (bytes : List ℕ) → length (flat_map hex_byte bytes) ≡ 2 * length bytes
length_of_hex [] = refl
length_of_hex (byte ∷ bytes) = let rest = length_of_hex bytes in omega (arith, rest)
