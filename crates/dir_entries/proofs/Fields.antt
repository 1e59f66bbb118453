-- Readers whose fields are read as they were written.
use Rattle.std.proofs.Common.{◌≡◌, ℕ, zero, suc, ◌+◌, ◌^◌, ◌<◌, Bool, true, false, cond, eqb, ltb, List, [], ◌∷◌, ◌++◌, length, get_or, take, drop, refl, sym, ap, subst, ◌∙◌, append_assoc, arith}
use Rattle.std.specs.Prelude.{Option, Some, None, option_and_then}
use Rattle.std.specs.Option.{option_map}
use Rattle.std.specs.List.{position, position_or_len, list_any}
use Rattle.std.specs.Int.{w32, w64, to_le_bytes}
use Rattle.std.proofs.Math.Seq.{drop-cons}
use Rattle.std.proofs.lemmas.Bool.{lt-ltb, eqb-true, or_parts}
use Rattle.std.proofs.lemmas.List.{take_at, drop_at, get_or_at, get_or-take, get_or_append_left, take-append-drop, length-append, length-take}
use Rattle.std.proofs.lemmas.List.Quantifiers.{position-Some}
use Rattle.std.proofs.lemmas.List.Sums.{position_or_len_is}
use Rattle.std.proofs.lemmas.Option.{cond_some}
use Rattle.byte_fields.specs.Fields.{IsBytes, front_at, number_at}
use Rattle.byte_fields.proofs.Fields.{IsBytes-drop, bound, mapped, Takes, Takes-then, front_takes, front_again, wide32, wide64, number_takes, number_again}
use Rattle.dir_entries.specs.Reading.{Reader, then_at, where_at, map_at, text_at}

-- what is read is written so and may be written, and what is written and may be is read, whatever follows it
pub record IsCodec {A : Type 0} (reader : Reader A) (text : A → List ℕ) (Is : A → Type 0) : Type 0 where
  pub takes : (bytes : List ℕ) (a : A) (rest : List ℕ) → IsBytes bytes → reader bytes ≡ Some (a, rest) → Takes bytes (text a) rest × Is a
  pub again : (a : A) (rest : List ℕ) → Is a → reader (text a ++ rest) ≡ Some (a, rest)

pub then_codec : {A B : Type 0} (p : Reader A) (q : Reader B) (s : A → List ℕ) (t : B → List ℕ) (P : A → Type 0) (Q : B → Type 0) → IsCodec p s P → IsCodec q t Q
    → IsCodec (then_at p q) (λ x. s x.0 ++ t x.1) (λ x. P x.0 × Q x.1)
then_codec {A} {B} p q s t P Q first second = record {
  takes = λ bytes x rest fits e.
      let a = bound (p bytes) (λ a. option_map (λ b. ((a.0, b.0), b.1)) (q a.1)) (x, rest) e in
      let b = mapped (q a.0.1) (λ b. ((a.0.0, b.0), b.1)) (x, rest) a.2 in
      let front = first.takes bytes a.0.0 a.0.1 fits a.1 in
      let back = second.takes a.0.1 b.0.0 b.0.1 front.0.rest_fits b.1 in
      let both = Takes-then bytes (s a.0.0) a.0.1 (t b.0.0) b.0.1 front.0 back.0 in
      subst (λ (y : (A × B) × List ℕ). Takes bytes (s y.0.0 ++ t y.0.1) y.1 × (P y.0.0 × Q y.0.1)) b.2 (both, (front.1, back.1));
  again = λ x rest is.
      ap (then_at p q) (append_assoc (s x.0) (t x.1) rest)
      ∙ ap (option_and_then (λ a. option_map (λ b. ((a.0, b.0), b.1)) (q a.1))) (first.again x.0 (t x.1 ++ rest) is.0)
      ∙ ap (option_map (λ b. ((x.0, b.0), b.1))) (second.again x.1 rest is.1);
}

pub where_codec : {A : Type 0} (test : A → Bool) (p : Reader A) (s : A → List ℕ) (P : A → Type 0) → IsCodec p s P → IsCodec (where_at test p) s (λ a. P a × (test a ≡ true))
where_codec {A} test p s P codec = record {
  takes = λ bytes x rest fits e.
      let a = bound (p bytes) (λ a. cond (test a.0) (Some a) None) (x, rest) e in
      let passed = cond_some (test a.0.0) a.0 (x, rest) a.2 in
      let front = codec.takes bytes a.0.0 a.0.1 fits a.1 in
      subst (λ (y : A × List ℕ). Takes bytes (s y.0) y.1 × (P y.0 × (test y.0 ≡ true))) passed.1 (front.0, (front.1, passed.0));
  again = λ x rest is.
      ap (option_and_then (λ a. cond (test a.0) (Some a) None)) (codec.again x rest is.0) ∙ ap (λ b. cond b (Some (x, rest)) None) is.1;
}

-- another form of the value, with the same text
pub map_codec : {A B : Type 0} (f : A → B) (g : B → A) (p : Reader A) (s : A → List ℕ) (t : B → List ℕ) (P : A → Type 0) (Q : B → Type 0)
    → ((b : B) → f (g b) ≡ b) → ((a : A) → t (f a) ≡ s a) → ((a : A) → P a → Q (f a)) → ((b : B) → Q b → P (g b))
    → IsCodec p s P → IsCodec (map_at f p) t Q
map_codec {A} {B} f g p s t P Q back same onward inward codec = record {
  takes = λ bytes x rest fits e.
      let a = mapped (p bytes) (λ a. (f a.0, a.1)) (x, rest) e in
      let front = codec.takes bytes a.0.0 a.0.1 fits a.1 in
      subst (λ (y : B × List ℕ). Takes bytes (t y.0) y.1 × Q y.0) a.2 (subst (λ w. Takes bytes w a.0.1) (sym (same a.0.0)) front.0, onward a.0.0 front.1);
  again = λ x rest is.
      ap (λ w. map_at f p (w ++ rest)) (ap t (sym (back x)) ∙ same (g x))
      ∙ ap (option_map (λ a. (f a.0, a.1))) (codec.again (g x) rest (inward x is))
      ∙ ap (λ y. Some (y, rest)) (back x);
}

-- ---- numbers and so many bytes

pub u32_codec : IsCodec (number_at w32) (to_le_bytes w32) (λ n. n < 2 ^ 32)
u32_codec = record { takes = λ bytes n rest fits e. number_takes wide32 bytes (n, rest) fits e; again = number_again wide32 }

pub u64_codec : IsCodec (number_at w64) (to_le_bytes w64) (λ n. n < 2 ^ 64)
u64_codec = record { takes = λ bytes n rest fits e. number_takes wide64 bytes (n, rest) fits e; again = number_again wide64 }

pub front_codec : (n : ℕ) → IsCodec (front_at n) (λ front. front) (λ front. length front ≡ n)
front_codec n = record { takes = λ bytes front rest fits e. front_takes n bytes (front, rest) fits e; again = front_again n }

-- ---- a text before a zero

abbrev is_zero : ℕ → Bool
is_zero byte = eqb byte 0

abbrev pub HasNoZero : List ℕ → Type 0
HasNoZero text = (k : ℕ) → k < length text → is_zero (get_or text k 0) ≡ false

text_takes : (bytes text rest : List ℕ) → IsBytes bytes → text_at bytes ≡ Some (text, rest) → Takes bytes (text ++ 0 ∷ []) rest × HasNoZero text
unfolding text_at
text_takes bytes text rest fits e =
    let found = mapped (position is_zero bytes) (λ end. (take end bytes, drop (suc end) bytes)) (text, rest) e in
    let end : ℕ = found.0 in
    let at = position-Some is_zero bytes end 0 found.1 in
    let byte : get_or bytes end 0 ≡ 0 = eqb-true _ _ at.1 in
    let behind : drop end bytes ≡ 0 ∷ drop (suc end) bytes = drop-cons bytes end 0 at.0 ∙ ap (λ x. x ∷ drop (suc end) bytes) byte in
    let takes : Takes bytes (take end bytes ++ 0 ∷ []) (drop (suc end) bytes) = record {
      parts = sym (take-append-drop end bytes) ∙ ap (λ x. take end bytes ++ x) behind ∙ sym (append_assoc (take end bytes) (0 ∷ []) (drop (suc end) bytes));
      rest_fits = IsBytes-drop (suc end) bytes fits;
    } in
    let none : HasNoZero (take end bytes) = λ k lt. let below : k < end = omega (arith, length-take end bytes) in ap is_zero (get_or-take end bytes k 0 below) ∙ at.2 k below in
    subst (λ (y : List ℕ × List ℕ). Takes bytes (y.0 ++ 0 ∷ []) y.1 × HasNoZero y.0) found.2 (takes, none)

pub none_at : (p : ℕ → Bool) (xs : List ℕ) (k : ℕ) → list_any p xs ≡ false → k < length xs → p (get_or xs k 0) ≡ false
none_at p [] k e lt = absurd (omega arith)
none_at p (x ∷ xs) zero e lt = (or_parts (p x) (list_any p xs) e).0
none_at p (x ∷ xs) (suc k) e lt = none_at p xs k (or_parts (p x) (list_any p xs) e).1 (omega arith)

text_again : (text rest : List ℕ) → HasNoZero text → text_at ((text ++ 0 ∷ []) ++ rest) ≡ Some (text, rest)
unfolding text_at
text_again text rest none =
    let whole : List ℕ = text ++ 0 ∷ rest in
    let grouped : (text ++ 0 ∷ []) ++ rest ≡ whole = append_assoc text (0 ∷ []) rest in
    let len : length whole ≡ length text + suc (length rest) = length-append text (0 ∷ rest) in
    let end : position_or_len is_zero whole ≡ length text =
    position_or_len_is is_zero whole (length text) 0 (omega arith)
    (λ k lt. ap is_zero (get_or_append_left text (0 ∷ rest) 0 k lt) ∙ none k lt)
    (λ lt. ap is_zero (get_or_at text 0 rest 0 (length text) refl)) in
    let within : ltb (length text) (length whole) ≡ true = lt-ltb _ _ (omega arith) in
    let found : position is_zero whole ≡ Some (length text) =
    ap (λ n. cond (ltb n (length whole)) (Some n) None) end ∙ ap (λ b. cond b (Some (length text)) None) within in
    let front : take (length text) whole ≡ text = take_at text (0 ∷ rest) (length text) refl in
    let back : drop (suc (length text)) whole ≡ rest =
    ap (λ x. drop (suc (length text)) x) (sym (append_assoc text (0 ∷ []) rest)) ∙ drop_at (text ++ 0 ∷ []) rest (suc (length text)) (length-append text (0 ∷ []) ∙ omega arith) in
    let read : text_at whole ≡ Some (take (length text) whole, drop (suc (length text)) whole) = ap (option_map (λ n. (take n whole, drop (suc n) whole))) found in
    let pair : Option (List ℕ × List ℕ) = Some (text, rest) in
    let parts : Some (take (length text) whole, drop (suc (length text)) whole) ≡ pair = cc (front, back) in
    subst (λ x. text_at x ≡ pair) (sym grouped) (read ∙ parts)

pub text_codec : IsCodec text_at (λ text. text ++ 0 ∷ []) HasNoZero
text_codec = record { takes = text_takes; again = text_again }
