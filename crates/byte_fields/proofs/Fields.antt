-- A field that is read is the field that was written, and what was written is read again.
use Rattle.std.proofs.Common.{◌≡◌, ℕ, ◌+◌, ◌^◌, ◌<◌, ◌≤◌, Bool, true, false, cond, ltb, List, ◌++◌, length, take, drop, refl, sym, ap, subst, ◌∙◌, append_assoc, arith, inl, inr}
use Rattle.std.specs.Prelude.{Option, Some, None, option_and_then}
use Rattle.std.specs.Option.{option_map}
use Rattle.std.specs.Int.{Width, w16, w32, w64, byte_len, from_le_bytes, to_le_bytes}
use Rattle.std.proofs.lemmas.Bool.{cases_lt, ltb-false, le-ltb}
use Rattle.std.proofs.lemmas.List.{take_at, drop_at, take-append-drop, length-append, length-take, get_or-drop, get_or-take, get_or_past}
use Rattle.std.proofs.lemmas.Option.{same_Some}
use Rattle.std.proofs.lemmas.Nat.{le_bytes_2, le_bytes_4, le_bytes_8, from_le_bytes-to_le_bytes_2, from_le_bytes-to_le_bytes_4, from_le_bytes-to_le_bytes_8}
use Rattle.byte_fields.specs.Fields.{IsBytes, front_at, number_at, AreNumbers, AreFronts}

pub IsBytes-drop : (n : ℕ) (bytes : List ℕ) → IsBytes bytes → IsBytes (drop n bytes)
IsBytes-drop n bytes fits i = rw get_or-drop (fits (n + i))

pub IsBytes-take : (n : ℕ) (bytes : List ℕ) → IsBytes bytes → IsBytes (take n bytes)
IsBytes-take n bytes fits i =
    elim (cases_lt i n) [
      | inl lt ↦ rw (get_or-take n bytes i 0 lt) (fits i)
      | inr le ↦ rw (get_or_past (take n bytes) i 0 (omega (arith, length-take n bytes))) (omega arith)
    ]

-- what a test with no answer let through
pub some_behind : {A : Type 0} (b : Bool) (x : Option A) (y : A) → cond b None x ≡ Some y → (b ≡ false) × (x ≡ Some y)
some_behind true x y e = absurd cc
some_behind false x y e = (refl, e)

-- what a step that gave an answer was given
pub bound : {A B : Type 0} (o : Option A) (f : A → Option B) (y : B) → option_and_then f o ≡ Some y → (x : A) × (o ≡ Some x) × (f x ≡ Some y)
bound (Some x) f y e = (x, refl, e)
bound None f y e = absurd cc

pub mapped : {A B : Type 0} (o : Option A) (f : A → B) (y : B) → option_map f o ≡ Some y → (x : A) × (o ≡ Some x) × (f x ≡ y)
mapped (Some x) f y e = (x, refl, cc)
mapped None f y e = absurd cc

-- what was taken from the front
pub record Takes (bytes text rest : List ℕ) : Type 0 where
  pub parts : bytes ≡ text ++ rest
  pub rest_fits : IsBytes rest

pub Takes-then : (bytes first rest second after : List ℕ) → Takes bytes first rest → Takes rest second after → Takes bytes (first ++ second) after
Takes-then bytes first rest second after p q = record {
  parts = p.parts ∙ ap (λ x. first ++ x) q.parts ∙ sym (append_assoc first second after);
  rest_fits = q.rest_fits;
}

-- ---- so many bytes

front_parts : (n : ℕ) (bytes : List ℕ) (x : List ℕ × List ℕ) → front_at n bytes ≡ Some x → (length x.0 ≡ n) × (bytes ≡ x.0 ++ x.1) × (x.1 ≡ drop n bytes)
unfolding front_at
front_parts n bytes x e =
    let found = some_behind (ltb (length bytes) n) (Some (take n bytes, drop n bytes)) x e in
    let long : n ≤ length bytes = ltb-false _ _ found.0 in
    subst (λ (y : List ℕ × List ℕ). (length y.0 ≡ n) × (bytes ≡ y.0 ++ y.1) × (y.1 ≡ drop n bytes)) (same_Some _ _ found.1) (omega (arith, length-take n bytes), sym (take-append-drop n bytes), refl)

pub front_takes : (n : ℕ) (bytes : List ℕ) (x : List ℕ × List ℕ) → IsBytes bytes → front_at n bytes ≡ Some x → Takes bytes x.0 x.1 × (length x.0 ≡ n)
front_takes n bytes x fits e =
    let found = front_parts n bytes x e in
    (record { parts = found.1; rest_fits = subst IsBytes (sym found.2) (IsBytes-drop n bytes fits) }, found.0)

pub front_again : (n : ℕ) (front rest : List ℕ) → length front ≡ n → front_at n (front ++ rest) ≡ Some (front, rest)
unfolding front_at
front_again n front rest len =
    let long : ltb (length (front ++ rest)) n ≡ false = le-ltb _ _ (omega (arith, length-append front rest)) in
    rw (long, take_at front rest n len, drop_at front rest n len) refl

pub fronts : (n : ℕ) → AreFronts n
fronts n = record {
  again = front_again n;
  took = λ bytes front rest e. let found = front_parts n bytes (front, rest) e in (found.0, found.1);
}

-- ---- numbers

pub record IsWide (w : Width) (limit : ℕ) : Type 0 where
  pub len : (n : ℕ) → length (to_le_bytes w n) ≡ byte_len w
  pub back : (bytes : List ℕ) → length bytes ≡ byte_len w → IsBytes bytes → to_le_bytes w (from_le_bytes w bytes) ≡ bytes
  pub again : (n : ℕ) → n < limit → from_le_bytes w (to_le_bytes w n) ≡ n
  pub below : (bytes : List ℕ) → IsBytes bytes → from_le_bytes w bytes < limit

pub wide16 : IsWide w16 (2 ^ 16)
wide16 = record {
  len = λ n. refl;
  back = λ bytes len fits. le_bytes_2 bytes _ len fits refl;
  again = λ n lt. from_le_bytes-to_le_bytes_2 n lt;
  below = λ bytes fits. omega (arith, fits 0, fits 1);
}

pub wide32 : IsWide w32 (2 ^ 32)
wide32 = record {
  len = λ n. refl;
  back = λ bytes len fits. le_bytes_4 bytes _ len fits refl;
  again = λ n lt. from_le_bytes-to_le_bytes_4 n lt;
  below = λ bytes fits. omega (arith, fits 0, fits 1, fits 2, fits 3);
}

pub wide64 : IsWide w64 (2 ^ 64)
wide64 = record {
  len = λ n. refl;
  back = λ bytes len fits. le_bytes_8 bytes _ len fits refl;
  again = λ n lt. from_le_bytes-to_le_bytes_8 n lt;
  below = λ bytes fits. omega (arith, fits 0, fits 1, fits 2, fits 3, fits 4, fits 5, fits 6, fits 7);
}

pub number_takes : {w : Width} {limit : ℕ} → IsWide w limit → (bytes : List ℕ) (x : ℕ × List ℕ) → IsBytes bytes → number_at w bytes ≡ Some x → Takes bytes (to_le_bytes w x.0) x.1 × (x.0 < limit)
unfolding number_at
number_takes {w} {limit} wide bytes x fits e =
    let found = some_behind (ltb (length bytes) (byte_len w)) (Some (from_le_bytes w (take (byte_len w) bytes), drop (byte_len w) bytes)) x e in
    let long : byte_len w ≤ length bytes = ltb-false _ _ found.0 in
    let front : List ℕ = take (byte_len w) bytes in
    let small = IsBytes-take (byte_len w) bytes fits in
    let back : to_le_bytes w (from_le_bytes w front) ≡ front = wide.back front (omega (arith, length-take (byte_len w) bytes)) small in
    let whole : Takes bytes (to_le_bytes w (from_le_bytes w front)) (drop (byte_len w) bytes) = record {
      parts = sym (ap (λ x. x ++ drop (byte_len w) bytes) back ∙ take-append-drop (byte_len w) bytes);
      rest_fits = IsBytes-drop (byte_len w) bytes fits;
    } in
    subst (λ (y : ℕ × List ℕ). Takes bytes (to_le_bytes w y.0) y.1 × (y.0 < limit)) (same_Some _ _ found.1) (whole, wide.below front small)

pub number_again : {w : Width} {limit : ℕ} → IsWide w limit → (n : ℕ) (rest : List ℕ) → n < limit → number_at w (to_le_bytes w n ++ rest) ≡ Some (n, rest)
unfolding number_at
number_again {w} {limit} wide n rest lt =
    let len = wide.len n in
    let long : ltb (length (to_le_bytes w n ++ rest)) (byte_len w) ≡ false = le-ltb _ _ (omega (arith, length-append (to_le_bytes w n) rest)) in
    rw (long, take_at (to_le_bytes w n) rest (byte_len w) len, drop_at (to_le_bytes w n) rest (byte_len w) len, wide.again n lt) refl

pub numbers : {w : Width} {limit : ℕ} → IsWide w limit → AreNumbers w limit
numbers {w} {limit} wide = record {
  len = wide.len;
  again = number_again wide;
  took = λ bytes n rest fits e. let found = number_takes wide bytes (n, rest) fits e in (found.1, found.0.parts);
  one = λ n m lt less e. sym (wide.again n lt) ∙ ap (from_le_bytes w) e ∙ wide.again m less;
}
