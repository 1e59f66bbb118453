-- Where the parts of a sealed file stand.
use Rattle.std.proofs.Common.{◌≡◌, ℕ, ◌+◌, ◌-◌, ◌≤◌, true, List, ◌++◌, length, take, drop, nat_lt, Some, None, if◌then◌else◌, refl, sym, ap, ◌∙◌, arith, append_assoc, length-append, length-drop, le-ltb}
use Rattle.std.proofs.lemmas.List.{drop_at, length-take-le, take_at}
use Rattle.std.proofs.lemmas.Nat.{from_le_bytes-to_le_bytes_4, from_le_bytes-to_le_bytes_8}
use Rattle.std.proofs.lemmas.Slice.Eq.{bytes_eq-Decides}
use Rattle.std.specs.Int.{w32, w64, from_le_bytes, to_le_bytes}
use Rattle.std.specs.List.{slice_range}
use Rattle.scrypt_kdf.specs.Cost.{Cost, IsAllowed}
use Rattle.config_file.specs.Format.{begins_with, cipher_field, cost_in, inner_front, outer_front, salt_in, sealed_in, text_in}
use Rattle.config_file.specs.Sealing.{innermost_text, outer_text}
use Rattle.config_file.proofs.Sealed.{both_right}

-- ---- lists in parts

pub slice_at : (a b c : List ℕ) (i j : ℕ) → length a ≡ i → i + length b ≡ j → slice_range (a ++ (b ++ c)) i j ≡ b
slice_at a b c i j la lb = ap (take (j - i)) (drop_at a (b ++ c) i la) ∙ take_at b c (j - i) (omega (arith, lb))

pub begins : (front rest : List ℕ) → begins_with (front ++ rest) front ≡ true
begins front rest = (bytes_eq-Decides front (take (length front) (front ++ rest))).1 (sym (take_at front rest (length front) refl))

-- ---- the outer part

module _ (f n r p s t : List ℕ) where
  abbrev whole : List ℕ
  whole = f ++ n ++ r ++ p ++ s ++ t

  after_one : whole ≡ f ++ (n ++ (r ++ (p ++ (s ++ t))))
  after_one = simp append_assoc

  after_two : whole ≡ (f ++ n) ++ (r ++ (p ++ (s ++ t)))
  after_two = simp append_assoc

  after_three : whole ≡ (f ++ n ++ r) ++ (p ++ (s ++ t))
  after_three = simp append_assoc

  after_four : whole ≡ (f ++ n ++ r ++ p) ++ (s ++ t)
  after_four = simp append_assoc

  module _ (lf : length f ≡ 22) (ln : length n ≡ 8) (lr : length r ≡ 4) (lp : length p ≡ 4) (ls : length s ≡ 32) where
    two : length (f ++ n) ≡ 30
    two = omega (arith, length-append f n)

    three : length (f ++ n ++ r) ≡ 34
    three = omega (arith, length-append (f ++ n) r, two)

    four : length (f ++ n ++ r ++ p) ≡ 38
    four = omega (arith, length-append (f ++ n ++ r) p, three)

    pub five : length (f ++ n ++ r ++ p ++ s) ≡ 70
    five = omega (arith, length-append (f ++ n ++ r ++ p) s, four)

    pub at_n : slice_range whole 22 30 ≡ n
    at_n = ap (λ l. slice_range l 22 30) after_one ∙ slice_at f n (r ++ (p ++ (s ++ t))) 22 30 lf (omega (arith, ln))

    pub at_r : slice_range whole 30 34 ≡ r
    at_r = ap (λ l. slice_range l 30 34) after_two ∙ slice_at (f ++ n) r (p ++ (s ++ t)) 30 34 two (omega (arith, lr))

    pub at_p : slice_range whole 34 38 ≡ p
    at_p = ap (λ l. slice_range l 34 38) after_three ∙ slice_at (f ++ n ++ r) p (s ++ t) 34 38 three (omega (arith, lp))

    pub at_s : slice_range whole 38 70 ≡ s
    at_s = ap (λ l. slice_range l 38 70) after_four ∙ slice_at (f ++ n ++ r ++ p) s t 38 70 four (omega (arith, ls))

    pub at_t : drop 70 whole ≡ t
    at_t = drop_at (f ++ n ++ r ++ p ++ s) t 70 five

    pub long : length whole ≡ 70 + length t
    long = omega (arith, length-append (f ++ n ++ r ++ p ++ s) t, five)

-- ---- the outer part of a file, and the rest

module _ (cost : Cost) (salt rest : List ℕ) (allowed : IsAllowed cost) (size : length salt ≡ 32) where
  abbrev n8 : List ℕ
  n8 = to_le_bytes w64 cost.n

  abbrev r4 : List ℕ
  r4 = to_le_bytes w32 cost.r

  abbrev p4 : List ℕ
  p4 = to_le_bytes w32 cost.p

  pub cost_in-outer_text : cost_in (outer_text cost salt ++ rest) ≡ cost
  unfolding cost_in outer_text
  cost_in-outer_text =
      let n : from_le_bytes w64 (slice_range (outer_text cost salt ++ rest) 22 30) ≡ cost.n =
      ap (from_le_bytes w64) (at_n outer_front n8 r4 p4 salt rest refl refl refl refl size) ∙ from_le_bytes-to_le_bytes_8 cost.n (omega (arith, allowed.range.n_high)) in
      let r : from_le_bytes w32 (slice_range (outer_text cost salt ++ rest) 30 34) ≡ cost.r =
      ap (from_le_bytes w32) (at_r outer_front n8 r4 p4 salt rest refl refl refl refl size) ∙ from_le_bytes-to_le_bytes_4 cost.r (omega (arith, allowed.range.r_high)) in
      let p : from_le_bytes w32 (slice_range (outer_text cost salt ++ rest) 34 38) ≡ cost.p =
      ap (from_le_bytes w32) (at_p outer_front n8 r4 p4 salt rest refl refl refl refl size) ∙ from_le_bytes-to_le_bytes_4 cost.p (omega (arith, allowed.range.p_high)) in
      λ i. record { n = n i; r = r i; p = p i }

  pub salt_in-outer_text : salt_in (outer_text cost salt ++ rest) ≡ salt
  unfolding outer_text
  salt_in-outer_text = at_s outer_front n8 r4 p4 salt rest refl refl refl refl size

  pub after_outer_text : drop 70 (outer_text cost salt ++ rest) ≡ rest
  unfolding outer_text
  after_outer_text = at_t outer_front n8 r4 p4 salt rest refl refl refl refl size

  pub length-file : length (outer_text cost salt ++ rest) ≡ 70 + length rest
  unfolding outer_text
  length-file = long outer_front n8 r4 p4 salt rest refl refl refl refl size

  pub begins_outer_text : begins_with (outer_text cost salt ++ rest) outer_front ≡ true
  unfolding outer_text
  begins_outer_text =
      ap (λ l. begins_with l outer_front) (after_one outer_front n8 r4 p4 salt rest) ∙ begins outer_front (n8 ++ (r4 ++ (p4 ++ (salt ++ rest))))

-- ---- the inner part

module _ (a b c d : List ℕ) where
  abbrev four_parts : List ℕ
  four_parts = a ++ b ++ c ++ d

  pub from_first : four_parts ≡ a ++ (b ++ (c ++ d))
  from_first = simp append_assoc

  pub from_third : four_parts ≡ (a ++ b) ++ (c ++ d)
  from_third = simp append_assoc

  pub length-four_parts : length four_parts ≡ length a + length b + length c + length d
  length-four_parts = omega (arith, length-append (a ++ b ++ c) d, length-append (a ++ b) c, length-append a b)

pub sealed_in-parts : (sealed rest : List ℕ) → length sealed ≡ 932 → sealed_in (inner_front ++ cipher_field ++ sealed ++ rest) ≡ Some sealed
sealed_in-parts sealed rest size =
    let inner : List ℕ = inner_front ++ cipher_field ++ sealed ++ rest in
    let front : begins_with inner inner_front ≡ true =
    ap (λ l. begins_with l inner_front) (from_first inner_front cipher_field sealed rest) ∙ begins inner_front (cipher_field ++ (sealed ++ rest)) in
    let cipher : begins_with (drop 21 inner) cipher_field ≡ true =
    ap (λ l. begins_with (drop 21 l) cipher_field) (from_first inner_front cipher_field sealed rest)
    ∙ ap (λ l. begins_with l cipher_field) (drop_at inner_front (cipher_field ++ (sealed ++ rest)) 21 refl) ∙ begins cipher_field (sealed ++ rest) in
    both_right inner front cipher
    ∙ ap Some (ap (λ l. slice_range l 33 965) (from_third inner_front cipher_field sealed rest)
    ∙ slice_at (inner_front ++ cipher_field) sealed rest 33 965 refl (omega (arith, size)))

-- ---- the innermost part

text_from : (x : List ℕ) (n : ℕ) → from_le_bytes w32 (slice_range x 0 4) ≡ n → n ≤ 896 → text_in x ≡ Some (slice_range x 4 (4 + n))
unfolding text_in
text_from x n is low =
    (λ i. if nat_lt 896 (is i) then None else Some (slice_range x 4 (4 + is i)))
    ∙ (λ i. if le-ltb 896 n low i then None else Some (slice_range x 4 (4 + n)))

pub text_in-innermost_text : (json fill : List ℕ) → length json ≤ 896 → text_in (innermost_text json fill) ≡ Some json
unfolding innermost_text
text_in-innermost_text json fill low =
    let front : List ℕ = to_le_bytes w32 (length json) in
    let rest : List ℕ = slice_range fill (4 + length json) 900 in
    let is : innermost_text json fill ≡ front ++ (json ++ rest) = append_assoc front json rest in
    let number : from_le_bytes w32 (slice_range (front ++ (json ++ rest)) 0 4) ≡ length json =
    ap (from_le_bytes w32) (take_at front (json ++ rest) 4 refl) ∙ from_le_bytes-to_le_bytes_4 (length json) (omega (arith, low)) in
    ap text_in is ∙ text_from (front ++ (json ++ rest)) (length json) number low ∙ ap Some (slice_at front json rest 4 (4 + length json) refl refl)

pub length-innermost_text : (json fill : List ℕ) → length json ≤ 896 → length fill ≡ 960 → length (innermost_text json fill) ≡ 900
unfolding innermost_text
length-innermost_text json fill low size =
    let front : List ℕ = to_le_bytes w32 (length json) in
    let four : length front ≡ 4 = refl in
    let rest : length (slice_range fill (4 + length json) 900) ≡ 900 - (4 + length json) =
    length-take-le (900 - (4 + length json)) (drop (4 + length json) fill) (omega (arith, length-drop (4 + length json) fill, size)) in
    omega (arith, length-append (front ++ json) (slice_range fill (4 + length json) 900), length-append front json, four, rest)
