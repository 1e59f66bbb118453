-- The digits of numbers.
use Rattle.std.proofs.Common.{◌≡◌, ℕ, zero, suc, ◌+◌, ◌-◌, ◌*◌, ◌/◌, ◌%◌, ◌^◌, ◌<◌, ◌≤◌, true, ◌==◌, List, [], ◌∷◌, ◌++◌, length, map, refl, sym, ap, ◌∙◌, arith}
use Rattle.std.proofs.lemmas.Bool.{ne_eqb, cond-true, cond-false, cases_eq}
use Rattle.std.proofs.Common.{inl, inr}
use Rattle.std.proofs.lemmas.Nat.{le-div}
use Rattle.std.proofs.Math.Nat.{div-eq_of_lt, mod-eq_of_lt, mul-le-mul_left, pow-suc, pow-le-pow_right}
use Rattle.std.proofs.Common.{add-one, take, get_or, ltb, leb}
use Rattle.std.proofs.lemmas.List.Folds.{list_all_more}
use Rattle.std.proofs.lemmas.Int.Digits.{digits_value_more}
use Rattle.std.specs.List.{list_all}
use Rattle.std.specs.Char.{digit_value}
use Rattle.std.specs.Str.Parse.{digits_value}
use Rattle.std.proofs.lemmas.Bool.{lt-ltb, le-ltb, le-leb, and_from}
use Rattle.script_text.specs.Numbers.{is_digit_in}
use Rattle.std.proofs.lemmas.List.{map-append}
use Rattle.std.proofs.lemmas.Int.Digits.{digits_of_step}
use Rattle.std.proofs.lemmas.Fmt.{decimal-digits_of, decimal_digit}
use Rattle.std.specs.Int.Digits.{digits_of}
use Rattle.std.specs.Fmt.{decimal}
use Rattle.script_text.specs.Texts.{numeral, last_digits}

pub numeral-zero : (base : ℕ) → numeral base 0 ≡ 48 ∷ []
unfolding numeral
numeral-zero base = refl

pub numeral_some : (base n : ℕ) → 0 < n → numeral base n ≡ map (λ d. 48 + d) (digits_of base n)
unfolding numeral
numeral_some base n h = cond-false (n == 0) _ _ (ne_eqb n 0 (λ e. omega arith))

some_step : (base n : ℕ) → 2 ≤ base → 0 < n → numeral base n ≡ map (λ d. 48 + d) (digits_of base (n / base)) ++ ((48 + n % base) ∷ [])
some_step base n low h = numeral_some base n h ∙ ap (map (λ d. 48 + d)) (digits_of_step base n low h) ∙ map-append (λ d. 48 + d) (digits_of base (n / base)) (n % base ∷ [])

-- a number below the base is one digit
pub numeral_last : (base n : ℕ) → 2 ≤ base → n < base → numeral base n ≡ (48 + n) ∷ []
numeral_last base n low h = elim (cases_eq n 0) [
  | inl none ↦ rw none (numeral-zero base)
  | inr some ↦
      let q : n / base ≡ 0 = div-eq_of_lt h in
      let r : n % base ≡ n = mod-eq_of_lt h in
      some_step base n low (omega arith) ∙ (rw (q, r) refl)
]

-- the last digit of another stands after the others
pub numeral_step : (base n : ℕ) → 2 ≤ base → base ≤ n → numeral base n ≡ numeral base (n / base) ++ ((48 + n % base) ∷ [])
numeral_step base n low h =
    let q : 1 ≤ n / base = le-div 1 n base (omega arith) (omega arith) in
    some_step base n low (omega arith) ∙ ap (λ z. z ++ ((48 + n % base) ∷ [])) (sym (numeral_some base (n / base) q))

pub numeral_ten : (n : ℕ) → n < 2 ^ 64 → numeral 10 n ≡ decimal n
numeral_ten n h = elim (cases_eq n 0) [
  | inl none ↦ rw none (numeral-zero 10 ∙ sym (decimal_digit 0 (omega arith)))
  | inr some ↦ numeral_some 10 n (omega arith) ∙ sym (decimal-digits_of n (omega arith) h)
]

pub last_digits_step : (k n : ℕ) → 0 < k → last_digits k n ≡ last_digits (k - 1) (n / 10) ++ ((48 + n % 10) ∷ [])
last_digits_step zero n h = absurd (omega arith)
last_digits_step (suc k) n h = let e : suc k - 1 ≡ k = omega arith in rw e refl

-- a digit's value, in a base up to ten
pub digit_value_is : (b : ℕ) → 48 ≤ b → b < 58 → digit_value b ≡ b - 48
digit_value_is b low high = cond-false (ltb b 48) _ _ (le-ltb b 48 low) ∙ cond-true (ltb b 58) _ _ (lt-ltb b 58 high)

pub digit_in : (base b : ℕ) → 48 ≤ b → b < 48 + base → is_digit_in base b ≡ true
digit_in base b low high = and_from (leb 48 b) (ltb b (48 + base)) (le-leb 48 b low) (lt-ltb b (48 + base) high)

-- one digit more
pub number_more : (base : ℕ) (word : List ℕ) (i v : ℕ) → base ≤ 10 → i < length word → 48 ≤ get_or word i 0 → get_or word i 0 < 48 + base
    → (list_all (is_digit_in base) (take i word) ≡ true) × (v ≡ digits_value base (take i word)) × (v < 10 ^ i)
    → (list_all (is_digit_in base) (take (i + 1) word) ≡ true) × (v * base + (get_or word i 0 - 48) ≡ digits_value base (take (i + 1) word)) × (v * base + (get_or word i 0 - 48) < 10 ^ (i + 1))
number_more base word i v small within low high so_far =
    let b : ℕ = get_or word i 0 in
    let here : is_digit_in base b ≡ true = digit_in base b low high in
    let digit : digit_value b ≡ b - 48 = digit_value_is b low (omega arith) in
    let times : v * base ≤ v * 10 = mul-le-mul_left v small in
    let bound : v < 10 ^ i = so_far.2 in
    let power : 10 ^ (i + 1) ≡ 10 ^ i * 10 = rw add-one (pow-suc 10 i) in (
      list_all_more (is_digit_in base) word i 0 within ∙ and_from _ _ so_far.0 here,
      ap (λ n. n * base + (b - 48)) so_far.1 ∙ ap (λ d. digits_value base (take i word) * base + d) (sym digit) ∙ sym (digits_value_more base word i within),
      rw power (omega arith),
    )

-- a number of few digits is small
pub below_more_digits : (v i most : ℕ) → i ≤ most → v < 10 ^ i → v < 10 ^ most
below_more_digits v i most few small = let up : 10 ^ i ≤ 10 ^ most = pow-le-pow_right (omega arith) few in omega arith
