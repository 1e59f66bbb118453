-- The costs that are taken are those that scrypt allows.
use Rattle.std.proofs.Common.{◌≡◌, ◌↔◌, ℕ, ◌+◌, ◌-◌, ◌^◌, ◌<◌, ◌≤◌, ◌==◌, Bool, true, false, cond, get_or, Some, None, Result, Ok, Err, refl, sym, ap, ◌∙◌, arith, inl, inr, eq-eqb, eqb-true}
use Rattle.std.proofs.lemmas.Bool.{cases_lt}
use Rattle.std.proofs.lemmas.List.Folds.{Any-from_list_any, list_any_at}
use Rattle.std.proofs.lemmas.List.FromFn.{get_or-range_with_len, length-range_with_len}
use Rattle.std.proofs.Math.Pow.{pow-lt, pow_mono}
use Rattle.std.specs.List.{list_any, range_with_len}
use Rattle.std.specs.Result.{IfOk, IsOk, result_ok}
use Rattle.scrypt_kdf.specs.Cost.{Cost, IsAllowed}
use Rattle.program_words.specs.CreateOptions.{is_power}

abbrev one_of : ℕ → ℕ → Bool
one_of m n = list_any (λ k. n == 2 ^ k) (range_with_len 1 m)

power_of : (m n : ℕ) → one_of m n ≡ true → (k : ℕ) × (n ≡ 2 ^ k) × (1 ≤ k) × (k ≤ m)
power_of m n e =
    let any = Any-from_list_any (λ k. n == 2 ^ k) (range_with_len 1 m) e in
    let lt : any.0 < m = omega (arith, any.2, length-range_with_len 1 m) in
    let at : any.1 ≡ 1 + any.0 = sym any.3 ∙ get_or-range_with_len 1 m any.0 any.1 lt in
    (any.1, eqb-true n (2 ^ any.1) any.4, omega (arith, at), omega (arith, at, lt))

power_in : (m n k : ℕ) → n ≡ 2 ^ k → 1 ≤ k → k ≤ m → one_of m n ≡ true
power_in m n k is low high =
    let at : get_or (range_with_len 1 m) (k - 1) 0 ≡ k = get_or-range_with_len 1 m (k - 1) 0 (omega arith) ∙ omega arith in
    list_any_at (λ j. n == 2 ^ j) (range_with_len 1 m) (k - 1) 0 (omega (arith, length-range_with_len 1 m))
    (eq-eqb n (2 ^ get_or (range_with_len 1 m) (k - 1) 0) (is ∙ ap (λ j. 2 ^ j) (sym at)))

-- from 2 to 2 ^ m
exponent : (m n k : ℕ) → n ≡ 2 ^ k → 2 ≤ n → n ≤ 2 ^ m → (1 ≤ k) × (k ≤ m)
exponent m n k is low high =
    let above : 1 ≤ k = elim (cases_lt k 1) [
      | inl none ↦
          let zeroth : k ≡ 0 = omega arith in
          let one : n ≡ 1 = is ∙ ap (λ j. 2 ^ j) zeroth in
          absurd (omega arith)
      | inr some ↦ some
    ] in
    let below : k ≤ m = elim (cases_lt m k) [
      | inl more ↦
          let over : 2 ^ m < 2 ^ k = pow-lt more in
          absurd (omega arith)
      | inr some ↦ some
    ] in
    (above, below)

pub allowed : (n r p : ℕ) → is_power n ≡ true → (1 ≤ r) × (r ≤ 8) → (1 ≤ p) × (p ≤ 16) → IsAllowed (record { n = n; r = r; p = p })
unfolding is_power
allowed n r p e rs ps =
    let k = power_of 20 n e in
    let low : 2 ^ 1 ≤ 2 ^ k.0 = pow_mono k.2 in
    let high : 2 ^ k.0 ≤ 2 ^ 20 = pow_mono k.3 in
    record {
      power = (k.0, k.1);
      range = record { n_low = omega (arith, k.1); n_high = omega (arith, k.1); r_low = rs.0; r_high = rs.1; p_low = ps.0; p_high = ps.1 };
    }

pub is_power-IsAllowed : (cost : Cost) → IsAllowed cost → is_power cost.n ≡ true
unfolding is_power
is_power-IsAllowed cost h =
    let k = exponent 20 cost.n h.power.0 h.power.1 h.range.n_low h.range.n_high in
    power_in 20 cost.n h.power.0 h.power.1 k.0 k.1

abbrev cost : ℕ → ℕ → ℕ → Cost
cost n r p = record { n = n; r = r; p = p }

module _ {E : Type 0} (n r p : ℕ) (rs : (1 ≤ r) × (r ≤ 8)) (ps : (1 ≤ p) × (p ≤ 16)) where
  -- what was made of the numbers is their cost, where N is a power
  made_by : (made : Result Cost E) (b : Bool) → is_power n ≡ b → IfOk made (λ c. c ≡ cost n r p) → IsOk made ↔ IsAllowed (cost n r p)
      → result_ok made ≡ cond b (Some (cost n r p)) None
  made_by (Ok c) true e is iff = ap Some is
  made_by (Err x) true e is iff = let yes = iff.1 (allowed n r p e rs ps) in absurd (cc yes)
  made_by (Ok c) false e is iff = let yes = is_power-IsAllowed (cost n r p) (iff.0 refl) in absurd (cc (sym e ∙ yes))
  made_by (Err x) false e is iff = refl

  pub made : (made : Result Cost E) → IfOk made (λ c. c ≡ cost n r p) → IsOk made ↔ IsAllowed (cost n r p)
      → result_ok made ≡ cond (is_power n) (Some (cost n r p)) None
  made m is iff = made_by m (is_power n) refl is iff
