-- How many pieces a list is cut into.
use Rattle.std.proofs.Common.{◌≡◌, ℕ, zero, suc, ◌+◌, ◌*◌, ◌<◌, ◌≤◌, sym, subst, arith, inl, inr}
use Rattle.std.specs.Prelude.{min, true, false, ◌==◌}
use Rattle.std.proofs.lemmas.Bool.{cases_lt, eqb-true}
use Rattle.std.proofs.Math.Nat.{mul-le-mul_right}

pub count_whole : (n room len : ℕ) → n ≡ 0 → n * room + len ≡ len
count_whole n room len none = subst (λ k. k * room + len ≡ len) (sym none) (omega arith)

pub count_below : (n room len : ℕ) → n ≡ 0 → 0 < room → n * room < len + room
count_below n room len none some = subst (λ k. k * room < len + room) (sym none) (omega arith)

pub next_whole : (n m room left all piece after : ℕ) → n * room + left ≡ all → m ≡ n + 1 → piece ≡ min room left → left ≡ piece + after → 0 < after → m * room + after ≡ all
next_whole n m room left all piece after so_far more is cut some = subst (λ k. k * room + after ≡ all) (sym more) (omega arith)

pub next_below : (n m room left all piece after : ℕ) → n * room + left ≡ all → m ≡ n + 1 → 0 < left → m * room < all + room
next_below n m room left all piece after so_far more some = subst (λ k. k * room < all + room) (sym more) (omega arith)

pub count_few : (n room all most : ℕ) → n * room < all + room → all ≤ most * room → n ≤ most
count_few n room all most below fits =
    elim (cases_lt most n) [
      | inl lt ↦
          let much : (most + 1) * room ≤ n * room = mul-le-mul_right room (let le : most + 1 ≤ n = omega arith in le) in
          absurd (omega (arith, much, below, fits))
      | inr le ↦ le
    ]

pub not_zero : (n : ℕ) → false ≡ (n == 0) → 0 < n
not_zero zero e = absurd (cc)
not_zero (suc n) e = omega arith

pub is_zero : (n : ℕ) → true ≡ (n == 0) → n ≡ 0
is_zero n e = eqb-true n 0 (sym e)
