-- Tests that passed or failed, and numbers that are the same.
use Rattle.std.proofs.Common.{◌≡◌, ◌≤◌, ℕ, Bool, true, false, refl, arith}
use Rattle.std.specs.Prelude.{T, ◌&&◌, not}

pub true_of : (b : Bool) → T b → b ≡ true
true_of true t = refl
true_of false t = absurd t

pub left : (a b : Bool) → T (a && b) → T a
left true b t = tt
left false b t = absurd t

pub right : (a b : Bool) → T (a && b) → T b
right true b t = t
right false b t = absurd t

pub and_true : (a b : Bool) → (a && b) ≡ true → (a ≡ true) × (b ≡ true)
and_true true b e = (refl, e)
and_true false b e = absurd cc

pub and_false : (b : Bool) → (b && false) ≡ false
and_false true = refl
and_false false = refl

pub not_fails : (b : Bool) → false ≡ not b → b ≡ true
not_fails true e = refl
not_fails false e = absurd cc

pub no_fewer : (a b : ℕ) → b ≡ a → a ≤ b
no_fewer a b e = omega (arith, e)
