-- Where the sealed innermost part stands.
use Rattle.std.proofs.Common.{◌≡◌, ℕ, ◌-◌, Bool, true, cond, List, length, take, drop, Some, None, sym, ap, ◌∙◌, arith, length-drop}
use Rattle.std.proofs.lemmas.List.{take_all}
use Rattle.std.specs.List.{slice_range}
use Rattle.config_file.specs.Format.{begins_with, cipher_field, inner_front, sealed_in}

pub sealed_by : (inner : List ℕ) (a b : Bool) → begins_with inner inner_front ≡ a → begins_with (drop 21 inner) cipher_field ≡ b
    → sealed_in inner ≡ cond a (cond b (Some (slice_range inner 33 965)) None) None
unfolding sealed_in
sealed_by inner a b front cipher = λ i. cond (front i) (cond (cipher i) (Some (slice_range inner 33 965)) None) None

pub both_right : (inner : List ℕ) → begins_with inner inner_front ≡ true → begins_with (drop 21 inner) cipher_field ≡ true → sealed_in inner ≡ Some (slice_range inner 33 965)
both_right inner front cipher = sealed_by inner true true front cipher

-- what stands behind a front, as a slice gives it
pub begins_after : (inner front : List ℕ) (n : ℕ) (b : Bool) → begins_with (take (length inner - n) (drop n inner)) front ≡ b → begins_with (drop n inner) front ≡ b
begins_after inner front n b is =
    ap (λ (x : List ℕ). begins_with x front) (sym (take_all (length inner - n) (drop n inner) (omega (arith, length-drop n inner)))) ∙ is
