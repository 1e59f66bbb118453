-- Bytes that no name has.
use Rattle.std.proofs.Common.{◌≡◌, ℕ, Bool, true, false, List, [], ◌∷◌, refl, ap, ◌∙◌}
use Rattle.std.specs.Prelude.{◌||◌}
use Rattle.std.specs.List.{list_any}

tests_in_turn : (a b c d : Bool) → ((a || b) || (c || d)) ≡ ((a || c) || (b || d))
tests_in_turn true b c d = refl
tests_in_turn false true true d = refl
tests_in_turn false true false d = refl
tests_in_turn false false c d = refl

-- one of two tests passes for an element
pub any_of_two : (p q : ℕ → Bool) (xs : List ℕ) → list_any (λ b. p b || q b) xs ≡ (list_any p xs || list_any q xs)
any_of_two p q [] = refl
any_of_two p q (x ∷ xs) = ap (λ rest. (p x || q x) || rest) (any_of_two p q xs) ∙ tests_in_turn (p x) (q x) (list_any p xs) (list_any q xs)
