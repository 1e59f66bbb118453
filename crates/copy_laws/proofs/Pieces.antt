-- A list cut into pieces.
use Rattle.std.proofs.Common.{◌≡◌, ℕ, zero, suc, ◌<◌, ◌≤◌, List, [], ◌∷◌, ◌++◌, length, take, drop, refl, ◌∙◌, ap, arith}
use Rattle.std.proofs.lemmas.List.{length-drop, length-take, take-append-drop}
use Rattle.copy_laws.specs.Importing.{cut, joined}

-- no piece is empty
abbrev pub AreSome : List (List ℕ) → Type 0
AreSome [] = Unit {0}
AreSome (piece ∷ more) = (0 < length piece) × AreSome more

pub joined-cut : (size n : ℕ) (w : List ℕ) → 0 < size → length w ≤ n → joined (cut size n w) ≡ w
joined-cut size zero [] some le = refl
joined-cut size zero (b ∷ w) some le = absurd (omega arith)
joined-cut size (suc n) [] some le = refl
joined-cut size (suc n) (b ∷ w) some le =
    let less : length (drop size (b ∷ w)) ≤ n = omega (arith, length-drop size (b ∷ w)) in
    ap (λ xs. take size (b ∷ w) ++ xs) (joined-cut size n (drop size (b ∷ w)) some less) ∙ take-append-drop size (b ∷ w)

pub some-cut : (size n : ℕ) (w : List ℕ) → 0 < size → AreSome (cut size n w)
some-cut size zero w some = tt
some-cut size (suc n) [] some = tt
some-cut size (suc n) (b ∷ w) some = (omega (arith, length-take size (b ∷ w)), some-cut size n (drop size (b ∷ w)) some)
