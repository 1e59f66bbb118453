-- Names beside files in whatever order these are.
use Rattle.std.proofs.Common.{◌≡◌, ℕ, Bool, List, [], ◌∷◌, ◌++◌, cond, refl, sym, ◌∙◌, ap}
use Rattle.std.proofs.lemmas.List.Sorted.{list_any-IsPermutation}
use Rattle.std.specs.List.{flat_map}
use Rattle.std.specs.List.Sorted.{IsPermutation}
use Rattle.std.specs.Str.{bytes_eq}
use Rattle.check_texts.specs.Strangers.{line_beside, stranger_text}

beside_alike : (files sorted : List (List ℕ)) → IsPermutation files sorted → (name : List ℕ) → line_beside sorted name ≡ line_beside files name
beside_alike files sorted p name = ap (λ (b : Bool). cond b [] (stranger_text name)) (sym (list_any-IsPermutation (bytes_eq name) files sorted p))

pub lines_alike : (files sorted : List (List ℕ)) → IsPermutation files sorted → (names : List (List ℕ)) → flat_map (line_beside sorted) names ≡ flat_map (line_beside files) names
lines_alike files sorted p [] = refl
lines_alike files sorted p (name ∷ names) =
    ap (λ text. text ++ flat_map (line_beside sorted) names) (beside_alike files sorted p name) ∙ ap (λ text. line_beside files name ++ text) (lines_alike files sorted p names)
