-- What a search by halves finds among lines in order.
use Rattle.std.proofs.Common.{◌≡◌, ℕ, suc, ◌<◌, Bool, true, false, ◌||◌, List, [], ◌∷◌, length, get_or, refl, sym, ◌∙◌, ap, arith, inl, inr}
use Rattle.std.proofs.lemmas.Bool.{cases_lt}
use Rattle.std.proofs.lemmas.List.Folds.{list_any_at}
use Rattle.std.proofs.lemmas.List.Sorted.{searchable_from_sorted}
use Rattle.std.specs.Cmp.Lexicographic.{slice_cmp, nat_list_cmp_total, texts_ties}
use Rattle.std.specs.List.{list_any}
use Rattle.std.specs.List.Sorted.{IsBinarySearchResult, IsSearchInRange, IsSorted}
use Rattle.std.specs.Ordering.{nat_cmp, is_eq, ordering_reverse}
use Rattle.std.specs.Prelude.{is_ok}
use Rattle.std.specs.Str.{bytes_eq}
use Rattle.std.specs.declared.cmp.Ordering.{Ordering}
use Rattle.std.specs.declared.cmp.Ordering.TheVariants.{Less, Equal, Greater}
use Rattle.std.specs.declared.result.Result.{Result}
use Rattle.std.specs.declared.result.Result.TheVariants.{Ok, Err}

none_passes : {X : Type 0} (p : X → Bool) (xs : List X) → ((k : ℕ) (d : X) → k < length xs → p (get_or xs k d) ≡ false) → list_any p xs ≡ false
none_passes p [] all = refl
none_passes p (x ∷ xs) all = ap (λ b. b || list_any p xs) (all 0 x (omega arith)) ∙ none_passes p xs (λ k d lt. all (suc k) d (omega arith))

-- lines that don't tie are different
apart : (x y : List ℕ) (r : Ordering) → slice_cmp nat_cmp y x ≡ r → is_eq (ordering_reverse r) ≡ false → bytes_eq x y ≡ false
apart x y r e differs = texts_ties x y ∙ (ap is_eq (nat_list_cmp_total.antisymm x y ∙ ap ordering_reverse e) ∙ differs)

same : (x y : List ℕ) → slice_cmp nat_cmp y x ≡ Equal → bytes_eq x y ≡ true
same x y e = texts_ties x y ∙ ap is_eq (nat_list_cmp_total.antisymm x y ∙ ap ordering_reverse e)

pub searched_line : (xs : List (List ℕ)) (x : List ℕ) (r : Result ℕ ℕ) → IsSorted (slice_cmp nat_cmp) xs → IsSearchInRange r (length xs) → IsBinarySearchResult (λ y. slice_cmp nat_cmp y x) xs r
    → is_ok r ≡ list_any (bytes_eq x) xs
searched_line xs x (Ok i) order range at = sym (list_any_at (bytes_eq x) xs i [] range (same x (get_or xs i []) (at [])))
searched_line xs x (Err i) order range at =
    let parts = at (searchable_from_sorted nat_list_cmp_total (λ y. y) xs x order) in
    sym (none_passes (bytes_eq x) xs (λ k d lt. elim (cases_lt k i) [
      | inl b ↦ apart x (get_or xs k d) Less (parts.0 k d (omega arith) b) refl
      | inr a ↦ apart x (get_or xs k d) Greater (parts.1 k d a lt) refl
    ]))
