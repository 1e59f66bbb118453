-- Lists whose keys rise: where a key is found; and one more turn of a loop over entries.
use Rattle.std.proofs.Common.{◌≡◌, List, [], ◌∷◌, true, false, cond, refl, sym, ◌∙◌, ap, subst}
use Rattle.std.specs.Prelude.{T, Some, None}
use Rattle.std.specs.List.{AllByRecursion}
use Rattle.std.specs.FinMap.{is_sorted, IsAntisymmetric}
use Rattle.std.specs.FinMap.Entries.{find, below_all}
use Rattle.std.specs.Cmp.{IsTotalOrder, tied_itself, Equal-is}
use Rattle.std.specs.Ordering.{is_eq, eq_by_cmp}
use Rattle.std.specs.declared.cmp.Ordering.{Ordering}
use Rattle.block_id.proofs.Conditions.{left, right}
use Rattle.store_api.proofs.Rising.{not_below}

pub all_by : {X : Type 0} (P Q : X → Type 0) (xs : List X) → ((x : X) → P x → Q x) → AllByRecursion P xs → AllByRecursion Q xs
all_by P Q [] into all = tt
all_by P Q (x ∷ xs) into all = (into x all.0, all_by P Q xs into all.1)

module _ {K X : Type 0} {R : K → K → Ordering} (o : IsTotalOrder R) where
  pub rest_rises : (e : K × X) (es : List (K × X)) → T (is_sorted R (e ∷ es)) → T (is_sorted R es)
  rest_rises e es rises = right (below_all R e.0 es) (is_sorted R es) rises

  pub first_below : (e : K × X) (es : List (K × X)) → T (is_sorted R (e ∷ es)) → T (below_all R e.0 es)
  first_below e es rises = left (below_all R e.0 es) (is_sorted R es) rises

  pub found_first : (e : K × X) (es : List (K × X)) → find R e.0 (e ∷ es) ≡ Some e.1
  found_first e es = ap (λ r. cond (is_eq r) (Some e.1) (find R e.0 es)) (tied_itself o e.0)

  -- a key that is found later isn't the first one
  pub later_differs : (q : K) (e : K × X) (es : List (K × X)) (x : X) → T (is_sorted R (e ∷ es)) → find R q es ≡ Some x → eq_by_cmp R q e.0 ≡ false
  later_differs q e es x rises found =
      elim (eq_by_cmp R q e.0) as (λ b. eq_by_cmp R q e.0 ≡ b → b ≡ false) [
        | true ↦ λ s. let none : find R q es ≡ None = not_below o q e.0 es ((Equal-is (R q e.0)).0 s) (first_below e es rises) in absurd (cc)
        | false ↦ λ s. refl
      ] refl

  pub found_later : (q : K) (e : K × X) (es : List (K × X)) (x : X) → T (is_sorted R (e ∷ es)) → find R q es ≡ Some x → find R q (e ∷ es) ≡ Some x
  found_later q e es x rises found = ap (λ b. cond b (Some e.1) (find R q es)) (later_differs q e es x rises found) ∙ found

  each_found_in : (es whole : List (K × X)) → T (is_sorted R es) → ((q : K) (x : X) → find R q es ≡ Some x → find R q whole ≡ Some x) → AllByRecursion (λ e. find R e.0 whole ≡ Some e.1) es
  each_found_in [] whole rises into = tt
  each_found_in (e ∷ es) whole rises into =
      (into e.0 e.1 (found_first e es), each_found_in es whole (rest_rises e es rises) (λ q x found. into q x (found_later q e es x rises found)))

  -- each entry is found
  pub each_found : (es : List (K × X)) → T (is_sorted R es) → AllByRecursion (λ e. find R e.0 es ≡ Some e.1) es
  each_found es rises = each_found_in es es rises (λ q x found. found)

  -- what holds of each entry holds of what is found
  pub of_found : (P : K × X → Type 0) → IsAntisymmetric R → (es : List (K × X)) (q : K) (x : X) → AllByRecursion P es → find R q es ≡ Some x → P (q, x)
  of_found P exact [] q x all found = absurd (cc)
  of_found P exact (e ∷ es) q x all found =
      elim (eq_by_cmp R q e.0) as (λ b. eq_by_cmp R q e.0 ≡ b → cond b (Some e.1) (find R q es) ≡ Some x → P (q, x)) [
        | true ↦ λ s here.
            let key : q ≡ e.0 = exact q e.0 ((Equal-is (R q e.0)).0 s) in
            let value : e.1 ≡ x = cc in
            let same : e ≡ (q, x) = λ i. (sym key i, value i) in
            subst P same all.0
        | false ↦ λ s there. of_found P exact es q x all.1 there
      ] refl found
