-- Elements in the order of their keys: finding, placing and removing one.
use Rattle.std.proofs.Common.{◌≡◌, ℕ, suc, zero, ◌+◌, ◌<◌, ◌≤◌, length, get_or, map, false, not, cond, T, List, [], ◌∷◌, refl, sym, ◌∙◌, ap, subst, arith, add-one, IfOk, IfErr, inl, inr}
use Rattle.std.proofs.lemmas.Bool.{cases_lt}
use Rattle.std.proofs.lemmas.List.{length-map}
use Rattle.std.proofs.lemmas.List.Sorted.{searchable_from_sorted}
use Rattle.std.proofs.Math.ListN.{set}
use Rattle.std.specs.List.{insert, remove}
use Rattle.std.specs.List.Sorted.{IsBinarySearchResult, IsSearchInRange, IsSortedBy}
use Rattle.std.specs.declared.cmp.Ordering.{Ordering}
use Rattle.std.specs.declared.cmp.Ordering.TheVariants.{Less, Equal, Greater}
use Rattle.std.specs.declared.option.Option.TheVariants.{None, Some}
use Rattle.std.specs.declared.result.Result.{Result}
use Rattle.std.specs.declared.result.Result.TheVariants.{Ok, Err}
use Rattle.std.specs.Ordering.{is_eq, is_lt, ordering_reverse, eq_by_cmp}
use Rattle.std.specs.Cmp.{IsTotalOrder, tied_itself}
use Rattle.std.specs.FinMap.{find, is_sorted}
use Rattle.std.specs.FinMap.Entries.{put, by_order, below_all, where_key}
use Rattle.fs_model.proofs.TreeLemmas.{left_T, right_T}
use Rattle.plain_rows.specs.Sorted.{IsElementAt, IsGap}
use Rattle.block_id.proofs.Orders.{less_so}

-- the other way round
module _ {K : Type 0} {R : K → K → Ordering} (o : IsTotalOrder R) where
  pub turned_less : (p q : K) → R p q ≡ Less → R q p ≡ Greater
  turned_less p q e = o.antisymm q p ∙ ap ordering_reverse e

  pub turned_greater : (p q : K) → R p q ≡ Greater → R q p ≡ Less
  turned_greater p q e = o.antisymm q p ∙ ap ordering_reverse e

-- pairs in order
module _ {K X : Type 0} {R : K → K → Ordering} (o : IsTotalOrder R) where
  find_past : (p : K) (e : K × X) (es : List (K × X)) (r : Ordering) → R p e.0 ≡ r → is_eq r ≡ false → find R p (e ∷ es) ≡ find R p es
  find_past p e es r c h = ap (λ z. cond (is_eq z) (Some e.1) (find R p es)) c ∙ ap (λ b. cond b (Some e.1) (find R p es)) h

  -- a key below all of them
  pub find_below : (p : K) (es : List (K × X)) → T (below_all R p es) → find R p es ≡ None
  find_below p [] h = refl
  find_below p (e ∷ es) h =
      find_past p e es Less (less_so (R p e.0) (left_T (is_lt (R p e.0)) (below_all R p es) h)) refl
      ∙ find_below p es (right_T (is_lt (R p e.0)) (below_all R p es) h)

  pub below_at : (p : K) (es : List (K × X)) (j : ℕ) (d : K × X) → T (below_all R p es) → j < length es → R p (get_or es j d).0 ≡ Less
  below_at p [] j d h lt = absurd (omega arith)
  below_at p (e ∷ es) zero d h lt = less_so (R p e.0) (left_T (is_lt (R p e.0)) (below_all R p es) h)
  below_at p (e ∷ es) (suc j) d h lt = below_at p es j d (right_T (is_lt (R p e.0)) (below_all R p es) h) (omega arith)

  pub head_sorted : (e : K × X) (es : List (K × X)) → T (is_sorted R (e ∷ es)) → T (below_all R e.0 es)
  head_sorted e es h = left_T (below_all R e.0 es) (is_sorted R es) h

  pub tail_sorted : (e : K × X) (es : List (K × X)) → T (is_sorted R (e ∷ es)) → T (is_sorted R es)
  tail_sorted e es h = right_T (below_all R e.0 es) (is_sorted R es) h

  -- the value at an index is found by its key
  pub find_at : (es : List (K × X)) (i : ℕ) (d : K × X) → T (is_sorted R es) → i < length es → find R (get_or es i d).0 es ≡ Some (get_or es i d).1
  find_at [] i d h lt = absurd (omega arith)
  find_at (e ∷ es) zero d h lt = ap (λ r. cond (is_eq r) (Some e.1) (find R e.0 es)) (tied_itself o e.0)
  find_at (e ∷ es) (suc i) d h lt =
      find_past (get_or es i d).0 e es Greater (turned_less o e.0 (get_or es i d).0 (below_at e.0 es i d (head_sorted e es h) (omega arith))) refl
      ∙ find_at es i d (tail_sorted e es h) (omega arith)

  pub ascending : (es : List (K × X)) (k : ℕ) (d : K × X) → T (is_sorted R es) → k + 1 < length es → R (get_or es k d).0 (get_or es (k + 1) d).0 ≡ Less
  ascending [] k d h lt = absurd (omega arith)
  ascending (e ∷ es) zero d h lt = below_at e.0 es 0 d (head_sorted e es h) (omega arith)
  ascending (e ∷ es) (suc k) d h lt =
      subst (λ i. R (get_or es k d).0 (get_or (e ∷ es) i d).0 ≡ Less) (sym (add-one (suc k)))
      (subst (λ i. R (get_or es k d).0 (get_or es i d).0 ≡ Less) (add-one k) (ascending es k d (tail_sorted e es h) (omega arith)))

  -- all but the values of a key that is below all of them
  where_all : (p : K) (es : List (K × X)) → T (below_all R p es) → where_key R (λ x. not (eq_by_cmp R p x)) es ≡ es
  where_all p [] h = refl
  where_all p (e ∷ es) h =
      let less = less_so (R p e.0) (left_T (is_lt (R p e.0)) (below_all R p es) h) in
      let rest = where_all p es (right_T (is_lt (R p e.0)) (below_all R p es) h) in
      ap (λ r. cond (not (is_eq r)) (e ∷ where_key R (λ x. not (eq_by_cmp R p x)) es) (where_key R (λ x. not (eq_by_cmp R p x)) es)) less
      ∙ ap (λ ys. e ∷ ys) rest

-- elements by index
module _ {A K X : Type 0} {R : K → K → Ordering} (o : IsTotalOrder R) (entry : A → K × X) where
  pub get_entry : (xs : List A) (i : ℕ) (d : A) → get_or (map entry xs) i (entry d) ≡ entry (get_or xs i d)
  get_entry [] i d = refl
  get_entry (x ∷ xs) zero d = refl
  get_entry (x ∷ xs) (suc i) d = get_entry xs i d

  find_none_at : (p : K) (xs : List A) → ((k : ℕ) (d : A) → k < length xs → is_eq (R p (entry (get_or xs k d)).0) ≡ false) → find R p (map entry xs) ≡ None
  find_none_at p [] apart_from = refl
  find_none_at p (x ∷ xs) apart_from =
      find_past o p (entry x) (map entry xs) (R p (entry x).0) refl (apart_from 0 x (omega arith))
      ∙ find_none_at p xs (λ k d lt. apart_from (suc k) d (omega arith))

  -- one more at the place between the lesser keys and the greater ones
  gap_put : (p : K) (xs : List A) (i : ℕ) (x : A) → (entry x).0 ≡ p → i ≤ length xs
      → ((k : ℕ) (d : A) → k < i → R p (entry (get_or xs k d)).0 ≡ Greater)
      → ((k : ℕ) (d : A) → i ≤ k → k < length xs → R p (entry (get_or xs k d)).0 ≡ Less)
      → map entry (insert xs i x) ≡ put R p (entry x).1 (map entry xs)
  gap_put p [] zero x is le before after = ap (λ z. (z, (entry x).1) ∷ []) is
  gap_put p [] (suc i) x is le before after = absurd (omega arith)
  gap_put p (y ∷ ys) zero x is le before after =
      ap (λ z. (z, (entry x).1) ∷ map entry (y ∷ ys)) is
      ∙ sym (ap (λ r. by_order r ((p, (entry x).1) ∷ map entry (y ∷ ys)) (((entry y).0, (entry x).1) ∷ map entry ys) (entry y ∷ put R p (entry x).1 (map entry ys))) (after 0 y (omega arith) (omega arith)))
  gap_put p (y ∷ ys) (suc i) x is le before after =
      ap (λ zs. entry y ∷ zs) (gap_put p ys i x is (omega arith) (λ k d lt. before (suc k) d (omega arith)) (λ k d ge lt. after (suc k) d (omega arith) (omega arith)))
      ∙ sym (ap (λ r. by_order r ((p, (entry x).1) ∷ map entry (y ∷ ys)) (((entry y).0, (entry x).1) ∷ map entry ys) (entry y ∷ put R p (entry x).1 (map entry ys))) (before 0 y (omega arith)))

  -- another one of the same key at an index
  pub set_put : (xs : List A) (i : ℕ) (x d : A) → T (is_sorted R (map entry xs)) → i < length xs → (entry x).0 ≡ (entry (get_or xs i d)).0
      → map entry (set xs i x) ≡ put R (entry x).0 (entry x).1 (map entry xs)
  set_put [] i x d h lt is = absurd (omega arith)
  set_put (y ∷ ys) zero x d h lt is =
      ap (λ z. (z, (entry x).1) ∷ map entry ys) is
      ∙ sym (ap (λ r. by_order r (((entry x).0, (entry x).1) ∷ map entry (y ∷ ys)) (((entry y).0, (entry x).1) ∷ map entry ys) (entry y ∷ put R (entry x).0 (entry x).1 (map entry ys)))
      (ap (λ z. R z (entry y).0) is ∙ tied_itself o (entry y).0))
  set_put (y ∷ ys) (suc i) x d h lt is =
      let greater : R (entry x).0 (entry y).0 ≡ Greater =
      ap (λ z. R z (entry y).0) is
      ∙ turned_less o (entry y).0 (entry (get_or ys i d)).0 (ap (λ e. R (entry y).0 e.0) (sym (get_entry ys i d)) ∙ below_at o (entry y).0 (map entry ys) i (entry d) (head_sorted o (entry y) (map entry ys) h) (omega (arith, length-map ys entry))) in
      ap (λ zs. entry y ∷ zs) (set_put ys i x d (tail_sorted o (entry y) (map entry ys) h) (omega arith) is)
      ∙ sym (ap (λ r. by_order r (((entry x).0, (entry x).1) ∷ map entry (y ∷ ys)) (((entry y).0, (entry x).1) ∷ map entry ys) (entry y ∷ put R (entry x).0 (entry x).1 (map entry ys))) greater)

  -- one fewer
  pub remove_where : (xs : List A) (i : ℕ) (d : A) → T (is_sorted R (map entry xs)) → i < length xs
      → map entry (remove xs i) ≡ where_key R (λ k. not (eq_by_cmp R (entry (get_or xs i d)).0 k)) (map entry xs)
  remove_where [] i d h lt = absurd (omega arith)
  remove_where (y ∷ ys) zero d h lt =
      sym (ap (λ r. cond (not (is_eq r)) (entry y ∷ where_key R (λ z. not (eq_by_cmp R (entry y).0 z)) (map entry ys)) (where_key R (λ z. not (eq_by_cmp R (entry y).0 z)) (map entry ys))) (tied_itself o (entry y).0)
      ∙ where_all o (entry y).0 (map entry ys) (head_sorted o (entry y) (map entry ys) h))
  remove_where (y ∷ ys) (suc i) d h lt =
      let p = (entry (get_or ys i d)).0 in
      let greater : R p (entry y).0 ≡ Greater =
      turned_less o (entry y).0 p (ap (λ e. R (entry y).0 e.0) (sym (get_entry ys i d)) ∙ below_at o (entry y).0 (map entry ys) i (entry d) (head_sorted o (entry y) (map entry ys) h) (omega (arith, length-map ys entry))) in
      ap (λ zs. entry y ∷ zs) (remove_where ys i d (tail_sorted o (entry y) (map entry ys) h) (omega arith))
      ∙ sym (ap (λ r. cond (not (is_eq r)) (entry y ∷ where_key R (λ z. not (eq_by_cmp R p z)) (map entry ys)) (where_key R (λ z. not (eq_by_cmp R p z)) (map entry ys))) greater)

  ascending_elements : (xs : List A) → T (is_sorted R (map entry xs)) → IsSortedBy (λ a b. is_lt (R (entry a).0 (entry b).0)) xs
  ascending_elements xs h = λ k d _ lt.
      let up : R (entry (get_or xs k d)).0 (entry (get_or xs (k + 1) d)).0 ≡ Less =
      ap (λ e. R (entry (get_or xs k d)).0 e.0) (sym (get_entry xs (k + 1) d))
      ∙ (ap (λ e. R e.0 (get_or (map entry xs) (k + 1) (entry d)).0) (sym (get_entry xs k d))
      ∙ ascending o (map entry xs) k (entry d) h (omega (arith, length-map xs entry))) in
      ap is_lt (turned_less o (entry (get_or xs k d)).0 (entry (get_or xs (k + 1) d)).0 up)

  -- what a search by halves finds
  pub searched_at : ((x y : K) → R x y ≡ Equal → x ≡ y) → (xs : List A) (p : K) (r : Result ℕ ℕ) → T (is_sorted R (map entry xs)) → IsSearchInRange r (length xs)
      → IsBinarySearchResult (λ x. R (entry x).0 p) xs r → IfOk r (IsElementAt R entry xs p)
  searched_at exact xs p (Err i) h range position = tt
  searched_at exact xs p (Ok i) h range position = record {
    in_range = range;
    key = key_is;
    found = λ d.
        ap (λ z. find R z (map entry xs)) (sym (key_is d) ∙ ap (λ e. e.0) (sym (get_entry xs i d)))
        ∙ (find_at o (map entry xs) i (entry d) h (omega (arith, length-map xs entry)) ∙ ap (λ e. Some e.1) (get_entry xs i d));
  }
    where
      key_is : (d : A) → (entry (get_or xs i d)).0 ≡ p
      key_is d = exact (entry (get_or xs i d)).0 p (position d)

  pub searched_gap : (xs : List A) (p : K) (r : Result ℕ ℕ) → T (is_sorted R (map entry xs)) → IsSearchInRange r (length xs)
      → IsBinarySearchResult (λ x. R (entry x).0 p) xs r → IfErr r (IsGap R entry xs p)
  searched_gap xs p (Ok i) h range position = tt
  searched_gap xs p (Err i) h range position =
      let parts = position (searchable_from_sorted o (λ x. (entry x).0) xs p (ascending_elements xs h)) in
      let before = λ (k : ℕ) (d : A) (lt : k < i). turned_less o (entry (get_or xs k d)).0 p (parts.0 k d (omega arith) lt) in
      let after = λ (k : ℕ) (d : A) (ge : i ≤ k) (lt : k < length xs). turned_greater o (entry (get_or xs k d)).0 p (parts.1 k d ge lt) in
      record {
        in_range = range;
        absent = find_none_at p xs (λ k d lt. elim (cases_lt k i) [ inl b ↦ ap is_eq (before k d b) | inr a ↦ ap is_eq (after k d a lt) ]);
        placed = λ x is. gap_put p xs i x is range before after;
      }
