-- Elements of lists, and entries whose keys rise.
use Rattle.std.proofs.Common.{◌≡◌, ◌⊎◌, ℕ, zero, suc, ◌+◌, ◌≤◌, true, false, cond, List, [], ◌∷◌, ◌++◌, length, refl, sym, ◌∙◌, ap, subst, inl, inr, arith}
use Rattle.std.specs.Prelude.{Some, None, T, map}
use Rattle.std.specs.List.{slice_get}
use Rattle.std.specs.FinMap.{find, is_sorted}
use Rattle.std.specs.FinMap.Entries.{below_all}
use Rattle.std.specs.Cmp.{IsTotalOrder, tied_itself, Equal-is}
use Rattle.std.specs.Ordering.{is_eq, is_lt, eq_by_cmp}
use Rattle.std.specs.declared.cmp.Ordering.{Ordering}
use Rattle.std.specs.declared.cmp.Ordering.TheVariants.{Equal}
use Rattle.block_id.proofs.Conditions.{left, right}
use Rattle.cryfs_check.specs.Seats.{Among}

pub among_left : {A : Type 0} (xs ys : List A) (x : A) → Among xs x → Among (xs ++ ys) x
among_left [] ys x h = absurd h
among_left (y ∷ xs) ys x (inl e) = inl e
among_left (y ∷ xs) ys x (inr h) = inr (among_left xs ys x h)

pub among_right : {A : Type 0} (xs ys : List A) (x : A) → Among ys x → Among (xs ++ ys) x
among_right [] ys x h = h
among_right (y ∷ xs) ys x h = inr (among_right xs ys x h)

pub among_either : {A : Type 0} (xs ys : List A) (x : A) → Among (xs ++ ys) x → Among xs x ⊎ Among ys x
among_either [] ys x h = inr h
among_either (y ∷ xs) ys x (inl e) = inl (inl e)
among_either (y ∷ xs) ys x (inr h) = elim (among_either xs ys x h) [ inl one ↦ inl (inr one) | inr other ↦ inr other ]

pub among_map : {A B : Type 0} (f : A → B) (xs : List A) (x : A) → Among xs x → Among (map f xs) (f x)
among_map f [] x h = absurd h
among_map f (y ∷ xs) x (inl e) = inl (ap f e)
among_map f (y ∷ xs) x (inr h) = inr (among_map f xs x h)

pub map_among : {A B : Type 0} (f : A → B) (xs : List A) (y : B) → Among (map f xs) y → (x : A) × (Among xs x × (f x ≡ y))
map_among f [] y h = absurd h
map_among f (x ∷ xs) y (inl e) = (x, (inl refl, e))
map_among f (x ∷ xs) y (inr h) = let r = map_among f xs y h in (r.0, (inr r.1.0, r.1.1))

-- ---- by number

pub at_among : {A : Type 0} (xs : List A) (i : ℕ) (x : A) → slice_get xs i ≡ Some x → Among xs x
at_among [] i x e = absurd (cc)
at_among (y ∷ xs) zero x e = inl (cc)
at_among (y ∷ xs) (suc i) x e = inr (at_among xs i x e)

pub among_at : {A : Type 0} (xs : List A) (x : A) → Among xs x → (i : ℕ) × (slice_get xs i ≡ Some x)
among_at [] x h = absurd h
among_at (y ∷ xs) x (inl e) = (0, ap Some e)
among_at (y ∷ xs) x (inr h) = let r = among_at xs x h in (suc r.0, r.1)

pub at_left : {A : Type 0} (xs ys : List A) (i : ℕ) (x : A) → slice_get xs i ≡ Some x → slice_get (xs ++ ys) i ≡ Some x
at_left [] ys i x e = absurd (cc)
at_left (y ∷ xs) ys zero x e = e
at_left (y ∷ xs) ys (suc i) x e = at_left xs ys i x e

pub at_end : {A : Type 0} (xs ys : List A) (y : A) → slice_get (xs ++ y ∷ ys) (length xs) ≡ Some y
at_end [] ys y = refl
at_end (x ∷ xs) ys y = at_end xs ys y

pub at_past : {A : Type 0} (xs : List A) → slice_get xs (length xs) ≡ None
at_past [] = refl
at_past (x ∷ xs) = at_past xs

-- an element of a list with one more is of the list, or the last
pub at_pushed : {A : Type 0} (xs : List A) (y : A) (i : ℕ) (x : A) → slice_get (xs ++ y ∷ []) i ≡ Some x → (slice_get xs i ≡ Some x) ⊎ ((i ≡ length xs) × (y ≡ x))
at_pushed [] y zero x e = inr (refl, cc)
at_pushed [] y (suc i) x e = absurd (cc)
at_pushed (z ∷ xs) y zero x e = inl e
at_pushed (z ∷ xs) y (suc i) x e = elim (at_pushed xs y i x e) [ inl here ↦ inl here | inr last ↦ inr (ap suc last.0, last.1) ]

pub at_either : {A : Type 0} (xs ys : List A) (i : ℕ) (x : A) → slice_get (xs ++ ys) i ≡ Some x → (slice_get xs i ≡ Some x) ⊎ ((length xs ≤ i) × Among ys x)
at_either [] ys i x e = inr (omega arith, at_among ys i x e)
at_either (y ∷ xs) ys zero x e = inl e
at_either (y ∷ xs) ys (suc i) x e = elim (at_either xs ys i x e) [ inl here ↦ inl here | inr later ↦ inr (let low : length xs ≤ i = later.0 in omega arith, later.1) ]

-- ---- entries in the order of their keys

not_tied : {K : Type 0} {R : K → K → Ordering} (o : IsTotalOrder R) (k : K) (r : Ordering) → R k k ≡ r → T (is_lt r) → ⊥
not_tied o k r e h = let tied : Equal ≡ r = sym (tied_itself o k) ∙ e in subst (λ z. T (is_lt z)) (sym tied) h

module _ {K X : Type 0} {R : K → K → Ordering} (o : IsTotalOrder R) where
  pub among_below : (k : K) (es : List (K × X)) (e : K × X) → T (below_all R k es) → Among es e → T (is_lt (R k e.0))
  among_below k [] e h m = absurd m
  among_below k (f ∷ es) e h (inl same) = subst (λ (z : K × X). T (is_lt (R k z.0))) same (left (is_lt (R k f.0)) (below_all R k es) h)
  among_below k (f ∷ es) e h (inr m) = among_below k es e (right (is_lt (R k f.0)) (below_all R k es) h) m

  -- a key below all isn't among them
  pub not_among : (k : K) (es : List (K × X)) (e : K × X) → T (below_all R k es) → Among es e → e.0 ≡ k → ⊥
  not_among k es e h m same = not_tied o k (R k k) refl (subst (λ z. T (is_lt (R k z))) same (among_below k es e h m))

  pub find_among : ((a b : K) → R a b ≡ Equal → a ≡ b) → (es : List (K × X)) (k : K) (x : X) → find R k es ≡ Some x → Among es (k, x)
  find_among exact [] k x e = absurd (cc)
  find_among exact (f ∷ es) k x e =
      elim (eq_by_cmp R k f.0) as (λ b. eq_by_cmp R k f.0 ≡ b → cond b (Some f.1) (find R k es) ≡ Some x → Among (f ∷ es) (k, x)) [
        | true ↦ λ s here.
            let key : f.0 ≡ k = sym (exact k f.0 ((Equal-is (R k f.0)).0 s)) in
            let value : f.1 ≡ x = cc in
            inl (λ i. (key i, value i))
        | false ↦ λ s there. inr (find_among exact es k x there)
      ] refl e

  pub among_find : ((a b : K) → R a b ≡ Equal → a ≡ b) → (es : List (K × X)) (e : K × X) → T (is_sorted R es) → Among es e → find R e.0 es ≡ Some e.1
  among_find exact [] e h m = absurd m
  among_find exact (f ∷ es) e h (inl same) =
      ap (λ (z : K × X). cond (is_eq (R z.0 f.0)) (Some f.1) (find R z.0 es)) (sym same) ∙ (ap (λ r. cond (is_eq r) (Some f.1) (find R f.0 es)) (tied_itself o f.0) ∙ ap (λ (z : K × X). Some z.1) same)
  among_find exact (f ∷ es) e h (inr m) =
      let rest = among_find exact es e (right (below_all R f.0 es) (is_sorted R es) h) m in
      elim (eq_by_cmp R e.0 f.0) as (λ b. eq_by_cmp R e.0 f.0 ≡ b → cond b (Some f.1) (find R e.0 es) ≡ Some e.1) [
        | true ↦ λ s. absurd (not_among f.0 es e (left (below_all R f.0 es) (is_sorted R es) h) m (exact e.0 f.0 ((Equal-is (R e.0 f.0)).0 s)))
        | false ↦ λ s. rest
      ] refl
