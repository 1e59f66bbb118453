-- Lists whose names rise: where a name stands in them, and what they say of it.
use Rattle.std.proofs.Common.{◌≡◌, ℕ, zero, suc, ◌+◌, ◌-◌, ◌<◌, ◌≤◌, Bool, true, false, cond, List, [], ◌∷◌, ◌++◌, length, take, drop, get_or, refl, sym, ◌∙◌, ap, subst, arith}
use Rattle.std.specs.Prelude.{T, ◌&&◌}
use Rattle.std.specs.declared.option.Option.{Option}
use Rattle.std.specs.declared.option.Option.TheVariants.{None, Some}
use Rattle.std.specs.declared.cmp.Ordering.TheVariants.{Less, Equal, Greater}
use Rattle.std.specs.Ordering.{is_lt, is_eq}
use Rattle.std.specs.FinMap.Entries.{by_order, below_all, is_sorted}
use Rattle.block_id.proofs.Conditions.{left, right}
use Rattle.block_id.proofs.Orders.{less_is, less_so}
use Rattle.outside.specs.declared.change.Pending.{Pending}
use Rattle.outside.specs.Trace.{At}
use Rattle.outside.specs.Names.{at_cmp}
use Rattle.outside.specs.NameLaws.{at_total}
use Rattle.outside.specs.Changes.{FileChanges, IsIncreasing, change_at, set_change}
use Rattle.outside.specs.View.{at_of, pending_of, list_of}
use Rattle.pending_list.proofs.Lists.{IsBeyond, item_here, set_here, set_later}

pub rises_of : (list : FileChanges) → IsIncreasing list → T (is_sorted at_cmp list)
rises_of list h = subst T (sym h) tt

first_is : (e f : At × Option (List ℕ)) (es fs : FileChanges) → e ∷ es ≡ f ∷ fs → e ≡ f
first_is e f es fs h = cc

-- what stands below a list stands below each of it
below_at : (x : At) (list : FileChanges) (i : ℕ) (e : At × Option (List ℕ)) (es : FileChanges) → T (below_all at_cmp x list) → drop i list ≡ e ∷ es → at_cmp x e.0 ≡ Less
below_at x [] zero e es h d = absurd (cc)
below_at x [] (suc i) e es h d = absurd (cc)
below_at x (y ∷ ys) zero e es h d =
    subst (λ (z : At × Option (List ℕ)). at_cmp x z.0 ≡ Less) (first_is y e ys es d) (less_so (at_cmp x y.0) (left (is_lt (at_cmp x y.0)) (below_all at_cmp x ys) h))
below_at x (y ∷ ys) (suc i) e es h d = below_at x ys i e es (right (is_lt (at_cmp x y.0)) (below_all at_cmp x ys) h) d

-- a name that doesn't stand below another stands above what is below that one
above_lower : (n x e : At) → at_cmp x e ≡ Less → is_lt (at_cmp n e) ≡ false → at_cmp n x ≡ Greater
above_lower n x e less not =
    elim (at_cmp n x) as (λ r. at_cmp n x ≡ r → r ≡ Greater) [
      | Less ↦ λ p. let bad : false ≡ true = sym not ∙ ap is_lt (at_total.trans n x e p less) in absurd (cc)
      | Equal ↦ λ p. let bad : false ≡ true = sym not ∙ ap is_lt (at_total.congr n x e p ∙ less) in absurd (cc)
      | Greater ↦ λ p. refl
    ] refl

-- the first i entries say nothing of the name
pub record IsPassed (n : At) (list : FileChanges) (i : ℕ) : Type 0 where
  pub set : IsBeyond n list i
  pub says : change_at n list ≡ change_at n (drop i list)

pub none_passed : (n : At) (list : FileChanges) → IsPassed n list 0
none_passed n list = record { set = record { beyond = λ change. refl }; says = refl }

-- entries before one that the name doesn't stand below
pub passed_at : (n : At) (list : FileChanges) (i : ℕ) (e : At × Option (List ℕ)) (es : FileChanges) → T (is_sorted at_cmp list) → drop i list ≡ e ∷ es → is_lt (at_cmp n e.0) ≡ false → IsPassed n list i
passed_at n [] zero e es h d not = absurd (cc)
passed_at n [] (suc i) e es h d not = absurd (cc)
passed_at n (x ∷ xs) zero e es h d not = none_passed n (x ∷ xs)
passed_at n (x ∷ xs) (suc i) e es h d not =
    let above : at_cmp n x.0 ≡ Greater = above_lower n x.0 e.0 (below_at x.0 xs i e es (left (below_all at_cmp x.0 xs) (is_sorted at_cmp xs) h) d) not in
    let later = passed_at n xs i e es (right (below_all at_cmp x.0 xs) (is_sorted at_cmp xs) h) d not in
    record {
      set = record {
        beyond = λ change.
            ap (λ r. by_order r ((n, change) ∷ x ∷ xs) ((x.0, change) ∷ xs) (x ∷ set_change n change xs)) above
            ∙ ap (λ ys. x ∷ ys) (later.set.beyond change);
      };
      says = ap (λ r. cond (is_eq r) (Some x.1) (change_at n xs)) above ∙ later.says;
    }

pub passed_more : (n : At) (list : FileChanges) (i : ℕ) (e : At × Option (List ℕ)) → T (is_sorted at_cmp list) → drop i list ≡ e ∷ drop (i + 1) list → i < length list → at_cmp n e.0 ≡ Greater
    → IsPassed n list (i + 1)
passed_more n list i e h d lt q =
    let before = passed_at n list i e (drop (i + 1) list) h d (ap is_lt q) in
    record {
      set = set_later n list i e before.set d lt q;
      says = before.says ∙ ap (change_at n) d ∙ ap (λ r. cond (is_eq r) (Some e.1) (change_at n (drop (i + 1) list))) q;
    }

-- the entry of the name
pub set_found : (n : At) (list : FileChanges) (i : ℕ) (e : At × Option (List ℕ)) → T (is_sorted at_cmp list) → drop i list ≡ e ∷ drop (i + 1) list → at_cmp n e.0 ≡ Equal
    → (change : Option (List ℕ)) → set_change n change list ≡ take i list ++ (n, change) ∷ drop (i + 1) list
set_found n list i e h d q = set_here n list i e (passed_at n list i e (drop (i + 1) list) h d (ap is_lt q)).set d q

pub says_found : (n : At) (list : FileChanges) (i : ℕ) (e : At × Option (List ℕ)) → T (is_sorted at_cmp list) → drop i list ≡ e ∷ drop (i + 1) list → at_cmp n e.0 ≡ Equal
    → change_at n list ≡ Some e.1
says_found n list i e h d q =
    (passed_at n list i e (drop (i + 1) list) h d (ap is_lt q)).says ∙ ap (change_at n) d
    ∙ ap (λ r. cond (is_eq r) (Some e.1) (change_at n (drop (i + 1) list))) q

-- the name stands below what is left from the i-th entry on
pub record IsBelow (n : At) (list : FileChanges) (i : ℕ) : Type 0 where
  pub below : (e : At × Option (List ℕ)) (es : FileChanges) → drop i list ≡ e ∷ es → at_cmp n e.0 ≡ Less

past_end : (list : FileChanges) (i : ℕ) (e : At × Option (List ℕ)) (es : FileChanges) → length list ≤ i → drop i list ≡ e ∷ es → ⊥
past_end [] zero e es h d = absurd (cc)
past_end [] (suc i) e es h d = absurd (cc)
past_end (x ∷ xs) zero e es h d = absurd (omega (arith, h))
past_end (x ∷ xs) (suc i) e es h d = past_end xs i e es (omega (arith, h)) d

pub below_end : (n : At) (list : FileChanges) (i : ℕ) → length list ≤ i → IsBelow n list i
below_end n list i h = record { below = λ e es d. absurd (past_end list i e es h d) }

pub below_here : (n : At) (list : FileChanges) (i : ℕ) (e : At × Option (List ℕ)) → drop i list ≡ e ∷ drop (i + 1) list → at_cmp n e.0 ≡ Less → IsBelow n list i
below_here n list i e d q = record {
  below = λ f fs g. subst (λ (z : At × Option (List ℕ)). at_cmp n z.0 ≡ Less) (first_is e f (drop (i + 1) list) fs (sym d ∙ g)) q;
}

set_first : (n : At) (change : Option (List ℕ)) (list : FileChanges) → ((e : At × Option (List ℕ)) (es : FileChanges) → list ≡ e ∷ es → at_cmp n e.0 ≡ Less) → set_change n change list ≡ (n, change) ∷ list
set_first n change [] below = refl
set_first n change (e ∷ es) below = ap (λ r. by_order r ((n, change) ∷ e ∷ es) ((e.0, change) ∷ es) (e ∷ set_change n change es)) (below e es refl)

pub set_between : (n : At) (list : FileChanges) (i : ℕ) → IsPassed n list i → IsBelow n list i
    → (change : Option (List ℕ)) → set_change n change list ≡ take i list ++ (n, change) ∷ drop i list
set_between n list i passed below change = passed.set.beyond change ∙ ap (λ xs. take i list ++ xs) (set_first n change (drop i list) below.below)

pub none_below : (n x : At) (list : FileChanges) → at_cmp n x ≡ Less → T (below_all at_cmp x list) → change_at n list ≡ None
none_below n x [] less h = refl
none_below n x (e ∷ es) less h =
    let here : at_cmp n e.0 ≡ Less = at_total.trans n x e.0 less (less_so (at_cmp x e.0) (left (is_lt (at_cmp x e.0)) (below_all at_cmp x es) h)) in
    ap (λ r. cond (is_eq r) (Some e.1) (change_at n es)) here ∙ none_below n x es less (right (is_lt (at_cmp x e.0)) (below_all at_cmp x es) h)

none_first : (n : At) (list : FileChanges) → T (is_sorted at_cmp list) → ((e : At × Option (List ℕ)) (es : FileChanges) → list ≡ e ∷ es → at_cmp n e.0 ≡ Less) → change_at n list ≡ None
none_first n [] h below = refl
none_first n (e ∷ es) h below =
    ap (λ r. cond (is_eq r) (Some e.1) (change_at n es)) (below e es refl)
    ∙ none_below n e.0 es (below e es refl) (left (below_all at_cmp e.0 es) (is_sorted at_cmp es) h)

rises_drop : (list : FileChanges) (i : ℕ) → T (is_sorted at_cmp list) → T (is_sorted at_cmp (drop i list))
rises_drop list zero h = h
rises_drop [] (suc i) h = h
rises_drop (x ∷ xs) (suc i) h = rises_drop xs i (right (below_all at_cmp x.0 xs) (is_sorted at_cmp xs) h)

pub says_none : (n : At) (list : FileChanges) (i : ℕ) → T (is_sorted at_cmp list) → IsPassed n list i → IsBelow n list i → change_at n list ≡ None
says_none n list i h passed below = passed.says ∙ none_first n (drop i list) (rises_drop list i h) below.below

pub both : (a b : Bool) → T a → T b → T (a && b)
both true b p q = q
both false b p q = p

-- what stands below the first of a list that rises stands below all of it
pub below_rising : (x : At) (e : At × Option (List ℕ)) (es : FileChanges) → at_cmp x e.0 ≡ Less → T (below_all at_cmp e.0 es) → T (below_all at_cmp x es)
below_rising x e [] less h = tt
below_rising x e (f ∷ fs) less h =
    let here : at_cmp x f.0 ≡ Less = at_total.trans x e.0 f.0 less (less_so (at_cmp e.0 f.0) (left (is_lt (at_cmp e.0 f.0)) (below_all at_cmp e.0 fs) h)) in
    both (is_lt (at_cmp x f.0)) (below_all at_cmp x fs) (subst (λ r. T (is_lt r)) (sym here) tt) (below_rising x e fs less (right (is_lt (at_cmp e.0 f.0)) (below_all at_cmp e.0 fs) h))

-- whether a list rises is decided between neighbours
agree : (less below later rises : Bool) → (less ≡ true → T (later && rises) → T below) → ((less && below) && (later && rises)) ≡ (less && (later && rises))
agree true true later rises h = refl
agree true false true true h = absurd (h refl tt)
agree true false true false h = refl
agree true false false rises h = refl
agree false below later rises h = refl

neighbours : (e f : At × Option (List ℕ)) (es : FileChanges) → is_sorted at_cmp (e ∷ f ∷ es) ≡ (is_lt (at_cmp e.0 f.0) && is_sorted at_cmp (f ∷ es))
neighbours e f es =
    agree (is_lt (at_cmp e.0 f.0)) (below_all at_cmp e.0 es) (below_all at_cmp f.0 es) (is_sorted at_cmp es)
    (λ t h. below_rising e.0 f es (less_is (at_cmp e.0 f.0) t) (left (below_all at_cmp f.0 es) (is_sorted at_cmp es) h))

pub step_rises : (ps : List Pending) (i : ℕ) (p q : Pending) → i < length ps → 1 ≤ i → p ≡ get_or ps (i - 1) p → q ≡ get_or ps i q
    → is_sorted at_cmp (drop (i - 1) (list_of ps)) ≡ (is_lt (at_cmp (at_of p.name) (at_of q.name)) && is_sorted at_cmp (drop i (list_of ps)))
step_rises ps i p q h one first second =
    let before : drop (i - 1) (list_of ps) ≡ pending_of p ∷ drop i (list_of ps) =
    item_here ps (i - 1) p (omega (arith, h, one)) first ∙ ap (λ k. pending_of p ∷ drop k (list_of ps)) (omega (arith, one)) in
    let here = item_here ps i q h second in
    ap (is_sorted at_cmp) (before ∙ ap (λ xs. pending_of p ∷ xs) here)
    ∙ neighbours (pending_of p) (pending_of q) (drop (i + 1) (list_of ps))
    ∙ ap (λ xs. is_lt (at_cmp (at_of p.name) (at_of q.name)) && is_sorted at_cmp xs) (sym here)

pub one_rises : (list : FileChanges) (i : ℕ) → length list ≤ i + 1 → is_sorted at_cmp (drop i list) ≡ true
one_rises [] zero h = refl
one_rises [] (suc i) h = refl
one_rises (x ∷ []) zero h = refl
one_rises (x ∷ y ∷ ys) zero h = absurd (omega (arith, h))
one_rises (x ∷ xs) (suc i) h = one_rises xs i (omega (arith, h))
