-- Lists of changes, one entry on.
use Rattle.std.proofs.Common.{◌≡◌, ℕ, zero, suc, ◌+◌, ◌<◌, Bool, true, false, cond, List, [], ◌∷◌, ◌++◌, map, length, take, drop, get_or, refl, sym, ◌∙◌, ap, arith, add-one, append_assoc, drop-cons}
use Rattle.std.proofs.Math.ListN.{set}
use Rattle.std.proofs.lemmas.List.{drop-map, take-map, map-append, take_more}
use Rattle.std.specs.List.{insert}
use Rattle.std.specs.declared.option.Option.{Option}
use Rattle.std.specs.declared.option.Option.TheVariants.{Some}
use Rattle.std.specs.declared.cmp.Ordering.{Ordering}
use Rattle.std.specs.declared.cmp.Ordering.TheVariants.{Less, Equal, Greater}
use Rattle.std.specs.FinMap.Entries.{by_order}
use Rattle.outside.specs.declared.change.Pending.{Pending}
use Rattle.outside.specs.Trace.{At}
use Rattle.outside.specs.Names.{same_at, at_cmp}
use Rattle.outside.specs.NameLaws.{same_ties, at_exact}
use Rattle.outside.specs.Changes.{FileChanges, change_at, set_change}
use Rattle.outside.specs.View.{at_of, change_of, pending_of, list_of}

pub item_here : (ps : List Pending) (i : ℕ) (p : Pending) → i < length ps → p ≡ get_or ps i p → drop i (list_of ps) ≡ pending_of p ∷ drop (i + 1) (list_of ps)
item_here ps i p h is =
    drop-map pending_of i ps ∙ ap (map pending_of) (drop-cons ps i p h) ∙ ap (λ q. pending_of q ∷ map pending_of (drop (suc i) ps)) (sym is)
    ∙ ap (λ xs. pending_of p ∷ xs) (sym (drop-map pending_of (suc i) ps) ∙ ap (λ k. drop k (list_of ps)) (sym (add-one i)))

pub lookup_here : (n : At) (ps : List Pending) (i : ℕ) (p : Pending) → i < length ps → p ≡ get_or ps i p
    → change_at n (list_of (drop i ps)) ≡ cond (same_at n (at_of p.name)) (Some (change_of p.change)) (change_at n (list_of (drop (i + 1) ps)))
lookup_here n ps i p h is =
    ap (change_at n) (sym (drop-map pending_of i ps) ∙ item_here ps i p h is)
    ∙ ap (λ b. cond b (Some (change_of p.change)) (change_at n (drop (i + 1) (list_of ps)))) (sym (same_ties n (at_of p.name)))
    ∙ ap (λ xs. cond (same_at n (at_of p.name)) (Some (change_of p.change)) (change_at n xs)) (drop-map pending_of (i + 1) ps)

pub lookup_found : (n : At) (ps : List Pending) (i : ℕ) (p : Pending) (r : Bool) → i < length ps → p ≡ get_or ps i p → r ≡ same_at n (at_of p.name) → r ≡ true
    → change_at n (list_of ps) ≡ change_at n (list_of (drop i ps)) → change_at n (list_of ps) ≡ Some (change_of p.change)
lookup_found n ps i p r h is e t so =
    so ∙ lookup_here n ps i p h is ∙ ap (λ b. cond b (Some (change_of p.change)) (change_at n (list_of (drop (i + 1) ps)))) (sym e ∙ t)

pub lookup_later : (n : At) (ps : List Pending) (i : ℕ) (p : Pending) (r : Bool) → i < length ps → p ≡ get_or ps i p → r ≡ same_at n (at_of p.name) → r ≡ false
    → change_at n (list_of ps) ≡ change_at n (list_of (drop i ps)) → change_at n (list_of ps) ≡ change_at n (list_of (drop (i + 1) ps))
lookup_later n ps i p r h is e t so =
    so ∙ lookup_here n ps i p h is ∙ ap (λ b. cond b (Some (change_of p.change)) (change_at n (list_of (drop (i + 1) ps)))) (sym e ∙ t)

-- a change is set beyond the first i entries
pub record IsBeyond (n : At) (list : FileChanges) (i : ℕ) : Type 0 where
  pub beyond : (change : Option (List ℕ)) → set_change n change list ≡ take i list ++ set_change n change (drop i list)

step : (n : At) (change : Option (List ℕ)) (list : FileChanges) (i : ℕ) (e : At × Option (List ℕ)) (o : Ordering) → IsBeyond n list i → drop i list ≡ e ∷ drop (i + 1) list → at_cmp n e.0 ≡ o
    → set_change n change list ≡ take i list ++ by_order o ((n, change) ∷ e ∷ drop (i + 1) list) ((e.0, change) ∷ drop (i + 1) list) (e ∷ set_change n change (drop (i + 1) list))
step n change list i e o b d q =
    b.beyond change ∙ ap (λ x. take i list ++ set_change n change x) d
    ∙ ap (λ r. take i list ++ by_order r ((n, change) ∷ e ∷ drop (i + 1) list) ((e.0, change) ∷ drop (i + 1) list) (e ∷ set_change n change (drop (i + 1) list))) q

pub set_before : (n : At) (list : FileChanges) (i : ℕ) (e : At × Option (List ℕ)) → IsBeyond n list i → drop i list ≡ e ∷ drop (i + 1) list → at_cmp n e.0 ≡ Less
    → (change : Option (List ℕ)) → set_change n change list ≡ take i list ++ (n, change) ∷ drop i list
set_before n list i e b d q change = step n change list i e Less b d q ∙ ap (λ x. take i list ++ (n, change) ∷ x) (sym d)

pub set_here : (n : At) (list : FileChanges) (i : ℕ) (e : At × Option (List ℕ)) → IsBeyond n list i → drop i list ≡ e ∷ drop (i + 1) list → at_cmp n e.0 ≡ Equal
    → (change : Option (List ℕ)) → set_change n change list ≡ take i list ++ (n, change) ∷ drop (i + 1) list
set_here n list i e b d q change =
    step n change list i e Equal b d q ∙ ap (λ m. take i list ++ (m, change) ∷ drop (i + 1) list) (sym (at_exact n e.0 q))

split_more : (list : FileChanges) (i : ℕ) (e : At × Option (List ℕ)) → drop i list ≡ e ∷ drop (i + 1) list → i < length list → take (i + 1) list ≡ take i list ++ e ∷ []
split_more list i e d h =
    let same : get_or list i e ≡ e = cc (drop-cons list i e h) in take_more list i e h ∙ ap (λ x. take i list ++ x ∷ []) same

pub set_later : (n : At) (list : FileChanges) (i : ℕ) (e : At × Option (List ℕ)) → IsBeyond n list i → drop i list ≡ e ∷ drop (i + 1) list → i < length list → at_cmp n e.0 ≡ Greater
    → IsBeyond n list (i + 1)
set_later n list i e b d h q = record {
  beyond = λ change.
      step n change list i e Greater b d q ∙ sym (append_assoc (take i list) (e ∷ []) (set_change n change (drop (i + 1) list)))
      ∙ ap (λ x. x ++ set_change n change (drop (i + 1) list)) (sym (split_more list i e d h));
}

pub set_split : {X : Type 0} (xs : List X) (i : ℕ) (y : X) → i < length xs → set xs i y ≡ take i xs ++ y ∷ drop (suc i) xs
set_split [] i y h = absurd (omega arith)
set_split (x ∷ xs) zero y h = refl
set_split (x ∷ xs) (suc i) y h = ap (λ ys. x ∷ ys) (set_split xs i y (omega arith))

pub list_set : (ps : List Pending) (i : ℕ) (p : Pending) → i < length ps → list_of (set ps i p) ≡ take i (list_of ps) ++ pending_of p ∷ drop (i + 1) (list_of ps)
list_set ps i p h =
    ap (map pending_of) (set_split ps i p h) ∙ map-append pending_of (take i ps) (p ∷ drop (suc i) ps)
    ∙ cc (take-map pending_of i ps, drop-map pending_of (suc i) ps, add-one i)

pub list_insert : (ps : List Pending) (i : ℕ) (p : Pending) → list_of (insert ps i p) ≡ take i (list_of ps) ++ pending_of p ∷ drop i (list_of ps)
list_insert ps i p =
    map-append pending_of (take i ps) (p ∷ drop i ps) ∙ cc (take-map pending_of i ps, drop-map pending_of i ps)

-- the same, where the list was read as a slice
pub was_set : (ps qs : List Pending) (i : ℕ) (p : Pending) → qs ≡ ps → i < length qs
    → ((change : Option (List ℕ)) → set_change (at_of p.name) change (list_of qs) ≡ take i (list_of qs) ++ (at_of p.name, change) ∷ drop (i + 1) (list_of qs))
    → list_of (set ps i p) ≡ set_change (at_of p.name) (change_of p.change) (list_of ps)
was_set ps qs i p e h found =
    ap (λ xs. list_of (set xs i p)) (sym e) ∙ list_set qs i p h ∙ sym (found (change_of p.change)) ∙ ap (λ xs. set_change (at_of p.name) (change_of p.change) (list_of xs)) e

pub was_inserted : (ps qs : List Pending) (i : ℕ) (p : Pending) → qs ≡ ps
    → ((change : Option (List ℕ)) → set_change (at_of p.name) change (list_of qs) ≡ take i (list_of qs) ++ (at_of p.name, change) ∷ drop i (list_of qs))
    → list_of (insert ps i p) ≡ set_change (at_of p.name) (change_of p.change) (list_of ps)
was_inserted ps qs i p e absent =
    ap (λ xs. list_of (insert xs i p)) (sym e) ∙ list_insert qs i p ∙ sym (absent (change_of p.change)) ∙ ap (λ xs. set_change (at_of p.name) (change_of p.change) (list_of xs)) e
