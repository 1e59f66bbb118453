-- Where entries stand in a list that rises.
use Rattle.std.proofs.Common.{◌≡◌, ℕ, ◌+◌, List, [], ◌∷◌, Bool, true, false, cond, refl, sym, ◌∙◌, ap, subst, add-one, arith}
use Rattle.std.specs.Prelude.{T, length, Option, Some, None, IfSome, IfNone, is_some, slice_get, slice_set, not}
use Rattle.std.specs.List.{insert, remove, slice_index_or}
use Rattle.std.specs.Option.{option_map}
use Rattle.std.proofs.lemmas.List.{length-map}
use Rattle.std.proofs.lemmas.Option.{slice_get-map, slice_get-get_or}
use Rattle.std.specs.Prelude.{◌<◌, ◌≤◌, zero, suc, Result, Ok, Err, OnOk, OnErr}
use Rattle.std.specs.FinMap as fin
use Rattle.std.specs.FinMap.{entries-from_sorted, empty_of_len, len-entries, same_entries_map, entries-insert, is_sorted, get-from_sorted, get-remove, same_map, IsAntisymmetric, slice_cmp-IsAntisymmetric, nat_cmp-IsAntisymmetric}
use Rattle.std.specs.FinMap.Entries.{put, find, by_order, below_all, is_sorted-put, is_sorted-where_key, find-where_key}
use Rattle.std.specs.Cmp.{eq_by_cmp_equiv}
use Rattle.std.specs.Cmp.Lexicographic.{nat_list_cmp_total}
use Rattle.std.specs.Ordering.{is_eq, is_lt, is_gt}
use Rattle.std.specs.declared.cmp.Ordering.TheVariants.{Less, Equal, Greater}
use Rattle.block_id.specs.declared.id.BlockId.{BlockId}
use Rattle.block_id.proofs.Orders.{less_so}
use Rattle.block_id.proofs.Conditions.{left, right}
use Rattle.store_api.specs.declared.batch.BatchChange.{BatchChange}
use Rattle.store_api.specs.Changes.{Id, id_cmp, same_id, Changes}
use Rattle.store_api.specs.Entries.{entry_view, entries_of, changes_of, change_view, place, is_entry_of, others}

abbrev pub Plain : Type 0
Plain = List (Id × Option (List ℕ))

exact : IsAntisymmetric id_cmp
exact = slice_cmp-IsAntisymmetric nat_cmp-IsAntisymmetric

pub no_changes : changes_of [] ≡ fin.empty
no_changes = empty_of_len (changes_of []) (len-entries (changes_of []) ∙ ap length (entries-from_sorted id_cmp [] tt))

pub sorted-put : (old new : List (BlockId × BatchChange)) (id : Id) (change : Option (List ℕ)) → T (is_sorted id_cmp (entries_of old))
    → entries_of new ≡ put id_cmp id change (entries_of old) → T (is_sorted id_cmp (entries_of new))
sorted-put old new id change rises e = subst (λ es. T (is_sorted id_cmp es)) (sym e) (is_sorted-put {X = Option (List ℕ)} id_cmp nat_list_cmp_total id change (entries_of old) rises)

-- the batch whose entries are those with one put in
pub changes-put : (old new : List (BlockId × BatchChange)) (id : Id) (change : Option (List ℕ)) → T (is_sorted id_cmp (entries_of old))
    → entries_of new ≡ put id_cmp id change (entries_of old) → changes_of new ≡ fin.insert (changes_of old) id change
changes-put old new id change rises e =
    let before : fin.entries (changes_of new) ≡ put id_cmp id change (entries_of old) = entries-from_sorted id_cmp (entries_of new) (sorted-put old new id change rises e) ∙ e in
    let after : fin.entries (fin.insert (changes_of old) id change) ≡ put id_cmp id change (entries_of old) = entries-insert nat_list_cmp_total (changes_of old) id change ∙ ap (put id_cmp id change) (entries-from_sorted id_cmp (entries_of old) rises) in
    same_entries_map (changes_of new) (fin.insert (changes_of old) id change) (before ∙ sym after)

-- an entry whose id is new, in its place
pub entries-insert_at : (es : List (BlockId × BatchChange)) (e : BlockId × BatchChange) → find id_cmp e.0.0 (entries_of es) ≡ None
    → entries_of (insert es (place e.0.0 (entries_of es)) e) ≡ put id_cmp e.0.0 (change_view e.1) (entries_of es)
entries-insert_at [] e none = refl
entries-insert_at (x ∷ xs) e none =
    elim (id_cmp e.0.0 x.0.0) as (λ r. id_cmp e.0.0 x.0.0 ≡ r
    → entries_of (insert (x ∷ xs) (by_order r 0 0 (place e.0.0 (entries_of xs) + 1)) e) ≡ by_order r (entry_view e ∷ entries_of (x ∷ xs)) ((x.0.0, change_view e.1) ∷ entries_of xs) (entry_view x ∷ put id_cmp e.0.0 (change_view e.1) (entries_of xs))) [
      | Less ↦ λ p. refl
      | Equal ↦ λ p. let bad = rw p at none in cc
      | Greater ↦ λ p.
          let rest = rw p at none in
          ap (λ i. entries_of (insert (x ∷ xs) i e)) (add-one (place e.0.0 (entries_of xs)))
          ∙ ap (λ ys. entry_view x ∷ ys) (entries-insert_at xs e rest)
    ] refl

-- a new change of the entry in its place
pub entries-set_at : (es : List (BlockId × BatchChange)) (id : Id) (e : BlockId × BatchChange) (change : BatchChange) → slice_get es (place id (entries_of es)) ≡ Some e → same_id id e.0.0 ≡ true
    → entries_of (slice_set es (place id (entries_of es)) (e.0, change)) ≡ put id_cmp id (change_view change) (entries_of es)
entries-set_at [] id e change at same = cc
entries-set_at (x ∷ xs) id e change at same =
    elim (id_cmp id x.0.0) as (λ r. id_cmp id x.0.0 ≡ r → slice_get (x ∷ xs) (by_order r 0 0 (place id (entries_of xs) + 1)) ≡ Some e
    → entries_of (slice_set (x ∷ xs) (by_order r 0 0 (place id (entries_of xs) + 1)) (e.0, change)) ≡ by_order r ((id, change_view change) ∷ entries_of (x ∷ xs)) ((x.0.0, change_view change) ∷ entries_of xs) (entry_view x ∷ put id_cmp id (change_view change) (entries_of xs))) [
      | Less ↦ λ p here. let bad : false ≡ true = sym (ap is_eq p) ∙ (ap (λ z. same_id id z.0.0) (own x e here) ∙ same) in cc
      | Equal ↦ λ p here. ap (λ z. (z.0.0, change_view change) ∷ entries_of xs) (sym (own x e here))
      | Greater ↦ λ p here.
          ap (λ i. entries_of (slice_set (x ∷ xs) i (e.0, change))) (add-one (place id (entries_of xs)))
          ∙ ap (λ ys. entry_view x ∷ ys) (entries-set_at xs id e change (ap (λ i. slice_get (x ∷ xs) i) (sym (add-one (place id (entries_of xs)))) ∙ here) same)
    ] refl at
  where
    own : (x e : BlockId × BatchChange) → Some x ≡ Some e → x ≡ e
    own x e h = cc

-- an id below the first of a list that rises isn't in it
none_below : (id x : Id) (es : Plain) → id_cmp id x ≡ Less → T (below_all id_cmp x es) → find id_cmp id es ≡ None
none_below id x [] less h = refl
none_below id x (e ∷ es) less h =
    let first : id_cmp x e.0 ≡ Less = less_so (id_cmp x e.0) (left (is_lt (id_cmp x e.0)) (below_all id_cmp x es) h) in
    let here : id_cmp id e.0 ≡ Less = nat_list_cmp_total.trans id x e.0 less first in
    ap (λ r. cond (is_eq r) (Some e.1) (find id_cmp id es)) here ∙ none_below id x es less (right (is_lt (id_cmp x e.0)) (below_all id_cmp x es) h)

-- what a list that rises has at an id is what it has at the id's place
abbrev pub own_change : Id → Option (Id × Option (List ℕ)) → Option (Option (List ℕ))
own_change id None = None
own_change id (Some entry) = cond (same_id id entry.0) (Some entry.1) None

pub find-place : (id : Id) (es : Plain) → T (is_sorted id_cmp es) → find id_cmp id es ≡ own_change id (slice_get es (place id es))
find-place id [] rises = refl
find-place id (e ∷ es) rises =
    elim (id_cmp id e.0) as (λ r. id_cmp id e.0 ≡ r → cond (is_eq r) (Some e.1) (find id_cmp id es) ≡ own_change id (slice_get (e ∷ es) (by_order r 0 0 (place id es + 1)))) [
      | Less ↦ λ p. none_below id e.0 es p (left (below_all id_cmp e.0 es) (is_sorted id_cmp es) rises) ∙ ap (λ r. cond (is_eq r) (Some e.1) None) (sym p)
      | Equal ↦ λ p. ap (λ r. cond (is_eq r) (Some e.1) None) (sym p)
      | Greater ↦ λ p. find-place id es (right (below_all id_cmp e.0 es) (is_sorted id_cmp es) rises) ∙ ap (λ i. own_change id (slice_get (e ∷ es) i)) (sym (add-one (place id es)))
    ] refl

-- the entry at the id's place is the id's, and so is its change
pub own-here : (id : Id) (es : List (BlockId × BatchChange)) (i : ℕ) (d : BlockId × BatchChange) → i < length es → is_entry_of id (slice_get (entries_of es) i) ≡ true
    → own_change id (slice_get (entries_of es) i) ≡ Some (change_view (slice_index_or es i d).1)
own-here id es i d lt is =
    let at : slice_get (entries_of es) i ≡ Some (entry_view (slice_index_or es i d)) = slice_get-map entry_view es i ∙ ap (option_map entry_view) (slice_get-get_or es i d lt) in
    ap (own_change id) at ∙ ap (λ b. cond b (Some (change_view (slice_index_or es i d).1)) None) (ap (is_entry_of id) (sym at) ∙ is)

pub none-here : (id : Id) (o : Option (Id × Option (List ℕ))) → is_entry_of id o ≡ false → own_change id o ≡ None
none-here id None h = refl
none-here id (Some entry) h = ap (λ b. cond b (Some entry.1) None) h

-- the entry at a place, and that its id is this one
pub same-here : (id : Id) (es : List (BlockId × BatchChange)) (i : ℕ) (e : BlockId × BatchChange) → slice_get es i ≡ Some e → is_entry_of id (slice_get (entries_of es) i) ≡ true → same_id id e.0.0 ≡ true
same-here id es i e at is = ap (is_entry_of id) (sym (slice_get-map entry_view es i ∙ ap (option_map entry_view) at)) ∙ is

-- what a batch has at an id
pub get-changes : (m : Changes) (es xs : List (BlockId × BatchChange)) (id : Id) → changes_of es ≡ m → T (is_sorted id_cmp (entries_of es)) → xs ≡ es
    → find id_cmp id (entries_of xs) ≡ fin.get m id
get-changes m es xs id is rises same = ap (λ ys. find id_cmp id (entries_of ys)) same ∙ (sym (get-from_sorted id_cmp (entries_of es) id rises) ∙ ap (λ n. fin.get n id) is)

-- a batch after one change was set, or was not
pub kept-sorted : {E : Type 0} (r : Result Unit E) (old new : List (BlockId × BatchChange)) (id : Id) (change : Option (List ℕ)) → T (is_sorted id_cmp (entries_of old))
    → OnOk r (entries_of new ≡ put id_cmp id change (entries_of old)) → OnErr r (entries_of new ≡ entries_of old) → T (is_sorted id_cmp (entries_of new))
kept-sorted (Ok u) old new id change rises ok err = sorted-put old new id change rises ok
kept-sorted (Err e) old new id change rises ok err = subst (λ es. T (is_sorted id_cmp es)) (sym err) rises

pub kept-changes : {E : Type 0} (r : Result Unit E) (m : Changes) (old new : List (BlockId × BatchChange)) (id : Id) (change : Option (List ℕ)) → changes_of old ≡ m → T (is_sorted id_cmp (entries_of old))
    → OnOk r (entries_of new ≡ put id_cmp id change (entries_of old)) → OnOk r (changes_of new ≡ fin.insert m id change)
kept-changes (Ok u) m old new id change is rises ok = changes-put old new id change rises ok ∙ ap (λ n. fin.insert n id change) is
kept-changes (Err e) m old new id change is rises ok = tt

-- ids above the first of a list that rises are other ids
pub others_above : (id x : Id) (es : Plain) → id_cmp id x ≡ Equal → T (below_all id_cmp x es) → others id es ≡ es
others_above id x [] same h = refl
others_above id x (e ∷ es) same h =
    let first : id_cmp x e.0 ≡ Less = less_so (id_cmp x e.0) (left (is_lt (id_cmp x e.0)) (below_all id_cmp x es) h) in
    let here : id_cmp id e.0 ≡ Less = nat_list_cmp_total.congr id x e.0 same ∙ first in
    ap (λ r. cond (not (is_eq r)) (e ∷ others id es) (others id es)) here ∙ ap (λ ys. e ∷ ys) (others_above id x es same (right (is_lt (id_cmp x e.0)) (below_all id_cmp x es) h))

others_below : (id x : Id) (es : Plain) → id_cmp id x ≡ Less → T (below_all id_cmp x es) → others id es ≡ es
others_below id x [] less h = refl
others_below id x (e ∷ es) less h =
    let first : id_cmp x e.0 ≡ Less = less_so (id_cmp x e.0) (left (is_lt (id_cmp x e.0)) (below_all id_cmp x es) h) in
    let here : id_cmp id e.0 ≡ Less = nat_list_cmp_total.trans id x e.0 less first in
    ap (λ r. cond (not (is_eq r)) (e ∷ others id es) (others id es)) here ∙ ap (λ ys. e ∷ ys) (others_below id x es less (right (is_lt (id_cmp x e.0)) (below_all id_cmp x es) h))

-- without the entry at the id's place, or where there is none
pub entries-remove_at : (es : List (BlockId × BatchChange)) (id : Id) → T (is_sorted id_cmp (entries_of es)) → is_entry_of id (slice_get (entries_of es) (place id (entries_of es))) ≡ true
    → entries_of (remove es (place id (entries_of es))) ≡ others id (entries_of es)
entries-remove_at [] id rises is = absurd (cc)
entries-remove_at (x ∷ xs) id rises is =
    elim (id_cmp id x.0.0) as (λ r. id_cmp id x.0.0 ≡ r → is_entry_of id (slice_get (entries_of (x ∷ xs)) (by_order r 0 0 (place id (entries_of xs) + 1))) ≡ true
    → entries_of (remove (x ∷ xs) (by_order r 0 0 (place id (entries_of xs) + 1))) ≡ cond (not (is_eq r)) (entry_view x ∷ others id (entries_of xs)) (others id (entries_of xs))) [
      | Less ↦ λ p here. let bad : false ≡ true = sym (ap is_eq p) ∙ here in absurd (cc)
      | Equal ↦ λ p here. sym (others_above id x.0.0 (entries_of xs) p (left (below_all id_cmp x.0.0 (entries_of xs)) (is_sorted id_cmp (entries_of xs)) rises))
      | Greater ↦ λ p here.
          ap (λ i. entries_of (remove (x ∷ xs) i)) (add-one (place id (entries_of xs)))
          ∙ ap (λ ys. entry_view x ∷ ys) (entries-remove_at xs id (right (below_all id_cmp x.0.0 (entries_of xs)) (is_sorted id_cmp (entries_of xs)) rises)
          (ap (λ i. is_entry_of id (slice_get (entries_of (x ∷ xs)) i)) (sym (add-one (place id (entries_of xs)))) ∙ here))
    ] refl is

pub entries-no_remove : (id : Id) (es : Plain) → T (is_sorted id_cmp es) → is_entry_of id (slice_get es (place id es)) ≡ false → es ≡ others id es
entries-no_remove id [] rises is = refl
entries-no_remove id (x ∷ xs) rises is =
    elim (id_cmp id x.0) as (λ r. id_cmp id x.0 ≡ r → is_entry_of id (slice_get (x ∷ xs) (by_order r 0 0 (place id xs + 1))) ≡ false → x ∷ xs ≡ cond (not (is_eq r)) (x ∷ others id xs) (others id xs)) [
      | Less ↦ λ p here. ap (λ ys. x ∷ ys) (sym (others_below id x.0 xs p (left (below_all id_cmp x.0 xs) (is_sorted id_cmp xs) rises)))
      | Equal ↦ λ p here. let bad : true ≡ false = sym (ap is_eq p) ∙ here in absurd (cc)
      | Greater ↦ λ p here. ap (λ ys. x ∷ ys) (entries-no_remove id xs (right (below_all id_cmp x.0 xs) (is_sorted id_cmp xs) rises) (ap (λ i. is_entry_of id (slice_get (x ∷ xs) i)) (sym (add-one (place id xs))) ∙ here))
    ] refl is

pub sorted-others : (old new : List (BlockId × BatchChange)) (id : Id) → T (is_sorted id_cmp (entries_of old)) → entries_of new ≡ others id (entries_of old) → T (is_sorted id_cmp (entries_of new))
sorted-others old new id rises e = subst (λ es. T (is_sorted id_cmp es)) (sym e) (is_sorted-where_key {X = Option (List ℕ)} id_cmp (λ x. not (same_id id x)) (entries_of old) rises)

-- the batch whose entries are the others
pub changes-remove : (old new : List (BlockId × BatchChange)) (id : Id) → T (is_sorted id_cmp (entries_of old)) → entries_of new ≡ others id (entries_of old)
    → changes_of new ≡ fin.remove (changes_of old) id
changes-remove old new id rises e = same_map nat_list_cmp_total exact _ _ (λ q.
    get-from_sorted id_cmp (entries_of new) q (sorted-others old new id rises e)
    ∙ (ap (find id_cmp q) e
    ∙ (find-where_key {X = Option (List ℕ)} id_cmp (λ x. not (same_id id x)) q (λ x t. ap (λ y. not (same_id id y)) (sym (exact q x t))) (entries_of old)
    ∙ (turned (same_id id q) (same_id q id) (symmetric id q) (find id_cmp q (entries_of old))
    ∙ (ap (λ o. cond (same_id q id) None o) (sym (get-from_sorted id_cmp (entries_of old) q rises)) ∙ sym (get-remove nat_list_cmp_total (changes_of old) id q))))))
  where
    turned : (a b : Bool) → a ≡ b → (o : Option (Option (List ℕ))) → cond (not a) o None ≡ cond b None o
    turned true true e o = refl
    turned false false e o = refl
    turned true false e o = absurd (cc)
    turned false true e o = absurd (cc)

    symmetric : (a b : Id) → same_id a b ≡ same_id b a
    symmetric a b = (eq_by_cmp_equiv nat_list_cmp_total).symm a b

-- how many entries a batch has
pub len-changes : (m : Changes) (es : List (BlockId × BatchChange)) → entries_of es ≡ fin.entries m → length es ≡ fin.len m
len-changes m es is = sym (length-map es entry_view) ∙ (ap length is ∙ sym (len-entries m))

-- ---- finding a place by halves

some_is : (x y : Id × Option (List ℕ)) → Some x ≡ Some y → x ≡ y
some_is x y e = cc

-- the entries behind one stand above it
below_at : (x : Id) (es : Plain) (i : ℕ) (y : Id × Option (List ℕ)) → T (below_all id_cmp x es) → slice_get es i ≡ Some y → id_cmp x y.0 ≡ Less
below_at x [] i y h at = absurd (cc)
below_at x (e ∷ es) zero y h at = subst (λ (z : Id × Option (List ℕ)). id_cmp x z.0 ≡ Less) (some_is e y at) (less_so (id_cmp x e.0) (left (is_lt (id_cmp x e.0)) (below_all id_cmp x es) h))
below_at x (e ∷ es) (suc i) y h at = below_at x es i y (right (is_lt (id_cmp x e.0)) (below_all id_cmp x es) h) at

-- an id that isn't above an entry stands there or before
pub stands_before : (id : Id) (es : Plain) (i : ℕ) (y : Id × Option (List ℕ)) → slice_get es i ≡ Some y → is_gt (id_cmp id y.0) ≡ false → place id es ≤ i
stands_before id [] i y at h = absurd (cc)
stands_before id (e ∷ es) zero y at h =
    let same : is_gt (id_cmp id e.0) ≡ false = ap (λ (z : Id × Option (List ℕ)). is_gt (id_cmp id z.0)) (some_is e y at) ∙ h in
    elim (id_cmp id e.0) as (λ r. is_gt r ≡ false → by_order r 0 0 (place id es + 1) ≤ 0) [ Less ↦ λ h. omega arith | Equal ↦ λ h. omega arith | Greater ↦ λ h. absurd (cc) ] same
stands_before id (e ∷ es) (suc i) y at h =
    let later = stands_before id es i y at h in
    elim (id_cmp id e.0) as (λ r. by_order r 0 0 (place id es + 1) ≤ suc i) [ Less ↦ omega arith | Equal ↦ omega arith | Greater ↦ omega (arith, later) ]

-- an id above an entry of a list that rises stands behind it
pub stands_behind : (id : Id) (es : Plain) (i : ℕ) (y : Id × Option (List ℕ)) → T (is_sorted id_cmp es) → slice_get es i ≡ Some y → is_gt (id_cmp id y.0) ≡ true → i + 1 ≤ place id es
stands_behind id [] i y rises at h = absurd (cc)
stands_behind id (e ∷ es) zero y rises at h =
    let same : is_gt (id_cmp id e.0) ≡ true = ap (λ (z : Id × Option (List ℕ)). is_gt (id_cmp id z.0)) (some_is e y at) ∙ h in
    elim (id_cmp id e.0) as (λ r. is_gt r ≡ true → 1 ≤ by_order r 0 0 (place id es + 1)) [ Less ↦ λ h. absurd (cc) | Equal ↦ λ h. absurd (cc) | Greater ↦ λ h. omega arith ] same
stands_behind id (e ∷ es) (suc i) y rises at h =
    let later = stands_behind id es i y (right (below_all id_cmp e.0 es) (is_sorted id_cmp es) rises) at h in
    let first = below_at e.0 es i y (left (below_all id_cmp e.0 es) (is_sorted id_cmp es) rises) at in
    elim (id_cmp id e.0) as (λ r. id_cmp id e.0 ≡ r → suc i + 1 ≤ by_order r 0 0 (place id es + 1)) [
      | Less ↦ λ p. let bad : false ≡ true = sym (ap is_gt (nat_list_cmp_total.trans id e.0 y.0 p first)) ∙ h in absurd (cc)
      | Equal ↦ λ p. let bad : false ≡ true = sym (ap is_gt (nat_list_cmp_total.congr id e.0 y.0 p ∙ first)) ∙ h in absurd (cc)
      | Greater ↦ λ p. omega (arith, later)
    ] refl

place_within : (id : Id) (es : Plain) → place id es ≤ length es
place_within id [] = omega arith
place_within id (e ∷ es) =
    let later = place_within id es in
    elim (id_cmp id e.0) as (λ r. by_order r 0 0 (place id es + 1) ≤ length (e ∷ es)) [ Less ↦ omega arith | Equal ↦ omega arith | Greater ↦ omega (arith, later) ]

pub place_in : (id : Id) (es : List (BlockId × BatchChange)) → place id (entries_of es) ≤ length es
place_in id es = subst (λ n. place id (entries_of es) ≤ n) (length-map es entry_view) (place_within id (entries_of es))

pub same_some : {X Y : Type 0} (r : Option X) (o : Option Y) (v : X → Y) → IfSome r (λ x. o ≡ Some (v x)) → IfNone r (o ≡ None) → is_some r ≡ is_some o
same_some None o v some none = ap is_some (sym none)
same_some (Some x) o v some none = ap is_some (sym some)
