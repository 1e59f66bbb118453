-- Lists of changes that are set by one pass over them and the list.
use Rattle.std.proofs.Common.{◌≡◌, ℕ, List, [], ◌∷◌, ◌++◌, refl, sym, ◌∙◌, ap, subst, append_assoc}
use Rattle.std.specs.Prelude.{T, slice_get}
use Rattle.std.specs.Option.{option_map}
use Rattle.std.specs.declared.option.Option.{Option}
use Rattle.std.specs.declared.option.Option.TheVariants.{None, Some}
use Rattle.std.specs.declared.cmp.Ordering.{Ordering}
use Rattle.std.specs.declared.cmp.Ordering.TheVariants.{Less, Equal, Greater}
use Rattle.std.specs.Ordering.{is_lt, ordering_reverse}
use Rattle.std.specs.FinMap.Entries.{by_order, below_all, is_sorted}
use Rattle.std.proofs.lemmas.List.{map-append}
use Rattle.block_id.proofs.Conditions.{left, right}
use Rattle.block_id.proofs.Orders.{less_so}
use Rattle.outside.specs.declared.change.Pending.{Pending}
use Rattle.outside.specs.Trace.{At}
use Rattle.outside.specs.Names.{at_cmp}
use Rattle.outside.specs.NameLaws.{at_total, at_exact}
use Rattle.outside.specs.Changes.{FileChanges, IsIncreasing, set_change, set_changes}
use Rattle.outside.specs.View.{at_of, pending_of, list_of}
use Rattle.pending_list.proofs.InOrder.{rises_of, both, below_rising}

-- changes above an entry leave it first
pub above_first : (changes : FileChanges) (e : At × Option (List ℕ)) (es : FileChanges) → T (below_all at_cmp e.0 changes) → set_changes changes (e ∷ es) ≡ e ∷ set_changes changes es
above_first [] e es h = refl
above_first (c ∷ cs) e es h =
    let less : at_cmp e.0 c.0 ≡ Less = less_so (at_cmp e.0 c.0) (left (is_lt (at_cmp e.0 c.0)) (below_all at_cmp e.0 cs) h) in
    let above : at_cmp c.0 e.0 ≡ Greater = at_total.antisymm c.0 e.0 ∙ ap ordering_reverse less in
    ap (λ r. set_changes cs (by_order r ((c.0, c.1) ∷ e ∷ es) ((e.0, c.1) ∷ es) (e ∷ set_change c.0 c.1 es))) above
    ∙ above_first cs e (set_change c.0 c.1 es) (right (is_lt (at_cmp e.0 c.0)) (below_all at_cmp e.0 cs) h)

-- how a name stands to the first entry
abbrev pub front_order : At → FileChanges → Option Ordering
front_order n list = option_map (λ (entry : At × Option (List ℕ)). at_cmp n entry.0) (slice_get list 0)

own : (r s : Ordering) → Some r ≡ Some s → r ≡ s
own r s e = cc

-- the first of the changes stands below all that is left, or at its front
pub first_below : (n : At) (change : Option (List ℕ)) (later list : FileChanges) → IsIncreasing ((n, change) ∷ later) → front_order n list ≡ Some Less
    → set_changes ((n, change) ∷ later) list ≡ (n, change) ∷ set_changes later list
first_below n change later [] h q = absurd (cc)
first_below n change later (e ∷ es) h q =
    let less : at_cmp n e.0 ≡ Less = own (at_cmp n e.0) Less q in
    ap (λ r. set_changes later (by_order r ((n, change) ∷ e ∷ es) ((e.0, change) ∷ es) (e ∷ set_change n change es))) less
    ∙ above_first later (n, change) (e ∷ es) (left (below_all at_cmp n later) (is_sorted at_cmp later) (rises_of ((n, change) ∷ later) h))

pub first_last : (n : At) (change : Option (List ℕ)) (later list : FileChanges) → IsIncreasing ((n, change) ∷ later) → front_order n list ≡ None
    → set_changes ((n, change) ∷ later) list ≡ (n, change) ∷ set_changes later list
first_last n change later [] h q = above_first later (n, change) [] (left (below_all at_cmp n later) (is_sorted at_cmp later) (rises_of ((n, change) ∷ later) h))
first_last n change later (e ∷ es) h q = absurd (cc)

pub first_same : (n : At) (change : Option (List ℕ)) (later : FileChanges) (e : At × Option (List ℕ)) (es : FileChanges) → IsIncreasing ((n, change) ∷ later) → at_cmp n e.0 ≡ Equal
    → set_changes ((n, change) ∷ later) (e ∷ es) ≡ (n, change) ∷ set_changes later es
first_same n change later e es h q =
    ap (λ r. set_changes later (by_order r ((n, change) ∷ e ∷ es) ((e.0, change) ∷ es) (e ∷ set_change n change es))) q
    ∙ ap (λ m. set_changes later ((m, change) ∷ es)) (sym (at_exact n e.0 q))
    ∙ above_first later (n, change) es (left (below_all at_cmp n later) (is_sorted at_cmp later) (rises_of ((n, change) ∷ later) h))

pub first_above : (n : At) (change : Option (List ℕ)) (later : FileChanges) (e : At × Option (List ℕ)) (es : FileChanges) → IsIncreasing ((n, change) ∷ later) → at_cmp n e.0 ≡ Greater
    → set_changes ((n, change) ∷ later) (e ∷ es) ≡ e ∷ set_changes ((n, change) ∷ later) es
first_above n change later e es h q =
    let less : at_cmp e.0 n ≡ Less = at_total.antisymm e.0 n ∙ ap ordering_reverse q in
    above_first ((n, change) ∷ later) e es
    (both (is_lt (at_cmp e.0 n)) (below_all at_cmp e.0 later) (subst (λ r. T (is_lt r)) (sym less) tt)
    (below_rising e.0 (n, change) later less (left (below_all at_cmp n later) (is_sorted at_cmp later) (rises_of ((n, change) ∷ later) h))))

-- the first of a list of changes, and how a name stands to it
pub front_is : (n : At) (ps qs : List Pending) (p : Pending) (r : Ordering) → ps ≡ p ∷ qs → front_order n (list_of ps) ≡ Some r → at_cmp n (at_of p.name) ≡ r
front_is n ps qs p r e q = own (at_cmp n (at_of p.name)) r (sym (ap (λ xs. front_order n (list_of xs)) e) ∙ q)

pub pushed : (ps qs : List Pending) (p : Pending) → qs ≡ ps ++ p ∷ [] → (list : FileChanges) → list_of qs ++ list ≡ list_of ps ++ pending_of p ∷ list
pushed ps qs p e list =
    ap (λ xs. list_of xs ++ list) e ∙ ap (λ xs. xs ++ list) (map-append pending_of ps (p ∷ [])) ∙ append_assoc (list_of ps) (pending_of p ∷ []) list
