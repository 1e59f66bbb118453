-- What lists of changes say after changes were set in them.
use Rattle.std.specs.Prelude.{◌≡◌, ℕ, zero, suc, Bool, true, false, ◌&&◌, List, [], ◌∷◌, IsTrue, T, cond, drop}
use Rattle.std.proofs.Common.{refl, ◌∙◌, ap}
use Rattle.std.specs.declared.option.Option.{Option}
use Rattle.std.specs.declared.option.Option.TheVariants.{None, Some}
use Rattle.std.specs.Option.{option_or}
use Rattle.std.specs.declared.cmp.Ordering.{Ordering}
use Rattle.std.specs.declared.cmp.Ordering.TheVariants.{Less, Equal, Greater}
use Rattle.std.specs.Ordering.{eq_by_cmp, is_lt, is_eq}
use Rattle.std.specs.FinMap.Entries.{is_sorted-put, find-put, is_sorted, below_all}
use Rattle.std.specs.Cmp.{Equal-is}
use Rattle.outside.specs.Trace.{At}
use Rattle.outside.specs.Names.{at_cmp}
use Rattle.outside.specs.NameLaws.{at_total, at_exact}
use Rattle.outside.specs.Changes.{FileChanges, IsIncreasing, change_at, set_change, set_changes}

test_of : (b : Bool) → IsTrue b → T b
test_of true h = tt
test_of false h = absurd (cc)

true_of : (b : Bool) → T b → IsTrue b
true_of true h = refl
true_of false h = absurd h

pub IsIncreasing-set_change : (name : At) (change : Option (List ℕ)) (list : FileChanges) → IsIncreasing list → IsIncreasing (set_change name change list)
IsIncreasing-set_change name change list h =
    true_of (is_sorted at_cmp (set_change name change list)) (is_sorted-put at_cmp at_total name change list (test_of (is_sorted at_cmp list) h))

pub IsIncreasing-set_changes : (changes list : FileChanges) → IsIncreasing list → IsIncreasing (set_changes changes list)
IsIncreasing-set_changes [] list h = h
IsIncreasing-set_changes (change ∷ changes) list h =
    IsIncreasing-set_changes changes (set_change change.0 change.1 list) (IsIncreasing-set_change change.0 change.1 list h)

pub change_at-set_change : (other name : At) (change : Option (List ℕ)) (list : FileChanges)
    → change_at other (set_change name change list) ≡ cond (eq_by_cmp at_cmp other name) (Some change) (change_at other list)
change_at-set_change other name change list = find-put at_cmp at_total other name change list

is_before : (o : Ordering) → IsTrue (is_lt o) → is_eq o ≡ false
is_before Less h = refl
is_before Equal h = absurd (cc)
is_before Greater h = absurd (cc)

pub front : (a b : Bool) → IsTrue (a && b) → IsTrue a
front true b h = refl
front false b h = absurd (cc)

pub rest : (a b : Bool) → IsTrue (a && b) → IsTrue b
rest true b h = h
rest false b h = absurd (cc)

-- a name below all of a list isn't in it
pub not_in : (name : At) (list : FileChanges) → IsTrue (below_all at_cmp name list) → change_at name list ≡ None
not_in name [] h = refl
not_in name (e ∷ list) h =
    ap (λ b. cond b (Some e.1) (change_at name list)) (is_before (at_cmp name e.0) (front (is_lt (at_cmp name e.0)) (below_all at_cmp name list) h))
    ∙ not_in name list (rest (is_lt (at_cmp name e.0)) (below_all at_cmp name list) h)

merge_step : (b : Bool) (x : Option (List ℕ)) (later old : Option (Option (List ℕ))) → (b ≡ true → later ≡ None) → option_or later (cond b (Some x) old) ≡ option_or (cond b (Some x) later) old
merge_step true x later old h = ap (λ o. option_or o (Some x)) (h refl)
merge_step false x later old h = refl

-- setting changes that stand in order merges two finite maps, the changes first
pub change_at-set_changes : (name : At) (changes list : FileChanges) → IsIncreasing changes → change_at name (set_changes changes list) ≡ option_or (change_at name changes) (change_at name list)
change_at-set_changes name [] list h = refl
change_at-set_changes name (e ∷ changes) list h =
    change_at-set_changes name changes (set_change e.0 e.1 list) (rest (below_all at_cmp e.0 changes) (is_sorted at_cmp changes) h)
    ∙ ap (option_or (change_at name changes)) (change_at-set_change name e.0 e.1 list)
    ∙ merge_step (eq_by_cmp at_cmp name e.0) e.1 (change_at name changes) (change_at name list) (λ t.
    ap (λ n. change_at n changes) (at_exact name e.0 ((Equal-is (at_cmp name e.0)).0 t)) ∙ not_in e.0 changes (front (below_all at_cmp e.0 changes) (is_sorted at_cmp changes) h))

-- a list in order stays so where its front is dropped
pub IsIncreasing-drop : (n : ℕ) (list : FileChanges) → IsIncreasing list → IsIncreasing (drop n list)
IsIncreasing-drop zero list h = h
IsIncreasing-drop (suc n) [] h = h
IsIncreasing-drop (suc n) (e ∷ list) h = IsIncreasing-drop n list (rest (below_all at_cmp e.0 list) (is_sorted at_cmp list) h)
