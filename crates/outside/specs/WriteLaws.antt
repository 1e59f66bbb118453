-- The last change of each file, after a list of changes was written.
use Rattle.std.specs.Prelude.{◌≡◌, Bool, true, false, List, [], ◌∷◌, ℕ, cond, if◌then◌else◌}
use Rattle.std.proofs.Common.{refl, sym, ◌∙◌, ap}
use Rattle.std.specs.declared.option.Option.{Option}
use Rattle.std.specs.declared.option.Option.TheVariants.{None, Some}
use Rattle.std.specs.Ordering.{eq_by_cmp}
use Rattle.std.specs.Cmp.{Equal-is}
use Rattle.std.specs.FinMap.Entries.{is_sorted, below_all}
use Rattle.outside.specs.Trace.{At, Call}
use Rattle.outside.specs.Names.{same_at, at_cmp}
use Rattle.outside.specs.NameLaws.{at_exact, same_ties}
use Rattle.outside.specs.Changes.{FileChanges, IsIncreasing, change_at}
use Rattle.outside.specs.ChangeLaws.{front, rest, not_in}
use Rattle.outside.specs.Honest.{LastChange, last_change}
use Rattle.outside.specs.Writes.{call_of_change, call_for, after_writes}

-- the trace after these changes were written, where it is told
abbrev pub calls_after : FileChanges → List Call → List Call
calls_after [] trace = trace
calls_after (e ∷ list) trace = calls_after list (call_for e true ∷ trace)

pub after_told : (list : FileChanges) (trace : List Call) → after_writes list (Some trace) ≡ Some (calls_after list trace)
after_told [] trace = refl
after_told (e ∷ list) trace = after_told list (call_for e true ∷ trace)

-- what was written last, else what was there
abbrev pub last_of : Option (Option (List ℕ)) → Option LastChange → Option LastChange
last_of None old = old
last_of (Some change) old = Some (record { bytes = change; ok = true })

call_is : (name other : At) (change : Option (List ℕ)) (trace : List Call) → last_change name (call_of_change other change true ∷ trace) ≡ (if same_at other name then Some (record { bytes = change; ok = true }) else last_change name trace)
call_is name other None trace = refl
call_is name other (Some bytes) trace = refl

ties : (b : Bool) (o : Option (Option (List ℕ))) (change : Option (List ℕ)) (old : Option LastChange) → (b ≡ true → o ≡ None) → last_of o (if b then Some (record { bytes = change; ok = true }) else old) ≡ last_of (cond b (Some change) o) old
ties true o change old none = ap (λ x. last_of x (Some (record { bytes = change; ok = true }))) (none refl)
ties false o change old none = refl

both_ways : (a b : At) → same_at a b ≡ same_at b a
both_ways a b = elim (same_at a b) as (λ x. same_at a b ≡ x → same_at a b ≡ same_at b a) [
  | true ↦ λ e. let same = at_exact a b ((Equal-is (at_cmp a b)).0 (sym (same_ties a b) ∙ e)) in ap (λ z. same_at z b) same ∙ ap (λ z. same_at b z) (sym same)
  | false ↦ λ e. elim (same_at b a) as (λ y. same_at b a ≡ y → same_at a b ≡ y) [
    | true ↦ λ f. let same = at_exact b a ((Equal-is (at_cmp b a)).0 (sym (same_ties b a) ∙ f)) in ap (λ z. same_at a z) same ∙ (ap (λ z. same_at z a) (sym same) ∙ f)
    | false ↦ λ f. e
  ] refl
] refl

pub last_after : (name : At) (list : FileChanges) (trace : List Call) → IsIncreasing list → last_change name (calls_after list trace) ≡ last_of (change_at name list) (last_change name trace)
last_after name [] trace h = refl
last_after name (e ∷ list) trace h =
    last_after name list (call_for e true ∷ trace) (rest (below_all at_cmp e.0 list) (is_sorted at_cmp list) h)
    ∙ ap (last_of (change_at name list)) (call_is name e.0 e.1 trace)
    ∙ ap (λ b. last_of (change_at name list) (if b then Some (record { bytes = e.1; ok = true }) else last_change name trace)) (both_ways e.0 name ∙ same_ties name e.0)
    ∙ ties (eq_by_cmp at_cmp name e.0) (change_at name list) e.1 (last_change name trace) (λ t.
    ap (λ n. change_at n list) (at_exact name e.0 ((Equal-is (at_cmp name e.0)).0 t)) ∙ not_in e.0 list (front (below_all at_cmp e.0 list) (is_sorted at_cmp list) h))
