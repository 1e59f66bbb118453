-- How a trace goes on.
use Rattle.std.specs.Prelude.{◌≡◌, true, false, List, [], ◌∷◌, ◌++◌}
use Rattle.std.proofs.Common.{refl, sym, ◌∙◌, ap, subst, inl, inr, append_assoc}
use Rattle.std.specs.declared.option.Option.{Option}
use Rattle.std.specs.declared.option.Option.TheVariants.{None, Some}
use Rattle.outside.specs.Trace.{Call, adds}
use Rattle.outside.specs.Changes.{FileChanges}
use Rattle.outside.specs.Writes.{after_writes, call_for, StopsAt}

-- calls were added to the old ones, where they are told; what isn't told stays so
abbrev pub GoesOn : Option (List Call) → Option (List Call) → Type 0
GoesOn None new = new ≡ None
GoesOn (Some old) new = (calls : List Call) × (new ≡ Some (calls ++ old))

pub goes_on_same : (a : Option (List Call)) → GoesOn a a
goes_on_same None = refl
goes_on_same (Some t) = ([], refl)

pub goes_on_call : (a : Option (List Call)) (call : Call) → GoesOn a (adds a call)
goes_on_call None call = refl
goes_on_call (Some t) call = (call ∷ [], refl)

pub goes_on_onward : (a b c : Option (List Call)) → GoesOn a b → GoesOn b c → GoesOn a c
goes_on_onward None b c first second = subst (λ x. GoesOn x c) first second
goes_on_onward (Some t) b c first second =
    let then : GoesOn (Some (first.0 ++ t)) c = subst (λ x. GoesOn x c) first.1 second in (
      then.0 ++ first.0,
      then.1 ∙ ap Some (sym (append_assoc then.0 first.0 t)),
    )

pub goes_on_equal : (a b : Option (List Call)) → b ≡ a → GoesOn a b
goes_on_equal a b e = subst (λ x. GoesOn a x) (sym e) (goes_on_same a)

-- by what is written
pub goes_on_writes : (list : FileChanges) (a : Option (List Call)) → GoesOn a (after_writes list a)
goes_on_writes [] a = goes_on_same a
goes_on_writes (change ∷ changes) a =
    goes_on_onward a (adds a (call_for change true)) (after_writes changes (adds a (call_for change true)))
    (goes_on_call a (call_for change true)) (goes_on_writes changes (adds a (call_for change true)))

pub goes_on_stops : (list left : FileChanges) (a b : Option (List Call)) → StopsAt list a b left → GoesOn a b
goes_on_stops list left a b s = elim s.trace [
  | inl e ↦ subst (λ x. GoesOn a x) (sym e) (goes_on_writes s.done a)
  | inr e ↦ subst (λ x. GoesOn a x) (sym e)
      (goes_on_onward a (after_writes s.done a) (adds (after_writes s.done a) (call_for s.next false)) (goes_on_writes s.done a) (goes_on_call (after_writes s.done a) (call_for s.next false)))
]
