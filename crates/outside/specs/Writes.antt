-- What writing a list of changes adds to a trace.
use Rattle.std.specs.Prelude.{◌≡◌, ◌⊎◌, ℕ, Bool, true, false, List, [], ◌∷◌, ◌++◌}
use Rattle.std.specs.declared.option.Option.{Option}
use Rattle.std.specs.declared.option.Option.TheVariants.{None, Some}
use Rattle.outside.specs.Trace.{At, Call, put, removed, adds}
use Rattle.outside.specs.Changes.{FileChanges}

-- the call that writes a change, with whether it answered ok
abbrev pub call_of_change : At → Option (List ℕ) → Bool → Call
call_of_change name None ok = removed name ok
call_of_change name (Some bytes) ok = put name bytes ok

abbrev pub call_for : At × Option (List ℕ) → Bool → Call
call_for change ok = call_of_change change.0 change.1 ok

-- the trace after these changes were written, in order
abbrev pub after_writes : FileChanges → Option (List Call) → Option (List Call)
after_writes [] trace = trace
after_writes (change ∷ changes) trace = after_writes changes (adds trace (call_for change true))

-- the changes done were written in order, and the call for the next failed: it is in the trace with no, or not there
pub record StopsAt (list : FileChanges) (old new : Option (List Call)) (left : FileChanges) : Type 0 where
  pub done : FileChanges
  pub next : At × Option (List ℕ)
  pub rest : FileChanges
  pub parts : list ≡ done ++ left
  pub stays : left ≡ next ∷ rest
  pub trace : (new ≡ after_writes done old) ⊎ (new ≡ adds (after_writes done old) (call_for next false))
