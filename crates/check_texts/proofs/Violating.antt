-- The text of an answer, as one that is appended.
use Rattle.std.proofs.Common.{◌≡◌, ℕ, ◌+◌, ◌<◌, ◌≤◌, List, [], ◌++◌, Result, Ok, Err, length, sym, ◌∙◌, arith, append-nil}
use Rattle.std.specs.Prelude.{OnOk, OnErr}
use Rattle.std.specs.Vec.{vec_capacity, vec_len}
use Rattle.std.specs.declared.alloc.Global.{Global}
use Rattle.std.specs.declared.vec.Vec.{Vec}
use Rattle.copy_sessions.specs.script_text.Appending.{Appends}

pub appended : {E : Type 0} (old new : Vec ℕ Global) (r : Result (Unit {0}) E) (text : List ℕ) → OnOk r (new.items ≡ old.items ++ text) → OnErr r (new.items ≡ old.items) → vec_capacity old ≤ vec_capacity new
    → OnErr r (vec_capacity old < vec_len old + length text) → vec_len old ≡ length old.items → Appends old new r text
appended old new (Ok u) text ok err capacity full long = record { ok = ok; err = tt; capacity = capacity; full = tt }
appended old new (Err e) text ok err capacity full long = record { ok = tt; err = ([], err ∙ sym (append-nil old.items)); capacity = capacity; full = omega (arith, full, long) }
