-- What a call that prints leaves.
use Rattle.std.specs.Prelude.{◌≡◌, ℕ, ◌+◌, ◌<◌, ◌≤◌, List, ◌++◌, length, Result, OnOk, OnErr}
use Rattle.std.specs.Vec.{vec_capacity}
use Rattle.std.specs.declared.vec.Vec.{Vec}

-- the text is appended; on an error a part of it is, and room was missing for the whole
pub record Appends {A E : Type 0} (old new : Vec ℕ A) (r : Result (Unit {0}) E) (text : List ℕ) : Type 0 where
  pub ok : OnOk r (new.items ≡ old.items ++ text)
  pub err : OnErr r ((part : List ℕ) × (new.items ≡ old.items ++ part))
  pub capacity : vec_capacity old ≤ vec_capacity new
  pub full : OnErr r (vec_capacity old < length old.items + length text)
