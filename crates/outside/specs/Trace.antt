-- The calls on the block directory, as plain data.
use Rattle.std.specs.Prelude.{ℕ, Bool, List, ◌∷◌}
use Rattle.std.specs.declared.option.Option.{Option}
use Rattle.std.specs.declared.option.Option.TheVariants.{None, Some}

-- the configuration's file, or the file of the block with these 16 bytes
pub data At : Type 0 where
  config : At
  block : List ℕ → At

-- what a get gave (asked for at most so many bytes), and a put and a removal with whether they answered ok
pub data Call : Type 0 where
  got : At → ℕ → Option (List ℕ) → Call
  put : At → List ℕ → Bool → Call
  removed : At → Bool → Call

-- a trace that is told goes on by this call, and one that isn't stays untold; the newest call stands first
abbrev pub adds : Option (List Call) → Call → Option (List Call)
adds None call = None
adds (Some trace) call = Some (call ∷ trace)
