-- A record in memory.
use Rattle.std.specs.Prelude.{ℕ, List}
use Rattle.std.specs.declared.option.Option.{Option}

-- what is kept, and how long a record can be kept without memory being taken
pub record KeptState : Type 0 where
  pub kept : Option (List ℕ)
  pub room : ℕ
