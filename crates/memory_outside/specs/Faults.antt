-- When a call of a stream or of a record fails.
use Rattle.std.specs.Prelude.{◌≡◌, ◌≤◌, ℕ, Result, OnOk, OnErr}
use Rattle.block_id.specs.declared.fail.Failed.{Failed}
use Rattle.outside.specs.Causes.{RoseBy}

-- the count of faults never falls, an error comes only where it rose, and every other answer leaves it
pub record FailsWithCause {T : Type 0} (before now : ℕ) (result : Result T Failed) : Type 0 where
  pub grows : before ≤ now
  pub cause : OnErr result (RoseBy 1 before now)
  pub quiet : OnOk result (now ≡ before)
