-- How the count of faults tells what a call answered.
use Rattle.std.specs.Prelude.{◌≡◌, ◌≤◌, ℕ, Result, OnOk, OnErr}
use Rattle.block_id.specs.declared.fail.Failed.{Failed}
use Rattle.outside.specs.Causes.{RoseBy, one_more}

-- an error raises the count of faults by one, and every other answer leaves it
pub record CountsErrors {T : Type 0} (before now : ℕ) (result : Result T Failed) : Type 0 where
  pub grows : before ≤ now
  pub cause : OnErr result (RoseBy 1 before now)
  pub quiet : OnOk result (now ≡ before)
  pub counts_one : OnErr result (now ≡ one_more before)
