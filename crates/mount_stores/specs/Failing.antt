-- Calls that failed, and whether that is told.
use Rattle.std.specs.Prelude.{◌≡◌, ◌≤◌, ℕ}

-- a count of calls that failed never falls, and where no fault is told it stays
pub record TellsFault (told : Type 0) (before now : ℕ) : Type 0 where
  pub grows : before ≤ now
  pub quiet : ¬ told → now ≡ before
