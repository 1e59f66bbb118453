-- What is seen of the adapters: nothing of what their folders hold.
use Rattle.std.specs.Prelude.{ℕ, List, Result, Ok, Err}
use Rattle.std.specs.declared.option.Option.{Option}
use Rattle.outside.specs.declared.vault.GetFail.{GetFail}
use Rattle.outside.specs.declared.vault.GetFail.TheVariants.{Memory, Failed}
use Rattle.outside.specs.Causes.{one_more}
use Rattle.outside.specs.Trace.{Call}
use Rattle.call_log.specs.Events.{Event}
use Rattle.real_outside.specs.Saves.{kept_by}

-- the path of a block directory, the calls on it, and how often a call failed
pub record FolderVaultState : Type 0 where
  pub directory : List ℕ
  pub calls : List Call
  pub faults : ℕ

-- the saves, the newest first; which of them are kept though they failed; the length up to which one can be saved, and how often a call failed
pub record FolderKeeperState : Type 0 where
  pub saves : List Event
  pub choices : List Event
  pub room : ℕ
  pub faults : ℕ

-- what is kept
abbrev pub kept_in : FolderKeeperState → Option (List ℕ)
kept_in k = kept_by k.saves k.choices

-- the faults after a call with this answer: want of memory is none
abbrev pub counted : {T : Type 0} → Result T GetFail → ℕ → ℕ
counted (Ok _) faults = faults
counted (Err Memory) faults = faults
counted (Err Failed) faults = one_more faults
