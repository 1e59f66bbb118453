-- What is told of what a check found.
use Rattle.std.specs.Prelude.{◌≡◌, ◌≢◌, ◌⊎◌, ◌≤◌, ℕ, List, ◌++◌, Result, Ok, Err, IfSome}
use Rattle.std.specs.declared.option.Option.{Option}
use Rattle.block_id.specs.declared.fail.Fail.{Fail}
use Rattle.block_id.specs.declared.fail.Fail.TheVariants as fail
use Rattle.cryfs_check.specs.check_rules.Certificates.{Owners}
use Rattle.cryfs_check.specs.declared.checking.Checked.{Checked}
use Rattle.cryfs_check.specs.declared.checking.Checked.TheVariants.{Yes, No}
use Rattle.copy_sessions.specs.line_io.Streams.{Stream, HasFailed, Cut, Untouched}
use Rattle.outside.specs.Causes.{RoseBy}
use Rattle.outside.specs.Streams.{appends}
use Rattle.outside.specs.Trace.{Call}
use Rattle.run_status.specs.declared.status.Status.{Status}
use Rattle.run_status.specs.declared.status.Status.TheVariants.{Done, Violation, DirectoryFault, OutputFault, Memory}
use Rattle.copy_sessions.specs.session_lines.declared.end.End.{End}
use Rattle.copy_sessions.specs.session_lines.Driven.{IsUnfailed, Reported}
use Rattle.check_texts.specs.declared.error.PrintError.{PrintError}
use Rattle.check_texts.specs.declared.error.PrintError.TheVariants as print_error
use Rattle.check_texts.specs.Strangers.{IsInOrder, strangers_text}
use Rattle.check_texts.specs.Texts.{owners_text, flaw_text, violation_text}

abbrev pub status_of : PrintError → Status
status_of print_error.Memory = Memory
status_of print_error.Failed = OutputFault

-- these are the names that the directory lists, where it tells them, in the order of their bytes
pub record IsListed (told : Option (List (List ℕ))) (sorted : List (List ℕ)) : Type 0 where
  pub names : List (List ℕ)
  pub all : IfSome told (λ list. names ≡ list)
  pub in_order : IsInOrder names sorted

-- the owners, and behind them the strangers
abbrev pub yes_text : Owners → List (List ℕ) → List ℕ
yes_text owners sorted = owners_text owners ++ strangers_text owners sorted

-- no more than a part was written: of the owners, or of the whole text
abbrev pub IsYesCut : Option (List (List ℕ)) → Owners → Stream → Type 0
IsYesCut told owners output =
    Cut output.old output.new (owners_text owners)
    ⊎ ((sorted : List (List ℕ)) × IsListed told sorted × Cut output.old output.new (yes_text owners sorted))

-- What is told after a yes: all of it; the owners alone, where the directory fails to list its names; or no more than a part.
abbrev pub AreOwnersTold : Option (List (List ℕ)) → Owners → Stream → Status → Type 0
AreOwnersTold told owners output Done = (sorted : List (List ℕ)) × IsListed told sorted × (output.new ≡ appends output.old (yes_text owners sorted)) × IsUnfailed output
AreOwnersTold told owners output DirectoryFault = (output.new ≡ appends output.old (owners_text owners)) × IsUnfailed output
AreOwnersTold told owners output OutputFault = IsYesCut told owners output × HasFailed output
AreOwnersTold told owners output Memory = IsYesCut told owners output × IsUnfailed output
AreOwnersTold told owners output status = ⊥

-- the line was written, or a part of it where the sink failed, which a violation hides
abbrev pub IsLineTold : List ℕ → Stream → Status → Type 0
IsLineTold text output status = (status ≡ Violation) × (end : End) × Reported output text end

-- what is told of a verdict; of a check that failed nothing is
abbrev pub IsTold : Option (List (List ℕ)) → Result Checked Fail → Stream → Status → Type 0
IsTold told (Ok (Yes owners)) output status = AreOwnersTold told owners output status
IsTold told (Ok (No flaw)) output status = IsLineTold (flaw_text flaw) output status
IsTold told (Err (fail.Violation why)) output status = IsLineTold (violation_text why) output status
IsTold told (Err fail.Fault) output status = (status ≡ DirectoryFault) × Untouched output
IsTold told (Err fail.Memory) output status = (status ≡ Memory) × Untouched output

-- ---- of the directory

-- The directory was listed, or it wasn't. That is no call of its trace, and it failed just where the status says so.
pub record Lists {V : Type 0} (trace : V → Option (List Call)) (faults : V → ℕ) (names : V → Option (List (List ℕ))) (old new : V) (status : Status) : Type 0 where
  pub calls : trace new ≡ trace old
  pub stays : names new ≡ names old
  pub grows : faults old ≤ faults new
  pub failed : status ≡ DirectoryFault → RoseBy 1 (faults old) (faults new)
  pub quiet : status ≢ DirectoryFault → faults new ≡ faults old

-- only after a yes it is called
abbrev pub ListsAfter : {V : Type 0} → (V → Option (List Call)) → (V → ℕ) → (V → Option (List (List ℕ))) → Result Checked Fail → V → V → Status → Type 0
ListsAfter trace faults names (Ok (Yes owners)) old new status = Lists trace faults names old new status
ListsAfter trace faults names verdict old new status = new ≡ old
