-- From which format on the record that calls of `run` leave takes block files.
use Rattle.std.specs.Prelude.{◌≡◌, ◌⊎◌, ◌++◌, ℕ, List}
use Rattle.std.specs.declared.option.Option.{Option}
use Rattle.std.specs.declared.option.Option.TheVariants.{Some}
use Rattle.cryfs_shell.specs.mount.Formats.{TakesFrom}
use Rattle.outside.specs.Trace.{Call}
use Rattle.outside.specs.declared.keeper.Keeper.{Ghosts as KeeperGhosts}
use Rattle.run_status.specs.declared.status.Status.TheVariants.{Done}
use Rattle.cryfs_shell.specs.session_laws.Runs.{Outside}
use Rattle.cryfs_shell.specs.setup_runs.MigrateText.{count_text}
use Rattle.cryfs_shell.specs.program_words.declared.create_options.CreateOptions.{CreateOptions}
use Rattle.cryfs_shell.specs.program_words.declared.form.Form.TheVariants.{Create, Migrate}
use Rattle.cryfs_shell.specs.program_words.Forms.{form_of}
use Rattle.program_run.specs.Calls.{RunCall, IsRunCall}
use Rattle.program_run.specs.Lists.{AreRunCalls, left_by}

-- a `create` that ended with Done
abbrev pub HasCreated : RunCall → Type 0
HasCreated call = (options : CreateOptions) × (form_of call.words ≡ Some (Create options)) × (call.status ≡ Done)

-- a `migrate` that told how many blocks there are
abbrev pub HasMigrated : RunCall → Type 0
HasMigrated call = (form_of call.words ≡ Some Migrate) × (written : List ℕ) × (count : ℕ) × (call.streams.output.old ≡ Some written) × (call.streams.output.new ≡ Some (written ++ count_text count))

-- what either leaves takes block files of the newest format alone, or is marked
abbrev pub EachLeavesNewest : {V : Type 0} → {K : Type 0} → (V → Option (List Call)) → (V → ℕ) → (V → Option (List (List ℕ))) → KeeperGhosts K → Type 0
EachLeavesNewest trace faults names G = (call : RunCall) → IsRunCall trace faults names G call → HasCreated call ⊎ HasMigrated call → TakesFrom 2 call.after.kept

-- and so does what any list of calls leaves from there on
abbrev pub EveryListKeepsNewest : {V : Type 0} → {K : Type 0} → (V → Option (List Call)) → (V → ℕ) → (V → Option (List (List ℕ))) → KeeperGhosts K → Type 0
EveryListKeepsNewest trace faults names G = (start : Outside) (calls : List RunCall) → AreRunCalls trace faults names G start calls → TakesFrom 2 start.kept → TakesFrom 2 (left_by start calls).kept
