-- What `check` does where nothing lies and nothing fails.
use Rattle.std.specs.Prelude.{◌≡◌, ◌⊎◌, ℕ, List}
use Rattle.std.specs.declared.option.Option.{Option}
use Rattle.check_runs.specs.check_rules.Certificates.{Owners}
use Rattle.check_runs.specs.Judging.{held_for, IsProven}
use Rattle.check_runs.specs.Running.{RanCheck}
use Rattle.check_runs.specs.check_texts.Telling.{IsListed, yes_text}
use Rattle.session_laws.specs.config_file.Settings.{Settings}
use Rattle.fs_model.specs.Tree.{Tree}
use Rattle.copy_file.specs.line_io.Lines.{first_line}
use Rattle.copy_file.specs.line_io.Streams.{Stream}
use Rattle.session_laws.specs.local_state.Record.{PlainState}
use Rattle.check_runs.specs.mount_stores.Opening.{IsLoaded}
use Rattle.outside.specs.Changes.{FileChanges}
use Rattle.outside.specs.Trace.{Call}
use Rattle.outside.specs.declared.keeper.Keeper.{Ghosts as KeeperGhosts}
use Rattle.run_status.specs.declared.ended.Ended.{Ended}
use Rattle.run_status.specs.declared.status.Status.{Status}
use Rattle.run_status.specs.declared.status.Status.TheVariants.{Memory}
use Rattle.session_laws.specs.Openings.{HasCauses}
use Rattle.session_laws.specs.Runs.{Outside}
use Rattle.program_laws.specs.Premises.{OfRun, IsUntroubled, Finds, Leaves}
use Rattle.program_laws.specs.Setups.{IsDone}

-- memory was refused, and the tree is still there under the password
pub record StaysUntold (password : List ℕ) (c : Settings) (tree : Tree) (after : Outside) (status : Status) : Type 0 where
  pub ends : status ≡ Memory
  pub leaves : Leaves password c tree after

-- Each live block of the record was loaded once, which proves who owns it. The owners were told, and behind them the strangers among the names that the directory lists.
pub record TellsOwners (names : Option (List (List ℕ))) (output : Stream) (password : List ℕ) (c : Settings) (tree : Tree) (before after : Outside) (status : Status) : Type 0 where
  pub state : PlainState
  pub list : FileChanges
  pub loaded : IsLoaded before.kept state list
  pub calls : Option (List Call)
  pub owners : Owners
  pub proven : IsProven (held_for c state) c.root calls after.calls owners
  pub sorted : List (List ℕ)
  pub listed : IsListed names sorted
  pub done : IsDone output (yes_text owners sorted) password c tree after status

-- where nothing lies and nothing fails, `check` tells the owner of each block, or finds no memory
abbrev pub CheckCompletes : {V : Type 0} → {K : Type 0} → (V → Option (List Call)) → (V → ℕ) → (V → Option (List (List ℕ))) → KeeperGhosts K → Type 0
CheckCompletes {V = V} {K = K} trace faults names G =
    (input output : Stream) (vault : V) (keeper : K) (ended : Ended V K) (bytes : List ℕ) (c : Settings) (tree : Tree)
    → RanCheck trace faults names G input output vault keeper ended
    → OfRun trace faults G vault keeper ended (λ before after. HasCauses before after ended.status → Finds input bytes c tree before → IsUntroubled input output before after
    → StaysUntold (first_line bytes) c tree after ended.status
    ⊎ TellsOwners (names ended.vault) output (first_line bytes) c tree before after ended.status)
