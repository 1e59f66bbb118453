-- What `migrate` does where nothing lies and nothing fails.
use Rattle.std.specs.Prelude.{◌⊎◌, ℕ, List}
use Rattle.std.specs.declared.option.Option.{Option}
use Rattle.copy_file.specs.answers.Texts.{text_of_answer}
use Rattle.copy_file.specs.answers.declared.answer.Answer.TheVariants as answer
use Rattle.session_laws.specs.config_file.Settings.{Settings}
use Rattle.check_runs.specs.setup_runs.Migrate.{RanMigrate, IsCount, IsSpentIn}
use Rattle.fs_model.specs.Tree.{Tree}
use Rattle.copy_file.specs.line_io.Lines.{first_line}
use Rattle.copy_file.specs.line_io.Streams.{Stream}
use Rattle.session_laws.specs.local_state.Record.{PlainState}
use Rattle.check_runs.specs.mount_calls.Migrating.{KeepsNewest}
use Rattle.check_runs.specs.mount_stores.Opening.{IsLoaded}
use Rattle.outside.specs.Changes.{FileChanges}
use Rattle.outside.specs.Trace.{Call}
use Rattle.outside.specs.declared.keeper.Keeper.{Ghosts as KeeperGhosts}
use Rattle.run_status.specs.declared.ended.Ended.{Ended}
use Rattle.run_status.specs.declared.status.Status.{Status}
use Rattle.session_laws.specs.Runs.{Outside}
use Rattle.check_runs.specs.setup_runs.MigrateText.{count_text}
use Rattle.program_laws.specs.Checks.{StaysUntold}
use Rattle.program_laws.specs.Premises.{OfRun, IsUntroubled, Finds}
use Rattle.program_laws.specs.Setups.{IsDone}

-- how many blocks there are was told, by the record that was kept before, and a record is kept that takes the newest format alone
pub record WritesAnew (output : Stream) (password : List ℕ) (c : Settings) (tree : Tree) (before after : Outside) (status : Status) : Type 0 where
  pub state : PlainState
  pub list : FileChanges
  pub loaded : IsLoaded before.kept state list
  pub count : ℕ
  pub counts : IsCount state count
  pub newest : KeepsNewest after.kept
  pub done : IsDone output (count_text count) password c tree after status

-- a live block of the record that was kept before stands at its last version, and this was told
pub record FindsSpent (output : Stream) (password : List ℕ) (c : Settings) (tree : Tree) (before after : Outside) (status : Status) : Type 0 where
  pub state : PlainState
  pub list : FileChanges
  pub loaded : IsLoaded before.kept state list
  pub spent : IsSpentIn state
  pub done : IsDone output (text_of_answer answer.Spent) password c tree after status

-- the blocks were written anew, or memory was refused, which was told or is the status, or a block is spent
abbrev pub Migrates : Stream → List ℕ → Settings → Tree → Outside → Outside → Status → Type 0
Migrates output password c tree before after status =
    WritesAnew output password c tree before after status
    ⊎ (IsDone output (text_of_answer answer.Memory) password c tree after status
    ⊎ (FindsSpent output password c tree before after status
    ⊎ StaysUntold password c tree after status))

-- where nothing lies and nothing fails, `migrate` writes all blocks anew, or finds no memory or no further version
abbrev pub MigrateCompletes : {V : Type 0} → {K : Type 0} → (V → Option (List Call)) → (V → ℕ) → KeeperGhosts K → Type 0
MigrateCompletes {V = V} {K = K} trace faults G =
    (input output : Stream) (vault : V) (keeper : K) (ended : Ended V K) (bytes : List ℕ) (c : Settings) (tree : Tree)
    → RanMigrate trace faults G input output vault keeper ended
    → OfRun trace faults G vault keeper ended (λ before after. Finds input bytes c tree before → IsUntroubled input output before after
    → Migrates output (first_line bytes) c tree before after ended.status)
