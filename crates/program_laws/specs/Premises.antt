-- Runs in which nothing lies and nothing fails.
use Rattle.std.specs.Prelude.{◌≡◌, ◌≤◌, ◌<◌, ◌-◌, ◌^◌, ℕ, List}
use Rattle.std.specs.declared.option.Option.{Option}
use Rattle.std.specs.declared.option.Option.TheVariants.{Some}
use Rattle.session_laws.specs.config_file.Settings.{Settings}
use Rattle.fs_model.specs.Tree.{Tree}
use Rattle.copy_file.specs.line_io.Lines.{first_line}
use Rattle.copy_file.specs.line_io.Streams.{Stream, Untouched, HasFailed, TookMost}
use Rattle.outside.specs.Causes.{RoseBy}
use Rattle.outside.specs.Trace.{Call}
use Rattle.outside.specs.declared.keeper.Keeper.{Ghosts as KeeperGhosts}
use Rattle.shell_runs.specs.run_frame.Passwords.{IsLongLine}
use Rattle.run_status.specs.declared.ended.Ended.{Ended}
use Rattle.session_laws.specs.Runs.{Outside, outside_of, OutsideStandsFor, PasswordOpens, lies}
use Rattle.check_runs.specs.mount_core.Showing.{ShowsFiles}

-- this is so of what stands outside before a run over this directory and record, and after it
abbrev pub OfRun : {V : Type 0} → {K : Type 0} → (V → Option (List Call)) → (V → ℕ) → KeeperGhosts K → V → K → Ended V K → (Outside → Outside → Type 0) → Type 0
OfRun trace faults G vault keeper ended IsSo = IsSo (outside_of trace faults G vault keeper) (outside_of trace faults G ended.vault ended.keeper)

-- the directory gave what was last written, and no count of faults rose: of the directory, the record, the input and the output; and fewer than 2^63
-- bytes were taken from the input
pub record IsUntroubled (input output : Stream) (before after : Outside) : Type 0 where
  pub honest : lies after ≤ lies before
  pub directory_unfailed : ¬ RoseBy 1 before.vault_faults after.vault_faults
  pub state_unfailed : ¬ RoseBy 1 before.keeper_faults after.keeper_faults
  pub input_unfailed : ¬ HasFailed input
  pub output_unfailed : ¬ HasFailed output
  pub few : ¬ TookMost 0 input

-- the input is told, and the password in its first line, which isn't too long, opens the configuration of what is kept, which stands for the first tree
pub record Finds (input : Stream) (bytes : List ℕ) (c : Settings) (first : Tree) (before : Outside) : Type 0 where
  pub told : input.old ≡ Some bytes
  pub short : ¬ IsLongLine (first_line bytes)
  pub opens : PasswordOpens (first_line bytes) c before
  pub stands : OutsideStandsFor ShowsFiles c first before

-- what is kept stands for this tree, and the password still opens its configuration
pub record Leaves (password : List ℕ) (c : Settings) (tree : Tree) (after : Outside) : Type 0 where
  pub stands : OutsideStandsFor ShowsFiles c tree after
  pub opens : PasswordOpens password c after

-- where no count of faults stands at the end of its type and the input is told, nothing is troubled as long as nothing was read, written or called
abbrev pub RestIsUntroubled : Type 0
RestIsUntroubled = (input output : Stream) (bytes : List ℕ) (o : Outside) → input.old ≡ Some bytes → Untouched input → Untouched output
    → o.vault_faults < 2 ^ 64 - 1 → o.keeper_faults < 2 ^ 64 - 1 → input.faults < 2 ^ 64 - 1 → output.faults < 2 ^ 64 - 1 → IsUntroubled input output o o

-- what a run leaves under a password, as `create` does, is what a later one finds whose input begins with it
abbrev pub LeftIsFound : Type 0
LeftIsFound = (input : Stream) (bytes password : List ℕ) (c : Settings) (tree : Tree) (o : Outside) → input.old ≡ Some bytes → first_line bytes ≡ password → ¬ IsLongLine password
    → Leaves password c tree o → Finds input bytes c tree o
