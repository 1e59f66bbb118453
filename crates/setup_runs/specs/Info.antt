-- What `info` does.
use Rattle.std.specs.Prelude.{◌≡◌, ◌⊎◌, ℕ, List}
use Rattle.std.specs.declared.option.Option.{Option}
use Rattle.session_laws.specs.config_file.Settings.{Settings, settings_of}
use Rattle.session_laws.specs.config_file.declared.config.Opened.{Opened}
use Rattle.fs_model.specs.Tree.{Tree}
use Rattle.session_laws.specs.block_versions.Standing.{records}
use Rattle.session_laws.specs.line_io.Streams.{Stream, Untouched}
use Rattle.session_laws.specs.mount.Mounts.{Attached}
use Rattle.session_laws.specs.mount_stores.declared.error.OpenError.{OpenError}
use Rattle.session_laws.specs.mount_core.Standing.{IsKeptMarked}
use Rattle.outside.specs.Trace.{Call}
use Rattle.outside.specs.declared.keeper.Keeper.{Ghosts as KeeperGhosts}
use Rattle.session_laws.specs.run_frame.Passwords.{PasswordUnread}
use Rattle.session_laws.specs.Openings.{HasPassword, IsUnread, IsUnopened, StayOpen}
use Rattle.run_status.specs.declared.ended.Ended.{Ended}
use Rattle.session_laws.specs.session_lines.Driven.{IsUnfailed}
use Rattle.session_laws.specs.Runs.{outside_of, OpensTo, IsQuietRun}
use Rattle.session_laws.specs.mount_core.Showing.{ShowsFiles}
use Rattle.setup_runs.specs.InfoText.{info_text}
use Rattle.setup_runs.specs.Printing.{Printed}

-- Under the password a configuration was opened, and it was told whole, or in part where the sink failed. Nothing more was done than opening does.
pub record IsConfigTold {V : Type 0} {K : Type 0} (trace : V → Option (List Call)) (faults : V → ℕ) (G : KeeperGhosts K) (password : List ℕ) (output : Stream) (vault : V) (keeper : K) (ended : Ended V K) : Type 0 where
  pub o : Opened
  pub attached : Attached password (G.kept keeper) (G.kept ended.keeper) (trace vault) (trace ended.vault) o
  pub printed : Printed output (info_text (settings_of o.config) o.params) ended.status
  -- it is the one under which what was kept stood for a tree
  pub config : (c : Settings) (tree : Tree) → OpensTo ShowsFiles password c tree (outside_of trace faults G vault keeper) (outside_of trace faults G ended.vault ended.keeper) → settings_of o.config ≡ c
  pub unmarked : ¬ IsKeptMarked records (G.kept keeper)
  -- no call on a store failed
  pub directory_quiet : faults ended.vault ≡ faults vault
  pub state_quiet : G.faults ended.keeper ≡ G.faults keeper
  pub quiet : IsQuietRun ShowsFiles password (outside_of trace faults G vault keeper) (outside_of trace faults G ended.vault ended.keeper)
  pub opens : StayOpen (outside_of trace faults G vault keeper) (outside_of trace faults G ended.vault ended.keeper)

-- under the password no file system was opened and nothing was written, or its configuration was told
abbrev pub ToldUnder : {V : Type 0} → {K : Type 0} → (V → Option (List Call)) → (V → ℕ) → KeeperGhosts K → List ℕ → Stream → V → K → Ended V K → Type 0
ToldUnder trace faults G password output vault keeper ended =
    (((error : OpenError) × IsUnopened trace faults G password vault keeper ended error) × Untouched output)
    ⊎ IsConfigTold trace faults G password output vault keeper ended

-- the password line wasn't read and nothing was done, or its password is the one
abbrev pub Told : {V : Type 0} → {K : Type 0} → (V → Option (List Call)) → (V → ℕ) → KeeperGhosts K → Stream → Stream → V → K → Ended V K → Type 0
Told trace faults G input output vault keeper ended =
    IsUnread (PasswordUnread input) output vault keeper ended
    ⊎ ((password : List ℕ) × (after : Option (List ℕ)) × HasPassword input password after × IsUnfailed input × ToldUnder trace faults G password output vault keeper ended)
