-- What `passwd` does.
use Rattle.std.specs.Prelude.{◌≡◌, ◌⊎◌, ℕ, ◌+◌, true, List, [], Result, is_some, IsOk, OnOk}
use Rattle.std.specs.declared.option.Option.{Option}
use Rattle.std.specs.declared.option.Option.TheVariants.{Some}
use Rattle.rand_core.specs.Stream.{Stream as Chance}
use Rattle.session_laws.specs.config_file.ConfigOf.{IsOnly, opened}
use Rattle.session_laws.specs.config_file.Settings.{Settings, settings_of}
use Rattle.session_laws.specs.config_file.declared.config.Opened.{Opened}
use Rattle.fs_model.specs.Tree.{Tree}
use Rattle.session_laws.specs.block_versions.Standing.{records}
use Rattle.session_laws.specs.line_io.Streams.{Stream, Untouched}
use Rattle.session_laws.specs.mount_stores.Drawing.{seal_drawn}
use Rattle.session_laws.specs.config_file.Sealing.{sealed_file}
use Rattle.session_laws.specs.mount_stores.Identities.{HasEmptyList}
use Rattle.session_laws.specs.mount_stores.declared.error.OpenError.{OpenError}
use Rattle.session_laws.specs.mount_core.Standing.{IsKeptMarked}
use Rattle.outside.specs.Trace.{Call}
use Rattle.outside.specs.declared.keeper.Keeper.{Ghosts as KeeperGhosts}
use Rattle.session_laws.specs.run_frame.Passwords.{PasswordsUnread}
use Rattle.session_laws.specs.Causes.{VersionsSince}
use Rattle.session_laws.specs.Drawing.{SealsNone}
use Rattle.session_laws.specs.Openings.{HasPasswords, IsUnread, IsUnopened}
use Rattle.session_laws.specs.run_frame.Statuses.{closing_status}
use Rattle.run_status.specs.declared.ended.Ended.{Ended}
use Rattle.run_status.specs.declared.status.Status.{Status}
use Rattle.run_status.specs.Statuses.{first_of}
use Rattle.session_laws.specs.session_lines.Driven.{IsUnfailed}
use Rattle.session_laws.specs.Runs.{Outside, outside_of, OpensTo, WasAttached, IsQuietRun, directory_fault, state_fault}
use Rattle.session_laws.specs.record_saver.Saving.{KeptConfigures}
use Rattle.session_laws.specs.record_saver.declared.saver.SyncError.{SyncError}
use Rattle.session_laws.specs.mount_core.Showing.{ShowsFiles}
use Rattle.setup_runs.specs.PasswdText.{Reports}

-- the configuration's file holds this text, which opens under the new password and nothing else, to what was opened
pub record NewOpens (new file : List ℕ) (o : Opened) (after : Outside) : Type 0 where
  pub holds : KeptConfigures records after.kept after.calls file
  pub opens : IsOnly new file (opened (settings_of o.config) o.params)

-- Under the old password a file system was opened, and its password changed, or not by an error. The new text is that of the configuration and the
-- parameters that were found, and of what was drawn from a stream, which is left so.
pub record IsChanged {V : Type 0} {K : Type 0} (trace : V → Option (List Call)) (faults : V → ℕ) (G : KeeperGhosts K) (old new : List ℕ) (chance left : Chance) (output : Stream) (vault : V) (keeper : K) (ended : Ended V K) : Type 0 where
  pub was : WasAttached old (outside_of trace faults G vault keeper) (outside_of trace faults G ended.vault ended.keeper)
  pub change : Result Unit SyncError
  pub told : Status
  pub reports : Reports change output told
  -- closing had nothing to do after a change; after an error of one it may meet another
  pub closing : Result Unit SyncError
  pub closed : IsOk change → IsOk closing
  -- what is told of the change comes first, so its error hides one of closing
  pub status : ended.status ≡ first_of told (closing_status closing)
  -- where neither names a fault of the directory none happened, and so of the record
  pub directory_quiet : directory_fault change + directory_fault closing ≡ 0 → faults ended.vault ≡ faults vault
  pub state_quiet : state_fault change + state_fault closing ≡ 0 → G.faults ended.keeper ≡ G.faults keeper
  pub drawn : left ≡ (seal_drawn chance).1
  -- after a change the new password opens the configuration's file; after an error it does, or the file is as it was
  pub opens : is_some (trace vault) ≡ true → OnOk change (NewOpens new (sealed_file new was.opened.params (seal_drawn chance).0 (settings_of was.opened.config)) was.opened (outside_of trace faults G ended.vault ended.keeper))
  pub stays : (file : List ℕ) → is_some (trace vault) ≡ true → KeptConfigures records (G.kept keeper) (trace vault) file
      → KeptConfigures records (G.kept ended.keeper) (trace ended.vault) file
      ⊎ NewOpens new (sealed_file new was.opened.params (seal_drawn chance).0 (settings_of was.opened.config)) was.opened (outside_of trace faults G ended.vault ended.keeper)
  pub emptied : OnOk change (HasEmptyList (G.kept ended.keeper))
  -- no block's file was sealed: nothing was put, removed or left waiting but what waited, and the new text
  pub sealed : SealsNone (Some (sealed_file new was.opened.params (seal_drawn chance).0 (settings_of was.opened.config))) (outside_of trace faults G vault keeper) (outside_of trace faults G ended.vault ended.keeper)
  -- however both ended, a record is kept and no block's version in it rose
  pub versions : VersionsSince (G.kept keeper) (G.kept ended.keeper) []
  -- it is the one under which what was kept stood for a tree
  pub config : (c : Settings) (tree : Tree) → OpensTo ShowsFiles old c tree (outside_of trace faults G vault keeper) (outside_of trace faults G ended.vault ended.keeper) → settings_of was.opened.config ≡ c
  pub unmarked : ¬ IsKeptMarked records (G.kept keeper)
  pub quiet : IsQuietRun ShowsFiles old (outside_of trace faults G vault keeper) (outside_of trace faults G ended.vault ended.keeper)

-- under the old password no file system was opened and nothing was written or drawn, or it was to be changed
abbrev pub ChangedUnder : {V : Type 0} → {K : Type 0} → (V → Option (List Call)) → (V → ℕ) → KeeperGhosts K → List ℕ → List ℕ → Chance → Chance → Stream → V → K → Ended V K → Type 0
ChangedUnder trace faults G old new chance left output vault keeper ended =
    (((error : OpenError) × IsUnopened trace faults G old vault keeper ended error) × Untouched output × (left ≡ chance))
    ⊎ IsChanged trace faults G old new chance left output vault keeper ended

-- the password lines weren't read and nothing was done, or their passwords are the ones
abbrev pub RanPasswd : {V : Type 0} → {K : Type 0} → (V → Option (List Call)) → (V → ℕ) → KeeperGhosts K → Chance → Chance → Stream → Stream → V → K → Ended V K → Type 0
RanPasswd trace faults G chance left input output vault keeper ended =
    (IsUnread (PasswordsUnread input) output vault keeper ended × (left ≡ chance))
    ⊎ ((old : List ℕ) × (new : List ℕ) × HasPasswords input old new × IsUnfailed input × ChangedUnder trace faults G old new chance left output vault keeper ended)
