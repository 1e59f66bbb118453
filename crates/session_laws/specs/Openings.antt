-- How a run begins that opens a file system under a password of its input.
use Rattle.std.specs.Prelude.{◌≡◌, ◌≢◌, ◌≤◌, ℕ, true, List, is_some}
use Rattle.std.specs.declared.option.Option.{Option}
use Rattle.mount.specs.config_file.Settings.{Settings}
use Rattle.fs_model.specs.Tree.{Tree}
use Rattle.mount.specs.block_versions.Standing.{records}
use Rattle.run_frame.specs.line_io.Streams.{Stream, Untouched}
use Rattle.mount.specs.Mounts.{StopsMarked, Unopened}
use Rattle.run_frame.specs.mount_stores.declared.error.OpenError.{OpenError}
use Rattle.mount.specs.mount_core.Standing.{IsKeptMarked}
use Rattle.outside.specs.Causes.{RoseBy}
use Rattle.outside.specs.Trace.{Call}
use Rattle.outside.specs.declared.keeper.Keeper.{Ghosts as KeeperGhosts}
use Rattle.run_frame.specs.Passwords.{IsLongLine, IsNextPassword}
use Rattle.run_status.specs.declared.ended.Ended.{Ended}
use Rattle.run_status.specs.declared.status.Status.{Status}
use Rattle.run_status.specs.declared.status.Status.TheVariants.{Violation, DirectoryFault, StateFault}
use Rattle.session_laws.specs.Runs.{Outside, outside_of, OpensOnlyTo, IsQuietRun, PasswordOpens}
use Rattle.mount.specs.mount_core.Showing.{ShowsFiles}
use Rattle.run_frame.specs.Statuses.{opening_status}

-- the password is the first line of the input, and this follows it
pub record HasPassword (input : Stream) (password : List ℕ) (after : Option (List ℕ)) : Type 0 where
  pub short : ¬ IsLongLine password
  pub is_next : IsNextPassword input.old password after

-- the old password is the first line of the input, and the new one the second
pub record HasPasswords (input : Stream) (old new : List ℕ) : Type 0 where
  pub old_short : ¬ IsLongLine old
  pub new_short : ¬ IsLongLine new
  pub between : Option (List ℕ)
  pub after : Option (List ℕ)
  pub old_is_next : IsNextPassword input.old old between
  pub new_is_next : IsNextPassword between new after

-- both are as they were: neither was called
pub record AreUncalled {V : Type 0} {K : Type 0} (vault : V) (keeper : K) (ended : Ended V K) : Type 0 where
  pub same_vault : ended.vault ≡ vault
  pub same_keeper : ended.keeper ≡ keeper

-- no password was read, for this cause, and nothing was done
pub record IsUnread {V : Type 0} {K : Type 0} (Cause : Status → Type 0) (output : Stream) (vault : V) (keeper : K) (ended : Ended V K) : Type 0 where
  pub cause : Cause ended.status
  pub uncalled : AreUncalled vault keeper ended
  pub unwritten : Untouched output

-- each password that opened the configuration's file still does
abbrev pub StayOpen : Outside → Outside → Type 0
StayOpen before after = (password : List ℕ) (c : Settings) → is_some before.calls ≡ true → PasswordOpens password c before → PasswordOpens password c after

-- where what is kept stood for a tree, and no other configuration opens under the password, the status is no violation
abbrev pub IsNoFalseAlarm : List ℕ → Outside → Outside → Status → Type 0
IsNoFalseAlarm password before after status = (c : Settings) (tree : Tree) → OpensOnlyTo ShowsFiles password c tree before after → status ≢ Violation

-- a status that names a fault says that it happened
pub record HasCauses (before after : Outside) (status : Status) : Type 0 where
  pub vault_grows : before.vault_faults ≤ after.vault_faults
  pub keeper_grows : before.keeper_faults ≤ after.keeper_faults
  pub directory_fault : status ≡ DirectoryFault → RoseBy 1 before.vault_faults after.vault_faults
  pub state_fault : status ≡ StateFault → RoseBy 1 before.keeper_faults after.keeper_faults

-- Under the password no file system was opened, for this cause. What was kept still stands for its tree, and a marked record stays with all that was called.
pub record IsUnopened {V : Type 0} {K : Type 0} (trace : V → Option (List Call)) (faults : V → ℕ) (G : KeeperGhosts K) (password : List ℕ) (vault : V) (keeper : K) (ended : Ended V K) (error : OpenError) : Type 0 where
  pub status : ended.status ≡ opening_status error
  pub unopened : Unopened ShowsFiles trace faults G password vault keeper (record { error = error; vault = ended.vault; keeper = ended.keeper })
  pub quiet : IsQuietRun ShowsFiles password (outside_of trace faults G vault keeper) (outside_of trace faults G ended.vault ended.keeper)
  pub marked : IsKeptMarked records (G.kept keeper) → (ended.vault ≡ vault) × (G.kept ended.keeper ≡ G.kept keeper) × StopsMarked error
  pub opens : StayOpen (outside_of trace faults G vault keeper) (outside_of trace faults G ended.vault ended.keeper)
  pub no_false_alarm : IsNoFalseAlarm password (outside_of trace faults G vault keeper) (outside_of trace faults G ended.vault ended.keeper) ended.status
