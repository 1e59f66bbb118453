-- A run that opened no file system.
use Rattle.std.proofs.Common.{◌≡◌, ◌≢◌, ◌⊎◌, ◌∙◌, ℕ, List, [], sym, ap, inl, inr}
use Rattle.std.specs.declared.option.Option.{Option}
use Rattle.mount.specs.config_file.declared.error.ConfigError.TheVariants as config_error
use Rattle.mount.specs.block_versions.Standing.{records}
use Rattle.mount.specs.local_state.Record.{PlainState}
use Rattle.mount.proofs.Formats.{equal_same, loaded_same}
use Rattle.mount.specs.Formats.{TakesSame}
use Rattle.mount.specs.Mounts.{IsCalmOpening, StopsMarked, Unopened}
use Rattle.mount.specs.Opening.{AttachCause}
use Rattle.run_frame.specs.mount_stores.Identities.{KeepsRecord}
use Rattle.run_frame.specs.mount_stores.Opening.{IsLoaded}
use Rattle.run_frame.specs.mount_stores.declared.error.OpenError.{OpenError}
use Rattle.run_frame.specs.mount_stores.declared.error.OpenError.TheVariants as open_error
use Rattle.mount.specs.declared.mount.Halted.{Halted}
use Rattle.mount.specs.mount_core.Standing.{IsKeptMarked}
use Rattle.outside.specs.Causes.{RoseBy}
use Rattle.outside.specs.Changes.{FileChanges}
use Rattle.outside.specs.Trace.{Call}
use Rattle.outside.specs.declared.keeper.Keeper.{Ghosts as KeeperGhosts}
use Rattle.run_status.specs.declared.status.Status.{Status}
use Rattle.run_status.specs.declared.status.Status.TheVariants.{Violation, DirectoryFault, StateFault}
use Rattle.session_laws.specs.Runs.{outside_of}
use Rattle.mount.specs.mount_core.Showing.{ShowsFiles}
use Rattle.session_laws.specs.Openings.{HasCauses, IsUnopened}
use Rattle.run_frame.specs.Statuses.{opening_status}

calm_status : (error : OpenError) → IsCalmOpening error → opening_status error ≢ Violation
calm_status open_error.Memory calm e = absurd (cc)
calm_status open_error.NoState calm e = absurd calm
calm_status open_error.BadState calm e = absurd calm
calm_status open_error.Exists calm e = absurd calm
calm_status open_error.Marked calm e = absurd calm
calm_status (open_error.Mismatch kept found) calm e = absurd calm
calm_status open_error.NoConfig calm e = absurd (cc)
calm_status (open_error.Config config_error.Memory) calm e = absurd (cc)
calm_status (open_error.Config config_error.Form) calm e = absurd (cc)
calm_status (open_error.Config config_error.Locked) calm e = absurd (cc)
calm_status (open_error.Config config_error.Inner) calm e = absurd (cc)
calm_status open_error.FaultDirectory calm e = absurd (cc)
calm_status open_error.FaultState calm e = absurd (cc)

module _ (password : List ℕ) (kept : Option (List ℕ)) (t0 t1 : Option (List Call)) (v0 v1 k0 k1 : ℕ) where
  directory_cause : (error : OpenError) → AttachCause password kept t0 t1 v0 v1 k0 k1 error → opening_status error ≡ DirectoryFault → RoseBy 1 v0 v1
  directory_cause open_error.FaultDirectory cause e = cause.3
  directory_cause open_error.Memory cause e = absurd (cc)
  directory_cause open_error.NoState cause e = absurd (cc)
  directory_cause open_error.BadState cause e = absurd (cc)
  directory_cause open_error.Exists cause e = absurd (cc)
  directory_cause open_error.Marked cause e = absurd (cc)
  directory_cause (open_error.Mismatch kept found) cause e = absurd (cc)
  directory_cause open_error.NoConfig cause e = absurd (cc)
  directory_cause (open_error.Config config_error.Memory) cause e = absurd (cc)
  directory_cause (open_error.Config config_error.Form) cause e = absurd (cc)
  directory_cause (open_error.Config config_error.Locked) cause e = absurd (cc)
  directory_cause (open_error.Config config_error.Inner) cause e = absurd (cc)
  directory_cause open_error.FaultState cause e = absurd (cc)

  state_cause : (error : OpenError) → AttachCause password kept t0 t1 v0 v1 k0 k1 error → opening_status error ≡ StateFault → RoseBy 1 k0 k1
  state_cause open_error.FaultState cause e = cause
  state_cause open_error.Memory cause e = absurd (cc)
  state_cause open_error.NoState cause e = absurd (cc)
  state_cause open_error.BadState cause e = absurd (cc)
  state_cause open_error.Exists cause e = absurd (cc)
  state_cause open_error.Marked cause e = absurd (cc)
  state_cause (open_error.Mismatch kept found) cause e = absurd (cc)
  state_cause open_error.NoConfig cause e = absurd (cc)
  state_cause (open_error.Config config_error.Memory) cause e = absurd (cc)
  state_cause (open_error.Config config_error.Form) cause e = absurd (cc)
  state_cause (open_error.Config config_error.Locked) cause e = absurd (cc)
  state_cause (open_error.Config config_error.Inner) cause e = absurd (cc)
  state_cause open_error.FaultDirectory cause e = absurd (cc)

module _ {V : Type 0} {K : Type 0} (trace : V → Option (List Call)) (faults : V → ℕ) (G : KeeperGhosts K) (password : List ℕ) (vault : V) (keeper : K) (h : Halted V K) (u : Unopened ShowsFiles trace faults G password vault keeper h)
    (status : Status) (is : status ≡ opening_status h.error) where
  -- what is kept is the same, or a record of the same state
  taken : (G.kept h.keeper ≡ G.kept keeper) ⊎ ((state : PlainState) × (list : FileChanges) × IsLoaded (G.kept keeper) state list × KeepsRecord (G.kept h.keeper) state [])
      → TakesSame (G.kept keeper) (G.kept h.keeper)
  taken (inl same) = equal_same (G.kept keeper) (G.kept h.keeper) same
  taken (inr (state, list, loaded, keeps)) = loaded_same (G.kept keeper) (G.kept h.keeper) state list [] loaded keeps

  pub unopened : (IsKeptMarked records (G.kept keeper) → (h.vault ≡ vault) × (G.kept h.keeper ≡ G.kept keeper) × StopsMarked h.error)
      → IsUnopened trace faults G password vault keeper (record { status = status; vault = h.vault; keeper = h.keeper }) h.error
  unopened marked = record {
    status = is;
    unopened = u;
    quiet = record { stands = λ c tree f. u.leaves.represents c tree f.stands f.unforged_config; marked = λ m. let s = marked m in (s.1, ap trace s.0); least = taken u.leaves.kept };
    marked = marked;
    opens = λ other c told o. (o.0, o.1, u.leaves.configures o.0 told o.2, o.3);
    no_false_alarm = λ c tree f e. calm_status h.error (u.leaves.calm c tree f.stands f.only) (sym is ∙ e);
  }

  pub caused : HasCauses (outside_of trace faults G vault keeper) (outside_of trace faults G h.vault h.keeper) status
  caused = record {
    vault_grows = u.fails.vault_faults.grows;
    keeper_grows = u.fails.keeper_faults.grows;
    directory_fault = λ e. directory_cause password (G.kept keeper) (trace vault) (trace h.vault) (faults vault) (faults h.vault) (G.faults keeper) (G.faults h.keeper) h.error u.fails.cause (sym is ∙ e);
    state_fault = λ e. state_cause password (G.kept keeper) (trace vault) (trace h.vault) (faults vault) (faults h.vault) (G.faults keeper) (G.faults h.keeper) h.error u.fails.cause (sym is ∙ e);
  }
