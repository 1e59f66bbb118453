-- A file system that was opened and told of.
use Rattle.std.proofs.Common.{◌≡◌, ◌≤◌, ℕ, false, List, [], ◌∷◌, refl, sym, ◌∙◌, subst, inr, arith}
use Rattle.std.specs.Prelude.{Result, IsOk}
use Rattle.std.specs.declared.option.Option.{Option}
use Rattle.std.specs.declared.result.Result.TheVariants.{Ok, Err}
use Rattle.session_laws.specs.config_file.Settings.{settings_of}
use Rattle.session_laws.specs.block_versions.Standing.{records}
use Rattle.session_laws.specs.line_io.Streams.{Stream}
use Rattle.session_laws.specs.mount.declared.mount.Mount.{Mount}
use Rattle.session_laws.specs.mount.Mounts.{Attached}
use Rattle.session_laws.specs.mount_core.Standing.{IsKeptMarked}
use Rattle.outside.specs.Going.{goes_on_same}
use Rattle.outside.specs.Trace.{Call}
use Rattle.outside.specs.declared.keeper.Keeper.{Ghosts as KeeperGhosts}
use Rattle.session_laws.specs.Openings.{HasCauses}
use Rattle.session_laws.specs.run_frame.Statuses.{closing_status}
use Rattle.run_status.specs.declared.ended.Ended.{Ended}
use Rattle.run_status.specs.declared.status.Status.{Status}
use Rattle.run_status.specs.declared.status.Status.TheVariants.{Done, OutputFault}
use Rattle.run_status.specs.Statuses.{first_of}
use Rattle.session_laws.specs.Answering.{calls_of, kept_of}
use Rattle.session_laws.specs.Runs.{outside_of}
use Rattle.session_laws.specs.Turns.{Begun, Closing}
use Rattle.session_laws.specs.record_saver.Saving.{UnlessDirectory, UnlessState}
use Rattle.session_laws.specs.record_saver.declared.saver.SyncError.{SyncError}
use Rattle.session_laws.specs.mount_core.Showing.{ShowsFiles}
use Rattle.setup_runs.specs.Info.{IsConfigTold}
use Rattle.setup_runs.specs.InfoText.{info_text}
use Rattle.setup_runs.specs.Printing.{Printed}
use Rattle.setup_runs.proofs.Closing.{config_is, config_ok, quiet}

-- where closing went well, the status is that of printing
pub closed_well : (closing : Result Unit SyncError) (output : Stream) (text : List ℕ) (printed : Status) → IsOk closing → Printed output text printed → first_of printed (closing_status closing) ≡ printed
closed_well (Ok u) output text Done ok p = refl
closed_well (Ok u) output text OutputFault ok p = refl
closed_well (Ok u) output text printed ok p = absurd p
closed_well (Err e) output text printed ok p = absurd (cc)

-- where closing went well, no fault was named
closed_directory : (closing : Result Unit SyncError) (P : Type 0) → IsOk closing → UnlessDirectory closing P → P
closed_directory (Ok u) P ok p = p
closed_directory (Err e) P ok p = absurd (cc)

closed_state : (closing : Result Unit SyncError) (P : Type 0) → IsOk closing → UnlessState closing P → P
closed_state (Ok u) P ok p = p
closed_state (Err e) P ok p = absurd (cc)

-- a text that was printed, or wasn't, is no fault of the directory or the record
pub printed_causes : (v0 v1 k0 k1 : ℕ) (kept0 kept1 : Option (List ℕ)) (t0 t1 : Option (List Call)) (output : Stream) (text : List ℕ) (status : Status) → Printed output text status → v0 ≤ v1 → k0 ≤ k1
    → HasCauses (record { kept = kept0; calls = t0; vault_faults = v0; keeper_faults = k0 }) (record { kept = kept1; calls = t1; vault_faults = v1; keeper_faults = k1 }) status
printed_causes v0 v1 k0 k1 kept0 kept1 t0 t1 output text Done p v k = record { vault_grows = v; keeper_grows = k; directory_fault = λ e. absurd (cc); state_fault = λ e. absurd (cc) }
printed_causes v0 v1 k0 k1 kept0 kept1 t0 t1 output text OutputFault p v k = record { vault_grows = v; keeper_grows = k; directory_fault = λ e. absurd (cc); state_fault = λ e. absurd (cc) }
printed_causes v0 v1 k0 k1 kept0 kept1 t0 t1 output text status p v k = absurd p

module _ {V : Type 0} {K : Type 0} (trace : V → Option (List Call)) (faults : V → ℕ) (G : KeeperGhosts K) (password : List ℕ) (vault : V) (keeper : K) (mount : Mount V K) (closing : Result Unit SyncError) (ended : Ended V K)
    (b : Begun ShowsFiles trace faults G password vault keeper mount) (unmarked : ¬ IsKeptMarked records (G.kept keeper))
    (z : Closing ShowsFiles trace faults G mount closing ended.vault ended.keeper) (output : Stream) (printed : Status) (p : Printed output (info_text (settings_of mount.opened.config) mount.opened.params) printed)
    (es : ended.status ≡ first_of printed (closing_status closing)) where
  status_is : printed ≡ ended.status
  status_is = sym (es ∙ closed_well closing output _ printed (z.closes.left (inr b.opened.unchanged)).0 p)

  pub told : IsConfigTold trace faults G password output vault keeper ended
  told =
      let l = z.closes.left (inr b.opened.unchanged) in
      let on = goes_on_same (calls_of trace mount) in
      record {
        o = mount.opened;
        attached = subst (λ (k : K). Attached password (G.kept keeper) (G.kept k) (trace vault) (trace ended.vault) mount.opened) (sym l.2)
            (subst (λ (v : V). Attached password (G.kept keeper) (kept_of G mount) (trace vault) (trace v) mount.opened) (sym l.1) b.attached);
        printed = subst (λ (s : Status). Printed output (info_text (settings_of mount.opened.config) mount.opened.params) s) status_is p;
        config = config_is trace faults G password vault keeper mount mount closing ended.vault ended.keeper b z b.opened.fresh refl on (λ tree s. s);
        quiet = quiet trace faults G password vault keeper mount mount closing ended.vault ended.keeper b z b.opened.fresh refl on (λ tree s. s) unmarked refl (λ k. k);
        unmarked = unmarked;
        directory_quiet = closed_directory closing _ l.0 z.leaves.vault_quiet ∙ b.calls.vault_quiet;
        state_quiet = closed_state closing _ l.0 z.leaves.keeper_quiet ∙ b.calls.keeper_quiet;
        opens = λ other c is_told o. (o.0, o.1, config_ok (G.kept ended.keeper) (trace ended.vault) (o.0 ∷ []) o.0 closing l.0 (z.closes.configures (o.0 ∷ []) o.0 b.opened.fresh (b.stands.file o.0 is_told o.2)), o.3);
      }

  pub told_causes : HasCauses (outside_of trace faults G vault keeper) (outside_of trace faults G ended.vault ended.keeper) ended.status
  told_causes =
      subst (λ (s : Status). HasCauses (outside_of trace faults G vault keeper) (outside_of trace faults G ended.vault ended.keeper) s) status_is
      (printed_causes (faults vault) (faults ended.vault) (G.faults keeper) (G.faults ended.keeper) _ _ _ _ output _ printed p
      (let g = b.calls.vault_quiet in let h = z.leaves.vault_grows in omega (arith, g, h)) (let g = b.calls.keeper_quiet in let h = z.leaves.keeper_grows in omega (arith, g, h)))
