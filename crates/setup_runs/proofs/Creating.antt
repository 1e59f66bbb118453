-- A file system that was made, or wasn't.
use Rattle.std.proofs.Common.{◌≡◌, ◌≤◌, ℕ, List, sym, ◌∙◌}
use Rattle.std.specs.Prelude.{Result, IfErr}
use Rattle.std.specs.declared.option.Option.{Option}
use Rattle.std.specs.declared.result.Result.TheVariants.{Ok, Err}
use Rattle.block_id.specs.declared.id.BlockId.{BlockId}
use Rattle.session_laws.specs.line_io.Streams.{Stream}
use Rattle.session_laws.specs.mount_stores.declared.error.OpenError.{OpenError}
use Rattle.session_laws.specs.mount_stores.declared.error.OpenError.TheVariants as open_error
use Rattle.session_laws.specs.mount_stores.Making.{CreateCause}
use Rattle.outside.specs.Causes.{RoseBy}
use Rattle.outside.specs.Trace.{Call}
use Rattle.session_laws.specs.Openings.{HasCauses}
use Rattle.session_laws.specs.run_frame.Statuses.{opening_status}
use Rattle.run_status.specs.declared.status.Status.{Status}
use Rattle.run_status.specs.declared.status.Status.TheVariants.{DirectoryFault, StateFault}
use Rattle.setup_runs.specs.CreateText.{Reports, created_text}
use Rattle.setup_runs.proofs.Telling.{printed_causes}

module _ (kept0 kept1 : Option (List ℕ)) (t0 t1 : Option (List Call)) (v0 v1 k0 k1 : ℕ) where
  directory_cause : (error : OpenError) → CreateCause kept0 t0 t1 v0 v1 k0 k1 error → opening_status error ≡ DirectoryFault → RoseBy 1 v0 v1
  directory_cause open_error.FaultDirectory cause e = cause
  directory_cause open_error.Memory cause e = absurd (cc)
  directory_cause open_error.Exists cause e = absurd (cc)
  directory_cause open_error.FaultState cause e = absurd (cc)
  directory_cause error cause e = absurd cause

  state_cause : (error : OpenError) → CreateCause kept0 t0 t1 v0 v1 k0 k1 error → opening_status error ≡ StateFault → RoseBy 1 k0 k1
  state_cause open_error.FaultState cause e = cause
  state_cause open_error.Memory cause e = absurd (cc)
  state_cause open_error.Exists cause e = absurd (cc)
  state_cause open_error.FaultDirectory cause e = absurd (cc)
  state_cause error cause e = absurd cause

  pub created_causes : (made : Result BlockId OpenError) (output : Stream) (status : Status) → Reports made output status → IfErr made (CreateCause kept0 t0 t1 v0 v1 k0 k1) → v0 ≤ v1 → k0 ≤ k1
      → HasCauses (record { kept = kept0; calls = t0; vault_faults = v0; keeper_faults = k0 }) (record { kept = kept1; calls = t1; vault_faults = v1; keeper_faults = k1 }) status
  created_causes (Ok id) output status r cause v k = printed_causes v0 v1 k0 k1 kept0 kept1 t0 t1 output (created_text id.0) status r v k
  created_causes (Err error) output status r cause v k = record {
    vault_grows = v;
    keeper_grows = k;
    directory_fault = λ e. directory_cause error cause (sym r.0 ∙ e);
    state_fault = λ e. state_cause error cause (sym r.0 ∙ e);
  }
