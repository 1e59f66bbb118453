-- Why lines ended, and what holds of each run on a plain tree.
use Rattle.std.proofs.Common.{◌≡◌, ℕ, List, sym, ap, subst, inl, inr}
use Rattle.std.specs.declared.option.Option.{Option}
use Rattle.trial_runs.specs.answers.Sessions.{Exchange}
use Rattle.fs_model.specs.Instant.{Instant}
use Rattle.trial_runs.specs.line_io.Streams.{Stream, HasFailed}
use Rattle.outside.specs.Trace.{Call}
use Rattle.outside.specs.declared.keeper.Keeper.{Ghosts as KeeperGhosts}
use Rattle.session_laws.specs.run_frame.Passwords.{InputFailed}
use Rattle.session_laws.specs.Openings.{AreUncalled}
use Rattle.run_status.specs.declared.ended.Ended.{Ended}
use Rattle.run_status.specs.declared.status.Status.{Status}
use Rattle.run_status.specs.declared.status.Status.TheVariants.{Done, DirectoryFault, StateFault, InputFault, OutputFault, Memory}
use Rattle.trial_runs.specs.session_lines.Driven.{EndsAs, Reported}
use Rattle.trial_runs.specs.session_lines.declared.end.End.{End}
use Rattle.trial_runs.specs.session_lines.declared.end.End.TheVariants as line_end
use Rattle.session_laws.specs.Runs.{outside_of}
use Rattle.cryfs_shell.specs.Clauses.{FaultsHappened}
use Rattle.trial_runs.specs.Runs.{Tried, GeneratedOnPlain, status_of}
use Rattle.cryfs_shell.proofs.Statuses.{EndCause}
use Rattle.cryfs_shell.proofs.Sessions.{stays_grown}

pub ends_cause : (script : Option (List ℕ)) (input output : Stream) (es : List Exchange) (end : End) → EndsAs 0 script input output es end → EndCause end input output
ends_cause script input output es line_end.Finished e = tt
ends_cause script input output es line_end.InputFault e = e.cause
ends_cause script input output es line_end.OutputFault e = e.cause

pub reported_cause : (input output : Stream) (text : List ℕ) (end : End) → Reported output text end → EndCause end input output
reported_cause input output text line_end.Finished r = tt
reported_cause input output text line_end.InputFault r = absurd r
reported_cause input output text line_end.OutputFault r = r.1

-- of lines that ended, or of memory that was refused before them
abbrev IsOfLines : Status → Type 0
IsOfLines Done = Unit {0}
IsOfLines InputFault = Unit {0}
IsOfLines OutputFault = Unit {0}
IsOfLines Memory = Unit {0}
IsOfLines status = ⊥

-- a status of a run on a plain tree, with its cause
pub record IsTrialEnd (input output : Stream) (status : Status) : Type 0 where
  pub of_lines : IsOfLines status
  pub input_fault : status ≡ InputFault → InputFailed input
  pub output_fault : status ≡ OutputFault → HasFailed output

wanting_end : (input output : Stream) (status : Status) → status ≡ Memory → IsTrialEnd input output status
wanting_end input output status e = record { of_lines = subst IsOfLines (sym e) tt; input_fault = λ f. absurd (cc); output_fault = λ f. absurd (cc) }

trial_end : (input output : Stream) (end : End) (status : Status) → status ≡ status_of end → EndCause end input output → IsTrialEnd input output status
trial_end input output line_end.Finished status e cause = record { of_lines = subst IsOfLines (sym e) tt; input_fault = λ f. absurd (cc); output_fault = λ f. absurd (cc) }
trial_end input output line_end.InputFault status e cause = record { of_lines = subst IsOfLines (sym e) tt; input_fault = λ f. cause; output_fault = λ f. absurd (cc) }
trial_end input output line_end.OutputFault status e cause = record { of_lines = subst IsOfLines (sym e) tt; input_fault = λ f. absurd (cc); output_fault = λ f. cause }

pub tried_end : (now : Instant) (input output : Stream) (status : Status) → Tried now input output status → IsTrialEnd input output status
tried_end now input output status (inl none) = wanting_end input output status none.0
tried_end now input output status (inr (end, e, es, trees, trial)) = trial_end input output end status e (ends_cause input.old input output es end trial.ends)

pub generated_end : (now : Instant) (count : ℕ) (input output : Stream) (status : Status) → GeneratedOnPlain now count output status → IsTrialEnd input output status
generated_end now count input output status (inl none) = wanting_end input output status none.0
generated_end now count input output status (inr (end, e, answers, trees, trial)) = trial_end input output end status e (reported_cause input output _ end trial.written)

pub trial_is_no : (input output : Stream) (status other : Status) → IsTrialEnd input output status → status ≡ other → (IsOfLines other → ⊥) → ⊥
trial_is_no input output status other t e h = h (subst IsOfLines e t.of_lines)

pub trial_faults : {V : Type 0} {K : Type 0} (trace : V → Option (List Call)) (faults : V → ℕ) (G : KeeperGhosts K) (input output : Stream) (vault : V) (keeper : K) (ended : Ended V K) → AreUncalled vault keeper ended → IsTrialEnd input output ended.status
    → FaultsHappened input output (outside_of trace faults G vault keeper) (outside_of trace faults G ended.vault ended.keeper) ended.status
trial_faults trace faults G input output vault keeper ended u t = record {
  vault_grows = stays_grown (faults vault) (faults ended.vault) (ap faults u.same_vault);
  keeper_grows = stays_grown (G.faults keeper) (G.faults ended.keeper) (ap G.faults u.same_keeper);
  directory_fault = λ e. absurd (trial_is_no input output ended.status DirectoryFault t e (λ h. h));
  state_fault = λ e. absurd (trial_is_no input output ended.status StateFault t e (λ h. h));
  input_fault = t.input_fault;
  output_fault = t.output_fault;
}
