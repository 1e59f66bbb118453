-- What holds of each run of `check --all`.
use Rattle.std.proofs.Common.{◌≡◌, ◌≢◌, ℕ, List, subst, inl, inr}
use Rattle.std.specs.declared.option.Option.{Option}
use Rattle.check_runs.specs.SurveyRuns.{RanSurvey, IsRefusalTold}
use Rattle.check_runs.proofs.Leaving.{CheckStatus}
use Rattle.check_runs.proofs.SurveyLeaving.{survey_status, survey_failed, no_alarm, calm, quiet_run}
use Rattle.cryfs_shell.specs.Clauses.{IsRefusedRun, NoFalseAlarm, KeepsTree, FaultsHappened}
use Rattle.cryfs_shell.proofs.Statuses.{IsOfOpening, opening_is_no}
use Rattle.cryfs_shell.proofs.Sessions.{IsUnreadStatus, one_unread, unread_is_no, unread_faults, unread_refusal, unread_keeps, opens_under, only_under, unopened_faults, unopened_refusal, unopened_alarm, unopened_keeps, grown}
use Rattle.session_laws.specs.block_versions.Standing.{records}
use Rattle.trial_runs.specs.line_io.Streams.{Stream}
use Rattle.check_runs.specs.mount_core.Standing.{IsKeptMarked}
use Rattle.outside.specs.Trace.{Call}
use Rattle.outside.specs.declared.keeper.Keeper.{Ghosts as KeeperGhosts}
use Rattle.session_laws.specs.run_frame.Passwords.{PasswordUnread}
use Rattle.run_status.specs.declared.ended.Ended.{Ended}
use Rattle.run_status.specs.declared.status.Status.{Status}
use Rattle.run_status.specs.declared.status.Status.TheVariants.{Usage, LongPassword, Violation, HostFault}
use Rattle.session_laws.proofs.Whole.{only_opens}
use Rattle.session_laws.specs.Openings.{AreUncalled, HasCauses}
use Rattle.session_laws.specs.Runs.{outside_of}
use Rattle.check_runs.specs.mount_core.Showing.{ShowsFiles}

of_survey : {V : Type 0} {K : Type 0} (trace : V → Option (List Call)) (faults : V → ℕ) (names : V → Option (List (List ℕ))) (G : KeeperGhosts K) (password : List ℕ) (output : Stream) (vault : V) (keeper : K) (ended : Ended V K)
    → IsRefusalTold trace faults names G password output vault keeper ended → CheckStatus ended.status
of_survey trace faults names G password output vault keeper ended t = survey_status (names t.x.vault) t.x.verdict t.x.ungiven.items t.x.end output ended.status t.told

module _ {V : Type 0} {K : Type 0} (trace : V → Option (List Call)) (faults : V → ℕ) (names : V → Option (List (List ℕ))) (G : KeeperGhosts K) (input output : Stream) (vault : V) (keeper : K) (ended : Ended V K)
    (causes : HasCauses (outside_of trace faults G vault keeper) (outside_of trace faults G ended.vault ended.keeper) ended.status) where
  abbrev Done : Type 0
  Done = RanSurvey trace faults names G input output vault keeper ended

  -- neither where no password was read nor afterwards the status is this
  surveyed_is_no : (other : Status) → (IsUnreadStatus other → ⊥) → (IsOfOpening other → ⊥) → (CheckStatus other → ⊥) → Done → ended.status ≢ other
  surveyed_is_no other unread opening checking (inl u) e = unread_is_no ended.status other (one_unread input ended.status u.cause).unread e unread
  surveyed_is_no other unread opening checking (inr (password, after, has, unfailed, inl ((error, u), unwritten))) e = opening_is_no error ended.status other u.status e opening
  surveyed_is_no other unread opening checking (inr (password, after, has, unfailed, inr t)) e = checking (subst CheckStatus e (of_survey trace faults names G password output vault keeper ended t))

  pub surveyed_faults : Done → FaultsHappened input output (outside_of trace faults G vault keeper) (outside_of trace faults G ended.vault ended.keeper) ended.status
  surveyed_faults (inl u) = unread_faults trace faults G input output vault keeper ended (PasswordUnread input) (one_unread input) u
  surveyed_faults (inr (password, after, has, unfailed, inl ((error, u), unwritten))) = unopened_faults trace faults G input output vault keeper ended password after has.is_next error u
  surveyed_faults (inr (password, after, has, unfailed, inr t)) = record {
    vault_grows = grown (faults vault) (faults ended.vault) causes.vault_grows;
    keeper_grows = grown (G.faults keeper) (G.faults ended.keeper) causes.keeper_grows;
    directory_fault = causes.directory_fault;
    state_fault = causes.state_fault;
    input_fault = λ e. absurd (subst CheckStatus e (of_survey trace faults names G password output vault keeper ended t));
    output_fault = survey_failed (names t.x.vault) t.x.verdict t.x.ungiven.items t.x.end output ended.status t.told;
  }

  pub surveyed_refusal : Done → IsKeptMarked records (G.kept keeper) → IsRefusedRun G.kept output vault keeper ended
  surveyed_refusal (inl u) marked = unread_refusal trace faults G input output vault keeper ended (PasswordUnread input) (one_unread input) u
  surveyed_refusal (inr (password, after, has, unfailed, inl ((error, u), unwritten))) marked = unopened_refusal trace faults G input output vault keeper ended password after has.is_next error u unwritten marked
  surveyed_refusal (inr (password, after, has, unfailed, inr t)) marked = absurd (t.surveyed.unmarked marked)

  pub surveyed_alarm : Done → NoFalseAlarm input (outside_of trace faults G vault keeper) (outside_of trace faults G ended.vault ended.keeper) ended.status
  surveyed_alarm (inl u) bytes c first f honest e = unread_is_no ended.status Violation (one_unread input ended.status u.cause).unread e (λ h. h)
  surveyed_alarm (inr (password, after, has, unfailed, inl ((error, u), unwritten))) bytes c first f honest e = unopened_alarm trace faults G input output vault keeper ended password after has.is_next error u bytes c first f honest e
  surveyed_alarm (inr (password, after, has, unfailed, inr t)) bytes c first f honest e =
      let only = only_under trace faults G input output vault keeper ended password after has.is_next bytes c first f in
      no_alarm trace faults names G password output vault keeper ended t e (calm trace faults names G password output vault keeper ended t c first (only_opens ShowsFiles password c first (outside_of trace faults G vault keeper) (outside_of trace faults G ended.vault ended.keeper) only) honest)

  pub surveyed_keeps : Done → KeepsTree input (outside_of trace faults G vault keeper) (outside_of trace faults G ended.vault ended.keeper)
  surveyed_keeps (inl u) bytes c first f = unread_keeps trace faults G input output vault keeper ended (PasswordUnread input) (one_unread input) u bytes c first f
  surveyed_keeps (inr (password, after, has, unfailed, inl ((error, u), unwritten))) bytes c first f = unopened_keeps trace faults G input output vault keeper ended password after has.is_next error u bytes c first f
  surveyed_keeps (inr (password, after, has, unfailed, inr t)) bytes c first f =
      inr (first, (quiet_run trace faults names G password output vault keeper ended t).stands c first (opens_under trace faults G input output vault keeper ended password after has.is_next bytes c first f.opened))

  pub surveyed_uncalled : Done → ended.status ≡ LongPassword → AreUncalled vault keeper ended
  surveyed_uncalled (inl u) e = u.uncalled
  surveyed_uncalled (inr (password, after, has, unfailed, inl ((error, u), unwritten))) e = absurd (opening_is_no error ended.status LongPassword u.status e (λ h. h))
  surveyed_uncalled (inr (password, after, has, unfailed, inr t)) e = absurd (subst CheckStatus e (of_survey trace faults names G password output vault keeper ended t))

  pub surveyed_usage : Done → ended.status ≢ Usage
  surveyed_usage = surveyed_is_no Usage (λ h. h) (λ h. h) (λ h. h)

  pub surveyed_host : Done → ended.status ≢ HostFault
  surveyed_host = surveyed_is_no HostFault (λ h. h) (λ h. h) (λ h. h)
