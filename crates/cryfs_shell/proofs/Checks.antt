-- What holds of each run of `check`.
use Rattle.std.proofs.Common.{◌≡◌, ◌≢◌, ◌⊎◌, ℕ, Bool, true, false, List, refl, sym, ◌∙◌, subst, inl, inr}
use Rattle.std.specs.declared.option.Option.{Option}
use Rattle.check_runs.specs.Judging.{is_bad}
use Rattle.check_runs.specs.Running.{RanCheck, IsCheckTold}
use Rattle.check_runs.proofs.Leaving.{CheckStatus, check_status, is_violation, violation_is, output_failed, output_quiet, examined_run, state_quiet}
use Rattle.session_laws.specs.config_file.Settings.{Settings}
use Rattle.cryfs_shell.specs.Clauses.{IsRefusedRun, NoFalseAlarm, KeepsTree, FaultsHappened}
use Rattle.cryfs_shell.proofs.Statuses.{IsOfOpening, opening_is_no}
use Rattle.cryfs_shell.proofs.Sessions.{IsUnreadStatus, one_unread, unread_is_no, unread_faults, unread_refusal, unread_keeps, opens_under, only_under, unopened_faults, unopened_refusal, unopened_alarm, unopened_keeps, grown}
use Rattle.fs_model.specs.Tree.{Tree}
use Rattle.session_laws.specs.block_versions.Standing.{records}
use Rattle.trial_runs.specs.line_io.Streams.{Stream}
use Rattle.check_runs.specs.mount_core.Standing.{IsKeptMarked}
use Rattle.outside.specs.Trace.{Call}
use Rattle.outside.specs.declared.keeper.Keeper.{Ghosts as KeeperGhosts}
use Rattle.session_laws.specs.run_frame.Passwords.{PasswordUnread}
use Rattle.run_status.specs.declared.ended.Ended.{Ended}
use Rattle.run_status.specs.declared.status.Status.{Status}
use Rattle.run_status.specs.declared.status.Status.TheVariants.{Usage, LongPassword, Violation, OutputFault, HostFault}
use Rattle.trial_runs.specs.session_lines.Driven.{IsUnfailed}
use Rattle.session_laws.proofs.Whole.{only_opens}
use Rattle.session_laws.specs.Openings.{AreUncalled, HasCauses}
use Rattle.session_laws.specs.Runs.{OutsideStandsFor, outside_of}
use Rattle.check_runs.specs.mount_core.Showing.{ShowsFiles}

not_bad : (bad : Bool) → (bad ≡ true → ⊥) → bad ≡ false
not_bad false calm = refl
not_bad true calm = absurd (calm refl)

-- ---- of a check that was told

module _ {V : Type 0} {K : Type 0} (trace : V → Option (List Call)) (faults : V → ℕ) (names : V → Option (List (List ℕ))) (G : KeeperGhosts K) (password : List ℕ) (output : Stream) (vault : V) (keeper : K) (ended : Ended V K)
    (t : IsCheckTold trace faults names G password output vault keeper ended) where
  pub of_check : CheckStatus ended.status
  of_check = check_status (names t.x.vault) t.x.verdict output ended.status t.told

  -- it is bad exactly where the status is a violation
  pub ends_by : is_bad t.x.verdict ≡ true → ended.status ≡ Violation
  ends_by = is_violation (names t.x.vault) t.x.verdict output ended.status t.told

  pub bad_by : ended.status ≡ Violation → is_bad t.x.verdict ≡ true
  bad_by = violation_is (names t.x.vault) t.x.verdict output ended.status t.told

  -- what may be hidden is its mark's save alone
  pub state_named : ended.status ≢ Violation → G.faults ended.keeper ≡ G.faults keeper
  state_named calm = state_quiet trace faults names G password output vault keeper ended t (not_bad (is_bad t.x.verdict) (λ bad. calm (ends_by bad)))

  pub output_named : ended.status ≢ OutputFault → ended.status ≢ Violation → IsUnfailed output
  output_named = output_quiet (names t.x.vault) t.x.verdict output ended.status t.told

-- ---- of each run

either_way : {P : Type 0} (bad : Bool) → (bad ≡ false → P) → (bad ≡ true → P) → P
either_way false calm condemned = calm refl
either_way true calm condemned = condemned refl

module _ {V : Type 0} {K : Type 0} (trace : V → Option (List Call)) (faults : V → ℕ) (names : V → Option (List (List ℕ))) (G : KeeperGhosts K) (input output : Stream) (vault : V) (keeper : K) (ended : Ended V K)
    (causes : HasCauses (outside_of trace faults G vault keeper) (outside_of trace faults G ended.vault ended.keeper) ended.status) where
  abbrev Done : Type 0
  Done = RanCheck trace faults names G input output vault keeper ended

  -- what is kept is marked, or stands for a tree
  abbrev Kept : Settings → Type 0
  Kept c = IsKeptMarked records (G.kept ended.keeper) ⊎ ((tree : Tree) × OutsideStandsFor ShowsFiles c tree (outside_of trace faults G ended.vault ended.keeper))

  -- neither where no password was read nor afterwards the status is this
  checked_is_no : (other : Status) → (IsUnreadStatus other → ⊥) → (IsOfOpening other → ⊥) → (CheckStatus other → ⊥) → Done → ended.status ≢ other
  checked_is_no other unread opening checking (inl u) e = unread_is_no ended.status other (one_unread input ended.status u.cause).unread e unread
  checked_is_no other unread opening checking (inr (password, after, has, unfailed, inl ((error, u), unwritten))) e = opening_is_no error ended.status other u.status e opening
  checked_is_no other unread opening checking (inr (password, after, has, unfailed, inr t)) e = checking (subst CheckStatus e (of_check trace faults names G password output vault keeper ended t))

  pub checked_faults : Done → FaultsHappened input output (outside_of trace faults G vault keeper) (outside_of trace faults G ended.vault ended.keeper) ended.status
  checked_faults (inl u) = unread_faults trace faults G input output vault keeper ended (PasswordUnread input) (one_unread input) u
  checked_faults (inr (password, after, has, unfailed, inl ((error, u), unwritten))) = unopened_faults trace faults G input output vault keeper ended password after has.is_next error u
  checked_faults (inr (password, after, has, unfailed, inr t)) = record {
    vault_grows = grown (faults vault) (faults ended.vault) causes.vault_grows;
    keeper_grows = grown (G.faults keeper) (G.faults ended.keeper) causes.keeper_grows;
    directory_fault = causes.directory_fault;
    state_fault = causes.state_fault;
    input_fault = λ e. absurd (subst CheckStatus e (of_check trace faults names G password output vault keeper ended t));
    output_fault = output_failed (names t.x.vault) t.x.verdict output ended.status t.told;
  }

  pub checked_refusal : Done → IsKeptMarked records (G.kept keeper) → IsRefusedRun G.kept output vault keeper ended
  checked_refusal (inl u) marked = unread_refusal trace faults G input output vault keeper ended (PasswordUnread input) (one_unread input) u
  checked_refusal (inr (password, after, has, unfailed, inl ((error, u), unwritten))) marked = unopened_refusal trace faults G input output vault keeper ended password after has.is_next error u unwritten marked
  checked_refusal (inr (password, after, has, unfailed, inr t)) marked = absurd (t.examined.unmarked marked)

  pub checked_alarm : Done → NoFalseAlarm input (outside_of trace faults G vault keeper) (outside_of trace faults G ended.vault ended.keeper) ended.status
  checked_alarm (inl u) bytes c first f honest e = unread_is_no ended.status Violation (one_unread input ended.status u.cause).unread e (λ h. h)
  checked_alarm (inr (password, after, has, unfailed, inl ((error, u), unwritten))) bytes c first f honest e = unopened_alarm trace faults G input output vault keeper ended password after has.is_next error u bytes c first f honest e
  checked_alarm (inr (password, after, has, unfailed, inr t)) bytes c first f honest e =
      let only = only_under trace faults G input output vault keeper ended password after has.is_next bytes c first f in
      let run = examined_run trace faults names G password output vault keeper ended t in
      let calm = run.calm c first (only_opens ShowsFiles password c first (outside_of trace faults G vault keeper) (outside_of trace faults G ended.vault ended.keeper) only) honest in
      absurd (cc (sym (bad_by trace faults names G password output vault keeper ended t e) ∙ calm))

  pub checked_keeps : Done → KeepsTree input (outside_of trace faults G vault keeper) (outside_of trace faults G ended.vault ended.keeper)
  checked_keeps (inl u) bytes c first f = unread_keeps trace faults G input output vault keeper ended (PasswordUnread input) (one_unread input) u bytes c first f
  checked_keeps (inr (password, after, has, unfailed, inl ((error, u), unwritten))) bytes c first f = unopened_keeps trace faults G input output vault keeper ended password after has.is_next error u bytes c first f
  checked_keeps (inr (password, after, has, unfailed, inr t)) bytes c first f =
      let opens = opens_under trace faults G input output vault keeper ended password after has.is_next bytes c first f.opened in
      let run = examined_run trace faults names G password output vault keeper ended t in
      either_way (is_bad t.x.verdict) (λ calm. inr (first, run.stands c first opens calm))
      (λ bad. elim (run.condemned c first opens bad) as (λ _. Kept c) [ inl marked ↦ inl marked | inr stands ↦ inr (first, stands) ])

  pub checked_uncalled : Done → ended.status ≡ LongPassword → AreUncalled vault keeper ended
  checked_uncalled (inl u) e = u.uncalled
  checked_uncalled (inr (password, after, has, unfailed, inl ((error, u), unwritten))) e = absurd (opening_is_no error ended.status LongPassword u.status e (λ h. h))
  checked_uncalled (inr (password, after, has, unfailed, inr t)) e = absurd (subst CheckStatus e (of_check trace faults names G password output vault keeper ended t))

  pub checked_usage : Done → ended.status ≢ Usage
  checked_usage = checked_is_no Usage (λ h. h) (λ h. h) (λ h. h)

  pub checked_host : Done → ended.status ≢ HostFault
  checked_host = checked_is_no HostFault (λ h. h) (λ h. h) (λ h. h)
