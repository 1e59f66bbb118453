-- What holds of each run of `create`, `info` and `passwd`.
use Rattle.std.proofs.Common.{◌≡◌, ◌≢◌, ℕ, List, sym, subst, inl, inr}
use Rattle.std.specs.Prelude.{Result, IfErr}
use Rattle.std.specs.declared.option.Option.{Option}
use Rattle.std.specs.declared.result.Result.TheVariants.{Ok, Err}
use Rattle.rand_core.specs.Stream.{Stream as Chance}
use Rattle.block_id.specs.declared.id.BlockId.{BlockId}
use Rattle.check_runs.specs.setup_runs.Create.{RanCreate}
use Rattle.check_runs.specs.setup_runs.CreateText.{Reports as CreateReports, created_text}
use Rattle.check_runs.specs.setup_runs.Info.{Told}
use Rattle.check_runs.specs.setup_runs.Passwd.{RanPasswd, IsChanged}
use Rattle.check_runs.specs.setup_runs.PasswdText.{Reports as ChangeReports, changed_text}
use Rattle.check_runs.specs.setup_runs.Printing.{Printed}
use Rattle.check_runs.proofs.setup_runs_lemmas.Ending.{ends}
use Rattle.session_laws.specs.block_versions.Standing.{records}
use Rattle.trial_runs.specs.line_io.Streams.{Stream, HasFailed}
use Rattle.check_runs.specs.mount_stores.declared.error.OpenError.{OpenError}
use Rattle.check_runs.specs.mount_stores.declared.error.OpenError.TheVariants as open_error
use Rattle.check_runs.specs.mount_stores.Making.{CreateCause}
use Rattle.check_runs.specs.mount_core.Standing.{IsKeptMarked}
use Rattle.outside.specs.Trace.{Call}
use Rattle.outside.specs.declared.keeper.Keeper.{Ghosts as KeeperGhosts}
use Rattle.session_laws.specs.run_frame.Passwords.{PasswordUnread, PasswordsUnread}
use Rattle.session_laws.specs.Openings.{AreUncalled, HasCauses}
use Rattle.session_laws.specs.run_frame.Statuses.{opening_status, closing_status}
use Rattle.run_status.specs.declared.ended.Ended.{Ended}
use Rattle.run_status.specs.declared.status.Status.{Status}
use Rattle.run_status.specs.declared.status.Status.TheVariants.{Done, Usage, LongPassword, Violation, InputFault, OutputFault, HostFault}
use Rattle.scrypt_kdf.specs.Cost.{Cost}
use Rattle.session_laws.specs.Runs.{outside_of}
use Rattle.session_laws.specs.record_saver.declared.saver.SyncError.{SyncError}
use Rattle.session_laws.specs.record_saver.declared.saver.SyncError.TheVariants as sync_error
use Rattle.cryfs_shell.specs.Clauses.{IsRefusedRun, NoFalseAlarm, KeepsTree, FaultsHappened}
use Rattle.cryfs_shell.proofs.Statuses.{IsOfOpening, opening_is_no}
use Rattle.cryfs_shell.proofs.Sessions.{IsUnreadStatus, one_unread, two_unread, unread_is_no, unread_faults, unread_refusal, unread_keeps, opens_under, unopened_faults, unopened_refusal, unopened_alarm, unopened_keeps, grown}

-- of a run that knew its password, and opened or made a file system, or failed to make one
abbrev IsLate : Status → Type 0
IsLate Usage = ⊥
IsLate LongPassword = ⊥
IsLate InputFault = ⊥
IsLate Violation = ⊥
IsLate HostFault = ⊥
IsLate status = Unit {0}

-- it names the output's fault only where that failed
record IsLateEnd (output : Stream) (status : Status) : Type 0 where
  late : IsLate status
  failed : status ≡ OutputFault → HasFailed output

late_is_no : (output : Stream) (status other : Status) → IsLateEnd output status → status ≡ other → (IsLate other → ⊥) → ⊥
late_is_no output status other l e h = h (subst IsLate e l.late)

printed_late : (output : Stream) (text : List ℕ) (status : Status) → Printed output text status → IsLateEnd output status
printed_late output text Done p = record { late = tt; failed = λ e. absurd (cc) }
printed_late output text OutputFault p = record { late = tt; failed = λ e. p.1 }
printed_late output text status p = absurd p

closing_late : (output : Stream) (error : SyncError) (status : Status) → status ≡ closing_status (Err error) → IsLateEnd output status
closing_late output sync_error.Memory status e = record { late = subst IsLate (sym e) tt; failed = λ f. absurd (cc) }
closing_late output sync_error.FaultDirectory status e = record { late = subst IsLate (sym e) tt; failed = λ f. absurd (cc) }
closing_late output sync_error.FaultState status e = record { late = subst IsLate (sym e) tt; failed = λ f. absurd (cc) }

change_late : (output : Stream) (change : Result Unit SyncError) (status : Status) → ChangeReports change output status → IsLateEnd output status
change_late output (Ok u) status r = printed_late output changed_text status r
change_late output (Err error) status r = closing_late output error status r.0

module _ (kept : Option (List ℕ)) (t0 t1 : Option (List Call)) (v0 v1 k0 k1 : ℕ) where
  making_late : (output : Stream) (error : OpenError) (status : Status) → CreateCause kept t0 t1 v0 v1 k0 k1 error → status ≡ opening_status error → IsLateEnd output status
  making_late output open_error.Memory status cause e = record { late = subst IsLate (sym e) tt; failed = λ f. absurd (cc) }
  making_late output open_error.Exists status cause e = record { late = subst IsLate (sym e) tt; failed = λ f. absurd (cc) }
  making_late output open_error.FaultDirectory status cause e = record { late = subst IsLate (sym e) tt; failed = λ f. absurd (cc) }
  making_late output open_error.FaultState status cause e = record { late = subst IsLate (sym e) tt; failed = λ f. absurd (cc) }
  making_late output error status cause e = absurd cause

  made_late : (output : Stream) (made : Result BlockId OpenError) (status : Status) → CreateReports made output status → IfErr made (CreateCause kept t0 t1 v0 v1 k0 k1) → IsLateEnd output status
  made_late output (Ok id) status r cause = printed_late output (created_text id.0) status r
  made_late output (Err error) status r cause = making_late output error status cause r.0

module _ {V : Type 0} {K : Type 0} (trace : V → Option (List Call)) (faults : V → ℕ) (G : KeeperGhosts K) (input output : Stream) (vault : V) (keeper : K) (ended : Ended V K)
    (causes : HasCauses (outside_of trace faults G vault keeper) (outside_of trace faults G ended.vault ended.keeper) ended.status) where
  late_faults : IsLateEnd output ended.status → FaultsHappened input output (outside_of trace faults G vault keeper) (outside_of trace faults G ended.vault ended.keeper) ended.status
  late_faults l = record {
    vault_grows = grown (faults vault) (faults ended.vault) causes.vault_grows;
    keeper_grows = grown (G.faults keeper) (G.faults ended.keeper) causes.keeper_grows;
    directory_fault = causes.directory_fault;
    state_fault = causes.state_fault;
    input_fault = λ e. absurd (late_is_no output ended.status InputFault l e (λ h. h));
    output_fault = l.failed;
  }

  -- ---- create

  module _ (cost : Cost) (block_size : ℕ) (stream rest : Chance) where
    pub created_faults : RanCreate trace faults G cost block_size stream rest input output vault keeper ended → FaultsHappened input output (outside_of trace faults G vault keeper) (outside_of trace faults G ended.vault ended.keeper) ended.status
    created_faults (inl u) = unread_faults trace faults G input output vault keeper ended (PasswordUnread input) (one_unread input) u
    created_faults (inr (password, after, has, unfailed, c)) = late_faults (made_late (G.kept keeper) (trace vault) (trace ended.vault) (faults vault) (faults ended.vault) (G.faults keeper) (G.faults ended.keeper) output c.made ended.status c.reports c.tells.cause)

    created_status : (other : Status) → (IsLate other → ⊥) → RanCreate trace faults G cost block_size stream rest input output vault keeper ended → ended.status ≡ other → AreUncalled vault keeper ended
    created_status other h (inl u) e = u.uncalled
    created_status other h (inr (password, after, has, unfailed, c)) e =
        absurd (late_is_no output ended.status other (made_late (G.kept keeper) (trace vault) (trace ended.vault) (faults vault) (faults ended.vault) (G.faults keeper) (G.faults ended.keeper) output c.made ended.status c.reports c.tells.cause) e h)

    pub created_uncalled : RanCreate trace faults G cost block_size stream rest input output vault keeper ended → ended.status ≡ LongPassword → AreUncalled vault keeper ended
    created_uncalled c e = created_status LongPassword (λ h. h) c e

    -- neither where no password was read nor afterwards the status is this
    created_is_no : (other : Status) → (IsUnreadStatus other → ⊥) → (IsLate other → ⊥) → RanCreate trace faults G cost block_size stream rest input output vault keeper ended → ended.status ≢ other
    created_is_no other unread late (inl u) e = unread_is_no ended.status other (one_unread input ended.status u.cause).unread e unread
    created_is_no other unread late (inr (password, after, has, unfailed, c)) e =
        late_is_no output ended.status other (made_late (G.kept keeper) (trace vault) (trace ended.vault) (faults vault) (faults ended.vault) (G.faults keeper) (G.faults ended.keeper) output c.made ended.status c.reports c.tells.cause) e late

    pub created_usage : RanCreate trace faults G cost block_size stream rest input output vault keeper ended → ended.status ≢ Usage
    created_usage = created_is_no Usage (λ h. h) (λ h. h)

    pub created_alarm : RanCreate trace faults G cost block_size stream rest input output vault keeper ended → ended.status ≢ Violation
    created_alarm = created_is_no Violation (λ h. h) (λ h. h)

    pub created_host : RanCreate trace faults G cost block_size stream rest input output vault keeper ended → ended.status ≢ HostFault
    created_host = created_is_no HostFault (λ h. h) (λ h. h)

  -- ---- info

  pub told_faults : Told trace faults G input output vault keeper ended → FaultsHappened input output (outside_of trace faults G vault keeper) (outside_of trace faults G ended.vault ended.keeper) ended.status
  told_faults (inl u) = unread_faults trace faults G input output vault keeper ended (PasswordUnread input) (one_unread input) u
  told_faults (inr (password, after, has, unfailed, inl ((error, u), unwritten))) = unopened_faults trace faults G input output vault keeper ended password after has.is_next error u
  told_faults (inr (password, after, has, unfailed, inr t)) = late_faults (printed_late output _ ended.status t.printed)

  pub told_refusal : Told trace faults G input output vault keeper ended → IsKeptMarked records (G.kept keeper) → IsRefusedRun G.kept output vault keeper ended
  told_refusal (inl u) marked = unread_refusal trace faults G input output vault keeper ended (PasswordUnread input) (one_unread input) u
  told_refusal (inr (password, after, has, unfailed, inl ((error, u), unwritten))) marked = unopened_refusal trace faults G input output vault keeper ended password after has.is_next error u unwritten marked
  told_refusal (inr (password, after, has, unfailed, inr t)) marked = absurd (t.unmarked marked)

  pub told_alarm : Told trace faults G input output vault keeper ended → NoFalseAlarm input (outside_of trace faults G vault keeper) (outside_of trace faults G ended.vault ended.keeper) ended.status
  told_alarm (inl u) bytes c first f honest e = unread_is_no ended.status Violation (one_unread input ended.status u.cause).unread e (λ h. h)
  told_alarm (inr (password, after, has, unfailed, inl ((error, u), unwritten))) bytes c first f honest e = unopened_alarm trace faults G input output vault keeper ended password after has.is_next error u bytes c first f honest e
  told_alarm (inr (password, after, has, unfailed, inr t)) bytes c first f honest e = late_is_no output ended.status Violation (printed_late output _ ended.status t.printed) e (λ h. h)

  pub told_keeps : Told trace faults G input output vault keeper ended → KeepsTree input (outside_of trace faults G vault keeper) (outside_of trace faults G ended.vault ended.keeper)
  told_keeps (inl u) bytes c first f = unread_keeps trace faults G input output vault keeper ended (PasswordUnread input) (one_unread input) u bytes c first f
  told_keeps (inr (password, after, has, unfailed, inl ((error, u), unwritten))) bytes c first f = unopened_keeps trace faults G input output vault keeper ended password after has.is_next error u bytes c first f
  told_keeps (inr (password, after, has, unfailed, inr t)) bytes c first f = inr (first, t.quiet.stands c first (opens_under trace faults G input output vault keeper ended password after has.is_next bytes c first f.opened))

  pub told_uncalled : Told trace faults G input output vault keeper ended → ended.status ≡ LongPassword → AreUncalled vault keeper ended
  told_uncalled (inl u) e = u.uncalled
  told_uncalled (inr (password, after, has, unfailed, inl ((error, u), unwritten))) e = absurd (opening_is_no error ended.status LongPassword u.status e (λ h. h))
  told_uncalled (inr (password, after, has, unfailed, inr t)) e = absurd (late_is_no output ended.status LongPassword (printed_late output _ ended.status t.printed) e (λ h. h))

  told_is_no : (other : Status) → (IsUnreadStatus other → ⊥) → (IsOfOpening other → ⊥) → (IsLate other → ⊥) → Told trace faults G input output vault keeper ended → ended.status ≢ other
  told_is_no other unread opening late (inl u) e = unread_is_no ended.status other (one_unread input ended.status u.cause).unread e unread
  told_is_no other unread opening late (inr (password, after, has, unfailed, inl ((error, u), unwritten))) e = opening_is_no error ended.status other u.status e opening
  told_is_no other unread opening late (inr (password, after, has, unfailed, inr t)) e = late_is_no output ended.status other (printed_late output _ ended.status t.printed) e late

  pub told_usage : Told trace faults G input output vault keeper ended → ended.status ≢ Usage
  told_usage = told_is_no Usage (λ h. h) (λ h. h) (λ h. h)

  pub told_host : Told trace faults G input output vault keeper ended → ended.status ≢ HostFault
  told_host = told_is_no HostFault (λ h. h) (λ h. h) (λ h. h)

  -- ---- passwd

  module _ (chance left : Chance) where
    changed_late : (old new : List ℕ) → IsChanged trace faults G old new chance left output vault keeper ended → IsLateEnd output ended.status
    changed_late old new c = change_late output c.change ended.status (ends c.closing output c.told ended.status c.status c.change c.reports c.closed)

    pub changed_faults : RanPasswd trace faults G chance left input output vault keeper ended → FaultsHappened input output (outside_of trace faults G vault keeper) (outside_of trace faults G ended.vault ended.keeper) ended.status
    changed_faults (inl (u, same)) = unread_faults trace faults G input output vault keeper ended (PasswordsUnread input) (two_unread input) u
    changed_faults (inr (old, new, has, unfailed, inl ((error, u), unwritten, same))) = unopened_faults trace faults G input output vault keeper ended old has.between has.old_is_next error u
    changed_faults (inr (old, new, has, unfailed, inr c)) = late_faults (changed_late old new c)

    pub changed_refusal : RanPasswd trace faults G chance left input output vault keeper ended → IsKeptMarked records (G.kept keeper) → IsRefusedRun G.kept output vault keeper ended
    changed_refusal (inl (u, same)) marked = unread_refusal trace faults G input output vault keeper ended (PasswordsUnread input) (two_unread input) u
    changed_refusal (inr (old, new, has, unfailed, inl ((error, u), unwritten, same))) marked = unopened_refusal trace faults G input output vault keeper ended old has.between has.old_is_next error u unwritten marked
    changed_refusal (inr (old, new, has, unfailed, inr c)) marked = absurd (c.unmarked marked)

    pub changed_alarm : RanPasswd trace faults G chance left input output vault keeper ended → NoFalseAlarm input (outside_of trace faults G vault keeper) (outside_of trace faults G ended.vault ended.keeper) ended.status
    changed_alarm (inl (u, same)) bytes c first f honest e = unread_is_no ended.status Violation (two_unread input ended.status u.cause).unread e (λ h. h)
    changed_alarm (inr (old, new, has, unfailed, inl ((error, u), unwritten, same))) bytes c first f honest e = unopened_alarm trace faults G input output vault keeper ended old has.between has.old_is_next error u bytes c first f honest e
    changed_alarm (inr (old, new, has, unfailed, inr c)) bytes d first f honest e = late_is_no output ended.status Violation (changed_late old new c) e (λ h. h)

    pub changed_keeps : RanPasswd trace faults G chance left input output vault keeper ended → KeepsTree input (outside_of trace faults G vault keeper) (outside_of trace faults G ended.vault ended.keeper)
    changed_keeps (inl (u, same)) bytes c first f = unread_keeps trace faults G input output vault keeper ended (PasswordsUnread input) (two_unread input) u bytes c first f
    changed_keeps (inr (old, new, has, unfailed, inl ((error, u), unwritten, same))) bytes c first f = unopened_keeps trace faults G input output vault keeper ended old has.between has.old_is_next error u bytes c first f
    changed_keeps (inr (old, new, has, unfailed, inr c)) bytes d first f = inr (first, c.quiet.stands d first (opens_under trace faults G input output vault keeper ended old has.between has.old_is_next bytes d first f.opened))

    pub changed_uncalled : RanPasswd trace faults G chance left input output vault keeper ended → ended.status ≡ LongPassword → AreUncalled vault keeper ended
    changed_uncalled (inl (u, same)) e = u.uncalled
    changed_uncalled (inr (old, new, has, unfailed, inl ((error, u), unwritten, same))) e = absurd (opening_is_no error ended.status LongPassword u.status e (λ h. h))
    changed_uncalled (inr (old, new, has, unfailed, inr c)) e = absurd (late_is_no output ended.status LongPassword (changed_late old new c) e (λ h. h))

    changed_is_no : (other : Status) → (IsUnreadStatus other → ⊥) → (IsOfOpening other → ⊥) → (IsLate other → ⊥) → RanPasswd trace faults G chance left input output vault keeper ended → ended.status ≢ other
    changed_is_no other unread opening late (inl (u, same)) e = unread_is_no ended.status other (two_unread input ended.status u.cause).unread e unread
    changed_is_no other unread opening late (inr (old, new, has, unfailed, inl ((error, u), unwritten, same))) e = opening_is_no error ended.status other u.status e opening
    changed_is_no other unread opening late (inr (old, new, has, unfailed, inr c)) e = late_is_no output ended.status other (changed_late old new c) e late

    pub changed_usage : RanPasswd trace faults G chance left input output vault keeper ended → ended.status ≢ Usage
    changed_usage = changed_is_no Usage (λ h. h) (λ h. h) (λ h. h)

    pub changed_host : RanPasswd trace faults G chance left input output vault keeper ended → ended.status ≢ HostFault
    changed_host = changed_is_no HostFault (λ h. h) (λ h. h) (λ h. h)
