-- What holds of each run of `migrate`.
use Rattle.std.proofs.Common.{◌≡◌, ◌≢◌, ◌⊎◌, ◌+◌, ℕ, Bool, true, false, List, refl, sym, ◌∙◌, inl, inr, arith}
use Rattle.std.specs.Prelude.{Result}
use Rattle.std.specs.declared.option.Option.{Option}
use Rattle.std.specs.declared.result.Result.TheVariants.{Ok, Err}
use Rattle.trial_runs.specs.answers.Sessions.{is_violation, directory_faults, state_faults}
use Rattle.session_laws.specs.config_file.Settings.{Settings}
use Rattle.check_runs.specs.setup_runs.Migrate.{RanMigrate, IsMigrated}
use Rattle.cryfs_shell.specs.Clauses.{IsRefusedRun, NoFalseAlarm, KeepsTree, FaultsHappened}
use Rattle.cryfs_shell.proofs.Statuses.{IsOfOpening, opening_is_no, session_directory, session_state, session_input, session_output, session_is_no, calm_is_no_alarm}
use Rattle.cryfs_shell.proofs.Sessions.{one_unread, unread_is_no, unread_faults, unread_refusal, unread_keeps, opens_under, only_under, unopened_faults, unopened_refusal, unopened_alarm, unopened_keeps, rose_grown}
use Rattle.cryfs_shell.proofs.TrialEnds.{reported_cause}
use Rattle.fs_model.specs.Tree.{Tree}
use Rattle.session_laws.specs.block_versions.Standing.{records}
use Rattle.trial_runs.specs.line_io.Streams.{Stream}
use Rattle.check_runs.specs.mount_core.Standing.{IsKeptMarked}
use Rattle.check_runs.specs.mount_migrating.Migrating.{told}
use Rattle.check_runs.specs.mount_migrating.declared.error.MigrateError.{MigrateError}
use Rattle.check_runs.specs.mount_migrating.declared.error.MigrateError.TheVariants as error
use Rattle.outside.specs.Trace.{Call}
use Rattle.outside.specs.declared.keeper.Keeper.{Ghosts as KeeperGhosts}
use Rattle.session_laws.specs.run_frame.Passwords.{PasswordUnread}
use Rattle.session_laws.specs.run_frame.Statuses.{session_status}
use Rattle.run_status.specs.Statuses.{first_of}
use Rattle.run_status.specs.declared.ended.Ended.{Ended}
use Rattle.run_status.specs.declared.status.Status.{Status}
use Rattle.run_status.specs.declared.status.Status.TheVariants.{Done, Usage, LongPassword, Violation, HostFault, Memory}
use Rattle.trial_runs.specs.session_lines.declared.end.End.{End}
use Rattle.trial_runs.specs.session_lines.declared.end.End.TheVariants as line_end
use Rattle.session_laws.proofs.Whole.{only_opens}
use Rattle.session_laws.specs.Openings.{AreUncalled}
use Rattle.session_laws.specs.Runs.{OutsideStandsFor, outside_of, IsFounded, directory_fault, state_fault}
use Rattle.session_laws.specs.record_saver.declared.saver.SyncError.{SyncError}
use Rattle.session_laws.specs.record_saver.declared.saver.SyncError.TheVariants as sync_error
use Rattle.check_runs.specs.mount_core.Showing.{ShowsFiles}

-- it has no status of its own
pub or_done : (status : Status) → status ≡ first_of status Done
or_done Done = refl
or_done status = refl

-- ---- its status and its violation

alarm_is_bad : (bad : Bool) (end : End) (closing : Result Unit SyncError) → session_status bad end closing ≡ Violation → bad ≡ true
alarm_is_bad true end closing e = refl
alarm_is_bad false end closing e = absurd (calm_is_no_alarm end closing e)

bad_is_alarm : (bad : Bool) (end : End) (closing : Result Unit SyncError) → bad ≡ true → session_status bad end closing ≡ Violation
bad_is_alarm true end closing e = refl
bad_is_alarm false end closing e = absurd (cc)

-- behind want of memory closing named no fault
memory_closing : (bad : Bool) (end : End) (closing : Result Unit SyncError) → session_status bad end closing ≡ Memory → (bad ≡ false) × (directory_fault closing ≡ 0) × (state_fault closing ≡ 0)
memory_closing true end closing e = absurd (cc)
memory_closing false line_end.OutputFault closing e = absurd (cc)
memory_closing false line_end.InputFault closing e = absurd (cc)
memory_closing false line_end.Finished (Ok u) e = absurd (cc)
memory_closing false line_end.Finished (Err sync_error.Memory) e = (refl, refl, refl)
memory_closing false line_end.Finished (Err sync_error.FaultDirectory) e = absurd (cc)
memory_closing false line_end.Finished (Err sync_error.FaultState) e = absurd (cc)

pub session_host : (bad : Bool) (end : End) (closing : Result Unit SyncError) → session_status bad end closing ≡ HostFault → ⊥
session_host true end closing e = cc
session_host false line_end.OutputFault closing e = cc
session_host false line_end.InputFault closing e = cc
session_host false line_end.Finished (Ok u) e = cc
session_host false line_end.Finished (Err sync_error.Memory) e = cc
session_host false line_end.Finished (Err sync_error.FaultDirectory) e = cc
session_host false line_end.Finished (Err sync_error.FaultState) e = cc

-- of one line at most one of the two is named
one_named : (migration : Result ℕ MigrateError) → (directory_faults (told migration) ≡ 0) ⊎ (state_faults (told migration) ≡ 0)
one_named (Ok count) = inl refl
one_named (Err error.Memory) = inl refl
one_named (Err error.Spent) = inl refl
one_named (Err error.FaultDirectory) = inr refl
one_named (Err error.FaultState) = inl refl
one_named (Err (error.Violation why)) = inl refl

either_way : {P : Type 0} (bad : Bool) → (bad ≡ false → P) → (bad ≡ true → P) → P
either_way false calm condemned = calm refl
either_way true calm condemned = condemned refl

-- ---- of blocks that were written anew

module _ {V : Type 0} {K : Type 0} (trace : V → Option (List Call)) (faults : V → ℕ) (G : KeeperGhosts K) (password : List ℕ) (output : Stream) (vault : V) (keeper : K) (ended : Ended V K)
    (m : IsMigrated trace faults G password output vault keeper ended) where
  abbrev bad : Bool
  bad = is_violation (told m.migration)

  pub met_by : bad ≡ true → ended.status ≡ Violation
  met_by e = m.status ∙ bad_is_alarm bad m.end m.closing e

  pub bad_by : ended.status ≡ Violation → bad ≡ true
  bad_by e = alarm_is_bad bad m.end m.closing (sym m.status ∙ e)

  pub migrated_is_no : (other : Status) → (IsOfOpening other → ⊥) → ended.status ≡ other → (other ≡ Usage) ⊎ ((other ≡ LongPassword) ⊎ (other ≡ HostFault)) → ⊥
  migrated_is_no other opening e (inl u) = session_is_no bad m.end m.closing Done ended.status Usage tt (m.status ∙ or_done (session_status bad m.end m.closing)) (e ∙ u) (λ h. h) (λ h. h)
  migrated_is_no other opening e (inr (inl l)) = session_is_no bad m.end m.closing Done ended.status LongPassword tt (m.status ∙ or_done (session_status bad m.end m.closing)) (e ∙ l) (λ h. h) (λ h. h)
  migrated_is_no other opening e (inr (inr o)) = session_host bad m.end m.closing (sym m.status ∙ (e ∙ o))

  -- behind want of memory at most one of the two counts rose
  pub memory_named : ended.status ≡ Memory → (faults ended.vault ≡ faults vault) ⊎ (G.faults ended.keeper ≡ G.faults keeper)
  memory_named e =
      let c = memory_closing bad m.end m.closing (sym m.status ∙ e) in
      elim (one_named m.migration) as (λ _. (faults ended.vault ≡ faults vault) ⊎ (G.faults ended.keeper ≡ G.faults keeper)) [
        | inl none ↦ inl (m.leaves.directory_quiet (let d = c.1 in omega (arith, none, d)))
        | inr none ↦ inr (m.leaves.state_quiet c.0 (let s = c.2 in omega (arith, none, s)))
      ]

-- ---- of each run

module _ {V : Type 0} {K : Type 0} (trace : V → Option (List Call)) (faults : V → ℕ) (G : KeeperGhosts K) (input output : Stream) (vault : V) (keeper : K) (ended : Ended V K) where
  abbrev Migrated : Type 0
  Migrated = RanMigrate trace faults G input output vault keeper ended

  -- what is kept is marked, or stands for a tree
  abbrev Kept : Settings → Type 0
  Kept c = IsKeptMarked records (G.kept ended.keeper) ⊎ ((tree : Tree) × OutsideStandsFor ShowsFiles c tree (outside_of trace faults G ended.vault ended.keeper))

  pub migrated_faults : Migrated → FaultsHappened input output (outside_of trace faults G vault keeper) (outside_of trace faults G ended.vault ended.keeper) ended.status
  migrated_faults (inl u) = unread_faults trace faults G input output vault keeper ended (PasswordUnread input) (one_unread input) u
  migrated_faults (inr (password, after, has, unfailed, inl ((error, u), unwritten))) = unopened_faults trace faults G input output vault keeper ended password after has.is_next error u
  migrated_faults (inr (password, after, has, unfailed, inr m)) =
      let b = is_violation (told m.migration) in
      let l = m.leaves in
      let cause = reported_cause input output _ m.end m.reported in
      record {
        vault_grows = rose_grown (directory_faults (told m.migration) + directory_fault m.closing) (faults vault) (faults ended.vault) l.directory_faults_happened;
        keeper_grows = rose_grown (state_faults (told m.migration) + state_fault m.closing) (G.faults keeper) (G.faults ended.keeper) l.state_faults_happened;
        directory_fault = λ e. session_directory b m.end m.closing (directory_faults (told m.migration)) (faults vault) (faults ended.vault) (sym m.status ∙ e) l.directory_faults_happened;
        state_fault = λ e. session_state b m.end m.closing (state_faults (told m.migration)) (G.faults keeper) (G.faults ended.keeper) (sym m.status ∙ e) l.state_faults_happened;
        input_fault = λ e. session_input b m.end m.closing input output (sym m.status ∙ e) cause;
        output_fault = λ e. session_output b m.end m.closing input output (sym m.status ∙ e) cause;
      }

  pub migrated_refusal : Migrated → IsKeptMarked records (G.kept keeper) → IsRefusedRun G.kept output vault keeper ended
  migrated_refusal (inl u) marked = unread_refusal trace faults G input output vault keeper ended (PasswordUnread input) (one_unread input) u
  migrated_refusal (inr (password, after, has, unfailed, inl ((error, u), unwritten))) marked = unopened_refusal trace faults G input output vault keeper ended password after has.is_next error u unwritten marked
  migrated_refusal (inr (password, after, has, unfailed, inr m)) marked = absurd (m.leaves.unmarked marked)

  pub migrated_alarm : Migrated → NoFalseAlarm input (outside_of trace faults G vault keeper) (outside_of trace faults G ended.vault ended.keeper) ended.status
  migrated_alarm (inl u) bytes c first f honest e = unread_is_no ended.status Violation (one_unread input ended.status u.cause).unread e (λ h. h)
  migrated_alarm (inr (password, after, has, unfailed, inl ((error, u), unwritten))) bytes c first f honest e = unopened_alarm trace faults G input output vault keeper ended password after has.is_next error u bytes c first f honest e
  migrated_alarm (inr (password, after, has, unfailed, inr m)) bytes c first f honest e =
      let only = only_under trace faults G input output vault keeper ended password after has.is_next bytes c first f in
      let calm = m.leaves.run.calm c first (only_opens ShowsFiles password c first (outside_of trace faults G vault keeper) (outside_of trace faults G ended.vault ended.keeper) only) honest in
      absurd (cc (sym (bad_by trace faults G password output vault keeper ended m e) ∙ calm))

  pub migrated_keeps : Migrated → KeepsTree input (outside_of trace faults G vault keeper) (outside_of trace faults G ended.vault ended.keeper)
  migrated_keeps (inl u) bytes c first f = unread_keeps trace faults G input output vault keeper ended (PasswordUnread input) (one_unread input) u bytes c first f
  migrated_keeps (inr (password, after, has, unfailed, inl ((error, u), unwritten))) bytes c first f = unopened_keeps trace faults G input output vault keeper ended password after has.is_next error u bytes c first f
  migrated_keeps (inr (password, after, has, unfailed, inr m)) bytes c first f =
      let founded : IsFounded ShowsFiles password c first (outside_of trace faults G vault keeper) (outside_of trace faults G ended.vault ended.keeper) = record { opens = opens_under trace faults G input output vault keeper ended password after has.is_next bytes c first f.opened; unforged = f.unforged } in
      either_way (is_violation (told m.migration)) (λ calm. inr (first, m.leaves.run.stands c first founded calm))
      (λ bad. elim (m.leaves.run.condemned c first founded bad) as (λ _. Kept c) [ inl marked ↦ inl marked | inr stands ↦ inr (first, stands) ])

  pub migrated_uncalled : Migrated → ended.status ≡ LongPassword → AreUncalled vault keeper ended
  migrated_uncalled (inl u) e = u.uncalled
  migrated_uncalled (inr (password, after, has, unfailed, inl ((error, u), unwritten))) e = absurd (opening_is_no error ended.status LongPassword u.status e (λ h. h))
  migrated_uncalled (inr (password, after, has, unfailed, inr m)) e = absurd (migrated_is_no trace faults G password output vault keeper ended m LongPassword (λ h. h) e (inr (inl refl)))

  pub migrated_usage : Migrated → ended.status ≢ Usage
  migrated_usage (inl u) e = unread_is_no ended.status Usage (one_unread input ended.status u.cause).unread e (λ h. h)
  migrated_usage (inr (password, after, has, unfailed, inl ((error, u), unwritten))) e = opening_is_no error ended.status Usage u.status e (λ h. h)
  migrated_usage (inr (password, after, has, unfailed, inr m)) e = migrated_is_no trace faults G password output vault keeper ended m Usage (λ h. h) e (inl refl)

  pub migrated_host : Migrated → ended.status ≢ HostFault
  migrated_host (inl u) e = unread_is_no ended.status HostFault (one_unread input ended.status u.cause).unread e (λ h. h)
  migrated_host (inr (password, after, has, unfailed, inl ((error, u), unwritten))) e = opening_is_no error ended.status HostFault u.status e (λ h. h)
  migrated_host (inr (password, after, has, unfailed, inr m)) e = migrated_is_no trace faults G password output vault keeper ended m HostFault (λ h. h) e (inr (inr refl))
