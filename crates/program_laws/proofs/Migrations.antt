-- Where nothing lies and nothing fails, `migrate` writes all blocks anew, or finds no memory or no further version.
use Rattle.std.proofs.Common.{◌≡◌, ◌∙◌, ◌+◌, ℕ, false, List, refl, subst, inl, inr, arith}
use Rattle.std.specs.Prelude.{Result, IfOk, IsOk, OnOk}
use Rattle.std.specs.declared.option.Option.{Option}
use Rattle.std.specs.declared.result.Result.TheVariants.{Ok, Err}
use Rattle.copy_file.specs.answers.Sessions.{is_violation, directory_faults, state_faults}
use Rattle.session_laws.specs.config_file.Settings.{Settings}
use Rattle.check_runs.specs.setup_runs.Migrate.{RanMigrate, IsMigrated, IsCount, IsSpentIn}
use Rattle.fs_model.specs.Tree.{Tree}
use Rattle.copy_file.specs.line_io.Lines.{first_line}
use Rattle.copy_file.specs.line_io.Streams.{Stream}
use Rattle.check_runs.proofs.mount_lemmas.Reading.{represents_told}
use Rattle.check_runs.specs.mount_calls.Migrating.{KeepsNewest}
use Rattle.check_runs.specs.mount_core.Answers.{OnSpent}
use Rattle.check_runs.specs.mount_migrating.Migrating.{told}
use Rattle.check_runs.specs.mount_migrating.declared.error.MigrateError.{MigrateError}
use Rattle.check_runs.specs.mount_migrating.declared.error.MigrateError.TheVariants as error
use Rattle.check_runs.specs.mount_stores.Identities.{HasEmptyList}
use Rattle.outside.specs.Causes.{RoseBy}
use Rattle.outside.specs.Trace.{Call}
use Rattle.outside.specs.declared.keeper.Keeper.{Ghosts as KeeperGhosts}
use Rattle.shell_runs.specs.run_frame.Statuses.{session_status}
use Rattle.run_status.specs.declared.ended.Ended.{Ended}
use Rattle.copy_file.specs.session_lines.Driven.{Reported}
use Rattle.copy_file.specs.session_lines.declared.end.End.{End}
use Rattle.copy_file.specs.session_lines.declared.end.End.TheVariants.{Finished, InputFault, OutputFault}
use Rattle.session_laws.specs.Openings.{IsUnopened}
use Rattle.session_laws.specs.Runs.{Outside, outside_of, OpensTo, IsFounded, directory_fault, state_fault}
use Rattle.shell_runs.specs.record_saver.declared.saver.SyncError.{SyncError}
use Rattle.shell_runs.specs.record_saver.declared.saver.SyncError.TheVariants as sync_error
use Rattle.check_runs.specs.setup_runs.MigrateText.{migrated_text}
use Rattle.check_runs.specs.mount_core.Showing.{ShowsFiles}
use Rattle.program_laws.specs.Migrations.{Migrates}
use Rattle.program_laws.specs.Premises.{OfRun, IsUntroubled, Finds, Leaves}
use Rattle.program_laws.specs.Sessions.{FindsNoMemory}
use Rattle.program_laws.specs.Setups.{IsDone}
use Rattle.program_laws.proofs.Checks.{untold}
use Rattle.program_laws.proofs.Configuration.{opens_to}
use Rattle.program_laws.proofs.Opening.{unread, unopened}
use Rattle.program_laws.proofs.Passwords.{password_is}

module _ {V : Type 0} {K : Type 0} (trace : V → Option (List Call)) (faults : V → ℕ) (G : KeeperGhosts K) (input output : Stream) (vault : V) (keeper : K) (ended : Ended V K) (bytes : List ℕ)
    (quiet : OfRun trace faults G vault keeper ended (IsUntroubled input output)) (c : Settings) (tree : Tree) (finds : Finds input bytes c tree (outside_of trace faults G vault keeper)) where
  abbrev Before : Outside
  Before = outside_of trace faults G vault keeper

  abbrev After : Outside
  After = outside_of trace faults G ended.vault ended.keeper

  abbrev Outcome : Type 0
  Outcome = Migrates output (first_line bytes) c tree Before After ended.status

  found : OpensTo ShowsFiles (first_line bytes) c tree Before After
  found = opens_to input output bytes c tree Before After finds quiet

  module _ (m : IsMigrated trace faults G (first_line bytes) output vault keeper ended) where
    calm : is_violation (told m.migration) ≡ false
    calm = m.leaves.run.calm c tree found quiet.honest

    founded : IsFounded ShowsFiles (first_line bytes) c tree Before After
    founded = record { opens = found; unforged = m.leaves.run.unforged c tree found quiet.honest }

    leaves : Leaves (first_line bytes) c tree After
    leaves = record {
      stands = m.leaves.run.stands c tree founded calm;
      opens = m.leaves.opens (first_line bytes) c (represents_told ShowsFiles (G.kept keeper) (trace vault) c tree finds.stands) finds.opens;
    }

    status_is : (end : End) → m.end ≡ end → (closing : Result Unit SyncError) → m.closing ≡ closing → ended.status ≡ session_status false end closing
    status_is end ends closing closes =
        m.status ∙ (λ i. session_status (calm i) (ends i) (closes i))

    emptied : (closing : Result Unit SyncError) → m.closing ≡ closing → IsOk closing → HasEmptyList (G.kept ended.keeper)
    emptied (Ok u) is ok = subst (λ (r : Result Unit SyncError). OnOk r (HasEmptyList (G.kept ended.keeper))) is (m.closed.closes.emptied (m.migrates.violated ∙ calm))
    emptied (Err e) is ok = absurd (cc)

    -- closing names no fault
    no_directory : m.closing ≡ Err sync_error.FaultDirectory → ⊥
    no_directory is =
        let rose = subst (λ (r : Result Unit SyncError). RoseBy (directory_faults (told m.migration) + directory_fault r) (faults vault) (faults ended.vault)) is m.leaves.directory_faults_happened in
        quiet.directory_unfailed (omega (arith, rose))

    no_state : m.closing ≡ Err sync_error.FaultState → ⊥
    no_state is =
        let rose = subst (λ (r : Result Unit SyncError). RoseBy (state_faults (told m.migration) + state_fault r) (G.faults keeper) (G.faults ended.keeper)) is m.leaves.state_faults_happened in
        quiet.state_unfailed (omega (arith, rose))

    -- the line is written whole
    whole : (end : End) → m.end ≡ end → (text : List ℕ) → Reported output text end → (closing : Result Unit SyncError) → m.closing ≡ closing → IsOk closing → IsDone output text (first_line bytes) c tree After ended.status
    whole Finished ends text reported (Ok u) closes ok =
        record { ends = status_is Finished ends (Ok u) closes; written = reported.0; leaves = leaves; emptied = emptied (Ok u) closes refl }
    whole Finished ends text reported (Err e) closes ok = absurd (cc)
    whole InputFault ends text reported closing closes ok = absurd reported
    whole OutputFault ends text reported closing closes ok = absurd (quiet.output_unfailed reported.1)

    -- closing went well, or found no memory
    either : (end : End) → m.end ≡ end → (text : List ℕ) → Reported output text end → (closing : Result Unit SyncError) → m.closing ≡ closing → (IsDone output text (first_line bytes) c tree After ended.status → Outcome) → Outcome
    either end ends text reported (Ok u) closes done = done (whole end ends text reported (Ok u) closes refl)
    either Finished ends text reported (Err sync_error.Memory) closes done = inr (inr (inr (record { ends = status_is Finished ends (Err sync_error.Memory) closes; leaves = leaves })))
    either InputFault ends text reported (Err sync_error.Memory) closes done = absurd reported
    either OutputFault ends text reported (Err sync_error.Memory) closes done = absurd (quiet.output_unfailed reported.1)
    either end ends text reported (Err sync_error.FaultDirectory) closes done = absurd (no_directory closes)
    either end ends text reported (Err sync_error.FaultState) closes done = absurd (no_state closes)

    by_answer : (migration : Result ℕ MigrateError) → is_violation (told migration) ≡ false → IfOk migration (IsCount m.begun.attached.state) → OnOk migration (KeepsNewest (G.kept ended.keeper)) → OnSpent (told migration) (IsSpentIn m.begun.attached.state)
        → RoseBy (directory_faults (told migration) + directory_fault m.closing) (faults vault) (faults ended.vault) → RoseBy (state_faults (told migration) + state_fault m.closing) (G.faults keeper) (G.faults ended.keeper)
        → Reported output (migrated_text migration) m.end → Outcome
    by_answer (Ok count) fine counts newest spent directory state reported =
        either m.end refl (migrated_text (Ok count)) reported m.closing refl (λ done. inl (record {
          state = m.begun.attached.state;
          list = m.begun.attached.list;
          loaded = m.begun.attached.loaded;
          count = count;
          counts = counts;
          newest = newest;
          done = done;
        }))
    by_answer (Err error.Memory) fine counts newest spent directory state reported = either m.end refl _ reported m.closing refl (λ done. inr (inl done))
    by_answer (Err error.Spent) fine counts newest spent directory state reported =
        either m.end refl _ reported m.closing refl (λ done. inr (inr (inl (record {
          state = m.begun.attached.state;
          list = m.begun.attached.list;
          loaded = m.begun.attached.loaded;
          spent = spent;
          done = done;
        }))))
    by_answer (Err error.FaultDirectory) fine counts newest spent directory state reported = absurd (quiet.directory_unfailed (omega (arith, directory)))
    by_answer (Err error.FaultState) fine counts newest spent directory state reported = absurd (quiet.state_unfailed (omega (arith, state)))
    by_answer (Err (error.Violation why)) fine counts newest spent directory state reported = absurd (cc)

    pub migrates : Outcome
    migrates = by_answer m.migration calm m.leaves.count m.leaves.newest m.leaves.spent m.leaves.directory_faults_happened m.leaves.state_faults_happened m.reported

  no_memory : FindsNoMemory output (first_line bytes) c tree After ended.status → Outcome
  no_memory f = inr (inr (inr (untold output (first_line bytes) c tree After ended.status f)))

  pub migrate : RanMigrate trace faults G input output vault keeper ended → Outcome
  migrate (inl u) = no_memory (unread trace faults G input output vault keeper ended bytes c tree finds quiet u)
  migrate (inr (password, after, has, unfailed, inl ((error, u), unwritten))) =
      let is = password_is input.old bytes password after finds.told has.is_next in
      no_memory (unopened trace faults G input output vault keeper ended bytes c tree finds quiet error (subst (λ x. IsUnopened trace faults G x vault keeper ended error) is u) unwritten)
  migrate (inr (password, after, has, unfailed, inr m)) =
      migrates (subst (λ x. IsMigrated trace faults G x output vault keeper ended) (password_is input.old bytes password after finds.told has.is_next) m)
