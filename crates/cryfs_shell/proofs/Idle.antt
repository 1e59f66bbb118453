-- A run that did nothing: its words are of no form, or memory was refused while they were read.
use Rattle.std.proofs.Common.{◌≡◌, ◌≢◌, ℕ, true, List, sym, ap, subst, inl, inr}
use Rattle.std.specs.declared.option.Option.{Option}
use Rattle.std.specs.declared.option.Option.TheVariants.{None, Some}
use Rattle.fs_model.specs.Instant.{Instant}
use Rattle.trial_runs.specs.line_io.Streams.{Untouched}
use Rattle.outside.specs.Trace.{Call}
use Rattle.outside.specs.declared.keeper.Keeper.{Ghosts as KeeperGhosts}
use Rattle.session_laws.specs.run_frame.Passwords.{PasswordUnread, PasswordsUnread}
use Rattle.run_status.specs.declared.ended.Ended.{Ended}
use Rattle.run_status.specs.declared.status.Status.{Status}
use Rattle.run_status.specs.declared.status.Status.TheVariants.{Done, Usage, Violation, DirectoryFault, StateFault, InputFault, OutputFault, Memory, HostFault}
use Rattle.session_laws.specs.Openings.{AreUncalled, IsUnread}
use Rattle.session_laws.specs.Runs.{outside_of}
use Rattle.program_words.specs.declared.form.Form.{Form}
use Rattle.program_words.specs.declared.form.Form.TheVariants.{Trial, TrialGenerate, Create, Info, Passwd, Migrate, Shell, Generate, Command, Import, Export, ImportTimes, ExportTimes, Put, Get, Check, Survey, Look}
use Rattle.program_words.specs.Forms.{takes_memory}
use Rattle.cryfs_shell.specs.Clauses.{IsRefusingStatus, IsRefusedRun, NoFalseAlarm, KeepsTree, TellsFaults, StatusSays}
use Rattle.cryfs_shell.specs.Doing.{Did}
use Rattle.cryfs_shell.specs.History.{Comes, Judges, Meets, HasHistory}
use Rattle.copy_runs.specs.shell_runs.Hosts.{IsStill}
use Rattle.cryfs_shell.specs.Kinds.{is_look}
use Rattle.cryfs_shell.specs.Streams.{Streams}
use Rattle.cryfs_shell.proofs.Looks.{uncalled_looks}
use Rattle.cryfs_shell.proofs.CallRuns.{idly}
use Rattle.cryfs_shell.proofs.Sessions.{one_unread, unread_keeps, stays_grown}
use Rattle.block_id.proofs.Conditions.{no_fewer}

-- a status of a run that did nothing
abbrev pub IsIdle : Status → Type 0
IsIdle Usage = Unit {0}
IsIdle Memory = Unit {0}
IsIdle status = ⊥

idle_is_no : (status other : Status) → IsIdle status → (IsIdle other → ⊥) → status ≢ other
idle_is_no status other idle not e = not (subst IsIdle e idle)

module _ {V : Type 0} {K : Type 0} (trace : V → Option (List Call)) (faults : V → ℕ) (names : V → Option (List (List ℕ))) (G : KeeperGhosts K) (words : List (List ℕ)) (now : Instant) (s : Streams) (vault : V) (keeper : K) (ended : Ended V K)
    (unread : Untouched s.input) (unwritten : Untouched s.output) (still : IsStill s.host) (undrawn : s.left ≡ s.chance) (uncalled : AreUncalled vault keeper ended) (idle : IsIdle ended.status) where
  pub idle_alarm : NoFalseAlarm s.input (outside_of trace faults G vault keeper) (outside_of trace faults G ended.vault ended.keeper) ended.status
  idle_alarm bytes c first f honest = idle_is_no ended.status Violation idle (λ h. h)

  pub idle_faults : (asked : Option Form) → TellsFaults asked s (outside_of trace faults G vault keeper) (outside_of trace faults G ended.vault ended.keeper) ended.status
  idle_faults asked = record {
    input_grows = no_fewer s.input.faults s.input.risen unread.1;
    output_grows = no_fewer s.output.faults s.output.risen unwritten.1;
    faults_happened = record {
      vault_grows = stays_grown (faults vault) (faults ended.vault) (ap faults uncalled.same_vault);
      keeper_grows = stays_grown (G.faults keeper) (G.faults ended.keeper) (ap G.faults uncalled.same_keeper);
      directory_fault = λ e. absurd (idle_is_no ended.status DirectoryFault idle (λ h. h) e);
      state_fault = λ e. absurd (idle_is_no ended.status StateFault idle (λ h. h) e);
      input_fault = λ e. absurd (idle_is_no ended.status InputFault idle (λ h. h) e);
      output_fault = λ e. absurd (idle_is_no ended.status OutputFault idle (λ h. h) e);
    };
    host_faults_happened = record {
      grows = no_fewer s.host.faults s.host.risen still.quiet;
      host_fault = λ e. absurd (idle_is_no ended.status HostFault idle (λ h. h) e);
    };
    faults_named = λ _. record {
      directory_quiet = λ _ _. ap faults uncalled.same_vault;
      state_quiet = λ _ _. ap G.faults uncalled.same_keeper;
      memory = λ _. inl (ap faults uncalled.same_vault);
    };
    stream_faults_named = record { input_quiet = λ _ _ _. unread.1; output_quiet = λ _ _. unwritten.1 };
  }

  pub idle_statuses : (asked : Option Form) → (ended.status ≡ Usage → asked ≡ None) → StatusSays trace faults G asked vault keeper ended
  idle_statuses asked usage = record { usage = usage; uncalled = λ e. uncalled; done = λ q e. absurd (idle_is_no ended.status Done idle (λ h. h) e) }

  pub idle_history : HasHistory words now s (outside_of trace faults G vault keeper) (outside_of trace faults G ended.vault ended.keeper) ended.status
  idle_history form e other = idly trace faults G s.input (Comes words now s (Some form)) (Judges (Some form) ended.status) (Meets (Some form) ended.status) (is_look (Some form) ≡ true) vault keeper ended uncalled

  -- ---- where memory was refused

  module _ (m : ended.status ≡ Memory) where
    one : IsUnread (PasswordUnread s.input) s.output vault keeper ended
    one = record { cause = subst (PasswordUnread s.input) (sym m) unread; uncalled = uncalled; unwritten = unwritten }

    two : IsUnread (PasswordsUnread s.input) s.output vault keeper ended
    two = record { cause = subst (PasswordsUnread s.input) (sym m) unread; uncalled = uncalled; unwritten = unwritten }

    pub memory_did : takes_memory words ≡ true → (asked : Option Form) → Did trace faults names G words now s vault keeper ended asked
    memory_did takes None = (inr (takes, m), unread, unwritten, uncalled, undrawn)
    memory_did takes (Some Trial) = (inl (m, unread, unwritten), uncalled)
    memory_did takes (Some (TrialGenerate count)) = (inl (m, unwritten), unread, uncalled)
    memory_did takes (Some (Create options)) = inl one
    memory_did takes (Some Info) = inl one
    memory_did takes (Some Passwd) = inl (two, undrawn)
    memory_did takes (Some Migrate) = inl one
    memory_did takes (Some Shell) = inl one
    memory_did takes (Some (Generate count)) = inl one
    memory_did takes (Some Command) = inl one
    memory_did takes (Some (Import path)) = (inl one, inl still)
    memory_did takes (Some (Export path)) = (inl one, inl still)
    memory_did takes (Some (ImportTimes path)) = (inl one, inl still)
    memory_did takes (Some (ExportTimes path)) = (inl one, inl still)
    memory_did takes (Some (Put path)) = inl one
    memory_did takes (Some (Get path)) = inl one
    memory_did takes (Some Check) = inl one
    memory_did takes (Some Survey) = inl one
    memory_did takes (Some Look) = record { ran = inl one; looked = uncalled_looks trace faults G vault keeper ended uncalled; same_keeper = uncalled.same_keeper }

    pub memory_refusal : IsRefusedRun G.kept s.output vault keeper ended
    memory_refusal = record { status = subst IsRefusingStatus (sym m) tt; uncalled = uncalled.same_vault; stays = ap G.kept uncalled.same_keeper; unwritten = unwritten }

    pub memory_keeps : KeepsTree s.input (outside_of trace faults G vault keeper) (outside_of trace faults G ended.vault ended.keeper)
    memory_keeps = unread_keeps trace faults G s.input s.output vault keeper ended (PasswordUnread s.input) (one_unread s.input) one
