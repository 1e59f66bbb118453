-- What `run` promises of words of a form, by what it did.
use Rattle.std.proofs.Common.{◌≡◌, ◌≤◌, ℕ, true, false, List, sym, ap, subst, ◌∙◌}
use Rattle.std.specs.declared.option.Option.{Option}
use Rattle.std.specs.declared.option.Option.TheVariants.{Some}
use Rattle.fs_model.specs.Instant.{Instant}
use Rattle.session_laws.specs.block_versions.Standing.{records}
use Rattle.check_runs.specs.mount_core.Standing.{IsKeptMarked}
use Rattle.outside.specs.Trace.{Call}
use Rattle.outside.specs.declared.keeper.Keeper.{Ghosts as KeeperGhosts}
use Rattle.run_status.specs.declared.ended.Ended.{Ended}
use Rattle.session_laws.specs.Drawing.{DrawsAs}
use Rattle.session_laws.specs.Runs.{outside_of}
use Rattle.program_words.specs.declared.form.Form.{Form}
use Rattle.program_words.specs.Forms.{form_of}
use Rattle.cryfs_shell.specs.Clauses.{IsRefusedRun, NoFalseAlarm, KeepsTree, FaultsNamed, TellsFaults, StatusSays, Spares}
use Rattle.cryfs_shell.specs.Doing.{Did, IsCaused}
use Rattle.cryfs_shell.specs.History.{HasHistory}
use Rattle.cryfs_shell.specs.Kinds.{is_session, is_migration, is_look, heeds_mark, opens, draws, copies, seals}
use Rattle.cryfs_shell.specs.Streams.{Streams}
use Rattle.cryfs_shell.proofs.Doing.{the_form, doing_faults, doing_refusal, doing_alarm, doing_keeps, doing_emptied, doing_uncalled, doing_usage, doing_host}
use Rattle.cryfs_shell.proofs.CallRuns.{other_form, doing_history}
use Rattle.cryfs_shell.proofs.Naming.{doing_named, doing_streams}

module _ {V : Type 0} {K : Type 0} (trace : V → Option (List Call)) (faults : V → ℕ) (names : V → Option (List (List ℕ))) (G : KeeperGhosts K) (words : List (List ℕ)) (now : Instant) (s : Streams) (vault : V) (keeper : K) (ended : Ended V K)
    (form : Form) (is : ◌≡◌ {A = Option Form} (Some form) (form_of words)) (did : Did trace faults names G words now s vault keeper ended (Some form))
    (caused : IsCaused (outside_of trace faults G vault keeper) (outside_of trace faults G ended.vault ended.keeper) ended.status form) where
  pub asked_did : Did trace faults names G words now s vault keeper ended (form_of words)
  asked_did = subst (λ (asked : Option Form). Did trace faults names G words now s vault keeper ended asked) is did

  pub asked_refusal : heeds_mark (form_of words) ≡ true → IsKeptMarked records (G.kept keeper) → IsRefusedRun G.kept s.output vault keeper ended
  asked_refusal e marked = doing_refusal trace faults names G words now s vault keeper ended form (ap heeds_mark is ∙ e) did caused marked

  pub asked_alarm : is_look (form_of words) ≡ false → NoFalseAlarm s.input (outside_of trace faults G vault keeper) (outside_of trace faults G ended.vault ended.keeper) ended.status
  asked_alarm e = doing_alarm trace faults names G words now s vault keeper ended form (ap is_look is ∙ e) did caused

  pub asked_keeps : opens (form_of words) ≡ true → KeepsTree s.input (outside_of trace faults G vault keeper) (outside_of trace faults G ended.vault ended.keeper)
  asked_keeps e = doing_keeps trace faults names G words now s vault keeper ended form (ap opens is ∙ e) did caused

  pub asked_faults : s.input.faults ≤ s.input.risen → s.output.faults ≤ s.output.risen → s.host.faults ≤ s.host.risen
      → TellsFaults (form_of words) s (outside_of trace faults G vault keeper) (outside_of trace faults G ended.vault ended.keeper) ended.status
  asked_faults input_grows output_grows host_grows = record {
    input_grows = input_grows;
    output_grows = output_grows;
    faults_happened = doing_faults trace faults names G words now s vault keeper ended form did caused;
    host_faults_happened = record { grows = host_grows; host_fault = doing_host trace faults names G words now s vault keeper ended form did caused };
    faults_named = λ e. subst (λ (asked : Option Form). FaultsNamed asked (outside_of trace faults G vault keeper) (outside_of trace faults G ended.vault ended.keeper) ended.status) is
        (doing_named trace faults names G words now s vault keeper ended form (ap is_session is ∙ e) did);
    stream_faults_named = doing_streams trace faults names G words now s vault keeper ended form did;
  }

  pub asked_statuses : StatusSays trace faults G (form_of words) vault keeper ended
  asked_statuses = record {
    usage = λ e. absurd (doing_usage trace faults names G words now s vault keeper ended form did caused e);
    uncalled = doing_uncalled trace faults names G words now s vault keeper ended form did caused;
    done = λ q e. doing_emptied trace faults names G words now s vault keeper ended form (ap is_session is ∙ q) did e;
  }

  pub asked_spares : {F : Type 0} (old new : F) → (copies (Some form) ≡ false → new ≡ old) → (draws (Some form) ≡ false → s.left ≡ s.chance)
      → (seals (Some form) ≡ true → DrawsAs (is_migration (Some form)) s.chance s.left (outside_of trace faults G vault keeper) (outside_of trace faults G ended.vault ended.keeper))
      → Spares (form_of words) s (outside_of trace faults G vault keeper) (outside_of trace faults G ended.vault ended.keeper) old new
  asked_spares old new unhosted undrawn drawn = record {
    unhosted = λ e. unhosted (ap copies is ∙ e);
    undrawn = λ e. undrawn (ap draws is ∙ e);
    drawn = λ e. subst (λ (asked : Option Form). DrawsAs (is_migration asked) s.chance s.left (outside_of trace faults G vault keeper) (outside_of trace faults G ended.vault ended.keeper)) is (drawn (ap seals is ∙ e));
  }

  pub asked_history : HasHistory words now s (outside_of trace faults G vault keeper) (outside_of trace faults G ended.vault ended.keeper) ended.status
  asked_history other e uncreated =
      doing_history trace faults names G words now s vault keeper ended other (other_form words other e uncreated)
      (subst (λ (f : Form). Did trace faults names G words now s vault keeper ended (Some f)) (the_form (form_of words) form other (sym is) e) did)
