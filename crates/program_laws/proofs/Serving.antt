-- Where nothing lies and nothing fails, a session that was opened is complete.
use Rattle.std.proofs.Common.{◌≡◌, ◌≢◌, ◌⊎◌, ◌∙◌, ◌+◌, ℕ, false, List, [], ◌∷◌, zero, suc, refl, sym, ap, subst, inl, inr, arith}
use Rattle.std.specs.Prelude.{Result, OnOk}
use Rattle.std.specs.declared.option.Option.{Option}
use Rattle.std.specs.declared.result.Result.TheVariants.{Ok, Err}
use Rattle.copy_file.specs.answers.Sessions.{Exchange, IsKeptPoint, is_violation, is_refused, violated, directory_faults, state_faults, all_directory_faults, all_state_faults}
use Rattle.copy_file.specs.answers.declared.answer.Answer.{Answer}
use Rattle.copy_file.specs.answers.declared.answer.Answer.TheVariants.{Reply as Replied, Memory as NoMemory, Spent, FaultDirectory, FaultState, Violation, Refused}
use Rattle.session_laws.specs.config_file.Settings.{Settings}
use Rattle.copy_file.specs.copy_laws.declared.copied.Totals.{Totals}
use Rattle.copy_file.specs.copy_laws.Questions.{Question}
use Rattle.copy_file.specs.copy_sessions.Coming.{ComesImport, ComesExport}
use Rattle.copy_file.specs.Coming.{IsPutTold, IsGetEnd, ComesPut, ComesGet}
use Rattle.copy_file.specs.Getting.{IsGet}
use Rattle.copy_file.specs.Putting.{InputBy}
use Rattle.fs_model.specs.Instant.{Instant}
use Rattle.fs_model.specs.Tree.{Tree}
use Rattle.copy_file.specs.host_folder.Folders.{HostPath, HostTree}
use Rattle.copy_file.specs.line_io.Lines.{first_line}
use Rattle.copy_file.specs.line_io.Streams.{Stream, HasFailed, TookMost}
use Rattle.check_runs.proofs.mount_lemmas.Reading.{represents_told}
use Rattle.outside.specs.Causes.{RoseBy}
use Rattle.outside.specs.Trace.{Call}
use Rattle.outside.specs.declared.keeper.Keeper.{Ghosts as KeeperGhosts}
use Rattle.shell_runs.specs.run_frame.Passwords.{IsNextPassword}
use Rattle.session_laws.specs.Openings.{IsUnopened}
use Rattle.shell_runs.specs.run_frame.Statuses.{closing_status, session_status}
use Rattle.copy_file.specs.copy_row.declared.stop.Stop.{Stop}
use Rattle.copy_file.specs.copy_row.declared.stop.Stop.TheVariants as stop
use Rattle.run_status.specs.declared.ended.Ended.{Ended}
use Rattle.run_status.specs.Statuses.{first_of}
use Rattle.run_status.specs.declared.status.Status.{Status}
use Rattle.run_status.specs.declared.status.Status.TheVariants as status
use Rattle.copy_file.specs.session_lines.Driven.{Reported}
use Rattle.copy_file.specs.session_lines.declared.end.End.{End}
use Rattle.copy_file.specs.session_lines.declared.end.End.TheVariants.{Finished, InputFault, OutputFault}
use Rattle.session_laws.specs.Runs.{Outside, outside_of, OutsideStandsFor, AreCalm, directory_fault, state_fault}
use Rattle.session_laws.proofs.Whole.{unviolated}
use Rattle.shell_runs.specs.record_saver.declared.saver.SyncError.{SyncError}
use Rattle.shell_runs.specs.record_saver.declared.saver.SyncError.TheVariants as sync_error
use Rattle.shell_runs.specs.Sessions.{Session, IsServed, ComesShell, ComesGenerated, ComesCommand}
use Rattle.check_runs.specs.mount_core.Showing.{ShowsFiles}
use Rattle.program_laws.specs.Premises.{OfRun, IsUntroubled, Finds}
use Rattle.program_laws.specs.Sessions.{IsFaultless, AreFaultless, IsComplete, FindsNoMemory}
use Rattle.program_laws.proofs.Configuration.{opens_to}
use Rattle.program_laws.proofs.Opening.{unread, unopened}
use Rattle.program_laws.proofs.Passwords.{password_is}

-- ---- how the lines ended

reported : (output : Stream) (text : List ℕ) (end : End) → ¬ HasFailed output → Reported output text end → end ≡ Finished
reported output text Finished quiet r = refl
reported output text InputFault quiet r = absurd r
reported output text OutputFault quiet r = absurd (quiet r.1)

-- lines that came so come to their end
abbrev pub ComesToEnd : (Stream → Stream → Option (List ℕ) → End → Status → List Exchange → Type 0) → Type 0
ComesToEnd Comes = (input output : Stream) (script : Option (List ℕ)) (end : End) (own : Status) (es : List Exchange) → ¬ HasFailed input → ¬ HasFailed output → ¬ TookMost 0 input → Comes input output script end own es → end ≡ Finished

pub shell_ends : (now : Instant) → ComesToEnd (ComesShell now)
shell_ends now input output script Finished own es source sink few came = refl
shell_ends now input output script InputFault own es source sink few came = absurd (elim came.1.0.cause as (λ _. ⊥) [ inl failed ↦ source failed | inr most ↦ few most ])
shell_ends now input output script OutputFault own es source sink few came = absurd (sink came.1.0.cause)

pub generated_ends : (now : Instant) (count : ℕ) → ComesToEnd (ComesGenerated now count)
generated_ends now count input output script end own es source sink few came = reported output _ end sink came.0.0.3

pub command_ends : (now : Instant) (line : List ℕ) → ComesToEnd (ComesCommand now line)
command_ends now line input output script end own es source sink few came = reported output _ end sink came.0.0.2

pub import_ends : (now : Instant) (folder : Option HostTree) (faults risen : ℕ) (target : HostPath) → ComesToEnd (ComesImport now folder faults risen target)
import_ends now folder faults risen target input output script end own es source sink few came = reported output _ end sink came.1.told.written

pub export_ends : (now : Instant) (before after : Option HostTree) (faults risen : ℕ) (from : HostPath) → ComesToEnd (ComesExport now before after faults risen from)
export_ends now before after faults risen from input output script end own es source sink few came = reported output _ end sink came.1.told.written

put_by : (path : HostPath) (put : Result Totals Stop) (kept : Option Answer) (input output : Stream) (end : End) (own : Status) → ¬ HasFailed input → ¬ HasFailed output → ¬ TookMost 0 input → InputBy 0 input put → IsPutTold put path kept output end own
    → end ≡ Finished
put_by path (Ok totals) kept input output end own source sink few used told = reported output _ end sink told.written
put_by path (Err stop.Memory) kept input output end own source sink few used told = reported output _ end sink told.written
put_by path (Err stop.Host) kept input output end own source sink few used told = absurd (elim used as (λ _. ⊥) [ inl failed ↦ source failed | inr most ↦ few most ])
put_by path (Err stop.Stopped) kept input output end own source sink few used told = reported output _ end sink told.written
put_by path (Err (stop.Refused e)) kept input output end own source sink few used told = reported output _ end sink told.written

pub put_ends : (now : Instant) (path : HostPath) → ComesToEnd (ComesPut now path)
put_ends now path input output script end own es source sink few came = put_by path came.1.result _ input output end own source sink few came.1.used came.1.told

get_by : (path : HostPath) (qs : List Question) (got : Result (Unit {0}) Stop) (kept : Option Answer) (output : Stream) (end : End) (own : Status) → ¬ HasFailed output → IsGet path qs output got → IsGetEnd got kept end own → end ≡ Finished
get_by path qs (Ok x) kept output end own sink is ends = ends.0
get_by path qs (Err stop.Memory) kept output end own sink is ends = ends.0
get_by path qs (Err stop.Host) kept output end own sink is ends = absurd (sink is.ends.1.1.1)
get_by path qs (Err stop.Stopped) kept output end own sink is ends = ends.0
get_by path qs (Err (stop.Refused e)) kept output end own sink is ends = ends.0

pub get_ends : (now : Instant) (path : HostPath) → ComesToEnd (ComesGet now path)
get_ends now path input output script end own es source sink few came = get_by path came.1.qs came.1.result _ output end own sink came.1.is came.1.ends

-- ---- no fault was named

pub none_rose : (n a b : ℕ) → RoseBy n a b → ¬ RoseBy 1 a b → n ≡ 0
none_rose zero a b rose none = refl
none_rose (suc n) a b rose none = absurd (none (omega arith))

pub one_unfailed : (answer : Answer) → is_violation answer ≡ false → is_refused answer ≡ false → directory_faults answer ≡ 0 → state_faults answer ≡ 0 → IsFaultless answer
one_unfailed (Replied reply) violation refused directory state = tt
one_unfailed NoMemory violation refused directory state = tt
one_unfailed Spent violation refused directory state = tt
one_unfailed FaultDirectory violation refused directory state = absurd (cc)
one_unfailed FaultState violation refused directory state = absurd (cc)
one_unfailed (Violation why) violation refused directory state = absurd (cc)
one_unfailed Refused violation refused directory state = absurd (cc)

all_unfailed : (es : List Exchange) → AreCalm es → all_directory_faults es ≡ 0 → all_state_faults es ≡ 0 → AreFaultless es
all_unfailed [] calm directory state = tt
all_unfailed (e ∷ es) calm directory state =
    (one_unfailed e.answer calm.0 calm.1 (omega (arith, directory)) (omega (arith, state)), all_unfailed es calm.2 (omega (arith, directory)) (omega (arith, state)))

module _ (own : Status) where
  closed_so : (closing : Result Unit SyncError) → directory_fault closing ≡ 0 → state_fault closing ≡ 0
      → (first_of (closing_status closing) own ≡ own) ⊎ (first_of (closing_status closing) own ≡ status.Memory)
  closed_so (Ok u) directory state = inl refl
  closed_so (Err sync_error.Memory) directory state = inr refl
  closed_so (Err sync_error.FaultDirectory) directory state = absurd (cc)
  closed_so (Err sync_error.FaultState) directory state = absurd (cc)

  when_closed : (closing : Result Unit SyncError) (P : Type 0) → OnOk closing P → directory_fault closing ≡ 0 → state_fault closing ≡ 0 → first_of (closing_status closing) own ≢ status.Memory → P
  when_closed (Ok u) P p directory state other = p
  when_closed (Err sync_error.Memory) P p directory state other = absurd (other refl)
  when_closed (Err sync_error.FaultDirectory) P p directory state other = absurd (cc)
  when_closed (Err sync_error.FaultState) P p directory state other = absurd (cc)

-- ---- a session

module _ {V : Type 0} {K : Type 0} (trace : V → Option (List Call)) (faults : V → ℕ) (G : KeeperGhosts K) (input output : Stream) (vault : V) (keeper : K) (ended : Ended V K)
    (bytes : List ℕ) (c : Settings) (first : Tree) (finds : Finds input bytes c first (outside_of trace faults G vault keeper))
    (quiet : OfRun trace faults G vault keeper ended (IsUntroubled input output)) where
  abbrev Before : Outside
  Before = outside_of trace faults G vault keeper

  abbrev After : Outside
  After = outside_of trace faults G ended.vault ended.keeper

  module _ (Came : End → Status → List Exchange → Type 0) (s : IsServed trace faults G (first_line bytes) Came vault keeper ended) (end : s.end ≡ Finished) where
    served : IsComplete Came (first_line bytes) c first Before After ended.status
    served =
        let f = opens_to input output bytes c first Before After finds quiet in
        let a = s.session.founded c first (record { opens = f; unforged = s.session.unforged c first f quiet.honest }) in
        let calm = a.no_false_alarm quiet.honest in
        let none : violated s.es ≡ false = unviolated s.es calm in
        let directory : all_directory_faults s.es + directory_fault s.closing ≡ 0 = none_rose _ _ _ s.session.directory_faults_happened quiet.directory_unfailed in
        let state : all_state_faults s.es + state_fault s.closing ≡ 0 = none_rose _ _ _ s.session.state_faults_happened quiet.state_unfailed in
        let ends : ended.status ≡ first_of (closing_status s.closing) s.own = s.status ∙ ap (λ x. first_of x s.own) (ap (λ b. session_status b s.end s.closing) none ∙ ap (λ e. session_status false e s.closing) end) in
        let directory_closed : directory_fault s.closing ≡ 0 = omega (arith, directory) in
        let state_closed : state_fault s.closing ≡ 0 = omega (arith, state) in
        let other_closed : ended.status ≢ status.Memory → first_of (closing_status s.closing) s.own ≢ status.Memory = λ other e. other (ends ∙ e) in
        let kept : (tree : Tree) × IsKeptPoint first s.es a.trees tree × OutsideStandsFor ShowsFiles c tree After = elim a.kept as (λ _. (tree : Tree) × IsKeptPoint first s.es a.trees tree × OutsideStandsFor ShowsFiles c tree After) [
          | inl marked ↦ absurd (cc (sym marked.0 ∙ none))
          | inr point ↦ point
        ] in
        let told = represents_told ShowsFiles (G.kept keeper) (trace vault) c first finds.stands in
        record {
          es = s.es;
          trees = a.trees;
          own = s.own;
          came = subst (λ e. Came e s.own s.es) end s.came;
          replies = a.replies;
          spent = s.session.spent;
          unfailed = all_unfailed s.es calm (omega (arith, directory)) (omega (arith, state));
          ends = subst (λ x. (x ≡ s.own) ⊎ (x ≡ status.Memory)) (sym ends) (closed_so s.own s.closing directory_closed state_closed);
          tree = kept.0;
          point = kept.1;
          leaves = record { stands = kept.2; opens = s.session.opens (first_line bytes) c told finds.opens };
          closed = λ other. (
            when_closed s.own s.closing _ (a.done none) directory_closed state_closed (other_closed other),
            when_closed s.own s.closing _ (s.session.emptied none) directory_closed state_closed (other_closed other),
          );
        }

  module _ (Comes : Stream → Stream → Option (List ℕ) → End → Status → List Exchange → Type 0) (to_end : ComesToEnd Comes) where
    abbrev Outcome : Type 0
    Outcome = FindsNoMemory output (first_line bytes) c first After ended.status
        ⊎ ((script : Option (List ℕ)) × IsNextPassword input.old (first_line bytes) script × IsComplete (Comes input output script) (first_line bytes) c first Before After ended.status)

    pub complete : Session trace faults G (Comes input output) input output vault keeper ended → Outcome
    complete (inl u) = inl (unread trace faults G input output vault keeper ended bytes c first finds quiet u)
    complete (inr (password, script, has, inl ((error, u), unfailed, unwritten))) =
        let e = password_is input.old bytes password script finds.told has.is_next in
        inl (unopened trace faults G input output vault keeper ended bytes c first finds quiet error (subst (λ x. IsUnopened trace faults G x vault keeper ended error) e u) unwritten)
    complete (inr (password, script, has, inr s)) =
        let e = password_is input.old bytes password script finds.told has.is_next in
        let t : IsServed trace faults G (first_line bytes) (Comes input output script) vault keeper ended = subst (λ x. IsServed trace faults G x (Comes input output script) vault keeper ended) e s in
        inr (
          script,
          subst (λ x. IsNextPassword input.old x script) e has.is_next,
          served (Comes input output script) t (to_end input output script t.end t.own t.es quiet.input_unfailed quiet.output_unfailed quiet.few t.came),
        )
