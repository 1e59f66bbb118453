-- What a survey that was told leaves, by what it gives back.
use Rattle.std.proofs.Common.{◌≡◌, ◌≤◌, ℕ, Bool, true, false, cond, nat_eq, List, map, refl, sym, ◌∙◌, ap, subst, arith}
use Rattle.std.specs.Prelude.{◌≢◌, Result, Ok, Err}
use Rattle.std.specs.declared.option.Option.{Option}
use Rattle.block_id.specs.declared.fail.Fail.{Fail}
use Rattle.block_id.specs.declared.fail.Fail.TheVariants as fail
use Rattle.block_id.specs.declared.fail.Memory as memory
use Rattle.check_refused.specs.Surveys.{refusals, ungiven_of}
use Rattle.check_refused.specs.declared.survey.Ungiven.{Ungiven}
use Rattle.setup_runs.specs.config_file.Settings.{Settings}
use Rattle.check_refused.specs.cryfs_check.declared.checking.Checked.{Checked}
use Rattle.check_refused.specs.cryfs_check.declared.checking.Checked.TheVariants.{Yes, No}
use Rattle.fs_model.specs.Tree.{Tree}
use Rattle.check_texts.specs.line_io.Streams.{Stream, HasFailed}
use Rattle.outside.specs.Causes.{RoseBy}
use Rattle.outside.specs.Trace.{Call}
use Rattle.outside.specs.declared.keeper.Keeper.{Ghosts as KeeperGhosts}
use Rattle.run_status.specs.declared.ended.Ended.{Ended}
use Rattle.run_status.specs.declared.status.Status.{Status}
use Rattle.run_status.specs.declared.status.Status.TheVariants.{Violation, DirectoryFault, OutputFault, Memory}
use Rattle.check_texts.specs.session_lines.Driven.{IsUnfailed}
use Rattle.setup_runs.specs.session_laws.Openings.{HasCauses, StayOpen}
use Rattle.setup_runs.specs.session_laws.Runs.{Outside, outside_of, OpensTo, IsQuietRun, PasswordOpens, lies}
use Rattle.setup_runs.specs.mount_core.Showing.{ShowsFiles}
use Rattle.check_texts.specs.Refusals.{first_text, rest_text}
use Rattle.check_texts.specs.Surveys.{IsTextCut, IsTextTold, AreUngivenTold, IsSurveyTold, status_found}
use Rattle.check_texts.specs.Telling.{ListsAfter}
use Rattle.check_runs.specs.Judging.{is_bad}
use Rattle.check_runs.specs.SurveyRuns.{IsRefusalTold}
use Rattle.check_runs.specs.Surveying.{faults_told, needs_survey}
use Rattle.check_runs.proofs.Leaving.{CheckStatus, check_status, violation_is, output_quiet, output_failed, listed_calls, listed_grows, directory_rests, directory_cause, at}

abbrev End : Type 0
End = Result Unit memory.Memory

-- ---- by what was found and its status

cut_status : (first rest : List ℕ) (output : Stream) (status : Status) → IsTextCut first rest output status → CheckStatus status
cut_status first rest output OutputFault t = tt
cut_status first rest output Memory t = tt
cut_status first rest output status t = absurd t

text_status : (found : Status) (first rest : List ℕ) (output : Stream) (status : Status) → IsTextTold found first rest output status → CheckStatus status
text_status found first rest output Violation t = tt
text_status found first rest output DirectoryFault t = tt
text_status found first rest output OutputFault t = tt
text_status found first rest output Memory t = tt
text_status found first rest output status t = absurd t

ungiven_status : (verdict : Result Checked Fail) (ungiven : List Ungiven) (end : End) (output : Stream) (status : Status) → AreUngivenTold verdict ungiven end output status → CheckStatus status
ungiven_status verdict ungiven (Ok u) output status t = text_status (status_found verdict (refusals (map ungiven_of ungiven))) (first_text verdict) (rest_text ungiven (Ok u)) output status t
ungiven_status verdict ungiven (Err e) output status t = cut_status (first_text verdict) (rest_text ungiven (Err e)) output status t

pub survey_status : (told : Option (List (List ℕ))) (verdict : Result Checked Fail) (ungiven : List Ungiven) (end : End) (output : Stream) (status : Status) → IsSurveyTold told verdict ungiven end output status → CheckStatus status
survey_status told (Ok (Yes owners)) ungiven end output status t = check_status told (Ok (Yes owners)) output status t
survey_status told (Ok (No flaw)) ungiven end output status t = ungiven_status (Ok (No flaw)) ungiven end output status t
survey_status told (Err (fail.Violation why)) ungiven end output status t = ungiven_status (Err (fail.Violation why)) ungiven end output status t
survey_status told (Err fail.Fault) ungiven end output status t = ungiven_status (Err fail.Fault) ungiven end output status t
survey_status told (Err fail.Memory) ungiven end output status t = check_status told (Err fail.Memory) output status t

by_none : (b : Bool) → b ≡ true → cond b DirectoryFault Violation ≡ Violation → ⊥
by_none true e is = cc
by_none false e is = cc

none_is : (n : ℕ) → n ≡ 0 → nat_eq n 0 ≡ true
none_is n e = subst (λ m. nat_eq m 0 ≡ true) (sym e) refl

fault_calm : (ungiven : List Ungiven) (end : End) (output : Stream) → AreUngivenTold (Err fail.Fault) ungiven end output Violation → refusals (map ungiven_of ungiven) ≡ 0 → ⊥
fault_calm ungiven (Ok u) output t none = by_none (nat_eq (refusals (map ungiven_of ungiven)) 0) (none_is (refusals (map ungiven_of ungiven)) none) t.0
fault_calm ungiven (Err e) output t none = t

-- a violation is told only where a flaw or a violation was found, or a block is refused
pub no_violation : (told : Option (List (List ℕ))) (verdict : Result Checked Fail) (ungiven : List Ungiven) (end : End) (output : Stream) (status : Status) → IsSurveyTold told verdict ungiven end output status → status ≡ Violation
    → is_bad verdict ≡ false → refusals (map ungiven_of ungiven) ≡ 0 → ⊥
no_violation told (Ok (Yes owners)) ungiven end output status t e fine none = let bad = violation_is told (Ok (Yes owners)) output status t e in cc
no_violation told (Ok (No flaw)) ungiven end output status t e fine none = cc
no_violation told (Err (fail.Violation why)) ungiven end output status t e fine none = cc
no_violation told (Err fail.Fault) ungiven end output status t e fine none = fault_calm ungiven end output (subst (λ (s : Status). AreUngivenTold (Err fail.Fault) ungiven end output s) e t) none
no_violation told (Err fail.Memory) ungiven end output status t e fine none = let bad = violation_is told (Err fail.Memory) output status t e in cc

-- ---- of the output

cut_quiet : (first rest : List ℕ) (output : Stream) (status : Status) → IsTextCut first rest output status → status ≢ OutputFault → IsUnfailed output
cut_quiet first rest output OutputFault t unless = absurd (unless refl)
cut_quiet first rest output Memory t unless = t.1
cut_quiet first rest output status t unless = absurd t

text_quiet : (found : Status) (first rest : List ℕ) (output : Stream) (status : Status) → IsTextTold found first rest output status → status ≢ OutputFault → IsUnfailed output
text_quiet found first rest output Violation t unless = t.2
text_quiet found first rest output DirectoryFault t unless = t.2
text_quiet found first rest output OutputFault t unless = absurd (unless refl)
text_quiet found first rest output Memory t unless = t.1
text_quiet found first rest output status t unless = absurd t

ungiven_quiet : (verdict : Result Checked Fail) (ungiven : List Ungiven) (end : End) (output : Stream) (status : Status) → AreUngivenTold verdict ungiven end output status → status ≢ OutputFault → IsUnfailed output
ungiven_quiet verdict ungiven (Ok u) output status t unless = text_quiet (status_found verdict (refusals (map ungiven_of ungiven))) (first_text verdict) (rest_text ungiven (Ok u)) output status t unless
ungiven_quiet verdict ungiven (Err e) output status t unless = cut_quiet (first_text verdict) (rest_text ungiven (Err e)) output status t unless

pub survey_output : (told : Option (List (List ℕ))) (verdict : Result Checked Fail) (ungiven : List Ungiven) (end : End) (output : Stream) (status : Status) → IsSurveyTold told verdict ungiven end output status → status ≢ OutputFault → status ≢ Violation → IsUnfailed output
survey_output told (Ok (Yes owners)) ungiven end output status t unless calm = output_quiet told (Ok (Yes owners)) output status t unless calm
survey_output told (Ok (No flaw)) ungiven end output status t unless calm = ungiven_quiet (Ok (No flaw)) ungiven end output status t unless
survey_output told (Err (fail.Violation why)) ungiven end output status t unless calm = ungiven_quiet (Err (fail.Violation why)) ungiven end output status t unless
survey_output told (Err fail.Fault) ungiven end output status t unless calm = ungiven_quiet (Err fail.Fault) ungiven end output status t unless
survey_output told (Err fail.Memory) ungiven end output status t unless calm = output_quiet told (Err fail.Memory) output status t unless calm

ungiven_failed : (verdict : Result Checked Fail) (ungiven : List Ungiven) (end : End) (output : Stream) → AreUngivenTold verdict ungiven end output OutputFault → HasFailed output
ungiven_failed verdict ungiven (Ok u) output t = t.1
ungiven_failed verdict ungiven (Err e) output t = t.1

each_failed : (verdict : Result Checked Fail) (ungiven : List Ungiven) (end : End) (output : Stream) (status : Status) → AreUngivenTold verdict ungiven end output status → status ≡ OutputFault → HasFailed output
each_failed verdict ungiven end output status t e = ungiven_failed verdict ungiven end output (subst (λ (s : Status). AreUngivenTold verdict ungiven end output s) e t)

pub survey_failed : (told : Option (List (List ℕ))) (verdict : Result Checked Fail) (ungiven : List Ungiven) (end : End) (output : Stream) (status : Status) → IsSurveyTold told verdict ungiven end output status → status ≡ OutputFault → HasFailed output
survey_failed told (Ok (Yes owners)) ungiven end output status t e = output_failed told (Ok (Yes owners)) output status t e
survey_failed told (Ok (No flaw)) ungiven end output status t e = each_failed (Ok (No flaw)) ungiven end output status t e
survey_failed told (Err (fail.Violation why)) ungiven end output status t e = each_failed (Err (fail.Violation why)) ungiven end output status t e
survey_failed told (Err fail.Fault) ungiven end output status t e = each_failed (Err fail.Fault) ungiven end output status t e
survey_failed told (Err fail.Memory) ungiven end output status t e = output_failed told (Err fail.Memory) output status t e

-- ---- of the directory

-- these may stand before faults that the lines name
abbrev pub IsHiding : Status → Type 0
IsHiding Violation = Unit {0}
IsHiding Memory = Unit {0}
IsHiding OutputFault = Unit {0}
IsHiding status = ⊥

ungiven_fault : (verdict : Result Checked Fail) (ungiven : List Ungiven) (end : End) (output : Stream) (status : Status) → AreUngivenTold verdict ungiven end output status → status ≢ DirectoryFault → (IsHiding status → ⊥) → ⊥
ungiven_fault verdict ungiven end output Violation t unless shown = shown tt
ungiven_fault verdict ungiven end output Memory t unless shown = shown tt
ungiven_fault verdict ungiven end output OutputFault t unless shown = shown tt
ungiven_fault verdict ungiven end output DirectoryFault t unless shown = unless refl
ungiven_fault verdict ungiven (Ok u) output status t unless shown = t
ungiven_fault verdict ungiven (Err e) output status t unless shown = t

-- a flaw and a violation are never told as a fault
bad_fault : (verdict : Result Checked Fail) (ungiven : List Ungiven) (end : End) (output : Stream) → status_found verdict (refusals (map ungiven_of ungiven)) ≡ Violation → AreUngivenTold verdict ungiven end output DirectoryFault → ⊥
bad_fault verdict ungiven (Ok u) output is t = let h : Violation ≡ DirectoryFault = sym is ∙ t.0 in cc
bad_fault verdict ungiven (Err e) output is t = t

-- ---- a run of no lines says nothing of counts

quiet_counts : (password : List ℕ) (before : Outside) (kept : Option (List ℕ)) (calls : Option (List Call)) (v w k l : ℕ) → IsQuietRun ShowsFiles password before (at kept calls v k) → IsQuietRun ShowsFiles password before (at kept calls w l)
quiet_counts password before kept calls v w k l r = record {
  stands = λ c tree o. r.stands c tree (record { stands = o.stands; unforged_config = o.unforged_config });
  marked = λ m. r.marked m;
  least = r.least;
}

-- ---- of a survey that was told

module _ {V : Type 0} {K : Type 0} (trace : V → Option (List Call)) (faults : V → ℕ) (names : V → Option (List (List ℕ))) (G : KeeperGhosts K) (password : List ℕ) (output : Stream) (vault : V) (keeper : K) (ended : Ended V K)
    (t : IsRefusalTold trace faults names G password output vault keeper ended) where
  abbrev Before : Outside
  Before = outside_of trace faults G vault keeper

  abbrev After : Outside
  After = outside_of trace faults G ended.vault ended.keeper

  same_calls : trace ended.vault ≡ trace t.x.vault
  same_calls = listed_calls trace faults names t.x.vault ended.vault ended.status t.x.verdict t.lists

  same_kept : G.kept ended.keeper ≡ G.kept t.x.keeper
  same_kept = ap (λ (k : K). G.kept k) t.same_keeper

  abbrev moved : (P : Outside → Type 0) → ((v : ℕ) (k : ℕ) → P (at (G.kept t.x.keeper) (trace t.x.vault) v k)) → P After
  moved P p = subst (λ (z : Option (List ℕ)). P (at z (trace ended.vault) (faults ended.vault) (G.faults ended.keeper))) (sym same_kept)
      (subst (λ (z : Option (List Call)). P (at (G.kept t.x.keeper) z (faults ended.vault) (G.faults ended.keeper))) (sym same_calls) (p (faults ended.vault) (G.faults ended.keeper)))

  pub quiet_run : IsQuietRun ShowsFiles password Before After
  quiet_run = moved (λ o. IsQuietRun ShowsFiles password Before o) (λ v k. quiet_counts password Before (G.kept t.x.keeper) (trace t.x.vault) (faults t.x.vault) v (G.faults t.x.keeper) k t.surveyed.quiet)

  pub stay_open : StayOpen Before After
  stay_open = λ other c is_told o. moved (λ z. PasswordOpens other c z) (λ v k. let p = t.surveyed.opens other c is_told o in (p.0, p.1, p.2, p.3))

  pub state_quiet : G.faults ended.keeper ≡ G.faults keeper
  state_quiet = ap (λ (k : K). G.faults k) t.same_keeper ∙ t.surveyed.leaves.keeper_quiet

  -- where each file was what was last written, nothing bad was found
  pub calm : (c : Settings) (tree : Tree) → OpensTo ShowsFiles password c tree Before After → lies After ≤ lies Before → (is_bad t.x.verdict ≡ false) × (refusals (map ungiven_of t.x.ungiven.items) ≡ 0)
  calm = moved (λ o. (c : Settings) (tree : Tree) → OpensTo ShowsFiles password c tree Before o → lies o ≤ lies Before → (is_bad t.x.verdict ≡ false) × (refusals (map ungiven_of t.x.ungiven.items) ≡ 0))
      (λ v k c tree f honest. t.surveyed.calm c tree (record { stands = f.stands; unforged_config = f.unforged_config }) honest)

  -- and a violation is told only where something was
  pub no_alarm : ended.status ≡ Violation → (is_bad t.x.verdict ≡ false) × (refusals (map ungiven_of t.x.ungiven.items) ≡ 0) → ⊥
  no_alarm e fine = no_violation (names t.x.vault) t.x.verdict t.x.ungiven.items t.x.end output ended.status t.told e fine.0 fine.1

  module _ (told : Option (List (List ℕ))) (ungiven : List Ungiven) (end : End) where
    rests : (verdict : Result Checked Fail) → IsSurveyTold told verdict ungiven end output ended.status → ListsAfter trace faults names verdict t.x.vault ended.vault ended.status
        → (needs_survey verdict ≡ false → faults t.x.vault ≡ faults vault) → ended.status ≢ DirectoryFault → (IsHiding ended.status → ⊥) → faults ended.vault ≡ faults vault
    rests (Ok (Yes owners)) s l q unless shown = directory_rests trace faults names t.x.vault ended.vault ended.status told output (faults vault) (Ok (Yes owners)) s (q refl) l unless
    rests (Ok (No flaw)) s l q unless shown = absurd (ungiven_fault (Ok (No flaw)) ungiven end output ended.status s unless shown)
    rests (Err (fail.Violation why)) s l q unless shown = absurd (ungiven_fault (Err (fail.Violation why)) ungiven end output ended.status s unless shown)
    rests (Err fail.Fault) s l q unless shown = absurd (ungiven_fault (Err fail.Fault) ungiven end output ended.status s unless shown)
    rests (Err fail.Memory) s l q unless shown = directory_rests trace faults names t.x.vault ended.vault ended.status told output (faults vault) (Err fail.Memory) s (q refl) l unless

    cause : (verdict : Result Checked Fail) → IsSurveyTold told verdict ungiven end output ended.status → ListsAfter trace faults names verdict t.x.vault ended.vault ended.status
        → (needs_survey verdict ≡ false → faults t.x.vault ≡ faults vault) → RoseBy (faults_told verdict ungiven) (faults vault) (faults t.x.vault) → ended.status ≡ DirectoryFault → RoseBy 1 (faults vault) (faults ended.vault)
    cause (Ok (Yes owners)) s l q r e = directory_cause trace faults names t.x.vault ended.vault ended.status told output (faults vault) (Ok (Yes owners)) s (q refl) tt l e
    cause (Ok (No flaw)) s l q r e = absurd (bad_fault (Ok (No flaw)) ungiven end output refl (subst (λ (status : Status). AreUngivenTold (Ok (No flaw)) ungiven end output status) e s))
    cause (Err (fail.Violation why)) s l q r e = absurd (bad_fault (Err (fail.Violation why)) ungiven end output refl (subst (λ (status : Status). AreUngivenTold (Err (fail.Violation why)) ungiven end output status) e s))
    cause (Err fail.Fault) s l q r e = let same = ap faults l in omega (arith, same, r)
    cause (Err fail.Memory) s l q r e = directory_cause trace faults names t.x.vault ended.vault ended.status told output (faults vault) (Err fail.Memory) s (q refl) tt l e

  pub directory_quiet : ended.status ≢ DirectoryFault → (IsHiding ended.status → ⊥) → faults ended.vault ≡ faults vault
  directory_quiet unless shown = rests (names t.x.vault) t.x.ungiven.items t.x.end t.x.verdict t.told t.lists t.surveyed.leaves.vault_quiet unless shown

  pub survey_causes : HasCauses Before After ended.status
  survey_causes =
      let l = t.surveyed.leaves in
      let listed = listed_grows trace faults names t.x.vault ended.vault ended.status t.x.verdict t.lists in
      record {
        vault_grows = let g = l.vault_grows in omega (arith, g, listed);
        keeper_grows = omega (arith, state_quiet);
        directory_fault = cause (names t.x.vault) t.x.ungiven.items t.x.end t.x.verdict t.told t.lists l.vault_quiet l.vault_cause;
        state_fault = λ e. absurd (subst CheckStatus e (survey_status (names t.x.vault) t.x.verdict t.x.ungiven.items t.x.end output ended.status t.told));
      }
