-- What a check that was told leaves, by what it gives back.
use Rattle.std.proofs.Common.{◌≡◌, ◌≤◌, ℕ, Bool, true, false, List, refl, sym, ◌∙◌, ap, subst, arith}
use Rattle.std.specs.Prelude.{◌≢◌, Result, Ok, Err, IfErr}
use Rattle.std.specs.declared.option.Option.{Option}
use Rattle.block_id.specs.declared.fail.Fail.{Fail}
use Rattle.block_id.specs.declared.fail.Fail.TheVariants as fail
use Rattle.check_refused.specs.cryfs_check.declared.checking.Checked.{Checked}
use Rattle.check_refused.specs.cryfs_check.declared.checking.Checked.TheVariants.{Yes, No}
use Rattle.check_texts.specs.line_io.Streams.{Stream, HasFailed}
use Rattle.check_walk.specs.store_outcome.Meanings.{HasCause, IsQuiet}
use Rattle.outside.specs.Causes.{RoseBy}
use Rattle.outside.specs.Trace.{Call}
use Rattle.outside.specs.declared.keeper.Keeper.{Ghosts as KeeperGhosts}
use Rattle.run_status.specs.declared.ended.Ended.{Ended}
use Rattle.run_status.specs.declared.status.Status.{Status}
use Rattle.run_status.specs.declared.status.Status.TheVariants.{Done, Violation, DirectoryFault, OutputFault, Memory}
use Rattle.run_status.specs.Statuses.{first_of}
use Rattle.check_texts.specs.session_lines.Driven.{IsUnfailed}
use Rattle.setup_runs.specs.session_laws.Openings.{HasCauses, StayOpen}
use Rattle.setup_runs.specs.session_laws.Runs.{Outside, outside_of, IsExaminedRun, PasswordOpens}
use Rattle.setup_runs.specs.mount_core.Showing.{ShowsFiles}
use Rattle.check_refused.specs.check_rules.Certificates.{Owners}
use Rattle.check_texts.specs.Telling.{AreOwnersTold, IsTold, ListsAfter}
use Rattle.check_runs.specs.Judging.{is_bad}
use Rattle.check_runs.specs.Running.{IsCheckTold}

-- ---- by the verdict and its status

abbrev pub CheckStatus : Status → Type 0
CheckStatus Done = Unit {0}
CheckStatus Violation = Unit {0}
CheckStatus DirectoryFault = Unit {0}
CheckStatus OutputFault = Unit {0}
CheckStatus Memory = Unit {0}
CheckStatus status = ⊥

pub first_done : (status : Status) → CheckStatus status → first_of status Done ≡ status
first_done Done c = refl
first_done Violation c = refl
first_done DirectoryFault c = refl
first_done OutputFault c = refl
first_done Memory c = refl
first_done status c = absurd c

owners_status : (told : Option (List (List ℕ))) (owners : Owners) (output : Stream) (status : Status) → AreOwnersTold told owners output status → CheckStatus status
owners_status told owners output Done t = tt
owners_status told owners output DirectoryFault t = tt
owners_status told owners output OutputFault t = tt
owners_status told owners output Memory t = tt
owners_status told owners output status t = absurd t

pub check_status : (told : Option (List (List ℕ))) (verdict : Result Checked Fail) (output : Stream) (status : Status) → IsTold told verdict output status → CheckStatus status
check_status told (Ok (Yes owners)) output status t = owners_status told owners output status t
check_status told (Ok (No flaw)) output status t = subst CheckStatus (sym t.0) tt
check_status told (Err (fail.Violation why)) output status t = subst CheckStatus (sym t.0) tt
check_status told (Err fail.Fault) output status t = subst CheckStatus (sym t.0) tt
check_status told (Err fail.Memory) output status t = subst CheckStatus (sym t.0) tt

owners_calm : (told : Option (List (List ℕ))) (owners : Owners) (output : Stream) (status : Status) → AreOwnersTold told owners output status → status ≡ Violation → ⊥
owners_calm told owners output Violation t e = t
owners_calm told owners output Done t e = cc
owners_calm told owners output DirectoryFault t e = cc
owners_calm told owners output OutputFault t e = cc
owners_calm told owners output Memory t e = cc
owners_calm told owners output status t e = t

-- a flaw or a violation is told as one
pub is_violation : (told : Option (List (List ℕ))) (verdict : Result Checked Fail) (output : Stream) (status : Status) → IsTold told verdict output status → is_bad verdict ≡ true → status ≡ Violation
is_violation told (Ok (Yes owners)) output status t e = absurd (cc)
is_violation told (Ok (No flaw)) output status t e = t.0
is_violation told (Err (fail.Violation why)) output status t e = t.0
is_violation told (Err fail.Fault) output status t e = absurd (cc)
is_violation told (Err fail.Memory) output status t e = absurd (cc)

-- and nothing else is
pub violation_is : (told : Option (List (List ℕ))) (verdict : Result Checked Fail) (output : Stream) (status : Status) → IsTold told verdict output status → status ≡ Violation → is_bad verdict ≡ true
violation_is told (Ok (Yes owners)) output status t e = absurd (owners_calm told owners output status t e)
violation_is told (Ok (No flaw)) output status t e = refl
violation_is told (Err (fail.Violation why)) output status t e = refl
violation_is told (Err fail.Fault) output status t e = let h : DirectoryFault ≡ Violation = sym t.0 ∙ e in absurd (cc)
violation_is told (Err fail.Memory) output status t e = let h : Memory ≡ Violation = sym t.0 ∙ e in absurd (cc)

-- ---- of the output

owners_output : (told : Option (List (List ℕ))) (owners : Owners) (output : Stream) (status : Status) → AreOwnersTold told owners output status → status ≢ OutputFault → IsUnfailed output
owners_output told owners output Done t unless = t.3
owners_output told owners output DirectoryFault t unless = t.1
owners_output told owners output OutputFault t unless = absurd (unless refl)
owners_output told owners output Memory t unless = t.1
owners_output told owners output status t unless = absurd t

pub output_quiet : (told : Option (List (List ℕ))) (verdict : Result Checked Fail) (output : Stream) (status : Status) → IsTold told verdict output status → status ≢ OutputFault → status ≢ Violation → IsUnfailed output
output_quiet told (Ok (Yes owners)) output status t unless calm = owners_output told owners output status t unless
output_quiet told (Ok (No flaw)) output status t unless calm = absurd (calm t.0)
output_quiet told (Err (fail.Violation why)) output status t unless calm = absurd (calm t.0)
output_quiet told (Err fail.Fault) output status t unless calm = t.1.1
output_quiet told (Err fail.Memory) output status t unless calm = t.1.1

owners_failed : (told : Option (List (List ℕ))) (owners : Owners) (output : Stream) (status : Status) → AreOwnersTold told owners output status → status ≡ OutputFault → HasFailed output
owners_failed told owners output OutputFault t e = t.1
owners_failed told owners output Done t e = absurd (cc)
owners_failed told owners output DirectoryFault t e = absurd (cc)
owners_failed told owners output Memory t e = absurd (cc)
owners_failed told owners output status t e = absurd t

pub output_failed : (told : Option (List (List ℕ))) (verdict : Result Checked Fail) (output : Stream) (status : Status) → IsTold told verdict output status → status ≡ OutputFault → HasFailed output
output_failed told (Ok (Yes owners)) output status t e = owners_failed told owners output status t e
output_failed told (Ok (No flaw)) output status t e = let h : Violation ≡ OutputFault = sym t.0 ∙ e in absurd (cc)
output_failed told (Err (fail.Violation why)) output status t e = let h : Violation ≡ OutputFault = sym t.0 ∙ e in absurd (cc)
output_failed told (Err fail.Fault) output status t e = let h : DirectoryFault ≡ OutputFault = sym t.0 ∙ e in absurd (cc)
output_failed told (Err fail.Memory) output status t e = let h : Memory ≡ OutputFault = sym t.0 ∙ e in absurd (cc)

-- ---- of the directory

module _ {V : Type 0} (trace : V → Option (List Call)) (faults : V → ℕ) (names : V → Option (List (List ℕ))) (old new : V) (status : Status) where
  pub listed_calls : (verdict : Result Checked Fail) → ListsAfter trace faults names verdict old new status → trace new ≡ trace old
  listed_calls (Ok (Yes owners)) l = l.calls
  listed_calls (Ok (No flaw)) l = ap trace l
  listed_calls (Err fail) l = ap trace l

  pub listed_grows : (verdict : Result Checked Fail) → ListsAfter trace faults names verdict old new status → faults old ≤ faults new
  listed_grows (Ok (Yes owners)) l = l.grows
  listed_grows (Ok (No flaw)) l = let e = ap faults l in omega (arith, e)
  listed_grows (Err fail) l = let e = ap faults l in omega (arith, e)

  listed_quiet : (verdict : Result Checked Fail) → ListsAfter trace faults names verdict old new status → status ≢ DirectoryFault → faults new ≡ faults old
  listed_quiet (Ok (Yes owners)) l unless = l.quiet unless
  listed_quiet (Ok (No flaw)) l unless = ap faults l
  listed_quiet (Err fail) l unless = ap faults l

  -- no fault is passed over
  pub directory_rests : (told : Option (List (List ℕ))) (output : Stream) (before : ℕ) (verdict : Result Checked Fail) → IsTold told verdict output status → IsQuiet verdict before (faults old)
      → ListsAfter trace faults names verdict old new status → status ≢ DirectoryFault → faults new ≡ before
  directory_rests told output before (Ok (Yes owners)) t quiet l unless = listed_quiet (Ok (Yes owners)) l unless ∙ quiet
  directory_rests told output before (Ok (No flaw)) t quiet l unless = ap faults l ∙ quiet
  directory_rests told output before (Err (fail.Violation why)) t quiet l unless = ap faults l ∙ quiet
  directory_rests told output before (Err fail.Fault) t quiet l unless = absurd (unless t.0)
  directory_rests told output before (Err fail.Memory) t quiet l unless = ap faults l ∙ quiet

  -- and none is made up
  pub directory_cause : (told : Option (List (List ℕ))) (output : Stream) (before : ℕ) (verdict : Result Checked Fail) → IsTold told verdict output status → IsQuiet verdict before (faults old)
      → IfErr verdict (λ fail. HasCause fail before (faults old)) → ListsAfter trace faults names verdict old new status → status ≡ DirectoryFault → RoseBy 1 before (faults new)
  directory_cause told output before (Ok (Yes owners)) t quiet cause l e = subst (λ n. RoseBy 1 n (faults new)) quiet (l.failed e)
  directory_cause told output before (Ok (No flaw)) t quiet cause l e = let h : Violation ≡ DirectoryFault = sym t.0 ∙ e in absurd (cc)
  directory_cause told output before (Err (fail.Violation why)) t quiet cause l e = let h : Violation ≡ DirectoryFault = sym t.0 ∙ e in absurd (cc)
  directory_cause told output before (Err fail.Fault) t quiet cause l e = subst (λ n. RoseBy 1 before n) (sym (ap faults l)) cause
  directory_cause told output before (Err fail.Memory) t quiet cause l e = let h : Memory ≡ DirectoryFault = sym t.0 ∙ e in absurd (cc)

-- ---- a run of a check says nothing of counts

abbrev pub at : Option (List ℕ) → Option (List Call) → ℕ → ℕ → Outside
at kept calls v k = record { kept = kept; calls = calls; vault_faults = v; keeper_faults = k }

other_counts : (password : List ℕ) (before : Outside) (kept : Option (List ℕ)) (calls : Option (List Call)) (v w k l : ℕ) (bad : Bool)
    → IsExaminedRun ShowsFiles password before (at kept calls v k) bad → IsExaminedRun ShowsFiles password before (at kept calls w l) bad
other_counts password before kept calls v w k l bad r = record {
  stands = λ c tree o fine. r.stands c tree (record { stands = o.stands; unforged_config = o.unforged_config }) fine;
  condemned = λ c tree o is_so. r.condemned c tree (record { stands = o.stands; unforged_config = o.unforged_config }) is_so;
  calm = λ c tree o honest. r.calm c tree (record { stands = o.stands; unforged_config = o.unforged_config }) honest;
  marked = λ m. r.marked m;
  least = r.least;
}

-- ---- of a check that was told

module _ {V : Type 0} {K : Type 0} (trace : V → Option (List Call)) (faults : V → ℕ) (names : V → Option (List (List ℕ))) (G : KeeperGhosts K) (password : List ℕ) (output : Stream) (vault : V) (keeper : K) (ended : Ended V K)
    (t : IsCheckTold trace faults names G password output vault keeper ended) where
  abbrev Before : Outside
  Before = outside_of trace faults G vault keeper

  abbrev After : Outside
  After = outside_of trace faults G ended.vault ended.keeper

  pub same_calls : trace ended.vault ≡ trace t.x.vault
  same_calls = listed_calls trace faults names t.x.vault ended.vault ended.status t.x.verdict t.lists

  pub examined_run : IsExaminedRun ShowsFiles password Before After (is_bad t.x.verdict)
  examined_run =
      other_counts password Before (G.kept ended.keeper) (trace ended.vault) (faults t.x.vault) (faults ended.vault) (G.faults t.x.keeper) (G.faults ended.keeper) (is_bad t.x.verdict)
      (subst (λ (calls : Option (List Call)). IsExaminedRun ShowsFiles password Before (at (G.kept ended.keeper) calls (faults t.x.vault) (G.faults t.x.keeper)) (is_bad t.x.verdict)) (sym same_calls)
      (subst (λ (k : K). IsExaminedRun ShowsFiles password Before (at (G.kept k) (trace t.x.vault) (faults t.x.vault) (G.faults t.x.keeper)) (is_bad t.x.verdict)) (sym t.same_keeper) t.examined.run))

  pub stay_open : StayOpen Before After
  stay_open = λ other c is_told o.
      let p = t.examined.opens other c is_told o in
      subst (λ (k : K). PasswordOpens other c (at (G.kept k) (trace ended.vault) (faults ended.vault) (G.faults ended.keeper))) (sym t.same_keeper)
      (subst (λ (calls : Option (List Call)). PasswordOpens other c (at (G.kept t.x.keeper) calls (faults ended.vault) (G.faults ended.keeper))) (sym same_calls) (p.0, p.1, p.2, p.3))

  pub directory_quiet : ended.status ≢ DirectoryFault → faults ended.vault ≡ faults vault
  directory_quiet unless = directory_rests trace faults names t.x.vault ended.vault ended.status (names t.x.vault) output (faults vault) t.x.verdict t.told t.examined.leaves.vault_quiet t.lists unless

  pub state_quiet : is_bad t.x.verdict ≡ false → G.faults ended.keeper ≡ G.faults keeper
  state_quiet fine = ap (λ (k : K). G.faults k) t.same_keeper ∙ (t.examined.leaves.unsaved fine).1

  pub told_causes : HasCauses Before After ended.status
  told_causes =
      let l = t.examined.leaves in
      let listed = listed_grows trace faults names t.x.vault ended.vault ended.status t.x.verdict t.lists in
      let same = ap (λ (k : K). G.faults k) t.same_keeper in
      record {
        vault_grows = let g = l.vault_grows in omega (arith, g, listed);
        keeper_grows = let g = l.keeper_grows in omega (arith, g, same);
        directory_fault = directory_cause trace faults names t.x.vault ended.vault ended.status (names t.x.vault) output (faults vault) t.x.verdict t.told l.vault_quiet l.vault_cause t.lists;
        state_fault = λ e. absurd (subst CheckStatus e (check_status (names t.x.vault) t.x.verdict output ended.status t.told));
      }
