-- What `check --all` does.
use Rattle.std.specs.Prelude.{◌≡◌, ◌⊎◌, ℕ, List}
use Rattle.std.specs.declared.option.Option.{Option}
use Rattle.check_texts.specs.line_io.Streams.{Stream, Untouched}
use Rattle.setup_runs.specs.mount_stores.declared.error.OpenError.{OpenError}
use Rattle.outside.specs.Trace.{Call}
use Rattle.outside.specs.declared.keeper.Keeper.{Ghosts as KeeperGhosts}
use Rattle.setup_runs.specs.run_frame.Passwords.{PasswordUnread}
use Rattle.run_status.specs.declared.ended.Ended.{Ended}
use Rattle.check_texts.specs.session_lines.Driven.{IsUnfailed}
use Rattle.setup_runs.specs.session_laws.Openings.{HasPassword, IsUnread, IsUnopened}
use Rattle.check_texts.specs.Surveys.{IsSurveyTold}
use Rattle.check_texts.specs.Telling.{ListsAfter}
use Rattle.check_runs.specs.declared.surveying.Survey.{Survey}
use Rattle.check_runs.specs.Surveying.{IsSurveyedRun}

-- Under the password a file system was opened, checked, surveyed after a flaw, a violation or a fault, and closed, and then it was told what was found.
pub record IsRefusalTold {V : Type 0} {K : Type 0} (trace : V → Option (List Call)) (faults : V → ℕ) (names : V → Option (List (List ℕ))) (G : KeeperGhosts K) (password : List ℕ) (output : Stream) (vault : V) (keeper : K) (ended : Ended V K) : Type 0 where
  pub x : Survey V K
  pub surveyed : IsSurveyedRun trace faults G password vault keeper x
  pub told : IsSurveyTold (names x.vault) x.verdict x.ungiven.items x.end output ended.status
  -- what closing gave back is given back, but that the directory may have been listed
  pub lists : ListsAfter trace faults names x.verdict x.vault ended.vault ended.status
  pub same_keeper : ended.keeper ≡ x.keeper

-- under the password no file system was opened and nothing was written, or one was surveyed
abbrev pub SurveyedUnder : {V : Type 0} → {K : Type 0} → (V → Option (List Call)) → (V → ℕ) → (V → Option (List (List ℕ))) → KeeperGhosts K → List ℕ → Stream → V → K → Ended V K → Type 0
SurveyedUnder trace faults names G password output vault keeper ended =
    (((error : OpenError) × IsUnopened trace faults G password vault keeper ended error) × Untouched output)
    ⊎ IsRefusalTold trace faults names G password output vault keeper ended

-- the password line wasn't read and nothing was done, or its password is the one
abbrev pub RanSurvey : {V : Type 0} → {K : Type 0} → (V → Option (List Call)) → (V → ℕ) → (V → Option (List (List ℕ))) → KeeperGhosts K → Stream → Stream → V → K → Ended V K → Type 0
RanSurvey trace faults names G input output vault keeper ended =
    IsUnread (PasswordUnread input) output vault keeper ended
    ⊎ ((password : List ℕ) × (after : Option (List ℕ)) × HasPassword input password after × IsUnfailed input × SurveyedUnder trace faults names G password output vault keeper ended)
