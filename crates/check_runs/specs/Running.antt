-- What `check` does.
use Rattle.std.specs.Prelude.{◌≡◌, ◌⊎◌, ℕ, List}
use Rattle.std.specs.declared.option.Option.{Option}
use Rattle.check_texts.specs.line_io.Streams.{Stream, Untouched}
use Rattle.setup_runs.specs.mount_stores.declared.error.OpenError.{OpenError}
use Rattle.outside.specs.Trace.{Call}
use Rattle.outside.specs.declared.keeper.Keeper.{Ghosts as KeeperGhosts}
use Rattle.setup_runs.specs.run_frame.Passwords.{PasswordUnread}
use Rattle.run_status.specs.declared.ended.Ended.{Ended}
use Rattle.check_texts.specs.session_lines.Driven.{IsUnfailed}
use Rattle.setup_runs.specs.session_laws.Openings.{HasPassword, IsUnread, IsUnopened}
use Rattle.check_texts.specs.Telling.{IsTold, ListsAfter}
use Rattle.check_runs.specs.declared.examining.Examination.{Examination}
use Rattle.check_runs.specs.Examining.{IsExamined}

-- Under the password a file system was opened, checked and closed, and then it was told what was found.
pub record IsCheckTold {V : Type 0} {K : Type 0} (trace : V → Option (List Call)) (faults : V → ℕ) (names : V → Option (List (List ℕ))) (G : KeeperGhosts K) (password : List ℕ) (output : Stream) (vault : V) (keeper : K) (ended : Ended V K) : Type 0 where
  pub x : Examination V K
  pub examined : IsExamined trace faults G password vault keeper x
  pub told : IsTold (names x.vault) x.verdict output ended.status
  -- what closing gave back is given back, but that the directory may have been listed
  pub lists : ListsAfter trace faults names x.verdict x.vault ended.vault ended.status
  pub same_keeper : ended.keeper ≡ x.keeper

-- under the password no file system was opened and nothing was written, or one was checked
abbrev pub CheckedUnder : {V : Type 0} → {K : Type 0} → (V → Option (List Call)) → (V → ℕ) → (V → Option (List (List ℕ))) → KeeperGhosts K → List ℕ → Stream → V → K → Ended V K → Type 0
CheckedUnder trace faults names G password output vault keeper ended =
    (((error : OpenError) × IsUnopened trace faults G password vault keeper ended error) × Untouched output)
    ⊎ IsCheckTold trace faults names G password output vault keeper ended

-- the password line wasn't read and nothing was done, or its password is the one
abbrev pub RanCheck : {V : Type 0} → {K : Type 0} → (V → Option (List Call)) → (V → ℕ) → (V → Option (List (List ℕ))) → KeeperGhosts K → Stream → Stream → V → K → Ended V K → Type 0
RanCheck trace faults names G input output vault keeper ended =
    IsUnread (PasswordUnread input) output vault keeper ended
    ⊎ ((password : List ℕ) × (after : Option (List ℕ)) × HasPassword input password after × IsUnfailed input × CheckedUnder trace faults names G password output vault keeper ended)
