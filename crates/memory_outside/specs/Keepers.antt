-- A local record in memory: what it holds, and which of its loads and saves fail.
use Rattle.std.specs.Prelude.{◌≡◌, ℕ, Bool, nat_le, ◌==◌, List, [], ◌∷◌, if◌then◌else◌, Result, is_ok, is_none}
use Rattle.std.specs.declared.option.Option.{Option}
use Rattle.std.specs.declared.option.Option.TheVariants.{None, Some}
use Rattle.block_id.specs.declared.fail.Failed.{Failed}
use Rattle.outside.specs.Causes.{one_more}
use Rattle.memory_outside.specs.Vaults.{is_listed}

pub record KeeperState : Type 0 where
  pub kept : Option (List ℕ)
  pub room : ℕ
  pub faults : ℕ
  -- how many saves there were
  pub saves : ℕ
  -- the numbers of saves that fail, and whether such a save keeps the new record
  pub failing : List (ℕ × Bool)
  -- the numbers of loads that fail, and how many loads there were since that was set
  pub failing_loads : List ℕ
  pub loads : ℕ
  -- the first save from which on each fails, with whether these keep the new record, and how many saves there were since that was set
  pub failing_from : Option (ℕ × Bool)
  pub saves_since : ℕ

-- whether the save of this number keeps its record although it fails, or None where it doesn't fail
abbrev pub failure_at : List (ℕ × Bool) → ℕ → Option Bool
failure_at [] number = None
failure_at (failure ∷ failures) number = if failure.0 == number then Some failure.1 else failure_at failures number

-- the same of saves of which each from one on fails
abbrev pub failure_from : Option (ℕ × Bool) → ℕ → Option Bool
failure_from None number = None
failure_from (Some first) number = if nat_le first.0 number then Some first.1 else None

-- what is listed for a save counts before
abbrev pub first_failure : Option Bool → Option Bool → Option Bool
first_failure None later = later
first_failure (Some keeps) later = Some keeps

-- how the next save fails, if it does
abbrev pub failure_of : KeeperState → Option Bool
failure_of k = first_failure (failure_at k.failing (one_more k.saves)) (failure_from k.failing_from (one_more k.saves_since))

-- whether the next load is made to fail
abbrev pub load_fails : KeeperState → Bool
load_fails k = is_listed k.failing_loads (one_more k.loads)

abbrev pub after_load : KeeperState → KeeperState
after_load k = record k { loads = one_more k.loads }

abbrev pub after_failed_load : KeeperState → KeeperState
after_failed_load k = record k { loads = one_more k.loads; faults = one_more k.faults }

abbrev pub kept_by : Option Bool → Option (List ℕ) → List ℕ → Option (List ℕ)
kept_by None old bytes = Some bytes
kept_by (Some keeps) old bytes = if keeps then Some bytes else old

-- the faults after a save
abbrev pub faults_by : Option Bool → ℕ → ℕ
faults_by None faults = faults
faults_by (Some keeps) faults = one_more faults

-- a save fails where it is set to, and keeps its record then only where that is set
pub record SavesAsSet (old new : KeeperState) (bytes : List ℕ) (result : Result Unit Failed) : Type 0 where
  pub fails_where_listed : is_ok result ≡ is_none (failure_of old)
  pub kept : new.kept ≡ kept_by (failure_of old) old.kept bytes
  pub faults : new.faults ≡ faults_by (failure_of old) old.faults

-- one save more was counted, no load was, and what is set stays
pub record CountsSave (old new : KeeperState) : Type 0 where
  pub saves : new.saves ≡ one_more old.saves
  pub failing : new.failing ≡ old.failing
  pub loads : (new.failing_loads ≡ old.failing_loads) × (new.loads ≡ old.loads)
  pub from : (new.failing_from ≡ old.failing_from) × (new.saves_since ≡ one_more old.saves_since)
