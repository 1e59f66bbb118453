-- A session's own status stands behind the others.
use Rattle.std.proofs.Common.{◌≡◌, refl, subst}
use Rattle.run_status.specs.Statuses.{first_of}
use Rattle.run_status.specs.declared.status.Status.{Status}
use Rattle.run_status.specs.declared.status.Status.TheVariants.{Done}
use Rattle.run_frame.specs.Statuses.{IsOwn}

-- a status that can't be its own comes from what stands before
pub not_own : (first own other : Status) → IsOwn own → (IsOwn other → ⊥) → first_of first own ≡ other → first ≡ other
not_own Done own other mild not e = absurd (not (subst IsOwn e mild))
not_own first own other mild not e = e

-- one that nothing before it can be is its own
pub is_own : (first own other : Status) → first_of first own ≡ other → (first ≡ other → ⊥) → own ≡ other
is_own Done own other e not = e
is_own first own other e not = absurd (not e)

-- nothing is the matter where it is done
pub none_before : (first own : Status) → first_of first own ≡ Done → first ≡ Done
none_before Done own e = refl
none_before first own e = e

-- and it is its own status
pub own_done : (first own : Status) → first_of first own ≡ Done → own ≡ Done
own_done Done own e = e
own_done first own e = absurd (cc)

-- where that is done, it is as if there was none
pub no_own : (first : Status) → first_of first Done ≡ first
no_own Done = refl
no_own first = refl
