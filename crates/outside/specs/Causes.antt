-- When an answer may name a fault.
use Rattle.std.specs.Prelude.{◌≡◌, ℕ, ◌+◌, ◌-◌, ◌^◌, ◌≤◌, min, Result, Ok, Err, IsErrOf}
use Rattle.outside.specs.declared.vault.GetFail.{GetFail}
use Rattle.outside.specs.declared.vault.GetFail.TheVariants.{Memory, Failed}

-- one call or one fault more; a count stays at its type's end
abbrev pub one_more : ℕ → ℕ
one_more count = min (count + 1) (2 ^ 64 - 1)

-- a count rose by n at least, or stands at the end of its type
abbrev pub RoseBy : ℕ → ℕ → ℕ → Type 0
RoseBy n before now = min (before + n) (2 ^ 64 - 1) ≤ now

-- this holds where it isn't a fault of the outside
abbrev pub UnlessFault : GetFail → Type 0 → Type 0
UnlessFault Memory P = P
UnlessFault Failed P = Unit {0}

-- this holds after every answer but Failed
abbrev pub UnlessFailed : {T : Type 0} → Result T GetFail → Type 0 → Type 0
UnlessFailed (Ok x) P = P
UnlessFailed (Err fail) P = UnlessFault fail P

-- the count never falls, Failed is answered only where it rose, and every other answer leaves it
pub record GetHasCause {T : Type 0} (before now : ℕ) (result : Result T GetFail) : Type 0 where
  pub grows : before ≤ now
  pub failed : IsErrOf result Failed → RoseBy 1 before now
  pub quiet : UnlessFailed result (now ≡ before)
