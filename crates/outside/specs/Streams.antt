-- Bytes that come and go, where they are told.
use Rattle.std.specs.Prelude.{◌≡◌, ℕ, List, [], ◌++◌}
use Rattle.std.specs.declared.option.Option.{Option}
use Rattle.std.specs.declared.option.Option.TheVariants.{None, Some}

-- these bytes were taken from the front of what was left
abbrev pub WereTaken : Option (List ℕ) → Option (List ℕ) → List ℕ → Type 0
WereTaken None new bytes = new ≡ None
WereTaken (Some old) new bytes = (rest : List ℕ) × (old ≡ bytes ++ rest) × (new ≡ Some rest)

-- nothing was left
abbrev pub Ends : Option (List ℕ) → Type 0
Ends None = Unit {0}
Ends (Some rest) = rest ≡ []

-- what was written goes on by these bytes
abbrev pub appends : Option (List ℕ) → List ℕ → Option (List ℕ)
appends None bytes = None
appends (Some written) bytes = Some (written ++ bytes)
