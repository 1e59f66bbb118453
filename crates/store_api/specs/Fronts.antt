-- The front of a payload.
use Rattle.std.specs.Prelude.{ℕ, List, take}
use Rattle.std.specs.Option.{option_map}
use Rattle.std.specs.declared.option.Option.{Option}

-- its first bytes, so many or as many as it has
abbrev pub front_of : ℕ → Option (List ℕ) → Option (List ℕ)
front_of most payload = option_map (take most) payload
