-- The unwritten list.
use Rattle.std.specs.Prelude.{◌≡◌, ◌<◌, ◌+◌, ◌^◌, ℕ, List, [], ◌∷◌, length, take}
use Rattle.std.specs.declared.option.Option.{Option}
use Rattle.std.specs.declared.option.Option.TheVariants.{None, Some}
use Rattle.block_id.specs.Formats.{magic}
use Rattle.outside.specs.Trace.{At, config, block}

-- how many bytes the list has to put
abbrev pub waiting_bytes : List (At × Option (List ℕ)) → ℕ
waiting_bytes [] = 0
waiting_bytes ((name, Some bytes) ∷ entries) = length bytes + waiting_bytes entries
waiting_bytes ((name, None) ∷ entries) = waiting_bytes entries

-- what the list weighs: the bytes it has to put, and 64 for each removal
abbrev pub waiting_weight : List (At × Option (List ℕ)) → ℕ
waiting_weight [] = 0
waiting_weight ((name, Some bytes) ∷ entries) = length bytes + waiting_weight entries
waiting_weight ((name, None) ∷ entries) = 64 + waiting_weight entries

-- the list with these bytes for the configuration, which stands first
abbrev pub with_config : List ℕ → List (At × Option (List ℕ)) → List (At × Option (List ℕ))
with_config bytes [] = (config, Some bytes) ∷ []
with_config bytes ((config, change) ∷ entries) = (config, Some bytes) ∷ entries
with_config bytes ((block id, change) ∷ entries) = (config, Some bytes) ∷ (block id, change) ∷ entries

-- bytes that may wait as the configuration: short enough for the record, and no block's file
abbrev pub MayConfigure : List ℕ → Type 0
MayConfigure bytes = (length bytes < 2 ^ 32) × (take 14 bytes ≡ magic → ⊥)
