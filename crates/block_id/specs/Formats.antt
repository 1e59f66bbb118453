-- Formats of block files: what a file begins with, and what its seal protects beside the record.
use Rattle.std.specs.Prelude.{◌≡◌, ℕ, false, List, [], ◌∷◌, ◌++◌, codes, nat_eq, nat_lt, if◌then◌else◌}
use Rattle.std.specs.List.{starts_with}
use Rattle.std.specs.declared.option.Option.{Option}
use Rattle.std.specs.declared.option.Option.TheVariants.{None, Some}
use Rattle.block_id.specs.declared.format.Format.{Format}
use Rattle.block_id.specs.declared.format.Format.TheVariants.{Alone, WithId}

abbrev pub number_of : Format → ℕ
number_of Alone = 1
number_of WithId = 2

-- the extra bytes that the seal of a block's file protects
abbrev pub extra_of : Format → List ℕ → List ℕ
extra_of Alone id = []
extra_of WithId id = id

-- the 14 bytes that each block's file begins with
abbrev pub magic : List ℕ
magic = codes "cryfs;block;0" ++ 0 ∷ []

-- then the format's number as two bytes, the low one first
abbrev pub prefix_of : Format → List ℕ
prefix_of f = magic ++ (number_of f ∷ 0 ∷ [])

-- the format that a file begins with, if it begins with one
abbrev pub format_in : List ℕ → Option Format
format_in bytes = if starts_with nat_eq bytes (prefix_of Alone) then Some Alone else (if starts_with nat_eq bytes (prefix_of WithId) then Some WithId else None)

-- the file is of a format that is taken, by the least number of one
pub record IsTaken (least : ℕ) (bytes : List ℕ) : Type 0 where
  pub format : Format
  pub is : format_in bytes ≡ Some format
  pub taken : nat_lt (number_of format) least ≡ false
