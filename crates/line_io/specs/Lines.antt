-- Bytes as lines.
use Rattle.std.specs.Prelude.{◌≡◌, ◌==◌, ℕ, ◌+◌, Bool, false, cond, nat_le, List, [], ◌∷◌, ◌++◌, length, take, drop}
use Rattle.std.specs.declared.option.Option.{Option}
use Rattle.std.specs.declared.option.Option.TheVariants.{None, Some}
use Rattle.script_text.specs.declared.grammar.TheConstants.{MAX_LINE}

abbrev pub is_newline : ℕ → Bool
is_newline byte = byte == 10

-- the byte stands in front of the first line
abbrev pub onto_first : ℕ → List (List ℕ) → List (List ℕ)
onto_first byte [] = (byte ∷ []) ∷ []
onto_first byte (line ∷ more) = (byte ∷ line) ∷ more

-- the pieces that end at a newline, and a last piece that isn't empty
abbrev pub lines : List ℕ → List (List ℕ)
lines [] = []
lines (byte ∷ bytes) = cond (is_newline byte) ([] ∷ lines bytes) (onto_first byte (lines bytes))

-- the first of some lines, or no bytes where there is none
abbrev pub first_of : List (List ℕ) → List ℕ
first_of [] = []
first_of (line ∷ more) = line

-- the first line of these bytes, or no bytes where there is none
abbrev pub first_line : List ℕ → List ℕ
first_line bytes = first_of (lines bytes)

-- there is no newline in these bytes
abbrev pub IsUnbroken : List ℕ → Type 0
IsUnbroken [] = Unit {0}
IsUnbroken (byte ∷ bytes) = (is_newline byte ≡ false) × IsUnbroken bytes

-- the first newline stands at this place
abbrev pub IsFirstNewline : List ℕ → ℕ → Type 0
IsFirstNewline bytes n = IsUnbroken (take n bytes) × (bytes ≡ take n bytes ++ 10 ∷ drop (n + 1) bytes)

-- what is kept of a line: a line of more than 1,048,576 bytes isn't
abbrev pub kept : List ℕ → Option (List ℕ)
kept line = cond (nat_le (length line) MAX_LINE) (Some line) None

-- what is kept of a line that goes on
abbrev pub kept_on : Option (List ℕ) → List ℕ → Option (List ℕ)
kept_on None part = None
kept_on (Some line) part = kept (line ++ part)
