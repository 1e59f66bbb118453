-- A source that is read line by line, in larger blocks.
use Rattle.std.specs.Prelude.{◌≡◌, ◌⊎◌, ℕ, ◌+◌, ◌-◌, ◌^◌, Bool, false, List, [], ◌∷◌, ◌++◌, length}
use Rattle.std.specs.declared.option.Option.{Option}
use Rattle.std.specs.declared.option.Option.TheVariants.{None, Some}
use Rattle.outside.specs.Streams.{WereTaken}
use Rattle.line_io.specs.Lines.{lines, first_line, kept, IsUnbroken}

-- the line that was read last, the bytes that were read ahead, how many were read, and whether the input has ended
pub record Reading : Type 0 where
  pub line : Option (List ℕ)
  pub ahead : List ℕ
  pub taken : ℕ
  pub ended : Bool

-- before the first byte is read
abbrev pub fresh : Reading
fresh = record { line = Some []; ahead = []; taken = 0; ended = false }

-- all bytes that come, where they are told: those that were read ahead, and those that are left
abbrev pub coming : List ℕ → Option (List ℕ) → Option (List ℕ)
coming ahead None = None
coming ahead (Some rest) = Some (ahead ++ rest)

-- how many bytes there are in all, where they are told
abbrev pub total : ℕ → Option (List ℕ) → Option ℕ
total taken None = None
total taken (Some rest) = Some (taken + length rest)

-- a newline stands behind the line and in front of what follows, or the line is all, and nothing follows
abbrev pub EndsLine : List ℕ → List ℕ → List ℕ → Type 0
EndsLine bytes line more = (bytes ≡ line ++ 10 ∷ more) ⊎ ((bytes ≡ line) × (more ≡ []))

-- this is the next line, and these bytes follow it
abbrev pub Line : Option (List ℕ) → List ℕ → Option (List ℕ) → Type 0
Line None line after = after ≡ None
Line (Some bytes) line after = (more : List ℕ) × (lines bytes ≡ line ∷ lines more) × (after ≡ Some more) × EndsLine bytes line more

-- no line ends in what was taken of the bytes; this is left of them
abbrev pub TookNoLine : Option (List ℕ) → Option (List ℕ) → Type 0
TookNoLine None left = left ≡ None
TookNoLine (Some bytes) left = (part : List ℕ) × (rest : List ℕ) × IsUnbroken part × (bytes ≡ part ++ rest) × (left ≡ Some rest)

-- there is a next line, of which is kept what is shown
abbrev pub TookLine : Option (List ℕ) → Option (List ℕ) → Option (List ℕ) → Type 0
TookLine before shown after = (line : List ℕ) × (shown ≡ kept line) × Line before line after

-- bytes were taken, and stand behind those that were read ahead
abbrev pub TookAhead : List ℕ → Option (List ℕ) → Option (List ℕ) → List ℕ → Type 0
TookAhead ahead old new now = (taken : List ℕ) × WereTaken old new taken × (now ≡ ahead ++ taken)

-- bytes were taken, and of the first line in what was read ahead and in them is kept what is shown
abbrev pub ShowsFirst : List ℕ → Option (List ℕ) → Option (List ℕ) → Option (List ℕ) → Type 0
ShowsFirst ahead old new shown = (taken : List ℕ) × WereTaken old new taken × (shown ≡ kept (first_line (ahead ++ taken)))

-- bytes were taken, no line ends in what was read ahead and in them, and of all that is kept what is shown
abbrev pub ShowsUnended : List ℕ → Option (List ℕ) → Option (List ℕ) → Option (List ℕ) → Type 0
ShowsUnended ahead old new shown = (taken : List ℕ) × WereTaken old new taken × IsUnbroken (ahead ++ taken) × (shown ≡ kept (ahead ++ taken))

-- how many bytes are still to be answered
abbrev pub remaining : Reading → ℕ
remaining r = length r.ahead + (2 ^ 63 - r.taken)
