-- The password lines, the first lines of an input.
use Rattle.std.specs.Prelude.{◌≡◌, ◌⊎◌, ◌<◌, ℕ, true, List, [], ◌∷◌, length}
use Rattle.std.specs.declared.option.Option.{Option}
use Rattle.std.specs.declared.option.Option.TheVariants.{Some}
use Rattle.outside.specs.Streams.{WereTaken, Ends}
use Rattle.line_io.specs.script_text.declared.grammar.TheConstants.{MAX_LINE}
use Rattle.line_io.specs.Lines.{lines, first_of, first_line, IsUnbroken}
use Rattle.line_io.specs.Reading.{Reading, Line, coming, total}
use Rattle.line_io.specs.Streams.{Stream, HasFailed, TookMost, Untouched}
use Rattle.run_status.specs.declared.status.Status.{Status}
use Rattle.run_status.specs.declared.status.Status.TheVariants.{LongPassword, InputFault, Memory}

-- the lines after the first
abbrev pub after_first : List (List ℕ) → List (List ℕ)
after_first [] = []
after_first (line ∷ more) = more

-- the second line of these bytes, or no bytes where there is none
abbrev pub second_line : List ℕ → List ℕ
second_line bytes = first_of (after_first (lines bytes))

-- a password line of more than 1,048,576 bytes
abbrev pub IsLongLine : List ℕ → Type 0
IsLongLine line = MAX_LINE < length line

-- the password is the next line of what comes, or no bytes where nothing comes, and this follows it
abbrev pub IsNextPassword : Option (List ℕ) → List ℕ → Option (List ℕ) → Type 0
IsNextPassword before password after = Line before password after ⊎ (Ends before × (password ≡ []) × (after ≡ before))

-- Where the reader stands after password lines: these bytes were taken from the input without a fault, and the reader has counted them.
pub record StandsAfter (input : Stream) (reader : Reading) (taken : List ℕ) : Type 0 where
  pub took : WereTaken input.old input.new taken
  pub ended : reader.ended ≡ true → Ends (coming reader.ahead input.new)
  pub counted : total reader.taken input.new ≡ total 0 input.old
  pub quiet : input.risen ≡ input.faults

-- the reader holds the password, which is the first line of the input, and what follows it is still to come
pub record PasswordRead (input : Stream) (reader : Reading) (taken password : List ℕ) : Type 0 where
  pub stands : StandsAfter input reader taken
  pub held : reader.line ≡ Some password
  pub short : ¬ IsLongLine password
  pub is_first : password ≡ first_line taken
  pub is_next : IsNextPassword input.old password (coming reader.ahead input.new)

-- the old password is the first line of the input, the new one, which the reader holds, the second, and what follows them is still to come
pub record PasswordsRead (input : Stream) (reader : Reading) (taken old new : List ℕ) : Type 0 where
  pub stands : StandsAfter input reader taken
  pub held : reader.line ≡ Some new
  pub old_short : ¬ IsLongLine old
  pub new_short : ¬ IsLongLine new
  pub is_first : old ≡ first_line taken
  pub is_second : new ≡ second_line taken
  pub between : Option (List ℕ)
  pub old_is_next : IsNextPassword input.old old between
  pub new_is_next : IsNextPassword between new (coming reader.ahead input.new)

-- the input failed, or 2^63 bytes were taken
abbrev pub InputFailed : Stream → Type 0
InputFailed input = HasFailed input ⊎ TookMost 0 input

-- why no password was read: its line passes its limit in the bytes that were taken, or it doesn't and didn't end in them because the input failed, or
-- memory was refused before anything was read
abbrev pub PasswordUnread : Stream → Status → Type 0
PasswordUnread input LongPassword = (taken : List ℕ) × WereTaken input.old input.new taken × IsLongLine (first_line taken)
PasswordUnread input InputFault = (taken : List ℕ) × WereTaken input.old input.new taken × IsUnbroken taken × (¬ IsLongLine (first_line taken)) × InputFailed input
PasswordUnread input Memory = Untouched input
PasswordUnread input status = ⊥

-- the same of two password lines
abbrev pub PasswordsUnread : Stream → Status → Type 0
PasswordsUnread input LongPassword = (taken : List ℕ) × WereTaken input.old input.new taken × (IsLongLine (first_line taken) ⊎ IsLongLine (second_line taken))
PasswordsUnread input InputFault = (taken : List ℕ) × WereTaken input.old input.new taken × (¬ IsLongLine (first_line taken)) × (¬ IsLongLine (second_line taken)) × InputFailed input
PasswordsUnread input Memory = Untouched input
PasswordsUnread input status = ⊥
