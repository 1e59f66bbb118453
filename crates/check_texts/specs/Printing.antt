-- A text that is printed in pieces.
use Rattle.std.specs.Prelude.{◌≡◌, ℕ, List, [], ◌++◌, Result, Ok, Err}
use Rattle.outside.specs.Streams.{appends}
use Rattle.copy_sessions.specs.line_io.Streams.{Stream, HasFailed, Cut}
use Rattle.copy_sessions.specs.session_lines.Driven.{IsUnfailed}
use Rattle.check_texts.specs.declared.error.PrintError.{PrintError}
use Rattle.check_texts.specs.declared.error.PrintError.TheVariants.{Memory, Failed}

-- no more than a part of the text was written, for this cause
abbrev pub IsCut : Stream → List ℕ → PrintError → Type 0
IsCut output text Failed = Cut output.old output.new text × HasFailed output
IsCut output text Memory = Cut output.old output.new text × IsUnfailed output

-- of what waited with the text behind it, a part from the front was written, and the rest waits
pub record Passes (output : Stream) (before text after : List ℕ) : Type 0 where
  pub part : List ℕ
  pub whole : before ++ text ≡ part ++ after
  pub written : output.new ≡ appends output.old part
  pub quiet : IsUnfailed output

-- so it was, or it ended in the midst of what waited and the text
abbrev pub Prints : Stream → List ℕ → List ℕ → List ℕ → Result Unit PrintError → Type 0
Prints output before text after (Ok _) = Passes output before text after
Prints output before text after (Err error) = IsCut output (before ++ text) error

-- the text was written whole and nothing waits, or no more than a part of it was written
abbrev pub IsPrinted : Stream → List ℕ → List ℕ → Result Unit PrintError → Type 0
IsPrinted output text waiting (Ok _) = (output.new ≡ appends output.old text) × IsUnfailed output × (waiting ≡ [])
IsPrinted output text waiting (Err error) = IsCut output text error
