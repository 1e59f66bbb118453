-- Exchanges in order, by lines and texts. In a list of exchanges the newest stands first.
use Rattle.std.specs.Prelude.{◌≡◌, ◌⊎◌, ℕ, List, [], ◌∷◌, ◌++◌, length, map, Ok}
use Rattle.std.specs.declared.option.Option.{Option}
use Rattle.std.specs.declared.option.Option.TheVariants.{None, Some}
use Rattle.fs_model.specs.Instant.{Instant}
use Rattle.outside.specs.Streams.{appends}
use Rattle.line_io.specs.Lines.{lines, IsUnbroken}
use Rattle.line_io.specs.Streams.{Cut}
use Rattle.answers.specs.script_text.Grammar.{command_of}
use Rattle.workload.specs.Generated.{generated_of}
use Rattle.answers.specs.Sessions.{Asked, Exchange}
use Rattle.answers.specs.Texts.{text_of_answer}
use Rattle.answers.specs.declared.answer.Answer.{Answer}

-- what was asked, the oldest first
abbrev pub asked_in : List Exchange → List Asked
asked_in [] = []
asked_in (e ∷ es) = asked_in es ++ e.asked ∷ []

-- the texts of the answers in one, the oldest first
abbrev pub said_in : List Exchange → List ℕ
said_in [] = []
said_in (e ∷ es) = said_in es ++ text_of_answer e.answer

-- the first lines of the bytes were asked, where they are told
abbrev pub AskedFirst : Option (List ℕ) → List Exchange → Type 0
AskedFirst None es = Unit {0}
AskedFirst (Some bytes) es = (first : List (List ℕ)) × (more : List (List ℕ)) × (lines bytes ≡ first ++ more) × (asked_in es ≡ map command_of first)

-- all lines of the bytes were asked, where they are told
abbrev pub AskedAll : Option (List ℕ) → List Exchange → Type 0
AskedAll None es = Unit {0}
AskedAll (Some bytes) es = asked_in es ≡ map command_of (lines bytes)

-- these lines, a newline behind each
abbrev pub ended_lines : List (List ℕ) → List ℕ
ended_lines [] = []
ended_lines (line ∷ more) = line ++ 10 ∷ ended_lines more

-- the lines that ended in what was taken of the bytes were asked, and no other; the rest is left, and what was taken besides is a part of one line
pub record IsAskedUpTo (bytes rest : List ℕ) (es : List Exchange) : Type 0 where
  pub first : List (List ℕ)
  pub part : List ℕ
  pub unbroken : IsUnbroken part
  pub taken : bytes ≡ ended_lines first ++ (part ++ rest)
  pub begins : lines bytes ≡ first ++ lines (part ++ rest)
  pub asked : asked_in es ≡ map command_of first

-- all lines of the bytes were asked, or those that ended in what was taken, where they are told
abbrev pub AskedTaken : Option (List ℕ) → Option (List ℕ) → List Exchange → Type 0
AskedTaken None left es = Unit {0}
AskedTaken (Some bytes) left es = AskedAll (Some bytes) es ⊎ ((rest : List ℕ) × (left ≡ Some rest) × IsAskedUpTo bytes rest es)

-- all texts were written, but of the last perhaps only a part from its front
abbrev pub CutLast : Option (List ℕ) → Option (List ℕ) → List Exchange → Type 0
CutLast old new [] = ⊥
CutLast old new (e ∷ es) = Cut (appends old (said_in es)) new (text_of_answer e.answer)

-- the answers, the newest first, are those to the generated commands from the first on, asked at this moment
abbrev pub generated : Instant → List Answer → List Exchange
generated now [] = []
generated now (answer ∷ answers) = record { at = now; asked = Ok (generated_of (length answers)); answer = answer } ∷ generated now answers

-- one line, asked at this moment, and its answer
abbrev pub single : Instant → List ℕ → Answer → List Exchange
single now line answer = record { at = now; asked = command_of line; answer = answer } ∷ []
