-- What the words of a command say together, before the command is made of it.
use Rattle.std.specs.Prelude.{ℕ, List, Option, Some, None, Result, Ok}
use Rattle.fs_model.specs.declared.error.FsError.{FsError}
use Rattle.script_text.specs.Words.{two}
use Rattle.script_text.specs.Escapes.{unescaped}
use Rattle.script_text.specs.Grammar.{◌>>=◌, formed, path}

-- the texts of two words
abbrev pub two_texts : List (List ℕ) → Result (List ℕ × List ℕ) FsError
two_texts words = do
  pair ← two words
  first ← formed (unescaped pair.0)
  second ← formed (unescaped pair.1)
  Ok (first, second)

-- the text of a word, and what the words behind it say
abbrev pub text_before : {A : Type 0} → List ℕ → Option A → Result (List ℕ × A) FsError
text_before word others = do
  text ← formed (unescaped word)
  rest ← formed others
  Ok (text, rest)

-- the path of a word, and what the words behind it say, whose forms come first
abbrev pub path_before : {A : Type 0} → List ℕ → Option A → Result (List (List ℕ) × A) FsError
path_before word others = do
  all ← text_before word others
  at ← path all.0
  Ok (at, all.1)

-- what two words say
abbrev pub both : {A B : Type 0} → Option A → Option B → Option (A × B)
both (Some a) (Some b) = Some (a, b)
both _ _ = None
