-- A line as its words.
use Rattle.std.specs.Prelude.{ℕ, Bool, ◌==◌, List, [], ◌∷◌, length, Result, Ok, Err}
use Rattle.std.specs.List.{slice_split}
use Rattle.fs_model.specs.declared.error.FsError.{FsError}
use Rattle.fs_model.specs.declared.error.FsError.TheVariants.{BadLine}

abbrev pub is_space : ℕ → Bool
is_space b = b == 32

-- the pieces between single spaces
abbrev pub words : List ℕ → List (List ℕ)
words line = slice_split is_space line

abbrev pub is_empty : List ℕ → Bool
is_empty word = length word == 0

-- the first word, and the others
abbrev pub front : {A : Type 0} → List A → Result (A × List A) FsError
front [] = Err BadLine
front (a ∷ rest) = Ok (a, rest)

-- the words of a command that wants just one, two or three after its name
abbrev pub one : {A : Type 0} → List A → Result A FsError
one (a ∷ []) = Ok a
one _ = Err BadLine

abbrev pub two : {A : Type 0} → List A → Result (A × A) FsError
two (a ∷ b ∷ []) = Ok (a, b)
two _ = Err BadLine

abbrev pub three : {A : Type 0} → List A → Result (A × A × A) FsError
three (a ∷ b ∷ c ∷ []) = Ok (a, b, c)
three _ = Err BadLine
