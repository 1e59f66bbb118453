-- What a text says as a path.
use Rattle.std.specs.Prelude.{ℕ, Bool, cond, not, ◌||◌, ◌==◌, nat_lt, List, [], ◌∷◌, length, Result, Ok, Err}
use Rattle.std.specs.List.{list_any, slice_split}
use Rattle.fs_model.specs.declared.limits.TheConstants.{MAX_NAME, MAX_PATH_TEXT}
use Rattle.fs_model.specs.Names.{is_dots, is_zero}
use Rattle.script_text.specs.declared.error.PathError.{PathError}
use Rattle.script_text.specs.declared.error.PathError.TheVariants.{Form, Dot, LongName, LongPath}
use Rattle.script_text.specs.Words.{is_empty}

abbrev pub is_slash : ℕ → Bool
is_slash b = b == 47

abbrev pub is_long : List ℕ → Bool
is_long n = nat_lt MAX_NAME (length n)

-- the names that follow the first slash: none for `/` alone, else the pieces between slashes
abbrev pub names_after : List ℕ → List (List ℕ)
names_after [] = []
names_after (b ∷ rest) = slice_split is_slash (b ∷ rest)

-- the first refusal of names that holds, else the path of these names
abbrev pub path_of_names : List (List ℕ) → Result (List (List ℕ)) PathError
path_of_names names = cond (list_any is_empty names) (Err Form) (cond (list_any is_dots names) (Err Dot) (cond (list_any is_long names) (Err LongName) (Ok names)))

-- a text of any length
abbrev pub path_of_text : List ℕ → Result (List (List ℕ)) PathError
path_of_text [] = Err Form
path_of_text (b ∷ rest) = cond (not (is_slash b) || list_any is_zero rest) (Err Form) (path_of_names (names_after rest))

-- the names of the path that a text says, from the root on, or the first cause that refuses it
abbrev pub path_of : List ℕ → Result (List (List ℕ)) PathError
path_of text = cond (nat_lt MAX_PATH_TEXT (length text)) (Err LongPath) (path_of_text text)
