-- The folder among the words of a copy: `import FOLDER PATH`, `import --times FOLDER PATH`, and the same of `export`.
use Rattle.std.specs.Prelude.{ℕ, Bool, ◌||◌, cond, codes, List, [], ◌∷◌}
use Rattle.std.specs.Str.{bytes_eq}
use Rattle.std.specs.declared.option.Option.{Option}
use Rattle.std.specs.declared.option.Option.TheVariants.{None, Some}

-- `import` and `export`
abbrev pub is_copy : List ℕ → Bool
is_copy word = bytes_eq word (codes "import") || bytes_eq word (codes "export")

-- the copy keeps modes, owners and times
abbrev pub is_times : List ℕ → Bool
is_times word = bytes_eq word (codes "--times")

-- the folder of a copy: the word behind the first one, or behind `--times`
abbrev pub folder_in : List (List ℕ) → Option (List ℕ)
folder_in [] = None
folder_in (first ∷ []) = None
folder_in (first ∷ folder ∷ []) = cond (is_copy first) (cond (is_times folder) None (Some folder)) None
folder_in (first ∷ option ∷ folder ∷ words) = cond (is_copy first) (cond (is_times option) (Some folder) (Some option)) None

-- the words without it
abbrev pub words_left : List (List ℕ) → List (List ℕ)
words_left [] = []
words_left (first ∷ []) = first ∷ []
words_left (first ∷ folder ∷ []) = cond (is_copy first) (cond (is_times folder) (first ∷ folder ∷ []) (first ∷ [])) (first ∷ folder ∷ [])
words_left (first ∷ option ∷ folder ∷ words) = cond (is_copy first) (cond (is_times option) (first ∷ option ∷ words) (first ∷ folder ∷ words)) (first ∷ option ∷ folder ∷ words)
