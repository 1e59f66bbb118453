-- The names of the files that a directory in memory holds.
use Rattle.std.specs.Prelude.{ℕ, List, [], ◌∷◌, fold}
use Rattle.std.specs.Ordering.{nat_cmp}
use Rattle.std.specs.Cmp.Lexicographic.{slice_cmp}
use Rattle.std.specs.BTreeMap.{is_at}
use Rattle.std.specs.BTreeSet.{insert_key}
use Rattle.std.specs.Set.{remove_key}
use Rattle.std.specs.declared.option.Option.{Option}
use Rattle.std.specs.declared.option.Option.TheVariants.{None, Some}
use Rattle.outside.specs.Changes.{FileChanges}
use Rattle.outside.specs.FileTexts.{text_of_file}

-- names in order, with one more, and without one
abbrev pub with_name : List (List ℕ) → List ℕ → List (List ℕ)
with_name names name = insert_key (slice_cmp nat_cmp) names name

abbrev pub without_name : List (List ℕ) → List ℕ → List (List ℕ)
without_name names name = remove_key (is_at (slice_cmp nat_cmp name)) names

-- the names of the files that changes after a first one leave, with that one: it counts in place of those
abbrev pub after_first : Option (List ℕ) → List ℕ → List (List ℕ) → List (List ℕ)
after_first None name names = without_name names name
after_first (Some bytes) name names = with_name names name

-- the names of the files that are there: of changes of one name the first counts, and a removal is no file
abbrev pub file_names : FileChanges → List (List ℕ)
file_names [] = []
file_names (change ∷ changes) = after_first change.1 (text_of_file change.0) (file_names changes)

-- these with the strange ones
abbrev pub all_names : FileChanges → List (List ℕ) → List (List ℕ)
all_names files strange = fold with_name (file_names files) strange
