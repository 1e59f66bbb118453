-- The tree that a list of directories is.
use Rattle.std.specs.Prelude.{ℕ, List, [], ◌∷◌, ◌++◌, map}
use Rattle.std.specs.FinMap.{from_entries, find}
use Rattle.std.specs.declared.option.Option.{Option}
use Rattle.std.specs.declared.option.Option.TheVariants.{None, Some}
use Rattle.std.specs.Global.{Box}
use Rattle.fs_model.specs.Tree.{Path, Row, Tree, upward, name_cmp, root_row}
use Rattle.plain_rows.specs.declared.rows.Item.{Item}
use Rattle.plain_rows.specs.declared.rows.Folder.{Folder}

-- rows by their names
abbrev pub Names : Type 0
Names = List (List ℕ × Row)

abbrev pub item_row : Item → Row
item_row i = record { attr = i.attr; bytes = i.bytes.items }

abbrev pub item_entry : Box Item → List ℕ × Row
item_entry b = (b.value.name, item_row b.value)

-- the rows of a directory
abbrev pub names_of : Folder → Names
names_of f = map item_entry f.items.items

abbrev pub folder_entry : Box Folder → Path × Names
folder_entry b = (upward b.value.path, names_of b.value)

abbrev pub folders : List (Box Folder) → List (Path × Names)
folders fs = map folder_entry fs

-- the row of a name in a directory, which may have none
abbrev pub inside : Option Names → List ℕ → Option Row
inside None n = None
inside (Some rows) n = find name_cmp n rows

-- the rows of a directory by their paths
abbrev pub below : Path → Names → List (Path × Row)
below p [] = []
below p (e ∷ es) = (e.0 ∷ p, e.1) ∷ below p es

abbrev pub flat : List (Path × Names) → List (Path × Row)
flat [] = []
flat (f ∷ fs) = below f.0 f.1 ++ flat fs

-- the root's row, which no directory holds, and those of the directories
unfoldable pub tree_of : List (Box Folder) → Tree
tree_of fs = from_entries (([], root_row) ∷ flat (folders fs))
