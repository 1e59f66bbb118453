-- Directories in order.
use Rattle.std.specs.Prelude.{◌≡◌, ◌<◌, List, [], ◌∷◌, length, T}
use Rattle.std.specs.FinMap.{is_sorted}
use Rattle.std.specs.Global.{Box}
use Rattle.fs_model.specs.Tree.{name_cmp, path_cmp, entries_size}
use Rattle.plain_rows.specs.declared.rows.Folder.{Folder}
use Rattle.plain_rows.specs.Rows.{names_of, folders}

-- the names of a directory rise, there is one, and their size is known
pub record IsFull (f : Folder) : Type 0 where
  pub sorted : T (is_sorted name_cmp (names_of f))
  pub some : 0 < length f.items.items
  pub size : f.size ≡ entries_size (names_of f)

abbrev pub AllFull : List (Box Folder) → Type 0
AllFull [] = Unit {0}
AllFull (b ∷ bs) = IsFull b.value × AllFull bs

-- the paths rise, and so do the names in each directory
pub record IsOrdered (fs : List (Box Folder)) : Type 0 where
  pub sorted : T (is_sorted path_cmp (folders fs))
  pub full : AllFull fs
