-- Where rows stand, and lists that are a tree.
use Rattle.std.specs.Prelude.{◌≡◌, ℕ, List, slice_index_or}
use Rattle.std.specs.Global.{Box}
use Rattle.fs_model.specs.Tree.{Path, Tree, name_cmp, path_cmp, parent, last_name}
use Rattle.plain_rows.specs.declared.rows.Folder.{Folder}
use Rattle.plain_rows.specs.Sorted.{IsElementAt}
use Rattle.plain_rows.specs.Rows.{item_entry, folder_entry, tree_of}
use Rattle.plain_rows.specs.Formed.{IsOrdered}

-- the row of this path is the i-th of the f-th directory
pub record IsRowAt (fs : List (Box Folder)) (p : Path) (f i : ℕ) : Type 0 where
  pub folder : IsElementAt path_cmp folder_entry fs (parent p) f
  pub item : (d : Box Folder) → IsElementAt name_cmp item_entry (slice_index_or fs f d).value.items.items (last_name p) i

-- the directories are this tree, and in order
pub record IsTable (fs : List (Box Folder)) (t : Tree) : Type 0 where
  pub tree : tree_of fs ≡ t
  pub ordered : IsOrdered fs
