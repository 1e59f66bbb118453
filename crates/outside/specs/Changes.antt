-- Lists of changes, as finite maps from names to new bytes or none.
use Rattle.std.specs.Prelude.{ℕ, List, [], ◌∷◌, IsTrue, take}
use Rattle.std.specs.Option.{option_map}
use Rattle.std.specs.declared.option.Option.{Option}
use Rattle.std.specs.FinMap.{find, put, is_sorted}
use Rattle.outside.specs.Trace.{At}
use Rattle.outside.specs.Names.{at_cmp}

-- a name, and its new bytes or None for its removal
abbrev pub FileChanges : Type 0
FileChanges = List (At × Option (List ℕ))

-- the names strictly rise
abbrev pub IsIncreasing : FileChanges → Type 0
IsIncreasing list = IsTrue (is_sorted at_cmp list)

-- what a list says of a name, if it has the name
abbrev pub change_at : At → FileChanges → Option (Option (List ℕ))
change_at name list = find at_cmp name list

-- the list with one change in its place
abbrev pub set_change : At → Option (List ℕ) → FileChanges → FileChanges
set_change name change list = put at_cmp name change list

-- the list with these changes in their places
abbrev pub set_changes : FileChanges → FileChanges → FileChanges
set_changes [] list = list
set_changes (change ∷ changes) list = set_changes changes (set_change change.0 change.1 list)

-- at most so many of the bytes
abbrev pub cut : ℕ → Option (List ℕ) → Option (List ℕ)
cut max bytes = option_map (take max) bytes
