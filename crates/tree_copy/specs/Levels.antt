-- The directories that a copy is in: the outermost first.
use Rattle.std.specs.Prelude.{◌≡◌, ◌⊎◌, ℕ, Bool, true, false, List, [], ◌∷◌, ◌++◌, map, drop, T, IfSome}
use Rattle.std.specs.FinMap.{get, find, is_sorted}
use Rattle.std.specs.declared.option.Option.{Option}
use Rattle.std.specs.declared.option.Option.TheVariants.{None, Some}
use Rattle.std.specs.declared.result.Result.{Result}
use Rattle.std.specs.declared.result.Result.TheVariants.{Ok, Err}
use Rattle.fs_model.specs.declared.attr.Kind.{Kind}
use Rattle.fs_model.specs.Tree.{name_cmp}
use Rattle.copy_row.specs.host_folder.Folders.{HostPath, HostTree, IsHostTree, kind_in, row_pair}
use Rattle.copy_row.specs.copy_laws.Walks.{Todo, todo_in, HasKinds}
use Rattle.copy_row.specs.copy_laws.declared.copied.CopyFail.{CopyFail}
use Rattle.copy_row.specs.declared.place.RowPlace.{RowPlace}
use Rattle.tree_copy.specs.declared.levels.Level.{Level}

-- the rows that are left
abbrev pub left_of : Level → List (List ℕ × Kind)
left_of l = drop l.next (map row_pair l.rows)

-- the innermost directory's rows are copied first
abbrev pub todo_of : List Level → Todo
todo_of [] = []
todo_of (l ∷ ls) = todo_of ls ++ todo_in l.host (left_of l)

-- each directory of the folder has its path below q in the tree
abbrev pub HasTargets : HostPath → List Level → Type 0
HasTargets q [] = Unit {0}
HasTargets q (l ∷ ls) = (l.tree ≡ q ++ l.host) × HasTargets q ls

-- the told tree has the rows that are left
pub record AreKnown (t : HostTree) (levels : List Level) : Type 0 where
  pub tree : IsHostTree t
  pub kinds : HasKinds t (todo_of levels)

-- the first of the rows that were left is taken
pub record IsTaken (old new : Level) (at : RowPlace) : Type 0 where
  pub name : List ℕ
  pub host : new.host ≡ old.host
  pub tree : new.tree ≡ old.tree
  pub left : left_of old ≡ (name, at.kind) ∷ left_of new
  pub at_host : at.host ≡ old.host ++ name ∷ []
  pub at_tree : at.tree ≡ old.tree ++ name ∷ []

abbrev pub NextIs : Level → Level → Option RowPlace → Type 0
NextIs old new None = left_of old ≡ []
NextIs old new (Some at) = IsTaken old new at

-- a directory more, with all its rows left
pub record IsEntered (told : Option HostTree) (from to : HostPath) (old new : List Level) : Type 0 where
  pub level : Level
  pub is : new ≡ old ++ level ∷ []
  pub host : level.host ≡ from
  pub tree : level.tree ≡ to
  pub rise : T (is_sorted name_cmp (left_of level))
  pub rows : IfSome told (λ t. (n : List ℕ) → find name_cmp n (left_of level) ≡ kind_in (get t (from ++ n ∷ [])))

-- the levels are as before, or there is a directory more, which is this one
abbrev pub IsDeeper : HostPath → List Level → List Level → Type 0
IsDeeper p old new = (new ≡ old) ⊎ ((l : Level) × ((new ≡ old ++ l ∷ []) × (l.host ≡ p)))

-- the last directory had no rows left and is done
pub record IsEnded (old new : List Level) : Type 0 where
  pub level : Level
  pub are : old ≡ new ++ level ∷ []
  pub spent : left_of level ≡ []

-- a row was taken, and its own rows are left in its place
pub record IsStep (old new : List Level) : Type 0 where
  pub path : HostPath
  pub kind : Kind
  pub kids : List (List ℕ × Kind)
  pub rest : Todo
  pub was : todo_of old ≡ (path, kind) ∷ rest
  pub is : todo_of new ≡ todo_in path kids ++ rest

-- nothing is left where it says so, and else it goes on by a row or the end of a directory
abbrev pub Goes : Result Bool CopyFail → List Level → List Level → Type 0
Goes (Ok true) old new = IsEnded old new ⊎ IsStep old new
Goes (Ok false) old new = new ≡ []
Goes (Err e) old new = Unit {0}
