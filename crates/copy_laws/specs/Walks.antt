-- A walk over a folder's rows: those that were met, and those that are known and still to be met with what is below them.
use Rattle.std.specs.Prelude.{◌≡◌, ◌⊎◌, ℕ, true, List, [], ◌∷◌, ◌++◌, T, is_some, IfSome, Some}
use Rattle.std.specs.FinMap.{get, find, is_sorted}
use Rattle.std.specs.declared.cmp.Ordering.{Ordering}
use Rattle.std.specs.declared.cmp.Ordering.TheVariants.{Less, Equal, Greater}
use Rattle.std.specs.declared.option.Option.{Option}
use Rattle.fs_model.specs.declared.attr.Kind.{Kind}
use Rattle.fs_model.specs.declared.attr.Kind.TheVariants.{Directory}
use Rattle.fs_model.specs.Tree.{path_cmp, name_cmp}
use Rattle.host_folder.specs.Folders.{HostRow, HostPath, HostTree, IsHostTree, kind_in}

abbrev pub Met : Type 0
Met = List (HostPath × HostRow)

abbrev pub Todo : Type 0
Todo = List (HostPath × Kind)

abbrev pub todo_in : HostPath → List (List ℕ × Kind) → Todo
todo_in p [] = []
todo_in p ((n, k) ∷ more) = (p ++ n ∷ [], k) ∷ todo_in p more

-- the first path stands before the second, and what is below it as well
abbrev pub BeforeBy : Ordering → Type 0 → Type 0
BeforeBy Less P = Unit {0}
BeforeBy Equal P = P
BeforeBy Greater P = ⊥

abbrev pub Before : HostPath → HostPath → Type 0
Before [] b = ⊥
Before (m ∷ a) [] = ⊥
Before (m ∷ a) (n ∷ b) = BeforeBy (name_cmp m n) (Before a b)

abbrev pub BeforeAll : HostPath → Todo → Type 0
BeforeAll p [] = Unit {0}
BeforeAll p (d ∷ ds) = Before p d.0 × BeforeAll p ds

abbrev pub AreOrdered : Todo → Type 0
AreOrdered [] = Unit {0}
AreOrdered (d ∷ ds) = BeforeAll d.0 ds × AreOrdered ds

-- each path that was met is less than this one
abbrev pub AreLess : Met → HostPath → Type 0
AreLess [] p = Unit {0}
AreLess (e ∷ es) p = (path_cmp e.0 p ≡ Less) × AreLess es p

abbrev pub AreAhead : Met → Todo → Type 0
AreAhead es [] = Unit {0}
AreAhead es (d ∷ ds) = AreLess es d.0 × AreAhead es ds

abbrev pub IsPlain : HostRow → Type 0
IsPlain row = row.kind ≡ Directory → row.bytes ≡ []

abbrev pub ArePlainRows : Met → Type 0
ArePlainRows [] = Unit {0}
ArePlainRows (e ∷ es) = IsPlain e.1 × ArePlainRows es

abbrev pub AreOf : HostTree → Met → Type 0
AreOf t [] = Unit {0}
AreOf t (e ∷ es) = (get t e.0 ≡ Some e.1) × AreOf t es

abbrev pub HasKinds : HostTree → Todo → Type 0
HasKinds t [] = Unit {0}
HasKinds t (d ∷ ds) = (kind_in (get t d.0) ≡ Some d.1) × HasKinds t ds

-- the path is one that is still to be met, or is below one
abbrev pub IsUnder : HostPath → Todo → Type 0
IsUnder p [] = ⊥
IsUnder p (d ∷ ds) = ((s : HostPath) × (p ≡ d.0 ++ s)) ⊎ IsUnder p ds

-- no path of the tree is missed
pub record Covers (t : HostTree) (met : Met) (todo : Todo) : Type 0 where
  pub tree : IsHostTree t
  pub rows : AreOf t met
  pub kinds : HasKinds t todo
  pub whole : (p : HostPath) → is_some (get t p) ≡ true → (is_some (find path_cmp p met) ≡ true) ⊎ IsUnder p todo

pub record IsWalk (told : Option HostTree) (met : Met) (todo : Todo) : Type 0 where
  pub rising : T (is_sorted path_cmp met)
  pub ahead : AreAhead met todo
  pub order : AreOrdered todo
  pub plain : ArePlainRows met
  pub covers : IfSome told (λ t. Covers t met todo)

-- the row at this path, and its children by their names: none where it is no directory
pub record IsRowAt (t : HostTree) (p : HostPath) (row : HostRow) (kids : List (List ℕ × Kind)) : Type 0 where
  pub here : get t p ≡ Some row
  pub each : (n : List ℕ) → find name_cmp n kids ≡ kind_in (get t (p ++ n ∷ []))
