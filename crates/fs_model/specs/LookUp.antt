-- Looking up a path by its longest prefix in the tree.
use Rattle.std.specs.Prelude.{cond, [], ◌∷◌, is_some}
use Rattle.std.specs.FinMap.{get}
use Rattle.std.specs.declared.option.Option.{Option}
use Rattle.std.specs.declared.option.Option.TheVariants.{None, Some}
use Rattle.fs_model.specs.declared.error.FsError.{FsError}
use Rattle.fs_model.specs.declared.error.FsError.TheVariants.{NoEntry, NotDirectory}
use Rattle.fs_model.specs.Tree.{Path, Row, Tree, parent, same_path, is_directory}

-- the longest prefix of the path that is in the tree
abbrev pub longest : Tree → Path → Path
longest t [] = []
longest t (n ∷ p) = cond (is_some (get t (n ∷ p))) (n ∷ p) (longest t p)

-- what a look-up sees: a row, that the path is free, or an error
pub data LookedUp : Type 0 where
  Found : Row → LookedUp
  Free : LookedUp
  Bad : FsError → LookedUp

-- the path isn't in the tree: q is its longest prefix that is, with the row here
abbrev pub missing : Path → Path → Option Row → LookedUp
missing p q None = Bad NoEntry
missing p q (Some row) = cond (is_directory row.attr.kind) (cond (same_path q (parent p)) Free (Bad NoEntry)) (Bad NotDirectory)

abbrev pub seen : Tree → Path → Option Row → LookedUp
seen t p (Some row) = Found row
seen t p None = missing p (longest t p) (get t (longest t p))

abbrev pub look : Tree → Path → LookedUp
look t p = seen t p (get t p)

-- the walk from the root on, name by name
abbrev pub goes_on : LookedUp → Option Row → LookedUp
goes_on (Found row) (Some next) = cond (is_directory row.attr.kind) (Found next) (Bad NotDirectory)
goes_on (Found row) None = cond (is_directory row.attr.kind) Free (Bad NotDirectory)
goes_on Free next = Bad NoEntry
goes_on (Bad e) next = Bad e

abbrev pub start : Option Row → LookedUp
start None = Bad NoEntry
start (Some row) = Found row

abbrev pub walk : Tree → Path → LookedUp
walk t [] = start (get t [])
walk t (n ∷ p) = goes_on (walk t p) (get t (n ∷ p))
