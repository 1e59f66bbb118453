-- Rows that move below another path.
use Rattle.std.specs.Prelude.{◌≡◌, ℕ, List, [], ◌∷◌, ◌++◌}
use Rattle.std.specs.Global.{Box}
use Rattle.std.specs.FinMap.{get}
use Rattle.std.specs.declared.option.Option.TheVariants.{None}
use Rattle.fs_model.specs.Tree.{Path, Tree, upward}
use Rattle.fs_model.specs.Move.{strip}
use Rattle.plain_rows.specs.declared.rows.Folder.{Folder}
use Rattle.plain_rows.specs.Rows.{Names, names_of}

-- what was below p is below q, and all else, p's own row too, is where it was
pub record IsBelowMoved (old new : Tree) (p q : Path) : Type 0 where
  pub root : get new [] ≡ get old []
  pub arrived : (n : List ℕ) (s : Path) → get new (n ∷ (s ++ q)) ≡ get old (n ∷ (s ++ p))
  pub gone : (n : List ℕ) (s : Path) → strip q (s ++ p) ≡ None → get new (n ∷ (s ++ p)) ≡ None
  pub stays : (n : List ℕ) (r : Path) → strip q r ≡ None → strip p r ≡ None → get new (n ∷ r) ≡ get old (n ∷ r)

-- directories at other paths
abbrev pub paired : List (List (List ℕ)) → List (Box Folder) → List (Path × Names)
paired [] fs = []
paired (p ∷ ps) [] = []
paired (p ∷ ps) (f ∷ fs) = (upward p, names_of f.value) ∷ paired ps fs
