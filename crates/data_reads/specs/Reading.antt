-- Parts of the bytes that trees hold.
use Rattle.std.specs.Prelude.{◌≡◌, ℕ, List, ◌++◌, take, drop}
use Rattle.data_tree.specs.store_api.Content.{Id}
use Rattle.data_tree.specs.store_api.Holdings.{Holdings}
use Rattle.data_tree.specs.Trees.{IsTree, Forest, span, NoDoubles}

-- the places from the first number up to the second
abbrev pub between : ℕ → ℕ → List ℕ → List ℕ
between from to w = drop from (take to w)

-- what is left to read: the trees below these ids, and what follows of the part
pub record ReadRest {S : Type 0} (H : Holdings S) (s : S) (depth : ℕ) (children : List Id) (before after : List ℕ) (from to : ℕ) (all : List ℕ) : Type 0 where
  pub bytes : List ℕ
  pub ids : List Id
  pub trees : Forest (IsTree (H.payload s) (H.content s) depth) (span (H.payload s) depth) children bytes ids
  pub alone : NoDoubles ids
  pub joined : after ++ between from to bytes ≡ before ++ all
