-- What marks say of the paths whose blobs were walked before.
use Rattle.std.specs.Prelude.{◌≡◌, ℕ, false, List, None, is_some}
use Rattle.check_walk.specs.Halts.{IsOwned}
use Rattle.check_walk.specs.Marks.{MarkList, owner_of}
use Rattle.check_walk.specs.Needs.{NodeNeed}
use Rattle.fs_model.specs.Tree.{Path}
use Rattle.check_walk.specs.store_api.Content.{Id, Content}
use Rattle.check_walk.specs.store_api.Holdings.{has_id}
use Rattle.check_rules.specs.Reached.{Place, NeedsNode}

-- a place of another path needs this node
pub record IsElsewhere (payload : ℕ) (root : Id) (G : Content) (path : Path) (id : Id) : Type 0 where
  pub place : Place
  pub need : NodeNeed
  pub needs : NeedsNode payload G root place id need
  pub apart : place.path ≡ path → ⊥

-- each block with an owner is needed by another path; what has no mark doesn't live, and what lives is held
pub record MarksOthers (payload : ℕ) (root : Id) (live : List Id) (G : Content) (path : Path) (marks : MarkList) (held : Content) : Type 0 where
  pub owned : (id : Id) → IsOwned marks id → IsElsewhere payload root G path id
  pub dead : (id : Id) → owner_of marks id ≡ None → has_id live id ≡ false
  pub holds : (id : Id) → is_some (held id) ≡ has_id live id
