-- Blobs: the blocks are exactly the trees of some byte lists.
use Rattle.std.specs.Prelude.{◌≡◌, ℕ, true, cond, List, length, Option, Some, is_some}
use Rattle.store_api.specs.Content.{Id, Content, same_id}
use Rattle.store_api.specs.Holdings.{has_id}
use Rattle.data_tree.specs.Trees.{IsTree, IsDepth, NoDoubles}

-- the left-filled tree of a list, of these nodes
pub record BlobTree (payload : ℕ) (B : Content) (id : Id) (w : List ℕ) (ids : List Id) : Type 0 where
  pub depth : ℕ
  pub deep : IsDepth payload depth (length w)
  pub tree : IsTree payload B depth id w ids
  pub alone : NoDoubles ids

-- Each id of the map has the left-filled tree of its list; no two trees share an id, and each block is of one of them.
pub record StoresBlobs (payload : ℕ) (B : Content) (M : Id → Option (List ℕ)) : Type 0 where
  pub ids : Id → List Id
  pub blob : (id : Id) (w : List ℕ) → M id ≡ Some w → BlobTree payload B id w (ids id)
  pub apart : (a b x : Id) → is_some (M a) ≡ true → is_some (M b) ≡ true → has_id (ids a) x ≡ true → has_id (ids b) x ≡ true → a ≡ b
  pub all : (x : Id) → is_some (B x) ≡ true → (id : Id) × ((is_some (M id) ≡ true) × (has_id (ids id) x ≡ true))

-- the map with another list, or none, for one id
abbrev pub with_blob : Id → Option (List ℕ) → (Id → Option (List ℕ)) → Id → Option (List ℕ)
with_blob root change M id = cond (same_id id root) change (M id)
