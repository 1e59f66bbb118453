-- What a tree that was written past its end, or cut, leaves of the changes.
use Rattle.std.specs.Prelude.{◌≡◌, ◌⊎◌, ◌<◌, ◌≤◌, ◌+◌, ℕ, true, is_some}
use Rattle.std.specs.FinMap as fin
use Rattle.std.specs.FinMap.{get}
use Rattle.block_id.specs.Contents.{pieces}
use Rattle.data_reads.specs.data_nodes.Layout.{room}
use Rattle.data_reads.specs.store_api.Content.{Id, Content, Changes, SameIds}
use Rattle.data_reads.specs.data_tree.Border.{OnBorder}
use Rattle.data_cuts.specs.Cutting.{OnlyBorder}
use Rattle.data_writes.specs.Leaves.{LeafAt, OnlyLeaves}

-- A tree got n bytes from a place on, inside its length: only leaves that hold a place of the range have something else in the changes, which have no more
-- entries than these leaves, and the ids are as before.
pub record WroteInside (payload : ℕ) (A B : Content) (depth : ℕ) (root : Id) (from n : ℕ) (old new : Changes) : Type 0 where
  pub only : OnlyLeaves payload A depth root from n old new
  pub few : fin.len new ≤ fin.len old + (pieces n (room payload) + 1)
  pub ids : SameIds A B

-- A tree of this length was written past its end from a place on, or filled up. No id is gone, and of the ids that were there only those of the right
-- border and of leaves that hold a place from there on have something else in the changes.
pub record Grew (payload : ℕ) (A B : Content) (depth : ℕ) (root : Id) (from len : ℕ) (old new : Changes) : Type 0 where
  pub stay : (q : Id) → is_some (A q) ≡ true → is_some (B q) ≡ true
  pub only : (q : Id) → is_some (A q) ≡ true
      → (get new q ≡ get old q) ⊎ (OnBorder A depth root q ⊎ ((place : ℕ) × ((from ≤ place) × ((place < len) × LeafAt payload A depth root place q))))

-- A tree was cut. No id is new, and of the ids that stay only those of its right border now have something else in the changes.
pub record Shrank (A B : Content) (depth : ℕ) (root : Id) (old new : Changes) : Type 0 where
  pub fewer : (q : Id) → is_some (B q) ≡ true → is_some (A q) ≡ true
  pub only : OnlyBorder B depth root old new
