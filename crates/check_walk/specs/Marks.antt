-- Which place owns each live block.
use Rattle.std.specs.Prelude.{◌≡◌, ◌<◌, ◌==◌, ℕ, true, false, cond, List, Some, None, Option}
use Rattle.std.specs.FinMap.{find}
use Rattle.std.specs.List as lists
use Rattle.std.specs.Option.{option_map}
use Rattle.block_id.specs.declared.id.BlockId.{BlockId}
use Rattle.data_tree.specs.store_api.Content.{Id, id_cmp, same_id}
use Rattle.data_tree.specs.store_api.Holdings.{has_id}
use Rattle.check_walk.specs.declared.marks.Mark.{Mark}
use Rattle.check_walk.specs.declared.marks.Reaching.{Reaching}
use Rattle.check_walk.specs.declared.marks.Reaching.TheVariants.{First, Twice, NotLive}

-- live blocks, by increasing ids, each with the number of its owner, or 0
abbrev pub MarkList : Type 0
MarkList = List (Id × ℕ)

abbrev pub mark_entry : Mark → Id × ℕ
mark_entry m = (m.id.0, m.owner)

abbrev pub unmarked : BlockId → Id × ℕ
unmarked id = (id.0, 0)

-- the owner of a live block, or 0; none where it doesn't live
abbrev pub owner_of : MarkList → Id → Option ℕ
owner_of marks id = find id_cmp id marks

-- the first live block without an owner, or none
abbrev pub first_unowned : MarkList → Option Id
first_unowned marks = option_map (λ m. m.0) (lists.find (λ m. m.1 == 0) marks)

-- this block had no owner and got this one; every other has what it had
pub record MarkedOne (old new : MarkList) (id : Id) (owner : ℕ) : Type 0 where
  pub was : owner_of old id ≡ Some 0
  pub now : (q : Id) → owner_of new q ≡ cond (same_id q id) (Some owner) (owner_of old q)

abbrev pub OnReaching : MarkList → MarkList → Id → ℕ → Reaching → Type 0
OnReaching old new id owner First = MarkedOne old new id owner
OnReaching old new id owner Twice = (new ≡ old) × ((n : ℕ) × ((0 < n) × (owner_of old id ≡ Some n)))
OnReaching old new id owner NotLive = (new ≡ old) × (owner_of old id ≡ None)

-- these blocks had no owner and got this one; every other has what it had
pub record MarkedAll (old new : MarkList) (ids : List Id) (owner : ℕ) : Type 0 where
  pub was : (q : Id) → has_id ids q ≡ true → owner_of old q ≡ Some 0
  pub now : (q : Id) → has_id ids q ≡ true → owner_of new q ≡ Some owner
  pub kept : (q : Id) → has_id ids q ≡ false → owner_of new q ≡ owner_of old q
