-- What a store of byte lists stands for, and what its calls need and leave.
use Rattle.std.specs.Prelude.{◌≡◌, ◌≤◌, ◌+◌, ℕ, List, length}
use Rattle.std.specs.Cmp.Lexicographic.{slice_cmp}
use Rattle.std.specs.Ordering.{nat_cmp}
use Rattle.std.specs.FinMap.{FinMap, get, insert}
use Rattle.std.specs.declared.cmp.Ordering.{Ordering}
use Rattle.std.specs.declared.option.Option.{Option}
use Rattle.std.specs.declared.option.Option.TheVariants.{None, Some}
use Rattle.store_outcome.specs.Meanings.{Meanings}
use Rattle.blob_api.specs.declared.blobs.TheConstants.{MAX_BLOB}
use Rattle.block_id.specs.Contents.{pieces}

abbrev pub Id : Type 0
Id = List ℕ

abbrev pub id_cmp : Id → Id → Ordering
id_cmp = slice_cmp nat_cmp

-- byte lists by their ids
abbrev pub BlobMap : Type 0
BlobMap = FinMap id_cmp (List ℕ)

pub record BlobHoldings (S : Type 0) : Type 1 where
  -- the blobs, where what it holds shows some
  pub stands_for : S → BlobMap → Type 0
  -- how many blocks are changed and not yet committed
  pub changed : S → ℕ
  -- how many bytes of a blob a block takes, where that is told
  pub piece : S → Option ℕ

-- what holds of every store that is intact
pub record BlobsSteady {S : Type 0} (M : Meanings S) (H : BlobHoldings S) : Type 0 where
  pub one_map : (a : S) (m n : BlobMap) → H.stands_for a m → H.stands_for a n → m ≡ n
  pub piece_some : (a : S) (l : ℕ) → M.intact a → H.piece a ≡ Some l → 1 ≤ l
  pub piece_stays : (a b : S) → M.loaded a b → H.piece b ≡ H.piece a

-- what a call needs: that the store stands for a map
pub record StandsForMap {S : Type 0} (H : BlobHoldings S) (a : S) : Type 0 where
  pub map : BlobMap
  pub stands : H.stands_for a map

-- what a call needs: that the map has the id, and not too long a list there
pub record Has {S : Type 0} (H : BlobHoldings S) (a : S) (id : Id) : Type 0 where
  pub map : BlobMap
  pub stands : H.stands_for a map
  pub bytes : List ℕ
  pub there : get map id ≡ Some bytes
  pub fits : length bytes ≤ MAX_BLOB

-- these bytes were added to the map under an id that it didn't have
pub record IsNew {S : Type 0} (H : BlobHoldings S) (b : S) (map : BlobMap) (id : Id) (bytes : List ℕ) : Type 0 where
  pub fresh : get map id ≡ None
  pub stands : H.stands_for b (insert map id bytes)

-- n bytes at `from`, within the old length, changed as many blocks as they touch at most
abbrev pub IsSparing : {S : Type 0} → BlobHoldings S → S → S → ℕ → ℕ → ℕ → Type 0
IsSparing H a b old from n = (l : ℕ) → H.piece a ≡ Some l → 1 ≤ n → from + n ≤ old → H.changed b ≤ H.changed a + pieces n l + 1
