-- How few blocks a write inside a file changes.
use Rattle.std.specs.Prelude.{◌≡◌, ◌≤◌, ◌+◌, ℕ, length}
use Rattle.block_id.specs.Contents.{pieces}
use Rattle.std.specs.FinMap.{get}
use Rattle.std.specs.declared.option.Option.TheVariants.{Some}
use Rattle.path_walks.specs.blob_api.BlobMap.{BlobHoldings}
use Rattle.fs_model.specs.declared.attr.Kind.TheVariants.{File}
use Rattle.fs_model.specs.Tree.{Path, Row, Tree, parent, directory_size}

-- n bytes at `from` in the file and the entry's bytes in its directory changed as many blocks as they touch at most
abbrev pub IsSparingTwice : {S : Type 0} → BlobHoldings S → S → S → ℕ → ℕ → ℕ → ℕ → Type 0
IsSparingTwice H a b old size from n = (l : ℕ) → H.piece a ≡ Some l → 1 ≤ n → from + n ≤ old → H.changed b ≤ H.changed a + pieces n l + pieces size l + 2

-- n bytes at `from` in the file p
abbrev pub IsSparingAt : {S : Type 0} → BlobHoldings S → S → S → Tree → Path → ℕ → ℕ → Type 0
IsSparingAt H a b t p from n = (row : Row) → get t p ≡ Some row → row.attr.kind ≡ File → IsSparingTwice H a b (length row.bytes) (directory_size t (parent p)) from n
