-- How few blocks a write inside a file changes.
use Rattle.std.specs.Prelude.{◌≡◌, ◌≤◌, ◌+◌, ℕ, length}
use Rattle.std.specs.FinMap.{get}
use Rattle.std.specs.declared.option.Option.TheVariants.{Some}
use Rattle.block_id.specs.Contents.{pieces}
use Rattle.blob_store.specs.blob_api.BlobMap.{BlobHoldings}
use Rattle.blob_store.specs.data_nodes.Layout.{room}
use Rattle.fs_model.specs.declared.attr.Kind.TheVariants.{File}
use Rattle.fs_model.specs.declared.command.Command.{Command}
use Rattle.fs_model.specs.declared.command.Command.TheVariants.{Write}
use Rattle.fs_model.specs.Tree.{Row, Tree, upward, parent, directory_size}
use Rattle.path_contents.specs.Sparing.{IsSparingAt}

-- how many payloads of this length n bytes of a file and the entries of its directory touch at most
abbrev pub most_touched : ℕ → ℕ → ℕ → ℕ
most_touched payload n entries = pieces n (room payload) + pieces entries (room payload) + 2

-- where the command writes from 1 byte on, within the length of its file, this holds of how many payloads that touches at most
abbrev pub OnWriteInside : ℕ → Tree → Command → (ℕ → Type 0) → Type 0
OnWriteInside payload t (Write p from bytes) P = (row : Row) → get t (upward p) ≡ Some row → row.attr.kind ≡ File → 1 ≤ length bytes → from + length bytes ≤ length row.bytes
    → P (most_touched payload (length bytes) (directory_size t (parent (upward p))))
OnWriteInside payload t _ P = Unit {0}

-- over any blobs: of a write alone something is said
abbrev pub IsSparingIn : {S : Type 0} → BlobHoldings S → S → S → Tree → Command → Type 0
IsSparingIn H a b t (Write p from bytes) = IsSparingAt H a b t (upward p) from (length bytes)
IsSparingIn H a b t _ = Unit {0}
