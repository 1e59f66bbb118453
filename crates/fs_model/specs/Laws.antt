-- What steps keep.
use Rattle.std.specs.Prelude.{◌≡◌, ◌⊎◌, true, false}
use Rattle.std.specs.FinMap.{get}
use Rattle.std.specs.declared.option.Option.TheVariants.{Some}
use Rattle.fs_model.specs.declared.command.Command.{Command}
use Rattle.fs_model.specs.declared.command.Command.TheVariants as command
use Rattle.fs_model.specs.Tree.{Path, Row, Tree, is_root, parent}
use Rattle.fs_model.specs.Instant.{Instant}
use Rattle.fs_model.specs.Move.{moved}
use Rattle.fs_model.specs.Step.{with_ctime, with_moments}

-- List, Stat, Readlink, Read and Sync
abbrev pub OnlyLooks : Command → Type 0
OnlyLooks (command.List p) = Unit {0}
OnlyLooks (command.Stat p) = Unit {0}
OnlyLooks (command.Readlink p) = Unit {0}
OnlyLooks (command.Read p from count) = Unit {0}
OnlyLooks command.Sync = Unit {0}
OnlyLooks _ = ⊥

-- a path that isn't touched: the root, or neither of the two directories
abbrev pub IsUntouched : Path → Path → Path → Type 0
IsUntouched p q r = (is_root r ≡ true) ⊎ ((r ≡ parent p → ⊥) × (r ≡ parent q → ⊥))

-- The rows are those from before, but for q's old one, each at its path with the prefix q in place of p. The moved one's ctime is now,
-- and mtime and ctime of the directories that it left and came to, but for the root.
pub record IsMoved (before after : Tree) (now : Instant) (p q : Path) : Type 0 where
  pub arrived : (row : Row) → get before p ≡ Some row → get after q ≡ Some (with_ctime row now)
  pub kept : (r : Path) (row : Row) → get before r ≡ Some row → (r ≡ q → ⊥) → (r ≡ p → ⊥) → IsUntouched p q r → get after (moved p q r) ≡ Some row
  pub left : (row : Row) → get before (parent p) ≡ Some row → is_root (parent p) ≡ false → get after (parent p) ≡ Some (with_moments row now)
  pub joined : (row : Row) → get before (parent q) ≡ Some row → is_root (parent q) ≡ false → get after (parent q) ≡ Some (with_moments row now)
  pub came : (r : Path) (row : Row) → get after r ≡ Some row → (o : Path) × ((old : Row) × (get before o ≡ Some old) × (o ≡ q → ⊥) × (moved p q o ≡ r))
  pub apart : (r o : Path) (row old : Row) → get before r ≡ Some row → get before o ≡ Some old → (r ≡ q → ⊥) → (o ≡ q → ⊥) → moved p q r ≡ moved p q o → r ≡ o
