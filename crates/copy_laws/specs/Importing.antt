-- Copying a folder into a tree.
use Rattle.std.specs.Prelude.{◌≡◌, ◌≢◌, ℕ, zero, suc, ◌+◌, true, List, [], ◌∷◌, ◌++◌, length, take, drop, is_some, Option, Some, None}
use Rattle.std.specs.FinMap.{get, entries}
use Rattle.fs_model.specs.declared.attr.Kind.{Kind}
use Rattle.fs_model.specs.declared.attr.Kind.TheVariants.{Directory, File, Link}
use Rattle.fs_model.specs.declared.command.Command.{Command}
use Rattle.fs_model.specs.declared.command.Command.TheVariants as command
use Rattle.fs_model.specs.declared.reply.Reply.TheVariants.{Done}
use Rattle.fs_model.specs.Instant.{Instant}
use Rattle.fs_model.specs.Step.{step}
use Rattle.fs_model.specs.Tree.{Path, Row, Tree, upward}
use Rattle.host_folder.specs.Folders.{HostRow, HostPath, HostTree}

-- cut into pieces of this size, the last of which may be shorter; as many at most as are told
abbrev pub cut : ℕ → ℕ → List ℕ → List (List ℕ)
cut size zero w = []
cut size (suc n) [] = []
cut size (suc n) (b ∷ w) = take size (b ∷ w) ∷ cut size n (drop size (b ∷ w))

abbrev pub pieces_of : List ℕ → List (List ℕ)
pieces_of w = cut 1048576 (length w) w

-- pieces one after the other
abbrev pub joined : List (List ℕ) → List ℕ
joined [] = []
joined (piece ∷ more) = piece ++ joined more

-- each piece has this size
abbrev pub AreFull : ℕ → List (List ℕ) → Type 0
AreFull size [] = Unit {0}
AreFull size (piece ∷ more) = (length piece ≡ size) × AreFull size more

abbrev pub writes : HostPath → ℕ → List (List ℕ) → List Command
writes p from [] = []
writes p from (piece ∷ more) = command.Write p from piece ∷ writes p (from + length piece) more

abbrev pub commands_for : HostPath → Kind → List ℕ → List Command
commands_for p Directory bytes = command.Mkdir p ∷ []
commands_for p File bytes = command.Mkfile p ∷ writes p 0 (pieces_of bytes)
commands_for p Link bytes = command.Symlink bytes p ∷ []

-- the commands for these entries, below q; the root has none
abbrev pub commands_in : HostPath → List (HostPath × HostRow) → List Command
commands_in q [] = []
commands_in q (([], row) ∷ es) = commands_in q es
commands_in q ((n ∷ r, row) ∷ es) = commands_for (q ++ n ∷ r) row.kind row.bytes ++ commands_in q es

abbrev pub import_commands : HostTree → HostPath → List Command
import_commands t q = commands_in q (entries t)

-- each of the commands is done, one after the other
abbrev pub AllDone : Tree → Instant → List Command → Tree → Type 0
AllDone t now [] last = last ≡ t
AllDone t now (c ∷ cs) last = (mid : Tree) × ((step t now c ≡ record { reply = Done; tree = mid }) × AllDone mid now cs last)

abbrev pub plain_of : Option Row → Option HostRow
plain_of None = None
plain_of (Some row) = Some (record { kind = row.attr.kind; bytes = row.bytes })

-- each path of the folder but its root stands below q with its kind and bytes; every other path has the kind and bytes that it had
pub record Merged (old new : Tree) (q : HostPath) (t : HostTree) : Type 0 where
  pub each : (n : List ℕ) (r : HostPath) (row : HostRow) → get t (n ∷ r) ≡ Some row → plain_of (get new (upward (q ++ n ∷ r))) ≡ Some row
  pub rest : (p : Path) → ((n : List ℕ) (r : HostPath) → is_some (get t (n ∷ r)) ≡ true → p ≢ upward (q ++ n ∷ r)) → plain_of (get new p) ≡ plain_of (get old p)

-- a directory has no bytes
abbrev pub ArePlain : HostTree → Type 0
ArePlain t = (r : HostPath) (row : HostRow) → get t r ≡ Some row → row.kind ≡ Directory → row.bytes ≡ []

abbrev pub ImportMerges : Type 0
ImportMerges = (t : HostTree) (q : HostPath) (now : Instant) (old new : Tree) → ArePlain t → AllDone old now (import_commands t q) new → Merged old new q t
