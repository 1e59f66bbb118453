-- What a list counts once its drafts are sealed, and the room that sealing takes.
use Rattle.std.specs.Prelude.{ℕ, ◌-◌, ◌^◌, ◌≤◌, min, List, sum_by, vec_capacity}
use Rattle.std.specs.List.{AllByRecursion}
use Rattle.std.specs.declared.option.Option.{Option}
use Rattle.std.specs.declared.option.Option.TheVariants.{None, Some}
use Rattle.outside.specs.declared.change.FileName.{FileName}
use Rattle.outside.specs.declared.change.FileName.TheVariants.{Config, Block}
use Rattle.outside.specs.declared.change.Change.{Change}
use Rattle.outside.specs.declared.change.Change.TheVariants.{Bytes, Removal}
use Rattle.outside.specs.declared.change.Pending.{Pending}
use Rattle.outside.specs.Trace.{At, config, block}
use Rattle.outside.specs.Changes.{FileChanges}
use Rattle.redo_vault.specs.Redo.{bytes_len, len_with}

-- ---- lengths

-- how many bytes a change counts once it is sealed, where files have this size and each removal counts so many
abbrev pub sealed_len : ℕ → ℕ → At × Option (List ℕ) → ℕ
sealed_len size removal (config, change) = len_with removal change
sealed_len size removal (block id, None) = removal
sealed_len size removal (block id, Some draft) = size

-- how many bytes a list counts once its drafts are sealed, up to the end of the type
abbrev pub sealed_sum : ℕ → ℕ → FileChanges → ℕ
sealed_sum size removal list = min (sum_by (sealed_len size removal) list) (2 ^ 64 - 1)

-- how many of the changes are removals
abbrev pub one_if_removal : Option (List ℕ) → ℕ
one_if_removal None = 1
one_if_removal (Some bytes) = 0

abbrev pub removals_in : FileChanges → ℕ
removals_in list = sum_by (λ (e : At × Option (List ℕ)). one_if_removal e.1) list

-- whether what is said of a file puts it, as a number, and how many bytes
abbrev pub puts_of : Option (Option (List ℕ)) → ℕ
puts_of None = 0
puts_of (Some None) = 0
puts_of (Some (Some bytes)) = 1

abbrev pub bytes_put : Option (Option (List ℕ)) → ℕ
bytes_put None = 0
bytes_put (Some change) = bytes_len change

-- ---- room

-- if this is the change of a block's file, there is memory for so many bytes of it
abbrev pub HasRoomFor : ℕ → FileName → Change → Type 0
HasRoomFor size Config change = Unit {0}
HasRoomFor size (Block id) Removal = Unit {0}
HasRoomFor size (Block id) (Bytes bytes) = size ≤ vec_capacity bytes

abbrev pub HaveRoom : ℕ → List Pending → Type 0
HaveRoom size list = AllByRecursion (λ (p : Pending). HasRoomFor size p.name p.change) list
