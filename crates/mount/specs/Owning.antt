-- Whose files are put: those that a mount seals are its own client's, and so is what waits where all that waited was.
use Rattle.std.specs.Prelude.{◌≡◌, ℕ, List, ◌++◌}
use Rattle.std.specs.List.{AllByRecursion}
use Rattle.std.specs.declared.option.Option.{Option}
use Rattle.std.specs.declared.option.Option.TheVariants.{None, Some}
use Rattle.outside.specs.Changes.{FileChanges, change_at}
use Rattle.outside.specs.Trace.{Call, block, config, put, got, removed}
use Rattle.store_api.specs.Content.{Id}
use Rattle.store_api.specs.Durables.{Identity}
use Rattle.mount_stores.specs.block_versions.BlockRecords.{opened}
use Rattle.mount.specs.Sealing.{View}

-- a file of this block that opens to a record of it, by the client of this identity
pub record IsOwnFile (I : Identity) (id : Id) (bytes : List ℕ) : Type 0 where
  pub version : ℕ
  pub payload : List ℕ
  pub opens : opened I.opens I.size id bytes ≡ Some (record { id = id; client = I.client; version = version; payload = payload })

-- each block's file that waits is one
abbrev pub OwnWaits : Identity → FileChanges → Type 0
OwnWaits I list = (id : Id) (bytes : List ℕ) → change_at (block id) list ≡ Some (Some bytes) → IsOwnFile I id bytes

-- so is what the call puts under a block's name
abbrev pub PutsOwn : Identity → Call → Type 0
PutsOwn I (put (block id) bytes ok) = IsOwnFile I id bytes
PutsOwn I (put config bytes ok) = Unit {0}
PutsOwn I (got name max answer) = Unit {0}
PutsOwn I (removed name ok) = Unit {0}

-- so is what each call puts that was added, where calls are told; what isn't told stays so
abbrev pub AddsOwn : Identity → Option (List Call) → Option (List Call) → Type 0
AddsOwn I None new = new ≡ None
AddsOwn I (Some old) new = (calls : List Call) × (new ≡ Some (calls ++ old)) × AllByRecursion (PutsOwn I) calls

-- where each block's file that waited is the own client's, so is each that waits afterwards, and each that was put since
pub record KeepsOwn (I : Identity) (before after : View) : Type 0 where
  pub waits : OwnWaits I before.list → OwnWaits I after.list
  pub adds : OwnWaits I before.list → AddsOwn I before.calls after.calls
