-- The program's values as plain data.
use Rattle.std.specs.Prelude.{ℕ, List, Vec, map}
use Rattle.std.specs.declared.alloc.Global.{Global}
use Rattle.std.specs.declared.option.Option.{Option}
use Rattle.std.specs.declared.option.Option.TheVariants.{None, Some}
use Rattle.outside.specs.declared.change.FileName.{FileName}
use Rattle.outside.specs.declared.change.FileName.TheVariants.{Config, Block}
use Rattle.outside.specs.declared.change.Change.{Change}
use Rattle.outside.specs.declared.change.Change.TheVariants.{Bytes, Removal}
use Rattle.outside.specs.declared.change.Pending.{Pending}
use Rattle.outside.specs.Trace.{At, config, block}

abbrev pub at_of : FileName → At
at_of Config = config
at_of (Block id) = block id.0

abbrev pub bytes_of : Option (Vec ℕ Global) → Option (List ℕ)
bytes_of None = None
bytes_of (Some v) = Some v.items

-- Some for new bytes, None for a removal
abbrev pub change_of : Change → Option (List ℕ)
change_of (Bytes bytes) = Some bytes.items
change_of Removal = None

-- a file and its change
abbrev pub pending_of : Pending → At × Option (List ℕ)
pending_of p = (at_of p.name, change_of p.change)

-- an unwritten list
abbrev pub list_of : List Pending → List (At × Option (List ℕ))
list_of ps = map pending_of ps
