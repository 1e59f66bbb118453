use Rattle.std.proofs.Common.{◌≡◌, ◌/◌, ◌++◌, length}
use Rattle.data_nodes.specs.Layout.{ids_of}
use Rattle.data_nodes.specs.Reading.{cut}
use Rattle.data_nodes.proofs.reading.ids_from.Given as goal

-- the ids so far, and those that are left
abbrev pub invariant-loop-id : goal.invariant-loop-id
invariant-loop-id l = ids_of l.ids.items ++ cut (length l.rest / 16) l.rest ≡ cut l.count l.bytes

abbrev pub decreases-loop-id : goal.decreases-loop-id
decreases-loop-id l = length l.rest
