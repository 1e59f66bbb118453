use Rattle.std.proofs.Common.{◌+◌, ◌-◌, length}
use Rattle.block_id.proofs.Candidates.{value, behind}
use Rattle.store_api.specs.Holdings.{is_free}
use Rattle.store_api.specs.Passing.{PassedOver}
use Rattle.found_blocks.specs.Rows.{ids_in}
use Rattle.found_blocks.proofs.rows.FoundRows.fresh.Given as goal

abbrev pub invariant-loop-id : goal.invariant-loop-id
invariant-loop-id l = PassedOver (is_free (ids_in l.self)) l.fn.drawn.0 l.id.0

abbrev pub decreases-loop-id : goal.decreases-loop-id
decreases-loop-id l = (length (ids_in l.self) + 2) - behind (value l.fn.drawn.0) (value l.id.0)
