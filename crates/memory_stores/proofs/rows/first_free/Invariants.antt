use Rattle.std.proofs.Common.{◌+◌, ◌-◌, length}
use Rattle.std.specs.FinMap as fin
use Rattle.block_id.proofs.Candidates.{value, behind}
use Rattle.store_api.specs.Holdings.{is_free}
use Rattle.store_api.specs.Passing.{PassedOver}
use Rattle.memory_stores.proofs.rows.first_free.Given as goal

abbrev pub invariant-loop-id : goal.invariant-loop-id
invariant-loop-id l = PassedOver (is_free (fin.keys l.rows)) l.fn.drawn.0 l.id.0

abbrev pub decreases-loop-id : goal.decreases-loop-id
decreases-loop-id l = (length (fin.keys l.rows) + 2) - behind (value l.fn.drawn.0) (value l.id.0)
