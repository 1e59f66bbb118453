-- The ids so far and those that are left, after one more.
use Rattle.std.proofs.Common.{arith}
use Rattle.data_nodes.proofs.Laws.{next_id}
use Rattle.data_nodes.proofs.reading.ids_from.Goals as goal

pub loop-id-preserved : goal.loop-id-preserved
loop-id-preserved c =
    let cases = c.in-Some.ensures.cases in
    rw c.in_ok-push.ensures.items (next_id c.loop-id.ids.items (record { 0 = c.in-Some.id.now }) c.loop-id.rest.now c.in-Some.after.now _ c.loop-id.invariant (omega arith) cases.0 cases.1)
