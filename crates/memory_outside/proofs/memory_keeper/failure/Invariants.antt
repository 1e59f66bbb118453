use Rattle.std.proofs.Common.{◌≡◌, drop}
use Rattle.memory_outside.specs.Keepers.{failure_at}
use Rattle.memory_outside.proofs.memory_keeper.failure.Given as goal

abbrev pub invariant-loop-failure : goal.invariant-loop-failure
invariant-loop-failure l = failure_at l.failing l.number ≡ failure_at (drop l.failure-index l.failing) l.number
