use Rattle.std.proofs.Common.{◌≡◌, length}
use Rattle.bench_memory.proofs.seal.bench.Given as goal

abbrev pub invariant-loop-number : goal.invariant-loop-number
invariant-loop-number l = length l.plain.items ≡ l.plan.size
