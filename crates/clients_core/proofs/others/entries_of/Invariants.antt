use Rattle.std.proofs.Common.{◌≡◌, map}
use Rattle.std.specs.Map.Iter.{deref_pair}
use Rattle.clients_core.proofs.others.entries_of.Given as goal

abbrev pub invariant-loop-author : goal.invariant-loop-author
invariant-loop-author l = l.entries.items ≡ map deref_pair l.yielded
