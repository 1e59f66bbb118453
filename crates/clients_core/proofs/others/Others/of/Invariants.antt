use Rattle.std.proofs.Common.{◌≡◌, ◌≤◌, map, drop, length}
use Rattle.clients_core.specs.Listed.{listed_in}
use Rattle.clients_core.specs.Versions.{version_of}
use Rattle.clients_core.proofs.others.Others.of.Given as goal

abbrev pub invariant-loop-from : goal.invariant-loop-from
invariant-loop-from l = record {
  within : l.from ≤ length l.listed;
  noted : l.others ≡ listed_in (map version_of (drop l.from l.listed));
}

abbrev pub decreases-loop-from : goal.decreases-loop-from
decreases-loop-from l = l.from
