use Rattle.std.proofs.Common.{◌≡◌, ◌-◌, [], map}
use Rattle.local_state.specs.Versions.{version_of}
use Rattle.shared_records.specs.Scan.{versions_at}
use Rattle.shared_records.proofs.others.triples_at.Given as goal

abbrev pub invariant-others : goal.invariant-others
invariant-others l = versions_at (l.count - l.counter) (map version_of l.others.items) l.rest ≡ versions_at l.count [] l.bytes
