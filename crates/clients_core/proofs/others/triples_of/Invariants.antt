use Rattle.std.proofs.Common.{◌≡◌, map, take}
use Rattle.std.specs.Prelude.{All}
use Rattle.clients_core.specs.Listed.{listed_entry, IsInRange}
use Rattle.clients_core.specs.Others.{plain_entry}
use Rattle.clients_core.specs.Versions.{version_of}
use Rattle.clients_core.proofs.others.triples_of.Given as goal

abbrev pub invariant-loop-entry : goal.invariant-loop-entry
invariant-loop-entry l = record {
  entries : map listed_entry (map version_of l.triples.items) ≡ map plain_entry (take l.entry-index l.entries);
  ranges : All (λ t. IsInRange (version_of t)) l.triples.items;
}
