use Rattle.std.proofs.Common.{map, ap, ◌∙◌}
use Rattle.std.specs.FinMap as fin
use Rattle.clients_core.specs.Others.{plain_entry}
use Rattle.clients_core.proofs.Listed.{listed_fits}
use Rattle.clients_core.proofs.others.Others.listed.Goals as goal

pub returns-clause-fits : goal.returns-clause-fits
returns-clause-fits c = listed_fits c.args.self.now c.deref.result.now c.triples_of.result (ap (map plain_entry) c.deref.ensures.value ∙ c.in_ok-entries.ensures ∙ ap fin.entries c.self.view_is) c.deref.type_inv.0 c.triples_of.ensures.entries c.triples_of.ensures.ranges
