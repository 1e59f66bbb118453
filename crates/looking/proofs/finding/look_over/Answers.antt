use Rattle.looking.proofs.finding.look_over.Goals as goal

pub returns-clause-ready : goal.returns-clause-ready
returns-clause-ready g c = record { intact = c.new.ensures.intact; empty = c.new.ensures.overlay }
