use Rattle.clients_core.proofs.Buried.{buried_same}
use Rattle.clients_core.proofs.TakenAll.{stands_buried}
use Rattle.clients_core.proofs.seen.Seen.bury.Goals as goal

pub returns-clause-versions : goal.returns-clause-versions
returns-clause-versions c = buried_same c.args.self.now.known.lives c.bury.new.self.lives c.args.id.now.0 c.requires c.bury.ensures.lives

pub returns-clause-stands : goal.returns-clause-stands
returns-clause-stands c = λ h s.
    stands_buried c.args.self.now.own c.args.self.now.known.lives c.bury.new.self.lives c.args.self.now.others h
    (buried_same c.args.self.now.known.lives c.bury.new.self.lives c.args.id.now.0 c.requires c.bury.ensures.lives) s
