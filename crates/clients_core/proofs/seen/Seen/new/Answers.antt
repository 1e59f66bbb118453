use Rattle.std.proofs.Common.{[], sym, subst}
use Rattle.std.specs.FinMap as fin
use Rattle.local_state.specs.Known.{Lives}
use Rattle.clients_core.specs.Others.{OtherVersions}
use Rattle.clients_core.specs.Standing.{StandsBy}
use Rattle.clients_core.proofs.Numbers.{stands_new}
use Rattle.clients_core.proofs.seen.Seen.new.Goals as goal

pub returns-clause-stands : goal.returns-clause-stands
returns-clause-stands c =
    subst (λ (m : Lives). StandsBy c.args.own m c.new-2.result []) (sym c.new.ensures) (subst (λ (o : OtherVersions). StandsBy c.args.own fin.empty o []) (sym c.new-2.ensures) (stands_new c.args.own))
