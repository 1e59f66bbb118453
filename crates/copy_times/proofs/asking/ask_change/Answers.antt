use Rattle.std.proofs.Common.{[], ◌∷◌, subst}
use Rattle.copy_times.specs.Asking.{gift_for}
use Rattle.copy_times.specs.Giving.{GaveAll}
use Rattle.copy_times.proofs.Given.{all_none}
use Rattle.copy_times.proofs.asking.ask_change.Goals as goal

pub returns-in-Err-clause-asks : goal.returns-in-Err-clause-asks
returns-in-Err-clause-asks g c = all_none g.A.Asker.asking g.met.A.Asker.lawful c.args.asker.now (gift_for c.args.path.now c.args.change ∷ [])
