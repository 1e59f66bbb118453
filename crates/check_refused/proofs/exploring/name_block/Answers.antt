use Rattle.std.proofs.Common.{ap}
use Rattle.check_refused.specs.Surveys.{ungiven_of}
use Rattle.check_refused.proofs.Surveying.{map_kept}
use Rattle.check_refused.proofs.exploring.name_block.Goals as goal

pub returns-in_ok-names-in-Ok : goal.returns-in_ok-names-in-Ok
returns-in_ok-names-in-Ok c = record { same = map_kept ungiven_of c.args.ungiven.now.items c.in-Ok.i _ _ (ap ungiven_of c.index_mut.ensures.value) }
