use Rattle.copy_sessions.proofs.Following.{exported}
use Rattle.copy_sessions.proofs.law.export_leaves.Goals as goal

pub returns : goal.returns
returns c = exported
