use Rattle.copy_sessions.proofs.Following.{part_exported}
use Rattle.copy_sessions.proofs.law.export_leaves_part.Goals as goal

pub returns : goal.returns
returns c = part_exported
