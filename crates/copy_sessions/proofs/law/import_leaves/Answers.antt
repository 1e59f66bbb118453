use Rattle.copy_sessions.proofs.Following.{leaves}
use Rattle.copy_sessions.proofs.law.import_leaves.Goals as goal

pub returns : goal.returns
returns c = leaves
