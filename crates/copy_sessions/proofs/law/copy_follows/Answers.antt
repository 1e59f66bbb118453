use Rattle.copy_sessions.proofs.Following.{follows}
use Rattle.copy_sessions.proofs.law.copy_follows.Goals as goal

pub returns : goal.returns
returns c = follows
