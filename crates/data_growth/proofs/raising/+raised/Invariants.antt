use Rattle.std.proofs.Common.{◌-◌}
use Rattle.data_growth.proofs.raising.+raised.Given as goal

abbrev pub decreases-raised : goal.decreases-raised
decreases-raised g l = l.n - l.level.room
