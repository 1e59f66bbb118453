use Rattle.std.proofs.Common.{◌+◌, ◌*◌}
use Rattle.data_growth.proofs.growing.+grow.Given as goal

abbrev pub decreases-grown_node : goal.decreases-grown_node
decreases-grown_node g l = 2 * l.level.depth

abbrev pub decreases-grown_inner : goal.decreases-grown_inner
decreases-grown_inner g l = 2 * l.level.depth + 1
