use Rattle.std.proofs.Common.{◌+◌, ◌*◌}
use Rattle.data_cuts.proofs.cutting.+cut.Given as goal

abbrev pub decreases-cut_below : goal.decreases-cut_below
decreases-cut_below g l = 3 * l.level.depth + 2

abbrev pub decreases-cut_in : goal.decreases-cut_in
decreases-cut_in g l = 3 * l.level.depth + 1

abbrev pub decreases-cut_children : goal.decreases-cut_children
decreases-cut_children g l = 3 * l.level.depth + 3
