use Rattle.std.proofs.Common.{◌+◌, ◌*◌}
use Rattle.data_cuts.proofs.cutting.+lower.Given as goal

abbrev pub decreases-cut_root : goal.decreases-cut_root
decreases-cut_root g l = 2 * l.level.depth

abbrev pub decreases-lower : goal.decreases-lower
decreases-lower g l = 2 * l.level.depth + 1
