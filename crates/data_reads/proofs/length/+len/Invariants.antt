use Rattle.std.proofs.Common.{◌+◌, ◌*◌}
use Rattle.data_reads.proofs.length.+len.Given as goal

abbrev pub decreases-len_below : goal.decreases-len_below
decreases-len_below g l = 2 * l.level.depth + 1

abbrev pub decreases-len_in : goal.decreases-len_in
decreases-len_in g l = 2 * l.level.depth
