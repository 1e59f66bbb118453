use Rattle.std.proofs.Common.{length}
use Rattle.fs_model.proofs.paths.+cmp_names.Given as goal

abbrev pub decreases-cmp_names : goal.decreases-cmp_names
decreases-cmp_names l = length l.a.now
