use Rattle.std.specs.List.{AllAdjacentBelow}
use Rattle.real_host_folder.proofs.Rising.{IsBelow}
use Rattle.real_host_folder.proofs.listing.rise.Given as goal

abbrev pub invariant-loop-i : goal.invariant-loop-i
invariant-loop-i l = AllAdjacentBelow IsBelow l.rows l.i
