use Rattle.cryfs_check.proofs.Blobs.{halted_at}
use Rattle.cryfs_check.proofs.checking.visit_place.Goals as goal

pub returns-in-Err-place_entries-clause-halted : goal.returns-in-Err-place_entries-clause-halted
returns-in-Err-place_entries-clause-halted g c = halted_at c.in-Ok.ensures.walked.1 (λ C ids tree. tt)
