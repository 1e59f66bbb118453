use Rattle.std.proofs.Common.{length}
use Rattle.dir_entries.specs.Layout.{listing_of}
use Rattle.dir_entries.proofs.Bodies.{Reads}
use Rattle.dir_entries.proofs.decode.decode_entries.Given as goal

abbrev pub invariant-loop-rest : goal.invariant-loop-rest
invariant-loop-rest l = Reads l.body (listing_of l.entries.items) l.rest

abbrev pub decreases-loop-rest : goal.decreases-loop-rest
decreases-loop-rest l = length l.rest
