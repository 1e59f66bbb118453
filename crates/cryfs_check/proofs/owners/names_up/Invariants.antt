use Rattle.std.proofs.Common.{◌≡◌, ◌++◌, [], get_or}
use Rattle.cryfs_check.specs.Places.{places_text, paths_of}
use Rattle.cryfs_check.proofs.owners.names_up.Given as goal

abbrev pub invariant-loop-at : goal.invariant-loop-at
invariant-loop-at l = l.names.items ++ get_or (paths_of (places_text l.places)) l.at [] ≡ get_or (paths_of (places_text l.places)) l.number []

abbrev pub decreases-loop-at : goal.decreases-loop-at
decreases-loop-at l = l.at
