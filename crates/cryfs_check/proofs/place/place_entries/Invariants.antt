use Rattle.std.proofs.Common.{◌≡◌, ◌++◌}
use Rattle.check_rules.specs.dir_entries.Layout.{listing_of}
use Rattle.cryfs_check.specs.Places.{places_text, placed}
use Rattle.cryfs_check.proofs.place.place_entries.Given as goal

abbrev pub invariant-loop-entry : goal.invariant-loop-entry
invariant-loop-entry l = places_text l.places.items ≡ places_text l.initial.places.items ++ placed l.number (listing_of l.yielded)
