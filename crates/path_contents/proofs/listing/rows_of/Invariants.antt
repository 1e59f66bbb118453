use Rattle.std.proofs.Common.{◌≡◌, map, take}
use Rattle.path_walks.specs.dir_entries.Layout.{listing_of}
use Rattle.path_contents.specs.Listed.{shown_row}
use Rattle.path_contents.proofs.listing.rows_of.Given as goal

abbrev pub invariant-loop-entry : goal.invariant-loop-entry
invariant-loop-entry l = l.rows.items ≡ map shown_row (listing_of (take l.entry-index l.entries))
