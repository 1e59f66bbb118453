use Rattle.std.proofs.Common.{◌≡◌, ◌++◌, length, map}
use Rattle.found_blocks.specs.Rows.{entries_in, row_entry}
use Rattle.found_blocks.proofs.rows.FoundRows.of_tree.Given as goal

abbrev pub invariant-loop-id : goal.invariant-loop-id
invariant-loop-id l = map row_entry l.rows.items ++ entries_in l.tree.entries ≡ entries_in l.initial.tree.entries

abbrev pub decreases-loop-id : goal.decreases-loop-id
decreases-loop-id l = length l.tree.entries
