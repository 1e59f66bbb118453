use Rattle.std.proofs.Common.{◌≡◌, ◌≤◌, ◌+◌, ◌++◌, length, vec_len, vec_capacity}
use Rattle.store_api.proofs.draft.move_all.Given as goal

abbrev pub invariant-loop-entry : goal.invariant-loop-entry
invariant-loop-entry l = record {
  moved : l.entries.items ++ l.tree.entries ≡ l.initial.entries.items ++ l.initial.tree.entries;
  room : vec_len l.entries + length l.tree.entries ≤ vec_capacity l.entries;
}

abbrev pub decreases-loop-entry : goal.decreases-loop-entry
decreases-loop-entry l = length l.tree.entries
