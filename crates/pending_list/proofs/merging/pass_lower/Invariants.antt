use Rattle.std.proofs.Common.{◌≡◌, ◌≤◌, ◌+◌, List, ℕ, ◌∷◌, ◌++◌, vec_len, vec_capacity}
use Rattle.std.specs.VecDeque.{deque_len}
use Rattle.std.specs.declared.option.Option.{Option}
use Rattle.outside.specs.Changes.{FileChanges, IsIncreasing, set_changes}
use Rattle.outside.specs.View.{at_of, list_of}
use Rattle.pending_list.proofs.merging.pass_lower.Given as goal

abbrev pub invariant-loop-order : goal.invariant-loop-order
invariant-loop-order l = record {
  passed : (change : Option (List ℕ)) → (later : FileChanges) → IsIncreasing ((at_of l.name, change) ∷ later)
      → list_of l.merged.items ++ set_changes ((at_of l.name, change) ∷ later) (list_of l.rest.items)
      ≡ list_of l.initial.merged.items ++ set_changes ((at_of l.name, change) ∷ later) (list_of l.initial.rest.items);
  len : vec_len l.merged + deque_len l.rest ≤ vec_len l.initial.merged + deque_len l.initial.rest;
  capacity : vec_capacity l.merged ≡ vec_capacity l.initial.merged;
}

abbrev pub decreases-loop-order : goal.decreases-loop-order
decreases-loop-order l = deque_len l.rest
