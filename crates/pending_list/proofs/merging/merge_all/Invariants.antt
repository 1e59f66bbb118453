use Rattle.std.proofs.Common.{◌≡◌, ◌≤◌, ◌+◌, ◌-◌, length, drop, ◌++◌, vec_len, vec_capacity}
use Rattle.std.specs.VecDeque.{deque_len}
use Rattle.outside.specs.Changes.{set_changes}
use Rattle.outside.specs.View.{list_of}
use Rattle.pending_list.proofs.merging.merge_all.Given as goal

abbrev pub invariant-loop-change : goal.invariant-loop-change
invariant-loop-change l = record {
  merged : list_of l.merged.items ++ set_changes (drop (length l.yielded) (list_of l.fn.changes.items)) (list_of l.rest.items)
      ≡ list_of l.initial.merged.items ++ set_changes (list_of l.fn.changes.items) (list_of l.initial.rest.items);
  len : vec_len l.merged + deque_len l.rest + (length l.fn.changes.items - length l.yielded) ≤ vec_len l.initial.merged + deque_len l.initial.rest + length l.fn.changes.items;
  capacity : vec_capacity l.merged ≡ vec_capacity l.initial.merged;
}
