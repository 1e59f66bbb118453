use Rattle.std.proofs.Common.{◌≡◌, ◌≤◌, ◌+◌, ◌-◌, length, drop, vec_len, vec_capacity}
use Rattle.outside.specs.Changes.{IsIncreasing, set_changes}
use Rattle.outside.specs.View.{list_of}
use Rattle.redo_vault.specs.Redo.{AreSums}
use Rattle.redo_vault.proofs.redo_vault.set_all.Given as goal

abbrev pub invariant-loop-change : goal.invariant-loop-change
invariant-loop-change l = record {
  set : set_changes (drop (length l.yielded) (list_of l.fn.changes.items)) (list_of l.list.items) ≡ set_changes (list_of l.fn.changes.items) (list_of l.initial.list.items);
  increasing : IsIncreasing (list_of l.list.items);
  sums : AreSums l.now (list_of l.list.items);
  room : vec_len l.list + (length l.fn.changes.items - length l.yielded) ≤ vec_capacity l.list;
}
