use Rattle.std.proofs.Common.{◌≡◌, ◌<◌, ◌≤◌, ◌+◌, ◌-◌, ◌^◌, ℕ}
use Rattle.data_tree.specs.Trees.{span}
use Rattle.data_tree.proofs.level.level_for.Given as goal

abbrev pub invariant-loop-level : goal.invariant-loop-level
invariant-loop-level l = record {
  room : l.level.room ≡ span l.payload l.level.depth;
  grown : 2 ^ l.level.depth ≤ l.level.room;
  fits : l.level.room < 2 ^ 57;
  above : (low : ℕ) → low + 1 ≡ l.level.depth → span l.payload low < l.len;
}

abbrev pub decreases-loop-level : goal.decreases-loop-level
decreases-loop-level l = l.len - l.level.room
