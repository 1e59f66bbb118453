use Rattle.std.proofs.Common.{◌≡◌, ◌<◌, ◌+◌, ◌^◌, ℕ}
use Rattle.data_tree.specs.Trees.{span}
use Rattle.data_tree.proofs.level.level_of.Given as goal

abbrev pub invariant-loop-i : goal.invariant-loop-i
invariant-loop-i l = record {
  is : l.room ≡ span l.payload l.i;
  fits : l.room < 2 ^ 63;
  above : (low : ℕ) → low + 1 ≡ l.i → span l.payload low < 2 ^ 40;
}
