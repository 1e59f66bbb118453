use Rattle.std.proofs.Common.{◌≡◌, take}
use Rattle.outside.specs.View.{list_of}
use Rattle.redo_vault.specs.Redo.{sum_with}
use Rattle.redo_vault.proofs.redo_vault.sum_of_lens.Given as goal

abbrev pub invariant-loop-pending : goal.invariant-loop-pending
invariant-loop-pending l = l.len ≡ sum_with l.removal (take l.pending-index (list_of l.list))
