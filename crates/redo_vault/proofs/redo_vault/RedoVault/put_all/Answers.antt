use Rattle.std.proofs.Common.{subst, sym}
use Rattle.outside.specs.Changes.{IsIncreasing}
use Rattle.outside.specs.ChangeLaws.{IsIncreasing-set_changes}
use Rattle.outside.specs.View.{list_of}
use Rattle.redo_vault.proofs.redo_vault.RedoVault.put_all.Goals as goal

pub invariant_of-self-2 : goal.invariant_of-self-2
invariant_of-self-2 g c = (
  subst IsIncreasing (sym c.in_ok-sums.ensures.ok) (IsIncreasing-set_changes (list_of c.args.changes.items) (list_of c.self.inside.list.items) c.self.invariant.0),
  c.in_ok-sums.ensures.sums.buffered,
  c.in_ok-sums.ensures.sums.weight,
)
