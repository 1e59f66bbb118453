use Rattle.std.proofs.Common.{subst, sym, ◌∙◌, ap}
use Rattle.outside.specs.Changes.{IsIncreasing}
use Rattle.outside.specs.ChangeLaws.{IsIncreasing-drop}
use Rattle.outside.specs.View.{list_of}
use Rattle.redo_vault.specs.Redo.{sum_with}
use Rattle.redo_vault.proofs.redo_vault.RedoVault.write_out.Goals as goal

pub invariant_of-self : goal.invariant_of-self
invariant_of-self g c = (
  subst IsIncreasing (sym c.drop_front.ensures) (IsIncreasing-drop c.write_all-written.result.0 (list_of c.self.inside.list.items) c.self.invariant.0),
  c.sum_of_lens-self-inside.ensures ∙ ap (λ ps. sum_with 0 (list_of ps)) c.deref-2.ensures.value,
  c.sum_of_lens-self-inside-2.ensures ∙ ap (λ ps. sum_with 64 (list_of ps)) c.deref-3.ensures.value,
)
