use Rattle.std.proofs.Common.{◌∙◌, ap}
use Rattle.outside.specs.View.{list_of}
use Rattle.redo_vault.specs.Redo.{Redo, buffered_len}
use Rattle.redo_vault.proofs.Lists.{same_buffered}
use Rattle.redo_vault.proofs.redo_vault.RedoVault.buffered.Goals as goal

pub returns : goal.returns
returns g c =
    c.self.invariant.1 ∙ same_buffered (list_of c.self.inside.list.items) ∙ ap (λ (r : Redo g.row.V.Denot). buffered_len r.list) c.self.view_is
