use Rattle.std.proofs.Common.{◌≤◌, sym, subst}
use Rattle.std.proofs.lemmas.List.Elements.{All-push}
use Rattle.fs_model.specs.declared.limits.TheConstants.{MAX_MODE}
use Rattle.host_attributes.specs.declared.row.AttributedRow.{AttributedRow}
use Rattle.host_attributes.specs.Attributes.{AreWithin}
use Rattle.real_host_folder.proofs.host.RealHost.attributed_rows.Goals as goal

pub loop-row-preserved : goal.loop-row-preserved
loop-row-preserved c =
    subst AreWithin (sym c.in_ok-push.ensures.items) (All-push (λ (row : AttributedRow). row.attr.mode ≤ MAX_MODE) c.loop-row.attributed.items _ c.loop-row.invariant c.in-Some.ensures)
