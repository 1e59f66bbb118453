use Rattle.host_attributes.specs.Attributes.{AreWithin}
use Rattle.real_host_folder.proofs.host.RealHost.attributed_rows.Given as goal

abbrev pub invariant-loop-row : goal.invariant-loop-row
invariant-loop-row l = AreWithin l.attributed.items
