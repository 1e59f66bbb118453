use Rattle.std.proofs.Common.{take}
use Rattle.host_attributes.specs.Attributes.{AreLookedUp, AreWithin}
use Rattle.memory_host_folder.proofs.attributes.attributed_rows.Given as goal

abbrev pub invariant-loop-row : goal.invariant-loop-row
invariant-loop-row l = record {
  looked : AreLookedUp l.table l.path (take l.row-index l.row-items) l.rows.items;
  within : AreWithin l.rows.items;
}
