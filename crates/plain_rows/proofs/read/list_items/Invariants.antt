use Rattle.std.proofs.Common.{◌≡◌, take, map}
use Rattle.fs_model.specs.Step.{list_row}
use Rattle.plain_rows.specs.Rows.{item_entry}
use Rattle.plain_rows.proofs.read.list_items.Given as goal

abbrev pub invariant-loop-item : goal.invariant-loop-item
invariant-loop-item l = l.rows.items ≡ map list_row (map item_entry (take l.item-index l.items))
