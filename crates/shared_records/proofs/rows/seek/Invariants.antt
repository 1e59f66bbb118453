use Rattle.std.proofs.Common.{◌≡◌, ◌-◌}
use Rattle.shared_records.proofs.Seeks.{IsPlace}
use Rattle.shared_records.proofs.rows.seek.Given as goal

abbrev pub invariant-rows : goal.invariant-rows
invariant-rows l = record {
  left : l.place.left ≡ l.rows.left - l.counter;
  place : IsPlace l.rows.left l.rows.previous.0 l.rows.bytes.now l.place.left l.place.previous.0 l.place.bytes.now l.id.0;
}
