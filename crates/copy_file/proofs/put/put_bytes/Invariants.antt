use Rattle.std.proofs.Common.{◌≡◌, ◌-◌, true}
use Rattle.outside.specs.Streams.{Ends}
use Rattle.copy_sessions.specs.line_io.Reading.{coming, total}
use Rattle.copy_row.specs.Rows.{IsWritten}
use Rattle.copy_file.proofs.Pieces.{told_file, file_path, Left}
use Rattle.copy_file.proofs.put.put_bytes.Given as goal

abbrev pub invariant-loop-place : goal.invariant-loop-place
invariant-loop-place g l = record {
  ready : g.A.Asker.asking.ready l.asker;
  stops : g.A.Asker.asking.stops l.asker ≡ g.A.Asker.asking.stops l.initial.asker;
  ended : l.reader.ended ≡ true → Ends (coming l.reader.ahead (g.I.Source.rest l.input));
  counted : total l.reader.taken (g.I.Source.rest l.input) ≡ total l.initial.reader.taken (g.I.Source.rest l.initial.input);
  quiet : g.I.Source.faults l.input ≡ g.I.Source.faults l.initial.input;
  left : Left (coming l.initial.reader.ahead (g.I.Source.rest l.initial.input)) l.place (coming l.reader.ahead (g.I.Source.rest l.input));
  written : IsWritten g.A.Asker.asking l.initial.asker l.asker (told_file (coming l.initial.reader.ahead (g.I.Source.rest l.initial.input))) file_path l.to l.place l.initial.totals l.totals;
}

abbrev pub decreases-loop-place : goal.decreases-loop-place
decreases-loop-place g l = 9223372036854775808 - l.place
