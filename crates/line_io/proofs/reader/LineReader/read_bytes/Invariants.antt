use Rattle.std.proofs.Common.{◌≡◌, ◌≤◌, ◌-◌, true, length, take}
use Rattle.outside.specs.Streams.{WereTaken, Ends}
use Rattle.line_io.specs.Reading.{coming, total}
use Rattle.line_io.proofs.reader.LineReader.read_bytes.Given as goal

abbrev pub invariant-loop-len : goal.invariant-loop-len
invariant-loop-len g l = record {
  room : l.len ≤ length l.piece;
  read : WereTaken (coming l.fn.self.ahead (g.I.Source.rest l.fn.input)) (coming l.self.ahead (g.I.Source.rest l.input)) (take l.len l.piece);
  line : l.self.line ≡ l.fn.self.line;
  ended : l.self.ended ≡ true → Ends (coming l.self.ahead (g.I.Source.rest l.input));
  counted : total l.self.taken (g.I.Source.rest l.input) ≡ total l.fn.self.taken (g.I.Source.rest l.fn.input);
  after_end : l.fn.self.ended ≡ true → (l.input ≡ l.fn.input) × (l.self.ended ≡ true);
  quiet : g.I.Source.faults l.input ≡ g.I.Source.faults l.fn.input;
}

abbrev pub decreases-loop-len : goal.decreases-loop-len
decreases-loop-len g l = length l.piece - l.len
