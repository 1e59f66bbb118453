use Rattle.std.proofs.Common.{◌≡◌, ◌≤◌, ◌<◌, ◌+◌, List, [], ℕ, true, MatchBool, length}
use Rattle.outside.specs.Streams.{Ends}
use Rattle.line_io.specs.Reading.{coming, total, remaining}
use Rattle.line_io.proofs.Asking.{Asked}
use Rattle.line_io.proofs.Progress.{Part, Taken}
use Rattle.line_io.proofs.reader.LineReader.next_line.Given as goal

abbrev pub invariant-loop-self : goal.invariant-loop-self
invariant-loop-self g l = record {
  part : (part : List ℕ) × Part (coming l.fn.self.ahead (g.I.Source.rest l.fn.input)) l.self.line l.self.ahead (g.I.Source.rest l.input) part
      × MatchBool l.is_empty (part ≡ []) (0 < length part) × (length part + remaining l.self ≤ remaining l.fn.self)
      × Taken l.fn.self.ahead l.self.ahead (g.I.Source.rest l.fn.input) (g.I.Source.rest l.input) part;
  ended : l.self.ended ≡ true → Ends (coming l.self.ahead (g.I.Source.rest l.input));
  counted : total l.self.taken (g.I.Source.rest l.input) ≡ total l.fn.self.taken (g.I.Source.rest l.fn.input);
  asked : Asked g.I.Source.took l.is_empty l.fn.self.ahead l.self.ahead l.fn.input l.input;
  after_end : l.fn.self.ended ≡ true → (l.input ≡ l.fn.input) × (l.self.ended ≡ true);
  quiet : g.I.Source.faults l.input ≡ g.I.Source.faults l.fn.input;
}

abbrev pub decreases-loop-self : goal.decreases-loop-self
decreases-loop-self g l = remaining l.self
