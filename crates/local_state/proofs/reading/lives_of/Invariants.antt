use Rattle.std.proofs.Common.{◌≡◌, ◌-◌}
use Rattle.std.specs.FinMap as fin
use Rattle.local_state.specs.Known.{zero_id}
use Rattle.local_state.specs.Reading.{lives_at}
use Rattle.local_state.proofs.Loops.{AboveZero}
use Rattle.local_state.proofs.reading.lives_of.Given as goal

abbrev pub invariant-lives : goal.invariant-lives
invariant-lives l = record {
  reads : lives_at (l.count - l.counter) l.previous.0 l.known.lives l.rest ≡ lives_at l.count zero_id fin.empty l.bytes;
  above : AboveZero l.previous.0;
}
