use Rattle.std.proofs.Common.{◌≡◌, ◌-◌, None, []}
use Rattle.std.specs.Option.{option_map}
use Rattle.outside.specs.View.{at_of, list_of}
use Rattle.local_state.specs.Reading.{entries_at}
use Rattle.local_state.proofs.reading.entries_of.Given as goal

abbrev pub invariant-entries : goal.invariant-entries
invariant-entries l = entries_at l.known.lives (l.count - l.counter) (option_map at_of l.previous) (list_of l.list.items) l.rest ≡ entries_at l.known.lives l.count None [] l.bytes
