use Rattle.std.proofs.Common.{◌≡◌, ◌++◌, ◌∷◌, [], None}
use Rattle.std.specs.Option.{option_map}
use Rattle.std.proofs.lemmas.Result.{err_from_is_err_and}
use Rattle.std.proofs.lemmas.List.{map_push}
use Rattle.outside.specs.View.{at_of, list_of, pending_of}
use Rattle.local_state.specs.Reading.{entries_at}
use Rattle.local_state.proofs.Loops.{entries_go_on, entries_fail, entries_end}
use Rattle.local_state.proofs.reading.entries_of.Goals as goal

pub returns-in_err-entry : goal.returns-in_err-entry
returns-in_err-entry c =
    let p = err_from_is_err_and c.from_residual.result c.from_residual.ensures.1 in
    rw (p.1, p.2) (entries_fail c.in_err-entry.field-0.0 c.args.known.now.lives c.args.count c.entries.counter (option_map at_of c.entries.previous) (list_of c.entries.list.items) c.entries.rest.now (entries_at c.args.known.now.lives c.args.count None [] c.args.bytes.now) c.entries-test.true c.in_err-entry.ensures c.entries.invariant)

pub entries-preserved : goal.entries-preserved
entries-preserved c =
    let e : list_of c.push.new.self.items ≡ list_of c.entries.list.items ++ pending_of c.in_ok-entry.entry ∷ [] = rw c.in_ok-push.ensures.items (map_push _ c.entries.list.items c.in_ok-entry.entry) in
    rw e (entries_go_on c.args.known.now.lives c.args.count c.entries.counter (option_map at_of c.entries.previous) (list_of c.entries.list.items) c.entries.rest.now (pending_of c.in_ok-entry.entry) c.in_ok-entry.after.now (entries_at c.args.known.now.lives c.args.count None [] c.args.bytes.now) c.entries-test.true c.in_ok-entry.ensures c.entries.invariant)

pub returns : goal.returns
returns c = entries_end c.args.known.now.lives c.args.count c.entries.counter (option_map at_of c.entries.previous) (list_of c.entries.list.items) c.entries.rest.now (entries_at c.args.known.now.lives c.args.count None [] c.args.bytes.now) c.entries-test.false c.entries.invariant
