use Rattle.std.proofs.Common.{◌≡◌, ◌+◌, ◌<◌, length, refl, sym, ◌∙◌, subst, arith}
use Rattle.std.specs.declared.result.Result.TheVariants.{Ok, Err}
use Rattle.copy_sessions.specs.line_io.Reading.{coming}
use Rattle.copy_sessions.proofs.line_io_lemmas.Progress.{Ends-rest}
use Rattle.copy_row.specs.declared.stop.Stop.TheVariants as stop
use Rattle.copy_row.proofs.ByKind.{stops_from}
use Rattle.copy_row.proofs.Files.{written_none, read_memory, read_host, read_all, write_fails, write_last, write_more}
use Rattle.copy_file.proofs.Pieces.{told_file, file_path, file_told, Left, left_all, next_told, bytes_put}
use Rattle.copy_file.proofs.Putting.{still_input, input_fails}
use Rattle.copy_file.proofs.put.put_bytes.Goals as goal

pub loop-place-init : goal.loop-place-init
loop-place-init g c =
    let come = coming c.args.reader.now.ahead (g.I.Source.rest c.args.input.now) in
    record {
      ready = c.requires.ready;
      stops = refl;
      ended = c.requires.ended;
      counted = refl;
      quiet = refl;
      left = left_all come;
      written = written_none g.A.Asker.asking g.met.A.Asker.lawful c.args.asker.now (told_file come) file_path c.args.to.now c.args.totals.now (file_told come);
    }

pub returns-in-Err-Memory-clause-input : goal.returns-in-Err-Memory-clause-input
returns-in-Err-Memory-clause-input g c =
    let h = rw c.in-Err-Memory.field-0-is at c.in-Err-Memory.ensures.faults in h ∙ c.loop-place.invariant.quiet

pub returns-in-Err-Memory-clause-put : goal.returns-in-Err-Memory-clause-put
returns-in-Err-Memory-clause-put g c =
    let M = g.A.Asker.asking in
    let come = coming c.args.reader.now.ahead (g.I.Source.rest c.args.input.now) in
    bytes_put M c.args.asker.now c.loop-place.asker come c.args.to.now c.args.totals.now c.loop-place.totals (Err stop.Memory)
    (read_memory M g.met.A.Asker.lawful {X = Unit {0}} c.args.asker.now c.loop-place.asker (told_file come) file_path c.args.to.now c.loop-place.place c.args.totals.now c.loop-place.totals c.loop-place.invariant.written)

pub returns-in-Err-Failed-clause-input : goal.returns-in-Err-Failed-clause-input
returns-in-Err-Failed-clause-input g c =
    let i = c.loop-place.invariant in
    let h = rw c.in-Err-Failed.field-0-is at c.in-Err-Failed.ensures.faults in
    input_fails c.args.reader.now.taken c.loop-place.reader.taken c.next_piece.new.reader.taken (g.I.Source.rest c.args.input.now) (g.I.Source.rest c.loop-place.input) (g.I.Source.rest c.next_piece.new.input)
    (g.I.Source.faults c.args.input.now) (g.I.Source.faults c.loop-place.input) (g.I.Source.faults c.next_piece.new.input) i.quiet i.counted c.in-Err-Failed.ensures.counted h

pub returns-in-Err-Failed-clause-put : goal.returns-in-Err-Failed-clause-put
returns-in-Err-Failed-clause-put g c =
    let M = g.A.Asker.asking in
    let come = coming c.args.reader.now.ahead (g.I.Source.rest c.args.input.now) in
    bytes_put M c.args.asker.now c.loop-place.asker come c.args.to.now c.args.totals.now c.loop-place.totals (Err stop.Host)
    (read_host M g.met.A.Asker.lawful {X = Unit {0}} c.args.asker.now c.loop-place.asker (told_file come) file_path c.args.to.now c.loop-place.place c.args.totals.now c.loop-place.totals c.loop-place.invariant.written)

pub returns-then-len-eq0-clause-input : goal.returns-then-len-eq0-clause-input
returns-then-len-eq0-clause-input g c =
    let few : length c.in-Ok.piece.items < 1048576 = omega (arith, c.if-len-eq0.true, c.len-len.ensures, c.in-Ok.piece.ok) in
    (Ends-rest _ _ (c.in-Ok.ensures.piece.last few), c.in-Ok.ensures.faults ∙ c.loop-place.invariant.quiet)

pub returns-then-len-eq0-clause-put : goal.returns-then-len-eq0-clause-put
returns-then-len-eq0-clause-put g c =
    let M = g.A.Asker.asking in
    let i = c.loop-place.invariant in
    let come = coming c.args.reader.now.ahead (g.I.Source.rest c.args.input.now) in
    let none : length c.in-Ok.piece.items ≡ 0 = omega (arith, c.if-len-eq0.true, c.len-len.ensures, c.in-Ok.piece.ok) in
    let next = next_told come _ _ c.loop-place.place c.in-Ok.piece.items i.left c.in-Ok.ensures.piece in
    bytes_put M c.args.asker.now c.loop-place.asker come c.args.to.now c.args.totals.now c.loop-place.totals (Ok tt)
    (read_all M g.met.A.Asker.lawful c.args.asker.now c.loop-place.asker (told_file come) file_path c.args.to.now c.loop-place.place c.args.totals.now c.loop-place.totals c.in-Ok.piece.items i.written none next.0)

pub returns-in-Err-clause-stops : goal.returns-in-Err-clause-stops
returns-in-Err-clause-stops g c = stops_from {X = Unit {0}} _ _ _ (Err c.in-Err.stop) c.loop-place.invariant.stops c.in-Err.ensures.stops

pub returns-in-Err-clause-input : goal.returns-in-Err-clause-input
returns-in-Err-clause-input g c = still_input {X = Unit {0}} _ _ (Err c.in-Err.stop) c.in-Err.stop refl c.in-Err.ensures.host (c.in-Ok.ensures.faults ∙ c.loop-place.invariant.quiet)

pub returns-in-Err-clause-put : goal.returns-in-Err-clause-put
returns-in-Err-clause-put g c =
    let M = g.A.Asker.asking in
    let i = c.loop-place.invariant in
    let come = coming c.args.reader.now.ahead (g.I.Source.rest c.args.input.now) in
    let some : 0 < length c.in-Ok.piece.items = omega (arith, c.if-len-eq0.false, c.len-len.ensures, c.in-Ok.piece.ok) in
    let next = next_told come _ _ c.loop-place.place c.in-Ok.piece.items i.left c.in-Ok.ensures.piece in
    bytes_put M c.args.asker.now c.write_piece.new.asker come c.args.to.now c.args.totals.now c.write_piece.new.totals (Err c.in-Err.stop)
    (write_fails M g.met.A.Asker.lawful c.args.asker.now c.loop-place.asker c.write_piece.new.asker (told_file come) file_path c.args.to.now c.loop-place.place c.args.totals.now c.loop-place.totals c.write_piece.new.totals c.in-Ok.piece.items c.in-Err.stop i.written some
    c.in-Ok.ensures.piece.few next.0 c.in-Err.ensures.asks)

pub returns-then-len-lt-PIECE-clause-input : goal.returns-then-len-lt-PIECE-clause-input
returns-then-len-lt-PIECE-clause-input g c =
    let few : length c.in-Ok.piece.items < 1048576 = omega (arith, c.if-len-lt-PIECE.true, c.len-len.ensures, c.in-Ok.piece.ok) in
    (Ends-rest _ _ (c.in-Ok.ensures.piece.last few), c.in-Ok.ensures.faults ∙ c.loop-place.invariant.quiet)

pub returns-then-len-lt-PIECE-clause-put : goal.returns-then-len-lt-PIECE-clause-put
returns-then-len-lt-PIECE-clause-put g c =
    let M = g.A.Asker.asking in
    let i = c.loop-place.invariant in
    let come = coming c.args.reader.now.ahead (g.I.Source.rest c.args.input.now) in
    let some : 0 < length c.in-Ok.piece.items = omega (arith, c.if-len-eq0.false, c.len-len.ensures, c.in-Ok.piece.ok) in
    let few : length c.in-Ok.piece.items < 1048576 = omega (arith, c.if-len-lt-PIECE.true, c.len-len.ensures, c.in-Ok.piece.ok) in
    let next = next_told come _ _ c.loop-place.place c.in-Ok.piece.items i.left c.in-Ok.ensures.piece in
    bytes_put M c.args.asker.now c.write_piece.new.asker come c.args.to.now c.args.totals.now c.write_piece.new.totals (Ok tt)
    (write_last M g.met.A.Asker.lawful c.args.asker.now c.loop-place.asker c.write_piece.new.asker (told_file come) file_path c.args.to.now c.loop-place.place c.args.totals.now c.loop-place.totals c.write_piece.new.totals c.in-Ok.piece.items i.written some few next.0
    c.in-Ok-write_piece.ensures.asks c.in-Ok-write_piece.ensures.counts)

pub overflow_add-place : goal.overflow_add-place
overflow_add-place g c =
    let few = c.in-Ok.ensures.piece.few in
    omega (arith, few, c.len-len.ensures, c.in-Ok.piece.ok)

pub loop-place-preserved : goal.loop-place-preserved
loop-place-preserved g c =
    let M = g.A.Asker.asking in
    let i = c.loop-place.invariant in
    let come = coming c.args.reader.now.ahead (g.I.Source.rest c.args.input.now) in
    let same : c.len-len.result ≡ length c.in-Ok.piece.items = omega (arith, c.len-len.ensures, c.in-Ok.piece.ok) in
    let whole : length c.in-Ok.piece.items ≡ 1048576 = omega (arith, c.if-len-lt-PIECE.false, same, c.in-Ok.ensures.piece.few) in
    let at : c.loop-place.place + c.len-len.result ≡ c.loop-place.place + length c.in-Ok.piece.items = omega (arith, same) in
    let next = next_told come _ _ c.loop-place.place c.in-Ok.piece.items i.left c.in-Ok.ensures.piece in
    record {
      ready = c.in-Ok-write_piece.ensures.ready;
      stops = c.in-Ok-write_piece.ensures.stops ∙ i.stops;
      ended = c.in-Ok.ensures.ended;
      counted = c.in-Ok.ensures.counted ∙ i.counted;
      quiet = c.in-Ok.ensures.faults ∙ i.quiet;
      left = subst (λ k. Left come k (coming c.next_piece.new.reader.ahead (g.I.Source.rest c.next_piece.new.input))) (sym at) next.1;
      written = write_more M g.met.A.Asker.lawful c.args.asker.now c.loop-place.asker c.write_piece.new.asker (told_file come) file_path c.args.to.now c.loop-place.place (c.loop-place.place + c.len-len.result) c.args.totals.now c.loop-place.totals c.write_piece.new.totals c.in-Ok.piece.items
          i.written whole at next.0 c.in-Ok-write_piece.ensures.asks c.in-Ok-write_piece.ensures.counts;
    }

pub returns-clause-put : goal.returns-clause-put
returns-clause-put g c =
    let M = g.A.Asker.asking in
    let come = coming c.args.reader.now.ahead (g.I.Source.rest c.args.input.now) in
    bytes_put M c.args.asker.now c.loop-place.asker come c.args.to.now c.args.totals.now c.loop-place.totals (Err stop.Memory)
    (read_memory M g.met.A.Asker.lawful {X = Unit {0}} c.args.asker.now c.loop-place.asker (told_file come) file_path c.args.to.now c.loop-place.place c.args.totals.now c.loop-place.totals c.loop-place.invariant.written)
