use Rattle.std.proofs.Common.{◌≡◌, ◌+◌, ◌<◌, ◌≤◌, length, refl, ◌∙◌, ap, subst, arith}
use Rattle.std.specs.declared.result.Result.TheVariants.{Err}
use Rattle.outside.specs.Streams.{appends}
use Rattle.copy_sessions.specs.line_io.Streams.{stream_of, Cut}
use Rattle.copy_row.proofs.ByKind.{stops_from}
use Rattle.copy_file.proofs.Getting.{got_none, got_memory, got_unread, got_unwritten, got_last, got_more}
use Rattle.copy_file.proofs.get.get_file.Goals as goal

pub loop-place-init : goal.loop-place-init
loop-place-init g c = record {
  ready = c.requires.ready;
  stops = refl;
  got = got_none g.A.Asker.asking g.met.A.Asker.lawful c.args.asker.now c.args.from.now (g.O.Sink.written c.args.output.now) (g.O.Sink.faults c.args.output.now);
}

pub returns-in-Err-clause-stops : goal.returns-in-Err-clause-stops
returns-in-Err-clause-stops g c = stops_from {X = Unit {0}} _ _ _ (Err c.in-Err.stop) c.loop-place.invariant.stops c.in-Err.ensures.stops

pub returns-in-Err-clause-got : goal.returns-in-Err-clause-got
returns-in-Err-clause-got g c =
    got_unread g.A.Asker.asking g.met.A.Asker.lawful {X = Unit {0}} c.args.asker.now c.loop-place.asker c.ask_bytes.new.asker c.args.from.now c.loop-place.place (stream_of g.O.Sink.written g.O.Sink.faults c.args.output.now c.loop-place.output) c.in-Err.stop
    c.loop-place.invariant.got c.in-Err.ensures.asked

pub returns-in-Err-write_all-clause-got : goal.returns-in-Err-write_all-clause-got
returns-in-Err-write_all-clause-got g c =
    got_unwritten g.A.Asker.asking g.met.A.Asker.lawful {X = Unit {0}} c.args.asker.now c.loop-place.asker c.ask_bytes.new.asker c.args.from.now c.loop-place.place
    (g.O.Sink.written c.args.output.now) (g.O.Sink.written c.loop-place.output) (g.O.Sink.written c.write_all.new.output) (g.O.Sink.faults c.args.output.now) (g.O.Sink.faults c.loop-place.output) (g.O.Sink.faults c.write_all.new.output) c.in-Ok.piece
    c.loop-place.invariant.got c.in-Ok.ensures.asked
    (subst (λ z. Cut (g.O.Sink.written c.loop-place.output) (g.O.Sink.written c.write_all.new.output) z) c.as_slice-bytes.ensures c.in-Err-write_all.ensures.err) c.in-Err-write_all.ensures.cause

pub returns-then-len-lt-PIECE-clause-got : goal.returns-then-len-lt-PIECE-clause-got
returns-then-len-lt-PIECE-clause-got g c =
    let size : length c.as_slice-bytes.result.now ≡ length c.in-Ok.piece = ap length c.as_slice-bytes.ensures in
    let few : length c.in-Ok.piece < 1048576 = omega (arith, size, c.if-len-lt-PIECE.true) in
    got_last g.A.Asker.asking g.met.A.Asker.lawful tt c.args.asker.now c.loop-place.asker c.ask_bytes.new.asker c.args.from.now c.loop-place.place
    (g.O.Sink.written c.args.output.now) (g.O.Sink.written c.loop-place.output) (g.O.Sink.written c.write_all.new.output) (g.O.Sink.faults c.args.output.now) (g.O.Sink.faults c.loop-place.output) (g.O.Sink.faults c.write_all.new.output) c.in-Ok.piece
    c.loop-place.invariant.got c.in-Ok.ensures.asked few
    (subst (λ z. g.O.Sink.written c.write_all.new.output ≡ appends (g.O.Sink.written c.loop-place.output) z) c.as_slice-bytes.ensures c.in-Ok-write_all.ensures.ok) c.in-Ok-write_all.ensures.quiet

pub loop-place-preserved : goal.loop-place-preserved
loop-place-preserved g c =
    let size : length c.as_slice-bytes.result.now ≡ length c.in-Ok.piece = ap length c.as_slice-bytes.ensures in
    let whole : 1048576 ≤ length c.in-Ok.piece = omega (arith, size, c.if-len-lt-PIECE.false) in
    record {
      ready = c.in-Ok.ensures.ready;
      stops = c.in-Ok.ensures.stops ∙ c.loop-place.invariant.stops;
      got = got_more g.A.Asker.asking g.met.A.Asker.lawful c.args.asker.now c.loop-place.asker c.ask_bytes.new.asker c.args.from.now c.loop-place.place (c.loop-place.place + 1048576)
          (g.O.Sink.written c.args.output.now) (g.O.Sink.written c.loop-place.output) (g.O.Sink.written c.write_all.new.output) (g.O.Sink.faults c.args.output.now) (g.O.Sink.faults c.loop-place.output) (g.O.Sink.faults c.write_all.new.output) c.in-Ok.piece
          c.loop-place.invariant.got c.in-Ok.ensures.asked whole refl
          (subst (λ z. g.O.Sink.written c.write_all.new.output ≡ appends (g.O.Sink.written c.loop-place.output) z) c.as_slice-bytes.ensures c.in-Ok-write_all.ensures.ok) c.in-Ok-write_all.ensures.quiet;
    }

pub returns-clause-got : goal.returns-clause-got
returns-clause-got g c =
    got_memory g.A.Asker.asking g.met.A.Asker.lawful {X = Unit {0}} c.args.asker.now c.loop-place.asker c.args.from.now c.loop-place.place (stream_of g.O.Sink.written g.O.Sink.faults c.args.output.now c.loop-place.output) c.loop-place.invariant.got
