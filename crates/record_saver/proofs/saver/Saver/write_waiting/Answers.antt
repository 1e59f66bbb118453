use Rattle.std.proofs.Common.{false, refl, ◌∙◌, arith}
use Rattle.record_saver.proofs.Steps.{finishes_from, finishes_long, finishes_since, finishes_to, long_kept_to, moves_from, moves_memory, moves_since, moves_to, record_after, unwritten_stands, written_is}
use Rattle.record_saver.proofs.saver.Saver.write_waiting.Goals as goal

pub returns-in-Err : goal.returns-in-Err
returns-in-Err g c =
    let M = g.S.Blocks.meanings in
    let H = g.S.Blocks.holdings in
    let D = g.S.Durable.durables in
    let R = g.S.Durable.records in
    let G = g.K.Keeper in
    let endures = g.met.S.Durable.enduring in
    let a = c.args.store.now in
    let b = c.record_to_save.new.store in
    let old = c.args.self.now in
    let p = c.record_to_save.ensures in
    let keeper = c.record_to_save.new.keeper in
    let new = record old { keeper = keeper } in
    let kept = p.kept ∙ c.requires.kept in
    record {
      moves = moves_to M H D R G old new a a b _ p.same (moves_memory M H D R G g.S.BlocksMut.applied endures old keeper a c.requires.intact c.requires.room c.requires.changed p.room p.faults);
      finishes = finishes_to M H D R G old new a a b _ p.same
          (finishes_long M H D R G g.S.BlocksMut.applied endures old new a a _ p.kept c.requires.last kept (c.requires.last, kept) refl (λ k bytes is h. h)
          (λ k sound unmarked is. unwritten_stands M H D R G g.S.BlocksMut.applied endures a k _ c.requires.intact sound unmarked is (λ id. refl)));
    }

pub returns : goal.returns
returns g c =
    let M = g.S.Blocks.meanings in
    let H = g.S.Blocks.holdings in
    let D = g.S.Durable.durables in
    let R = g.S.Durable.records in
    let G = g.K.Keeper in
    let a = c.args.store.now in
    let m = c.record_to_save.new.store in
    let b = c.finish.new.store in
    let old = c.args.self.now in
    let mid = record old { keeper = c.record_to_save.new.keeper } in
    let new = c.finish.new.self in
    let p = c.record_to_save.ensures in
    record {
      moves = moves_from M H D R G old new a m b c.finish.result p.same (moves_since M H D R G old mid new m b c.finish.result p.faults c.finish.ensures.moves);
      finishes = finishes_from M H D R G old new a m b c.finish.result p.same (finishes_since M H D R G old mid new m b c.finish.result p.kept c.finish.ensures.finishes);
    }

pub finish-requires-clause-short : goal.finish-requires-clause-short
finish-requires-clause-short g c =
    record_after g.S.Blocks.meanings g.S.Blocks.holdings g.S.Durable.durables g.S.Durable.records g.K.Keeper c.args.store.now c.record_to_save.new.store false c.in-Ok.bytes.items c.record_to_save.ensures.same
    (written_is g.S.Blocks.meanings g.S.Blocks.holdings g.S.Durable.durables g.S.Durable.records g.K.Keeper g.S.BlocksMut.applied g.met.S.Durable.enduring c.args.store.now false c.in-Ok.bytes.items c.requires.intact c.in-Ok.ensures.record_)

pub finish-requires-clause-long : goal.finish-requires-clause-long
finish-requires-clause-long g c =
    let old = c.args.self.now in
    let p = c.record_to_save.ensures in
    long_kept_to g.S.Blocks.meanings g.S.Blocks.holdings g.S.Durable.durables g.S.Durable.records g.K.Keeper (record old { keeper = c.record_to_save.new.keeper }) c.args.store.now c.record_to_save.new.store p.same
    (record {
      intact = c.requires.intact;
      room = omega (arith, c.requires.room, p.room);
      kept = p.kept ∙ c.requires.kept;
      last = c.requires.last;
      changed = c.requires.changed;
    })
