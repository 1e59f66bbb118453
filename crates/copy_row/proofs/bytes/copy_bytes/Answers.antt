use Rattle.std.proofs.Common.{◌≡◌, ◌<◌, ◌≤◌, ◌+◌, length, ◌∙◌, subst, arith, refl}
use Rattle.std.specs.Prelude.{IfSome}
use Rattle.std.specs.declared.result.Result.TheVariants.{Err}
use Rattle.outside.specs.Causes.{RoseBy}
use Rattle.copy_row.specs.Rows.{IsPiece}
use Rattle.copy_row.proofs.ByKind.{stops_from}
use Rattle.copy_row.proofs.Chains.{still_faults}
use Rattle.copy_row.proofs.Files.{written_none, read_memory, read_host, read_all, write_fails, write_last, write_more}
use Rattle.copy_row.proofs.bytes.copy_bytes.Goals as goal

pub loop-piece-init : goal.loop-piece-init
loop-piece-init g c = record {
  ready = c.requires.ready;
  same = refl;
  faults = refl;
  stops = refl;
  far = omega arith;
  written = written_none g.A.Asker.asking g.met.A.Asker.lawful c.args.asker.now (g.F.Folder.tree c.args.host.now) c.args.at.now.host c.args.at.now.tree c.args.totals.now c.requires.told;
}

pub returns-in-Err-Memory-clause-same : goal.returns-in-Err-Memory-clause-same
returns-in-Err-Memory-clause-same g c =
    let i = c.loop-piece.invariant in
    c.in-Err-Memory.ensures.same ∙ i.same

pub returns-in-Err-Memory-clause-stops : goal.returns-in-Err-Memory-clause-stops
returns-in-Err-Memory-clause-stops g c =
    let i = c.loop-piece.invariant in
    i.stops

pub returns-in-Err-Failed-clause-same : goal.returns-in-Err-Failed-clause-same
returns-in-Err-Failed-clause-same g c =
    let i = c.loop-piece.invariant in
    c.in-Err-Failed.ensures.same ∙ i.same

pub returns-in-Err-Failed-clause-stops : goal.returns-in-Err-Failed-clause-stops
returns-in-Err-Failed-clause-stops g c =
    let i = c.loop-piece.invariant in
    i.stops

pub returns-in-Err-Memory-clause-faults : goal.returns-in-Err-Memory-clause-faults
returns-in-Err-Memory-clause-faults g c =
    let i = c.loop-piece.invariant in
    let h = rw c.in-Err-Memory.field-0-is at c.in-Err-Memory.ensures.faults in h ∙ i.faults

pub returns-in-Err-Failed-clause-faults : goal.returns-in-Err-Failed-clause-faults
returns-in-Err-Failed-clause-faults g c =
    let i = c.loop-piece.invariant in
    let h = rw c.in-Err-Failed.field-0-is at c.in-Err-Failed.ensures.faults in
    subst (λ z. (z ≤ g.F.Folder.faults c.next_piece.new.host) × RoseBy 1 z (g.F.Folder.faults c.next_piece.new.host)) i.faults h

pub returns-in-Err-Memory-clause-copied : goal.returns-in-Err-Memory-clause-copied
returns-in-Err-Memory-clause-copied g c =
    let i = c.loop-piece.invariant in
    read_memory g.A.Asker.asking g.met.A.Asker.lawful c.args.asker.now c.loop-piece.asker (g.F.Folder.tree c.args.host.now) c.args.at.now.host c.args.at.now.tree c.loop-piece.place c.args.totals.now c.loop-piece.totals i.written

pub returns-in-Err-Failed-clause-copied : goal.returns-in-Err-Failed-clause-copied
returns-in-Err-Failed-clause-copied g c =
    let i = c.loop-piece.invariant in
    read_host g.A.Asker.asking g.met.A.Asker.lawful c.args.asker.now c.loop-piece.asker (g.F.Folder.tree c.args.host.now) c.args.at.now.host c.args.at.now.tree c.loop-piece.place c.args.totals.now c.loop-piece.totals i.written

pub returns-then-len-eq0-clause-same : goal.returns-then-len-eq0-clause-same
returns-then-len-eq0-clause-same g c =
    let i = c.loop-piece.invariant in
    c.in-Ok.ensures.same ∙ i.same

pub returns-in-Err-clause-same : goal.returns-in-Err-clause-same
returns-in-Err-clause-same g c =
    let i = c.loop-piece.invariant in
    c.in-Ok.ensures.same ∙ i.same

pub returns-then-len-lt-PIECE-clause-same : goal.returns-then-len-lt-PIECE-clause-same
returns-then-len-lt-PIECE-clause-same g c =
    let i = c.loop-piece.invariant in
    c.in-Ok.ensures.same ∙ i.same

pub returns-then-len-eq0-clause-faults : goal.returns-then-len-eq0-clause-faults
returns-then-len-eq0-clause-faults g c =
    let i = c.loop-piece.invariant in
    c.in-Ok.ensures.faults ∙ i.faults

pub returns-then-len-lt-PIECE-clause-faults : goal.returns-then-len-lt-PIECE-clause-faults
returns-then-len-lt-PIECE-clause-faults g c =
    let i = c.loop-piece.invariant in
    c.in-Ok.ensures.faults ∙ i.faults

pub returns-then-len-eq0-clause-stops : goal.returns-then-len-eq0-clause-stops
returns-then-len-eq0-clause-stops g c =
    let i = c.loop-piece.invariant in
    i.stops

pub returns-then-len-lt-PIECE-clause-stops : goal.returns-then-len-lt-PIECE-clause-stops
returns-then-len-lt-PIECE-clause-stops g c =
    let i = c.loop-piece.invariant in
    c.in-Ok-write_piece.ensures.stops ∙ i.stops

pub returns-then-len-eq0-clause-copied : goal.returns-then-len-eq0-clause-copied
returns-then-len-eq0-clause-copied g c =
    let i = c.loop-piece.invariant in
    let none : length c.in-Ok.piece.items ≡ 0 = omega (arith, c.if-len-eq0.true, c.len-len.ensures, c.in-Ok.piece.ok) in
    read_all g.A.Asker.asking g.met.A.Asker.lawful c.args.asker.now c.loop-piece.asker (g.F.Folder.tree c.args.host.now) c.args.at.now.host c.args.at.now.tree c.loop-piece.place c.args.totals.now c.loop-piece.totals c.in-Ok.piece.items i.written none (subst (λ z. IfSome z (λ t. IsPiece t c.args.at.now.host c.loop-piece.place c.in-Ok.piece.items)) i.same c.in-Ok.ensures.told)

pub returns-in-Err-clause-faults : goal.returns-in-Err-clause-faults
returns-in-Err-clause-faults g c =
    let i = c.loop-piece.invariant in
    still_faults {X = Unit {0}} _ _ (Err c.in-Err.stop) c.in-Err.ensures.host (c.in-Ok.ensures.faults ∙ i.faults)

pub returns-in-Err-clause-stops : goal.returns-in-Err-clause-stops
returns-in-Err-clause-stops g c =
    let i = c.loop-piece.invariant in
    stops_from {X = Unit {0}} _ _ _ (Err c.in-Err.stop) i.stops c.in-Err.ensures.stops

pub returns-in-Err-clause-copied : goal.returns-in-Err-clause-copied
returns-in-Err-clause-copied g c =
    let i = c.loop-piece.invariant in
    let some : 0 < length c.in-Ok.piece.items = omega (arith, c.if-len-eq0.false, c.len-len.ensures, c.in-Ok.piece.ok) in
    write_fails g.A.Asker.asking g.met.A.Asker.lawful c.args.asker.now c.loop-piece.asker c.write_piece.new.asker (g.F.Folder.tree c.args.host.now) c.args.at.now.host c.args.at.now.tree c.loop-piece.place c.args.totals.now c.loop-piece.totals c.write_piece.new.totals c.in-Ok.piece.items c.in-Err.stop i.written some c.in-Ok.ensures.len (subst (λ z. IfSome z (λ t. IsPiece t c.args.at.now.host c.loop-piece.place c.in-Ok.piece.items)) i.same c.in-Ok.ensures.told) c.in-Err.ensures.asks

pub returns-then-len-lt-PIECE-clause-copied : goal.returns-then-len-lt-PIECE-clause-copied
returns-then-len-lt-PIECE-clause-copied g c =
    let i = c.loop-piece.invariant in
    let some : 0 < length c.in-Ok.piece.items = omega (arith, c.if-len-eq0.false, c.len-len.ensures, c.in-Ok.piece.ok) in
    let few : length c.in-Ok.piece.items < 1048576 = omega (arith, c.if-len-lt-PIECE.true, c.len-len.ensures, c.in-Ok.piece.ok) in
    write_last g.A.Asker.asking g.met.A.Asker.lawful c.args.asker.now c.loop-piece.asker c.write_piece.new.asker (g.F.Folder.tree c.args.host.now) c.args.at.now.host c.args.at.now.tree c.loop-piece.place c.args.totals.now c.loop-piece.totals c.write_piece.new.totals c.in-Ok.piece.items i.written some few (subst (λ z. IfSome z (λ t. IsPiece t c.args.at.now.host c.loop-piece.place c.in-Ok.piece.items)) i.same c.in-Ok.ensures.told) c.in-Ok-write_piece.ensures.asks c.in-Ok-write_piece.ensures.counts

pub overflow_add-place : goal.overflow_add-place
overflow_add-place g c =
    let i = c.loop-piece.invariant in
    let some : 0 < length c.in-Ok.piece.items = omega (arith, c.if-len-eq0.false, c.len-len.ensures, c.in-Ok.piece.ok) in
    let far = c.in-Ok.ensures.far some in
    omega (arith, far, c.len-len.ensures, c.in-Ok.piece.ok)

pub loop-piece-preserved : goal.loop-piece-preserved
loop-piece-preserved g c =
    let i = c.loop-piece.invariant in
    let some : 0 < length c.in-Ok.piece.items = omega (arith, c.if-len-eq0.false, c.len-len.ensures, c.in-Ok.piece.ok) in
    let far = c.in-Ok.ensures.far some in
    let same : c.len-len.result ≡ length c.in-Ok.piece.items = omega (arith, c.len-len.ensures, c.in-Ok.piece.ok) in
    let whole : length c.in-Ok.piece.items ≡ 1048576 = omega (arith, c.if-len-lt-PIECE.false, same, c.in-Ok.ensures.len) in
    let next : c.loop-piece.place + c.len-len.result ≡ c.loop-piece.place + length c.in-Ok.piece.items = omega (arith, same) in
    record {
      ready = c.in-Ok-write_piece.ensures.ready;
      same = c.in-Ok.ensures.same ∙ i.same;
      faults = c.in-Ok.ensures.faults ∙ i.faults;
      stops = c.in-Ok-write_piece.ensures.stops ∙ i.stops;
      far = omega (arith, far, same);
      written = write_more g.A.Asker.asking g.met.A.Asker.lawful c.args.asker.now c.loop-piece.asker c.write_piece.new.asker (g.F.Folder.tree c.args.host.now) c.args.at.now.host c.args.at.now.tree c.loop-piece.place (c.loop-piece.place + c.len-len.result) c.args.totals.now c.loop-piece.totals c.write_piece.new.totals c.in-Ok.piece.items i.written whole next (subst (λ z. IfSome z (λ t. IsPiece t c.args.at.now.host c.loop-piece.place c.in-Ok.piece.items)) i.same c.in-Ok.ensures.told)
          c.in-Ok-write_piece.ensures.asks c.in-Ok-write_piece.ensures.counts;
    }
