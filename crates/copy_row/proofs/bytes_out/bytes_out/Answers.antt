use Rattle.std.proofs.Common.{◌≡◌, ◌⊎◌, ℕ, ◌+◌, ◌<◌, ◌≤◌, length, take, refl, ◌∙◌, ap, subst, arith}
use Rattle.std.specs.declared.result.Result.TheVariants.{Err}
use Rattle.copy_laws.specs.host_folder.Folders.{IsAppended}
use Rattle.copy_row.proofs.ByKind.{faults_from, stops_from}
use Rattle.copy_row.proofs.Chains.{still_faults}
use Rattle.copy_row.proofs.Pouring.{out_none, out_unread, out_unput, out_last, out_more, out_ends}
use Rattle.copy_row.proofs.Served.{still_stops}
use Rattle.copy_row.proofs.bytes_out.bytes_out.Goals as goal

pub loop-place-init : goal.loop-place-init
loop-place-init g c = record {
  ready = c.requires.ready;
  faults = refl;
  stops = refl;
  out = out_none g.A.Asker.asking g.met.A.Asker.lawful c.args.asker.now (g.F.Folder.tree c.args.host.now) c.args.at.now.tree c.args.at.now.host;
}

pub returns-in-Err-clause-faults : goal.returns-in-Err-clause-faults
returns-in-Err-clause-faults g c = still_faults {X = ℕ} _ _ (Err c.in-Err.stop) c.in-Err.ensures.host c.loop-place.invariant.faults

pub returns-in-Err-clause-stops : goal.returns-in-Err-clause-stops
returns-in-Err-clause-stops g c = stops_from {X = ℕ} _ _ _ (Err c.in-Err.stop) c.loop-place.invariant.stops c.in-Err.ensures.stops

pub returns-in-Err-clause-out : goal.returns-in-Err-clause-out
returns-in-Err-clause-out g c =
    out_unread g.A.Asker.asking g.met.A.Asker.lawful c.args.asker.now c.loop-place.asker c.ask_piece.new.asker (g.F.Folder.tree c.args.host.now) (g.F.Folder.tree c.loop-place.host) c.args.at.now.tree c.args.at.now.host c.loop-place.place c.in-Err.stop c.loop-place.invariant.out c.in-Err.ensures.reads

pub returns-in-Err-append_bytes-clause-faults : goal.returns-in-Err-append_bytes-clause-faults
returns-in-Err-append_bytes-clause-faults g c = faults_from {X = ℕ} _ _ _ (Err c.in-Err-append_bytes.stop) c.loop-place.invariant.faults c.in-Err-append_bytes.ensures.faults

pub returns-in-Err-append_bytes-clause-stops : goal.returns-in-Err-append_bytes-clause-stops
returns-in-Err-append_bytes-clause-stops g c = still_stops (Unit {0}) ℕ _ _ c.in-Err-append_bytes.stop c.in-Err-append_bytes.ensures.never (c.in-Ok.ensures.stops ∙ c.loop-place.invariant.stops)

pub returns-in-Err-append_bytes-clause-out : goal.returns-in-Err-append_bytes-clause-out
returns-in-Err-append_bytes-clause-out g c =
    out_unput g.A.Asker.asking g.met.A.Asker.lawful c.args.asker.now c.loop-place.asker c.ask_piece.new.asker (g.F.Folder.tree c.args.host.now) (g.F.Folder.tree c.loop-place.host) (g.F.Folder.tree c.append_bytes.new.host) c.args.at.now.tree c.args.at.now.host c.loop-place.place c.in-Ok.piece c.in-Err-append_bytes.stop
    c.loop-place.invariant.out c.in-Ok.ensures.reads c.in-Err-append_bytes.ensures.never
    (subst (λ z. (g.F.Folder.tree c.append_bytes.new.host ≡ g.F.Folder.tree c.loop-place.host) ⊎ ((k : ℕ) × IsAppended (g.F.Folder.tree c.loop-place.host) (g.F.Folder.tree c.append_bytes.new.host) c.args.at.now.host (take k z))) c.as_slice-bytes.ensures c.in-Err-append_bytes.ensures.err)

pub returns-then-len-lt-PIECE-clause-faults : goal.returns-then-len-lt-PIECE-clause-faults
returns-then-len-lt-PIECE-clause-faults g c = c.in-Ok-append_bytes.ensures.faults ∙ c.loop-place.invariant.faults

pub returns-then-len-lt-PIECE-clause-stops : goal.returns-then-len-lt-PIECE-clause-stops
returns-then-len-lt-PIECE-clause-stops g c = c.in-Ok.ensures.stops ∙ c.loop-place.invariant.stops

pub returns-then-len-lt-PIECE-clause-out : goal.returns-then-len-lt-PIECE-clause-out
returns-then-len-lt-PIECE-clause-out g c =
    let size : length c.as_slice-bytes.result.now ≡ length c.in-Ok.piece = ap length c.as_slice-bytes.ensures in
    let few : length c.in-Ok.piece < 1048576 = omega (arith, size, c.if-len-lt-PIECE.true) in
    out_last g.A.Asker.asking g.met.A.Asker.lawful c.args.asker.now c.loop-place.asker c.ask_piece.new.asker (g.F.Folder.tree c.args.host.now) (g.F.Folder.tree c.loop-place.host) (g.F.Folder.tree c.append_bytes.new.host) c.args.at.now.tree c.args.at.now.host c.loop-place.place (c.loop-place.place + length c.as_slice-bytes.result.now) c.in-Ok.piece
    c.loop-place.invariant.out c.in-Ok.ensures.reads few (ap (λ k. c.loop-place.place + k) size)
    (subst (IsAppended (g.F.Folder.tree c.loop-place.host) (g.F.Folder.tree c.append_bytes.new.host) c.args.at.now.host) c.as_slice-bytes.ensures c.in-Ok-append_bytes.ensures.ok)

pub loop-place-preserved : goal.loop-place-preserved
loop-place-preserved g c =
    let size : length c.as_slice-bytes.result.now ≡ length c.in-Ok.piece = ap length c.as_slice-bytes.ensures in
    let whole : 1048576 ≤ length c.in-Ok.piece = omega (arith, size, c.if-len-lt-PIECE.false) in
    record {
      ready = c.in-Ok.ensures.ready;
      faults = c.in-Ok-append_bytes.ensures.faults ∙ c.loop-place.invariant.faults;
      stops = c.in-Ok.ensures.stops ∙ c.loop-place.invariant.stops;
      out = out_more g.A.Asker.asking g.met.A.Asker.lawful c.args.asker.now c.loop-place.asker c.ask_piece.new.asker (g.F.Folder.tree c.args.host.now) (g.F.Folder.tree c.loop-place.host) (g.F.Folder.tree c.append_bytes.new.host) c.args.at.now.tree c.args.at.now.host c.loop-place.place (c.loop-place.place + 1048576) c.in-Ok.piece
          c.loop-place.invariant.out c.in-Ok.ensures.reads whole refl
          (subst (IsAppended (g.F.Folder.tree c.loop-place.host) (g.F.Folder.tree c.append_bytes.new.host) c.args.at.now.host) c.as_slice-bytes.ensures c.in-Ok-append_bytes.ensures.ok);
    }

pub returns-clause-out : goal.returns-clause-out
returns-clause-out g c = out_ends g.A.Asker.asking g.met.A.Asker.lawful c.args.asker.now c.loop-place.asker (g.F.Folder.tree c.args.host.now) (g.F.Folder.tree c.loop-place.host) c.args.at.now.tree c.args.at.now.host c.loop-place.place c.loop-place.invariant.out
