use Rattle.std.proofs.Common.{◌≡◌, ◌⊎◌, ◌≤◌, true, false, Some, Err, inl, inr, refl, sym, ◌∙◌, ap, subst, arith}
use Rattle.outside.specs.Causes.{RoseBy}
use Rattle.outside.specs.Plain.{IsPlain}
use Rattle.outside.specs.Writes.{after_writes}
use Rattle.record_saver.specs.declared.saver.SyncError.TheVariants.{FaultDirectory, FaultState}
use Rattle.record_saver.proofs.Steps.{true_is_false, ok_no_error, state_directory, kept_or_new, unwritten_stands, written_is, any_configures, failed_save, kept_or_record, leaves_same, moves_memory, moves_since, moves_stopped, record_after, moves_to, moves_from, finishes_from, syncs_to, long_kept_to, syncs_memory, syncs_on}
use Rattle.record_saver.proofs.saver.Saver.sync.Goals as goal
use Rattle.block_id.proofs.Conditions.{no_fewer}

pub returns-then-not-self : goal.returns-then-not-self
returns-then-not-self g c =
    let M = g.S.Blocks.meanings in
    let H = g.S.Blocks.holdings in
    let D = g.S.Durable.durables in
    let R = g.S.Durable.records in
    let G = g.K.Keeper in
    let endures = g.met.S.Durable.enduring in
    let a = c.args.store.now in
    let old = c.args.self.now in
    let same = c.if-not-self.true in
    let none = c.requires.whole.none same in
    let kept = c.requires.whole.kept same in
    let short = old.last.items in
    let is = endures.same_record a short none (c.requires.whole.last same) in
    record {
      moves = record {
        leaves = leaves_same M H D R G a old.keeper old.keeper _ (no_fewer (G.faults old.keeper) (G.faults old.keeper) refl) (ok_no_error FaultDirectory) refl (λ is. absurd (ok_no_error FaultState is)) refl;
        intact = c.requires.intact;
        room = c.requires.room;
        whole = c.requires.whole;
        ok = same;
        err = tt;
        writes = ap (λ list. after_writes list (D.trace a)) (sym none);
        wrote = inl refl;
        waiting = λ k bytes is h. h;
        present = λ k bytes told is h. any_configures M H D R G g.S.BlocksMut.applied endures a k _ bytes is (endures.written a true c.requires.intact) h;
      };
      syncs = record {
        unchanged = λ e. (refl, refl, refl);
        stands = λ now sound unmarked as_now. (short, kept, unwritten_stands M H D R G g.S.BlocksMut.applied endures a short now c.requires.intact sound unmarked is as_now);
        configures = λ k bytes told also h. (short, kept, any_configures M H D R G g.S.BlocksMut.applied endures a k short bytes also is h);
        last = inr (c.requires.whole.last same);
        stands_last = λ was now h sound unmarked as_now. inl h;
        keeps = inl refl;
        can_mark = λ can. can;
      };
    }

pub returns-in-Err : goal.returns-in-Err
returns-in-Err g c =
    let M = g.S.Blocks.meanings in
    let H = g.S.Blocks.holdings in
    let D = g.S.Durable.durables in
    let R = g.S.Durable.records in
    let G = g.K.Keeper in
    let old = c.args.self.now in
    let a = c.args.store.now in
    let b = c.record_to_save.new.store in
    let keeper = c.record_to_save.new.keeper in
    let new = record old { keeper = keeper } in
    let p = c.record_to_save.ensures in
    record {
      moves = moves_to M H D R G old new a a b _ p.same (moves_memory M H D R G g.S.BlocksMut.applied g.met.S.Durable.enduring old keeper a c.requires.intact c.requires.room c.if-not-self.false p.room p.faults);
      syncs = syncs_to M H D R G old new a a b _ p.same (syncs_memory M H D R G old keeper a c.if-not-self.false p.kept);
    }

pub returns-in-Err-record_to_save : goal.returns-in-Err-record_to_save
returns-in-Err-record_to_save g c =
    let M = g.S.Blocks.meanings in
    let H = g.S.Blocks.holdings in
    let D = g.S.Durable.durables in
    let R = g.S.Durable.records in
    let G = g.K.Keeper in
    let old = c.args.self.now in
    let a = c.args.store.now in
    let b = c.record_to_save-2.new.store in
    let keeper = c.record_to_save-2.new.keeper in
    let new = record old { keeper = keeper } in
    let p = c.record_to_save.ensures in
    let q = c.record_to_save-2.ensures in
    let same = q.same ∙ p.same in
    record {
      moves = moves_to M H D R G old new a a b _ same
          (moves_memory M H D R G g.S.BlocksMut.applied g.met.S.Durable.enduring old keeper a c.requires.intact c.requires.room c.if-not-self.false (omega (arith, p.room, q.room)) (q.faults ∙ p.faults));
      syncs = syncs_to M H D R G old new a a b _ same (syncs_memory M H D R G old keeper a c.if-not-self.false (q.kept ∙ p.kept));
    }

pub returns-in-Err-save : goal.returns-in-Err-save
returns-in-Err-save g c =
    let M = g.S.Blocks.meanings in
    let H = g.S.Blocks.holdings in
    let D = g.S.Durable.durables in
    let R = g.S.Durable.records in
    let G = g.K.Keeper in
    let a = c.args.store.now in
    let b = c.record_to_save-2.new.store in
    let old = c.args.self.now in
    let keeper = c.save.new.self in
    let new = record old { keeper = keeper } in
    let p = c.record_to_save.ensures in
    let q = c.record_to_save-2.ensures in
    let same = q.same ∙ p.same in
    let endures = g.met.S.Durable.enduring in
    let long = D.local_record_of a true in
    let is = endures.written a true c.requires.intact in
    let written = c.deref.ensures.value ∙ c.in-Ok.ensures.record_ in
    let taken = g.met.K.Keeper.takes_plain c.deref.result.now (subst IsPlain (sym written) (endures.plain a true long is)) in
    let kept : (G.kept keeper ≡ G.kept old.keeper) ⊎ (G.kept keeper ≡ Some long) =
    kept_or_new (G.kept keeper) (G.kept c.record_to_save-2.new.keeper) (G.kept old.keeper) c.deref.result.now long (c.in-Err-save.ensures.err taken) (q.kept ∙ p.kept) written in
    let calm = q.faults ∙ p.faults in
    record {
      moves = moves_to M H D R G old new a a b (Err FaultState) same
          (moves_stopped M H D R G g.S.BlocksMut.applied endures old new a FaultState c.requires.intact (omega (arith, c.requires.room, p.room, q.room, c.save.ensures.room)) c.if-not-self.false
          (leaves_same M H D R G a old.keeper keeper _ (subst (λ n. n ≤ G.faults keeper) calm c.save.ensures.grows) state_directory refl (λ is. subst (λ n. RoseBy 1 n (G.faults keeper)) calm c.in-Err-save.ensures.cause) tt));
      syncs = syncs_to M H D R G old new a a b (Err FaultState) same (record {
        unchanged = λ e. absurd (true_is_false (sym c.if-not-self.false ∙ e));
        stands = λ now sound unmarked same. failed_save M H D R G (λ bytes. R.stands (D.identity a) bytes (D.trace a) now) old new a kept
            (unwritten_stands M H D R G g.S.BlocksMut.applied endures a long now c.requires.intact sound unmarked is same);
        configures = λ k bytes told also h. failed_save M H D R G (λ kept. R.configures kept (D.trace a) bytes) old new a kept (any_configures M H D R G g.S.BlocksMut.applied endures a k long bytes also is h);
        last = inl (refl, refl, kept);
        stands_last = λ was now h sound unmarked same. inl h;
        keeps = kept_or_record M H D R G a (G.kept keeper) (G.kept old.keeper) is kept;
        can_mark = λ can. record { marks = can.marks; long = can.long; plain = can.plain };
      });
    }

pub returns : goal.returns
returns g c =
    let M = g.S.Blocks.meanings in
    let H = g.S.Blocks.holdings in
    let D = g.S.Durable.durables in
    let R = g.S.Durable.records in
    let G = g.K.Keeper in
    let old = c.args.self.now in
    let a = c.args.store.now in
    let m = c.record_to_save-2.new.store in
    let mid = record old { keeper = c.save.new.self; last = c.in-Ok.bytes } in
    let new = c.finish.new.self in
    let b = c.finish.new.store in
    let p = c.record_to_save.ensures in
    let q = c.record_to_save-2.ensures in
    let same = q.same ∙ p.same in
    let calm = c.in-Ok-save.ensures.quiet ∙ q.faults ∙ p.faults in
    let is = written_is M H D R G g.S.BlocksMut.applied g.met.S.Durable.enduring a true c.in-Ok.bytes.items c.requires.intact c.in-Ok.ensures.record_ in
    let taken = g.met.K.Keeper.takes_plain c.deref.result.now (subst IsPlain (sym c.deref.ensures.value) (g.met.S.Durable.enduring.plain a true c.in-Ok.bytes.items is)) in
    record {
      moves = moves_from M H D R G old new a m b c.finish.result same (moves_since M H D R G old mid new m b c.finish.result calm c.finish.ensures.moves);
      syncs = syncs_on M H D R G old mid new a b c.in-Ok.bytes.items c.finish.result c.if-not-self.false
          (c.in-Ok-save.ensures.ok taken ∙ ap Some c.deref.ensures.value)
          is
          (finishes_from M H D R G mid new a m b c.finish.result same c.finish.ensures.finishes);
    }

pub finish-requires-clause-long : goal.finish-requires-clause-long
finish-requires-clause-long g c =
    let M = g.S.Blocks.meanings in
    let H = g.S.Blocks.holdings in
    let D = g.S.Durable.durables in
    let R = g.S.Durable.records in
    let G = g.K.Keeper in
    let a = c.args.store.now in
    let mid = record c.args.self.now { keeper = c.save.new.self; last = c.in-Ok.bytes } in
    let is = written_is M H D R G g.S.BlocksMut.applied g.met.S.Durable.enduring a true c.in-Ok.bytes.items c.requires.intact c.in-Ok.ensures.record_ in
    let taken = g.met.K.Keeper.takes_plain c.deref.result.now (subst IsPlain (sym c.deref.ensures.value) (g.met.S.Durable.enduring.plain a true c.in-Ok.bytes.items is)) in
    long_kept_to M H D R G mid a c.record_to_save-2.new.store (c.record_to_save-2.ensures.same ∙ c.record_to_save.ensures.same)
    (record {
      intact = c.requires.intact;
      room = omega (arith, c.in-Ok.ensures.fits, c.in-Ok.ensures.room, c.record_to_save-2.ensures.room, c.save.ensures.room);
      kept = c.in-Ok-save.ensures.ok taken ∙ ap Some c.deref.ensures.value;
      last = is;
      changed = c.if-not-self.false;
    })

pub finish-requires-clause-short : goal.finish-requires-clause-short
finish-requires-clause-short g c =
    let M = g.S.Blocks.meanings in
    let H = g.S.Blocks.holdings in
    let D = g.S.Durable.durables in
    let R = g.S.Durable.records in
    let G = g.K.Keeper in
    let a = c.args.store.now in
    let m = c.record_to_save.new.store in
    let b = c.record_to_save-2.new.store in
    let p = c.record_to_save.ensures in
    let short = c.in-Ok-record_to_save.bytes.items in
    record_after M H D R G m b false short c.record_to_save-2.ensures.same
    (written_is M H D R G g.S.BlocksMut.applied g.met.S.Durable.enduring m false short (subst M.intact (sym p.same) c.requires.intact) c.in-Ok-record_to_save.ensures.record_)
