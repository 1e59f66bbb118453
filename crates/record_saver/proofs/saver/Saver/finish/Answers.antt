use Rattle.std.proofs.Common.{◌≡◌, true, false, Some, Err, inl, inr, refl, sym, ◌∙◌, ap, subst, arith}
use Rattle.outside.specs.Causes.{UnlessFault}
use Rattle.outside.specs.Going.{goes_on_stops}
use Rattle.outside.specs.Plain.{IsPlain}
use Rattle.record_saver.specs.declared.saver.SyncError.TheVariants.{FaultDirectory, FaultState}
use Rattle.record_saver.proofs.Steps.{memory_directory, memory_state, directory_state, state_directory, ok_no_error, kept_either, kept_record, of_either, any_configures, may_mark, whole_changed, goes_on_written, long_stands, short_stands, short_configures, finishes_long}
use Rattle.record_saver.proofs.saver.Saver.finish.Goals as goal
use Rattle.block_id.proofs.Conditions.{no_fewer}

pub returns-in-Err-Failed : goal.returns-in-Err-Failed
returns-in-Err-Failed g c =
    let M = g.S.Blocks.meanings in
    let H = g.S.Blocks.holdings in
    let D = g.S.Durable.durables in
    let R = g.S.Durable.records in
    let G = g.K.Keeper in
    let a = c.args.store.now in
    let old = c.args.self.now in
    let b = c.write_out.new.self in
    let long = c.requires.long in
    let w = c.write_out.ensures in
    record {
      moves = record {
        leaves = record {
          identity = w.writes.identity;
          least = w.writes.least;
          stays = w.stays;
          sound = w.meant.sound;
          goes_on = goes_on_stops (D.list a) (D.list b) (D.trace a) (D.trace b) c.in-Err-Failed.ensures.writes.stops;
          forgeries = w.meant.forgeries;
          lies = w.meant.lies;
          vault_grows = w.cause.grows;
          vault_cause = λ is. c.in-Err-Failed.ensures.cause.failed (ap Err c.in-Err-Failed.field-0-is);
          vault_quiet = tt;
          keeper_grows = no_fewer (G.faults old.keeper) (G.faults old.keeper) refl;
          keeper_cause = λ is. absurd (directory_state is);
          keeper_quiet = refl;
        };
        intact = w.meant.intact;
        room = long.room;
        whole = whole_changed M H D R G old b long.changed;
        ok = tt;
        err = long.changed;
        writes = tt;
        wrote = inr (inl c.in-Err-Failed.ensures.writes.stops);
        waiting = w.keeps.kept_configures;
        present = λ kept bytes told. w.keeps.configures told kept bytes;
      };
      finishes = finishes_long M H D R G g.S.BlocksMut.applied g.met.S.Durable.enduring old old a b _ refl long.last long.kept (long.last, long.kept) w.writes.identity w.keeps.kept_configures w.keeps.stands;
    }

pub returns-in-Err-Memory : goal.returns-in-Err-Memory
returns-in-Err-Memory g c =
    let M = g.S.Blocks.meanings in
    let H = g.S.Blocks.holdings in
    let D = g.S.Durable.durables in
    let R = g.S.Durable.records in
    let G = g.K.Keeper in
    let a = c.args.store.now in
    let old = c.args.self.now in
    let b = c.write_out.new.self in
    let long = c.requires.long in
    let w = c.write_out.ensures in
    record {
      moves = record {
        leaves = record {
          identity = w.writes.identity;
          least = w.writes.least;
          stays = w.stays;
          sound = w.meant.sound;
          goes_on = goes_on_stops (D.list a) (D.list b) (D.trace a) (D.trace b) c.in-Err-Memory.ensures.writes.stops;
          forgeries = w.meant.forgeries;
          lies = w.meant.lies;
          vault_grows = w.cause.grows;
          vault_cause = λ is. absurd (memory_directory is);
          vault_quiet = subst (λ fail. UnlessFault fail (M.faults b ≡ M.faults a)) c.in-Err-Memory.field-0-is c.in-Err-Memory.ensures.cause.quiet;
          keeper_grows = no_fewer (G.faults old.keeper) (G.faults old.keeper) refl;
          keeper_cause = λ is. absurd (memory_state is);
          keeper_quiet = refl;
        };
        intact = w.meant.intact;
        room = long.room;
        whole = whole_changed M H D R G old b long.changed;
        ok = tt;
        err = long.changed;
        writes = tt;
        wrote = inr (inl c.in-Err-Memory.ensures.writes.stops);
        waiting = w.keeps.kept_configures;
        present = λ kept bytes told. w.keeps.configures told kept bytes;
      };
      finishes = finishes_long M H D R G g.S.BlocksMut.applied g.met.S.Durable.enduring old old a b _ refl long.last long.kept (long.last, long.kept) w.writes.identity w.keeps.kept_configures w.keeps.stands;
    }

pub returns-in-Err : goal.returns-in-Err
returns-in-Err g c =
    let M = g.S.Blocks.meanings in
    let H = g.S.Blocks.holdings in
    let D = g.S.Durable.durables in
    let R = g.S.Durable.records in
    let G = g.K.Keeper in
    let endures = g.met.S.Durable.enduring in
    let a = c.args.store.now in
    let old = c.args.self.now in
    let b = c.write_out.new.self in
    let keeper = c.save.new.self in
    let new = record old { keeper = keeper } in
    let long = c.requires.long in
    let w = c.write_out.ensures in
    let none = c.in-Ok.ensures.writes.ok in
    let last = old.last.items in
    let short = c.args.short.items in
    let short_after = w.keeps.empty_record short c.requires.short in
    let taken = g.met.K.Keeper.takes_plain c.deref.result.now (subst IsPlain (sym c.deref.ensures.value) (endures.plain a false short c.requires.short)) in
    let kept = kept_either (G.kept keeper) (G.kept old.keeper) last c.deref.result.now short (c.in-Err.ensures.err taken) long.kept c.deref.ensures.value in
    let of_store = kept_record D a (G.kept keeper) last short kept long.last c.requires.short in
    record {
      moves = record {
        leaves = record {
          identity = w.writes.identity;
          least = w.writes.least;
          stays = w.stays;
          sound = w.meant.sound;
          goes_on = goes_on_written M H D R G a b c.in-Ok.ensures.writes.writes;
          forgeries = w.meant.forgeries;
          lies = w.meant.lies;
          vault_grows = w.cause.grows;
          vault_cause = λ is. absurd (state_directory is);
          vault_quiet = c.in-Ok.ensures.cause.quiet;
          keeper_grows = c.save.ensures.grows;
          keeper_cause = λ is. c.in-Err.ensures.cause;
          keeper_quiet = tt;
        };
        intact = w.meant.intact;
        room = omega (arith, long.room, c.save.ensures.room);
        whole = whole_changed M H D R G new b long.changed;
        ok = tt;
        err = long.changed;
        writes = tt;
        wrote = inr (inr (c.in-Ok.ensures.writes.writes, none));
        waiting = w.keeps.kept_configures;
        present = λ kept bytes told. w.keeps.configures told kept bytes;
      };
      finishes = record {
        stands = λ now sound unmarked same. of_either (λ bytes. R.stands (D.identity b) bytes (D.trace b) now) (G.kept keeper) last short kept
            (long_stands M H D R G g.S.BlocksMut.applied endures a b last now w.writes.identity same (w.keeps.stands last sound unmarked long.last))
            (short_stands M H D R G g.S.BlocksMut.applied endures a b short now w.meant.intact (w.meant.sound sound) unmarked w.writes.identity none short_after (w.stays.content (g.met.S.Blocks.steady.sound_told a sound)) same);
        configures = λ k bytes told is h. of_either (λ kept. R.configures kept (D.trace b) bytes) (G.kept keeper) last short kept
            (w.keeps.kept_configures last bytes long.last (any_configures M H D R G g.S.BlocksMut.applied endures a k last bytes is long.last h))
            (short_configures M H D R G g.S.BlocksMut.applied endures b short bytes w.meant.intact none short_after (w.keeps.configures told k bytes is h));
        last = (long.last, of_store);
        stands_last = λ now sound unmarked same. long_stands M H D R G g.S.BlocksMut.applied endures a b last now w.writes.identity same (w.keeps.stands last sound unmarked long.last);
        keeps = elim (c.in-Err.ensures.err taken) [ inl same ↦ inl same | inr is ↦ inr (short, is ∙ ap Some c.deref.ensures.value, c.requires.short) ];
        can_mark = may_mark M H D R G g.S.BlocksMut.applied endures new a true long.last;
      };
    }

pub returns : goal.returns
returns g c =
    let M = g.S.Blocks.meanings in
    let H = g.S.Blocks.holdings in
    let D = g.S.Durable.durables in
    let R = g.S.Durable.records in
    let G = g.K.Keeper in
    let endures = g.met.S.Durable.enduring in
    let a = c.args.store.now in
    let b = c.write_out.new.self in
    let keeper = c.save.new.self in
    let short = c.args.short.items in
    let w = c.write_out.ensures in
    let none = c.in-Ok.ensures.writes.ok in
    let short_after = w.keeps.empty_record short c.requires.short in
    let taken = g.met.K.Keeper.takes_plain c.deref.result.now (subst IsPlain (sym c.deref.ensures.value) (endures.plain a false short c.requires.short)) in
    let kept : G.kept keeper ≡ Some short = c.in-Ok-save.ensures.ok taken ∙ ap Some c.deref.ensures.value in
    record {
      moves = record {
        leaves = record {
          identity = w.writes.identity;
          least = w.writes.least;
          stays = w.stays;
          sound = w.meant.sound;
          goes_on = goes_on_written M H D R G a b c.in-Ok.ensures.writes.writes;
          forgeries = w.meant.forgeries;
          lies = w.meant.lies;
          vault_grows = w.cause.grows;
          vault_cause = λ is. absurd (ok_no_error FaultDirectory is);
          vault_quiet = c.in-Ok.ensures.cause.quiet;
          keeper_grows = c.save.ensures.grows;
          keeper_cause = λ is. absurd (ok_no_error FaultState is);
          keeper_quiet = c.in-Ok-save.ensures.quiet;
        };
        intact = w.meant.intact;
        room = omega (arith, c.requires.room, c.save.ensures.room);
        whole = record { kept = λ u. kept; last = λ u. short_after; none = λ u. none };
        ok = refl {a = false};
        err = tt;
        writes = c.in-Ok.ensures.writes.writes;
        wrote = inr (inr (c.in-Ok.ensures.writes.writes, none));
        waiting = w.keeps.kept_configures;
        present = λ kept bytes told. w.keeps.configures told kept bytes;
      };
      finishes = record {
        stands = λ now sound unmarked same.
            (short, kept, short_stands M H D R G g.S.BlocksMut.applied endures a b short now w.meant.intact (w.meant.sound sound) unmarked w.writes.identity none short_after (w.stays.content (g.met.S.Blocks.steady.sound_told a sound)) same);
        configures = λ k bytes told is h. (short, kept, short_configures M H D R G g.S.BlocksMut.applied endures b short bytes w.meant.intact none short_after (w.keeps.configures told k bytes is h));
        last = c.requires.short;
        stands_last = λ now sound unmarked same. short_stands M H D R G g.S.BlocksMut.applied endures a b short now w.meant.intact (w.meant.sound sound) unmarked w.writes.identity none short_after (w.stays.content (g.met.S.Blocks.steady.sound_told a sound)) same;
        keeps = inr (short, kept, c.requires.short);
        can_mark = may_mark M H D R G g.S.BlocksMut.applied endures (record { keeper = keeper; last = c.args.short; changed = false }) a false c.requires.short;
      };
    }
