use Rattle.std.proofs.Common.{true, inl, inr, refl, sym, ◌∙◌, subst, arith}
use Rattle.outside.specs.Causes.{RoseBy}
use Rattle.outside.specs.Going.{GoesOn, goes_on_equal}
use Rattle.mount_core.specs.store_api.Holdings.{IsFew}
use Rattle.mount_core.specs.path_layer.Showing.{ShowsFiles}
use Rattle.mount_core.proofs.path_layer_lemmas.Shows.{files_same}
use Rattle.mount_core.specs.Keeping.{HasConfigWaiting}
use Rattle.mount_core.specs.declared.body.Core.{Core}
use Rattle.mount_answering.proofs.Formats.{least_along}
use Rattle.mount_answering.proofs.Lines.{replaced, stands_loaded, stands_waiting, stays_on, config_waiting, configures_loaded, whole_loaded}
use Rattle.mount_core.specs.record_saver.Saving.{world}
use Rattle.mount_core.proofs.record_saver_lemmas.Steps.{memory_directory, memory_state, unless_directory}
use Rattle.mount_answering.proofs.syncing.replace_config.Given.{Over}
use Rattle.mount_answering.proofs.syncing.replace_config.Goals as goal

abbrev CoreOf : Over → Type 0
CoreOf g = Core g.row.S.Denot g.row.K.Denot

pub returns-in-Err : goal.returns-in-Err
returns-in-Err g c =
    let M = g.S.Blocks.meanings in
    let H = g.S.Blocks.holdings in
    let D = g.S.Durable.durables in
    let R = g.S.Durable.records in
    let endures = g.met.S.Durable.enduring in
    let old = c.args.core.now in
    let store = old.blobs.tx.store in
    let new : CoreOf g = record old { blobs = record { tx = record old.blobs.tx { store = c.put_config.new.self } } } in
    let after = new.blobs.tx.store in
    let p = c.in-Err.ensures in
    record {
      moves = record {
        ready = record {
          intact = p.meant.intact;
          empty = c.requires.ready.empty;
          few = subst IsFew (sym p.stays.used) c.requires.ready.few;
          room = c.requires.ready.room;
          can_mark = c.requires.ready.can_mark;
          whole = whole_loaded ShowsFiles M H D R g.K.Keeper g.S.BlocksMut.applied endures old.saver store after p.lists.err c.requires.ready.whole;
        };
        leaves = record {
          identity = p.lists.identity;
          least = p.lists.least;
          stays = p.stays;
          sound = p.meant.sound;
          goes_on = goes_on_equal (D.trace store) (D.trace after) p.lists.trace;
          forgeries = p.meant.forgeries;
          lies = p.meant.lies;
          vault_grows = omega (arith, p.faults);
          vault_cause = λ is. absurd (memory_directory is);
          vault_quiet = p.faults;
          keeper_grows = omega arith;
          keeper_cause = λ is. absurd (memory_state is);
          keeper_quiet = refl;
        };
        violated = refl;
        root = refl;
        least = λ k. k;
      };
      replaces = record {
        stands = λ kept now s. inl (stands_loaded ShowsFiles M H D R g.K.Keeper files_same g.S.BlocksMut.applied endures old new kept now s p.lists.err p.stays (g.met.S.Blocks.steady.sound_told store s.sound) refl refl (p.meant.sound s.sound));
        configures = λ may now s. inl (configures_loaded ShowsFiles M H D R g.K.Keeper g.S.BlocksMut.applied endures old new may now s p.lists.err p.stays refl refl);
        holds = λ told. tt;
        emptied = tt;
        ok = tt;
        keeps = record { kept = inl refl; last = inl refl };
      };
      writes = inl (endures.loaded_list store after p.lists.err, p.lists.trace);
    }

pub returns : goal.returns
returns g c =
    let M = g.S.Blocks.meanings in
    let H = g.S.Blocks.holdings in
    let D = g.S.Durable.durables in
    let R = g.S.Durable.records in
    let old = c.args.core.now in
    let store = old.blobs.tx.store in
    let mid : CoreOf g = record old { blobs = record { tx = record old.blobs.tx { store = c.put_config.new.self } }; saver = record old.saver { changed = true } } in
    let new = c.sync.new.core in
    let after = new.blobs.tx.store in
    let bytes = c.args.bytes.items in
    let p = c.put_config.ensures in
    let m = c.sync.ensures.moves in
    let l = m.leaves in
    let z = c.sync.ensures.syncs in
    let waits = c.in-Ok.ensures.keeps.configures in
    let waiting : HasConfigWaiting (world M H D R g.K.Keeper) store bytes mid.blobs.tx.store = record { identity = p.lists.identity; least = p.lists.least; stays = p.stays; list = c.in-Ok.ensures.lists.ok; trace = p.lists.trace } in
    record {
      moves = record {
        ready = m.ready;
        leaves = record {
          identity = l.identity ∙ p.lists.identity;
          least = l.least ∙ p.lists.least;
          stays = stays_on H store mid.blobs.tx.store after p.stays l.stays;
          sound = λ sound. l.sound (p.meant.sound sound);
          goes_on = subst (λ t. GoesOn t (D.trace after)) p.lists.trace l.goes_on;
          forgeries = l.forgeries ∙ p.meant.forgeries;
          lies = l.lies ∙ p.meant.lies;
          vault_grows = omega (arith, l.vault_grows, p.faults);
          vault_cause = λ is. subst (λ n. RoseBy 1 n (M.faults after)) p.faults (l.vault_cause is);
          vault_quiet = unless_directory c.sync.result _ _ (λ e. e ∙ p.faults) l.vault_quiet;
          keeper_grows = l.keeper_grows;
          keeper_cause = l.keeper_cause;
          keeper_quiet = l.keeper_quiet;
        };
        violated = m.violated;
        root = m.root;
        least = least_along M H D R g.K.Keeper store mid.blobs.tx.store (g.K.Keeper.kept old.saver.keeper) (g.K.Keeper.kept new.saver.keeper) p.lists.least m.least;
      };
      replaces = record {
        stands = λ kept now s. z.stands kept now (stands_waiting ShowsFiles M H D R g.K.Keeper files_same old mid kept now s (g.met.S.Blocks.steady.sound_told store s.sound) refl p.lists.identity p.stays refl p.lists.trace (p.meant.sound s.sound));
        configures = λ may now s. replaced ShowsFiles M H D R g.K.Keeper new may now bytes c.sync.result (z.configures _ bytes (config_waiting ShowsFiles M H D R g.K.Keeper old mid may now bytes s p.stays.told refl refl p.lists.trace waits));
        holds = λ told. z.holds bytes (p.stays.told ∙ told) waits;
        emptied = z.emptied;
        ok = z.ok;
        keeps = record {
          kept = elim z.keeps.kept [ inl same ↦ inl same | inr of ↦ inr (mid.blobs.tx.store, waiting, of) ];
          last = elim z.keeps.last [ inl same ↦ inl same | inr of ↦ inr (mid.blobs.tx.store, waiting, of) ];
        };
      };
      writes = inr (mid.blobs.tx.store, waiting, p.meant.intact, z.wrote);
    }
