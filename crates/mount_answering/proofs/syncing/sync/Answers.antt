use Rattle.std.proofs.Common.{◌≡◌, true, false, refl, sym, subst, rules}
use Rattle.mount_core.proofs.record_saver_lemmas.Steps.{any_configures, short_configures}
use Rattle.mount_core.specs.record_saver.Saving.{KeepsEmpty}
use Rattle.mount_core.specs.store_api.Holdings.{IsFew}
use Rattle.mount_core.specs.path_layer.Showing.{ShowsFiles}
use Rattle.mount_core.proofs.path_layer_lemmas.Shows.{files_same}
use Rattle.mount_core.specs.declared.body.Core.{Core}
use Rattle.mount_answering.proofs.Formats.{least_synced}
use Rattle.mount_answering.proofs.Lines.{map_ok}
use Rattle.mount_answering.proofs.Keeping.{last_kept}
use Rattle.mount_answering.proofs.Synced.{synced, config_synced, saved_ok}
use Rattle.mount_answering.proofs.syncing.sync.Given.{Over}
use Rattle.mount_answering.proofs.syncing.sync.Goals as goal

abbrev CoreOf : Over → Type 0
CoreOf g = Core g.row.S.Denot g.row.K.Denot

pub returns : goal.returns
returns g c =
    let M = g.S.Blocks.meanings in
    let H = g.S.Blocks.holdings in
    let D = g.S.Durable.durables in
    let R = g.S.Durable.records in
    let G = g.K.Keeper in
    let endures = g.met.S.Durable.enduring in
    let old = c.args.core.now in
    let a = old.blobs.tx.store in
    let b = c.sync.new.store in
    let new : CoreOf g = record old { blobs = record { tx = record old.blobs.tx { store = b } }; saver = c.sync.new.self } in
    let result = c.sync.result in
    let m = c.sync.ensures.moves in
    let e = c.sync.ensures.syncs in
    let l = m.leaves in
    let long = D.local_record_of a true in
    let written = endures.written a true c.requires.ready.intact in
    let short : new.saver.changed ≡ false → KeepsEmpty D b (G.kept new.saver.keeper) = λ u. (new.saver.last.items, m.whole.kept u, m.whole.last u) in
    record {
      moves = record {
        ready = record { intact = m.intact; empty = c.requires.ready.empty; few = subst IsFew (sym l.stays.used) c.requires.ready.few; room = m.room; can_mark = e.can_mark c.requires.ready.can_mark; whole = m.whole };
        leaves = l;
        violated = refl;
        root = refl;
        least = least_synced M H D R G a (G.kept old.saver.keeper) (G.kept new.saver.keeper) e.keeps;
      };
      syncs = record {
        stands = λ kept now s. synced ShowsFiles M H D R G files_same old new kept now result s refl l.identity l.stays.payload (l.stays.content (g.met.S.Blocks.steady.sound_told a s.sound)) (l.sound s.sound)
            (e.stands (H.content a) s.sound s.unmarked (λ id. refl));
        configures = λ may now s.
            let present = m.present long now s.told written s.present in
            config_synced ShowsFiles M H D R G old new may now result s l.stays.told present (λ kept is. m.waiting kept now is (any_configures M H D R G g.S.BlocksMut.applied endures a long kept now written is s.present))
            (e.configures long now s.told written s.present)
            (map_ok result _ _ (λ (u : new.saver.changed ≡ false). short_configures M H D R G g.S.BlocksMut.applied endures b new.saver.last.items now m.intact (m.whole.none u) (m.whole.last u) present) m.ok) e.last;
        holds = λ bytes told k. saved_ok D R G old.saver new.saver a b bytes result (e.configures long bytes told written k);
        emptied = map_ok result _ _ short m.ok;
        ok = m.ok;
        unmoved = λ same. let u = e.unchanged same in search rules;
        wrote = m.wrote;
        keeps = record { kept = e.keeps; last = last_kept D G old.saver new.saver a b result e.last };
      };
    }
