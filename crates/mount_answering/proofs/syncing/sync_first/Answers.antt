use Rattle.std.proofs.Common.{inl, refl, sym, ◌∙◌, arith}
use Rattle.mount_core.proofs.record_saver_lemmas.Steps.{leaves_same, ok_no_error}
use Rattle.mount_core.specs.record_saver.declared.saver.SyncError.TheVariants.{FaultDirectory, FaultState}
use Rattle.mount_core.specs.path_layer.Showing.{ShowsFiles}
use Rattle.mount_answering.proofs.Lines.{map_ok, true_is_false}
use Rattle.mount_answering.proofs.Synced.{config_roomed, roomed}
use Rattle.mount_answering.proofs.syncing.sync_first.Goals as goal
use Rattle.mount_answering.proofs.syncing.sync_first.Goals.{then-is_sync-via-then-is_sync, then-is_sync-via-else-is_sync+then-weight-ge-MOST_WAITING}
use Rattle.block_id.proofs.Conditions.{no_fewer}

pub returns-then-is_sync : goal.returns-then-is_sync
returns-then-is_sync g c =
    let M = g.S.Blocks.meanings in
    let H = g.S.Blocks.holdings in
    let D = g.S.Durable.durables in
    let R = g.S.Durable.records in
    let new = c.sync.new.core in
    let m = c.sync.ensures.moves in
    let z = c.sync.ensures.syncs in
    record {
      moves = m;
      makes_room = record {
        stands = λ kept now s. roomed ShowsFiles M H D R g.K.Keeper new kept now c.sync.result (z.stands kept now s);
        synced = λ is. z.stands;
        configures = λ may now s. config_roomed ShowsFiles M H D R g.K.Keeper new may now c.sync.result s.among (z.configures may now s);
        unmoved = z.unmoved;
        few = map_ok c.sync.result _ _ (λ unchanged. let none = m.ready.whole.none unchanged in rw none (omega arith)) z.ok;
        spared = λ other small. elim c.then-is_sync.branch [
          | then-is_sync-via-then-is_sync w ↦ absurd (true_is_false (sym w.if-is_sync.true ∙ (c.is_sync.ensures ∙ other)))
          | then-is_sync-via-else-is_sync+then-weight-ge-MOST_WAITING w ↦ absurd (omega (arith, w.weight.ensures, small))
        ];
        wrote = z.wrote;
        keeps = z.keeps;
      };
    }

pub returns : goal.returns
returns g c =
    let keeper = c.args.core.now.saver.keeper in
    let failed = g.K.Keeper.faults keeper in
    record {
      moves = record {
        ready = c.requires.ready;
        leaves = leaves_same g.S.Blocks.meanings g.S.Blocks.holdings g.S.Durable.durables g.S.Durable.records g.K.Keeper c.args.core.now.blobs.tx.store keeper keeper _
            (no_fewer failed failed refl) (ok_no_error FaultDirectory) refl (λ is. absurd (ok_no_error FaultState is)) refl;
        violated = refl;
        root = refl;
        least = λ k. k;
      };
      makes_room = record {
        stands = λ kept now s. inl s;
        synced = λ is. absurd (true_is_false (sym is ∙ (sym c.is_sync.ensures ∙ c.if-is_sync.false)));
        configures = λ may now s. s;
        unmoved = λ unchanged. (refl, refl);
        few = omega (arith, c.weight.ensures);
        spared = λ other small. (refl, refl);
        wrote = inl refl;
        keeps = record { kept = inl refl; last = inl refl };
      };
    }
