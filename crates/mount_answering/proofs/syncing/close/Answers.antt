use Rattle.std.proofs.Common.{refl}
use Rattle.std.specs.declared.result.Result.TheVariants.{Ok}
use Rattle.mount_core.proofs.record_saver_lemmas.Steps.{leaves_same, ok_no_error}
use Rattle.mount_core.specs.record_saver.declared.saver.SyncError.TheVariants.{FaultDirectory, FaultState}
use Rattle.mount_core.specs.path_layer.Showing.{ShowsFiles}
use Rattle.mount_answering.proofs.Closing.{closes_violated, closes_synced, closes_along, leaves_along}
use Rattle.mount_answering.proofs.syncing.close.Goals as goal
use Rattle.mount_answering.proofs.syncing.close.Goals.{then-core, else-core}
use Rattle.block_id.proofs.Conditions.{no_fewer}

pub returns-clause-leaves : goal.returns-clause-leaves
returns-clause-leaves g c =
    let M = g.S.Blocks.meanings in
    let H = g.S.Blocks.holdings in
    let D = g.S.Durable.durables in
    let R = g.S.Durable.records in
    let G = g.K.Keeper in
    let core = c.args.core in
    elim c.if-core.branch [
      | then-core w ↦
          let keeper = core.saver.keeper in
          leaves_along ShowsFiles M H D R G core core c.if-core.core c.into_store.result (Ok tt) c.if-core.result w.core-is w.result-is c.into_store.ensures
          (leaves_same M H D R G core.blobs.tx.store keeper keeper (Ok tt) (no_fewer (G.faults keeper) (G.faults keeper) refl) (ok_no_error FaultDirectory) refl (λ is. absurd (ok_no_error FaultState is)) refl)
      | else-core w ↦
          let z = w.sync-result in
          leaves_along ShowsFiles M H D R G core z.new.core c.if-core.core c.into_store.result z.result c.if-core.result w.core-is w.result-is c.into_store.ensures z.ensures.moves.leaves
    ]

pub returns-clause-closes : goal.returns-clause-closes
returns-clause-closes g c =
    let M = g.S.Blocks.meanings in
    let H = g.S.Blocks.holdings in
    let D = g.S.Durable.durables in
    let R = g.S.Durable.records in
    let G = g.K.Keeper in
    let core = c.args.core in
    elim c.if-core.branch [
      | then-core w ↦
          closes_along ShowsFiles M H D R G core core c.if-core.core c.into_store.result (Ok tt) c.if-core.result w.core-is w.result-is c.into_store.ensures
          (closes_violated ShowsFiles M H D R G core w.if-core.true c.requires.intact)
      | else-core w ↦
          let z = w.sync-result in
          closes_along ShowsFiles M H D R G core z.new.core c.if-core.core c.into_store.result z.result c.if-core.result w.core-is w.result-is c.into_store.ensures
          (closes_synced ShowsFiles M H D R G core z.new.core z.result w.if-core.false z.ensures.moves z.ensures.syncs)
    ]
