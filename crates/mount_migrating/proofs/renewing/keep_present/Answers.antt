use Rattle.std.proofs.Common.{sym, subst}
use Rattle.std.specs.declared.result.Result.TheVariants.{Ok, Err}
use Rattle.mount_answering.specs.record_saver.Saving.{world}
use Rattle.mount_answering.specs.mount_core.Showing.{ShowsFiles}
use Rattle.mount_migrating.specs.Migrating.{told, Rests}
use Rattle.mount_migrating.proofs.Noticing.{along_synced}
use Rattle.mount_migrating.proofs.Syncing.{done_rests, stopped_rests}
use Rattle.mount_migrating.proofs.renewing.keep_present.Goals as goal

pub returns-in-Ok-clause-rests : goal.returns-in-Ok-clause-rests
returns-in-Ok-clause-rests g c =
    let z = c.in-Ok.ensures in
    done_rests ShowsFiles g.S.Blocks.meanings g.S.Blocks.holdings g.S.Durable.durables g.S.Durable.records g.K.Keeper c.args.core.now c.sync.new.core g.S.BlocksMut.applied g.met.S.Durable.enduring c.requires.ready.intact z.moves z.syncs

pub returns-in-Err-clause-rests : goal.returns-in-Err-clause-rests
returns-in-Err-clause-rests g c =
    let z = c.in-Err.ensures in
    subst (λ e. Rests ShowsFiles (world g.S.Blocks.meanings g.S.Blocks.holdings g.S.Durable.durables g.S.Durable.records g.K.Keeper) c.args.core.now (Err e) c.sync.new.core) (sym c.sync_error.ensures)
    (stopped_rests ShowsFiles g.S.Blocks.meanings g.S.Blocks.holdings g.S.Durable.durables g.S.Durable.records g.K.Keeper c.args.core.now c.sync.new.core c.in-Err.error z.moves z.syncs)

pub returns-in-Ok-clause-noticed : goal.returns-in-Ok-clause-noticed
returns-in-Ok-clause-noticed g c =
    let z = c.in-Ok.ensures in
    let l = z.moves.leaves in
    along_synced g.S.Blocks.meanings g.S.Blocks.holdings g.S.Durable.durables g.S.BlocksMut.applied g.met.S.Blocks.lawful c.args.core.now.blobs.tx.store c.sync.new.core.blobs.tx.store (told {T = Unit} (Ok tt)) z.syncs.wrote l.stays l.identity l.least

pub returns-in-Err-clause-noticed : goal.returns-in-Err-clause-noticed
returns-in-Err-clause-noticed g c =
    let z = c.in-Err.ensures in
    let l = z.moves.leaves in
    along_synced g.S.Blocks.meanings g.S.Blocks.holdings g.S.Durable.durables g.S.BlocksMut.applied g.met.S.Blocks.lawful c.args.core.now.blobs.tx.store c.sync.new.core.blobs.tx.store (told {T = Unit} (Err c.sync_error.result)) z.syncs.wrote l.stays l.identity l.least

pub returns-in-Ok-clause-leaves : goal.returns-in-Ok-clause-leaves
returns-in-Ok-clause-leaves g c =
    let z = c.in-Ok.ensures in
    record { wrote = z.syncs.wrote; keeps = z.syncs.keeps; least = z.moves.leaves.least }

pub returns-in-Err-clause-leaves : goal.returns-in-Err-clause-leaves
returns-in-Err-clause-leaves g c =
    let z = c.in-Err.ensures in
    record { wrote = z.syncs.wrote; keeps = z.syncs.keeps; least = z.moves.leaves.least }
