use Rattle.std.proofs.Common.{◌∙◌, [], ◌∷◌}
use Rattle.mount_answering.specs.mount_core.Showing.{ShowsFiles}
use Rattle.mount_migrating.specs.Migrating.{told}
use Rattle.mount_migrating.proofs.Chains.{renews_after, renews_stopped}
use Rattle.mount_migrating.proofs.Drawing.{step_once, step_synced}
use Rattle.mount_migrating.proofs.Noticing.{along_then}
use Rattle.mount_migrating.proofs.renewing.renew_next.Goals as goal

pub returns-in-Ok-clause-renews : goal.returns-in-Ok-clause-renews
returns-in-Ok-clause-renews g c =
    renews_after ShowsFiles g.S.Blocks.meanings g.S.Blocks.holdings g.S.Durable.durables g.S.Durable.records g.K.Keeper c.args.core.now c.make_room.new.core c.renew.new.core (c.args.id.now.0 ∷ []) c.renew.result c.in-Ok.ensures.leaves.least c.in-Ok.ensures.rests c.renew.ensures.renews

pub returns-in-Err-clause-renews : goal.returns-in-Err-clause-renews
returns-in-Err-clause-renews g c =
    renews_stopped ShowsFiles g.S.Blocks.meanings g.S.Blocks.holdings g.S.Durable.durables g.S.Durable.records g.K.Keeper c.args.core.now c.make_room.new.core (c.args.id.now.0 ∷ []) c.in-Err.error c.in-Err.ensures.leaves.least c.in-Err.ensures.rests

pub renew-requires-clause-live : goal.renew-requires-clause-live
renew-requires-clause-live g c = c.in-Ok.ensures.rests.proceeds.ids c.args.id.now.0 ∙ c.requires.live

pub returns-in-Ok-clause-noticed : goal.returns-in-Ok-clause-noticed
returns-in-Ok-clause-noticed g c =
    along_then g.S.Blocks.meanings g.S.Blocks.holdings g.S.Durable.durables g.S.BlocksMut.applied c.args.core.now.blobs.tx.store c.make_room.new.core.blobs.tx.store c.renew.new.core.blobs.tx.store (told c.renew.result)
    c.in-Ok.ensures.noticed c.renew.ensures.noticed

pub returns-in-Ok-clause-draws : goal.returns-in-Ok-clause-draws
returns-in-Ok-clause-draws g c =
    let r = c.in-Ok.ensures in
    let w = c.renew.ensures in
    step_once g.S.Blocks.meanings g.S.Blocks.holdings g.S.Durable.durables g.S.Durable.records g.K.Keeper g.S.BlocksMut.applied g.S.BlocksMut.drawn c.args.core.now c.make_room.new.core c.renew.new.core _ _
    r.leaves.wrote r.rests.used r.leaves.keeps w.draws w.keeper w.last

pub returns-in-Err-clause-draws : goal.returns-in-Err-clause-draws
returns-in-Err-clause-draws g c =
    let r = c.in-Err.ensures in
    step_synced g.S.Blocks.meanings g.S.Blocks.holdings g.S.Durable.durables g.S.Durable.records g.K.Keeper g.S.BlocksMut.applied g.S.BlocksMut.drawn g.met.S.Blocks.lawful c.args.core.now c.make_room.new.core (g.R.Rng.stream c.args.chance.now) r.leaves.wrote r.rests.used r.leaves.keeps
