use Rattle.std.proofs.Common.{inl, refl}
use Rattle.mount_answering.specs.answers.declared.answer.Answer.TheVariants.{Reply as Replied}
use Rattle.fs_model.specs.declared.reply.Reply.TheVariants.{Done}
use Rattle.mount_migrating.proofs.Drawing.{keeps_same}
use Rattle.mount_migrating.proofs.Noticing.{along_same}
use Rattle.mount_migrating.proofs.renewing.make_room.Goals as goal

pub returns-clause-noticed : goal.returns-clause-noticed
returns-clause-noticed g c =
    along_same g.S.Blocks.meanings g.S.Blocks.holdings g.S.Durable.durables g.S.BlocksMut.applied g.met.S.Blocks.lawful c.args.core.now.blobs.tx.store (Replied Done)

pub returns-clause-leaves : goal.returns-clause-leaves
returns-clause-leaves g c =
    let core = c.args.core.now in
    record { wrote = inl refl; keeps = keeps_same g.S.Durable.durables g.K.Keeper core.blobs.tx.store core.saver core.saver refl refl; least = refl }
