use Rattle.std.proofs.Common.{◌≡◌, take}
use Rattle.mount_answering.specs.answers.declared.answer.Answer.TheVariants.{Reply as Replied}
use Rattle.fs_model.specs.declared.reply.Reply.TheVariants.{Done}
use Rattle.mount_answering.specs.record_saver.Saving.{world}
use Rattle.mount_answering.specs.store_api.Content.{Id}
use Rattle.mount_answering.specs.store_api.Durables.{IsNewFile}
use Rattle.mount_answering.specs.mount_core.Showing.{ShowsFiles}
use Rattle.mount_answering.specs.mount_core.Standing.{Ready}
use Rattle.mount_migrating.specs.Drawing.{DrawsAlong}
use Rattle.mount_migrating.specs.Migrating.{AreNew, AreUnspent, Proceeds, Raises}
use Rattle.mount_migrating.specs.Noticing.{NoticedAlong}
use Rattle.mount_migrating.proofs.Crowds.{listed}
use Rattle.mount_migrating.proofs.renewing.renew_all.Given as goal

abbrev pub invariant-loop-id : goal.invariant-loop-id
invariant-loop-id g l = record {
  ready : Ready (world g.S.Blocks.meanings g.S.Blocks.holdings g.S.Durable.durables g.S.Durable.records g.K.Keeper) l.core;
  proceeds : Proceeds ShowsFiles (world g.S.Blocks.meanings g.S.Blocks.holdings g.S.Durable.durables g.S.Durable.records g.K.Keeper) l.initial.core l.core;
  least : g.S.Durable.durables.least l.core.blobs.tx.store ≡ g.S.Durable.durables.least l.initial.core.blobs.tx.store;
  vault : g.S.Blocks.meanings.faults l.core.blobs.tx.store ≡ g.S.Blocks.meanings.faults l.initial.core.blobs.tx.store;
  keeper : g.K.Keeper.faults l.core.saver.keeper ≡ g.K.Keeper.faults l.initial.core.saver.keeper;
  raises : Raises g.S.Blocks.holdings l.initial.core.blobs.tx.store l.core.blobs.tx.store (take l.id-index (listed l.ids));
  unspent : AreUnspent g.S.Blocks.holdings l.initial.core.blobs.tx.store (take l.id-index (listed l.ids));
  are_new : AreNew g.S.Blocks.holdings g.S.Durable.durables l.core.blobs.tx.store (take l.id-index (listed l.ids));
  stays_new : (id : Id) → IsNewFile g.S.Durable.durables l.initial.core.blobs.tx.store id → IsNewFile g.S.Durable.durables l.core.blobs.tx.store id;
  noticed : NoticedAlong g.S.Blocks.meanings g.S.Blocks.holdings g.S.Durable.durables g.S.BlocksMut.applied l.initial.core.blobs.tx.store (Replied Done) l.core.blobs.tx.store;
  draws : DrawsAlong (world g.S.Blocks.meanings g.S.Blocks.holdings g.S.Durable.durables g.S.Durable.records g.K.Keeper) g.S.BlocksMut.applied g.S.BlocksMut.drawn l.initial.core l.core (g.R.Rng.stream l.initial.chance) (g.R.Rng.stream l.chance);
}
