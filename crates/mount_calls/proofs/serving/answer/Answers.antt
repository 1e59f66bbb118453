use Rattle.std.proofs.Common.{refl}
use Rattle.mount.specs.integrity_store.WaitingLaws.{in_order}
use Rattle.mount.proofs.Sealing.{line_owns, line_seals}
use Rattle.mount_calls.proofs.serving.answer.Goals as goal

pub returns-clause-draws : goal.returns-clause-draws
returns-clause-draws g c =
    line_seals g.V.Vault.trace g.V.Vault.faults c.args.mount.now.core.blobs.tx.store c.answer.new.core.blobs.tx.store _ _ (in_order _ _ c.requires.ready.core.intact.0.0.has_record) c.answer.ensures.draws

pub returns-clause-answers : goal.returns-clause-answers
returns-clause-answers g c =
    let e = c.answer.ensures in
    record { opened = refl; line = record { form = e.form; trees = e.trees; store = e.store; saver = e.saver.saver; keeps = e.saver.keeps }; own = line_owns g.V.Vault.trace g.V.Vault.faults _ c.args.mount.now.core.blobs.tx.store c.answer.new.core.blobs.tx.store _ _ e.store.identity (in_order _ _ c.requires.ready.core.intact.0.0.has_record) e.draws }
