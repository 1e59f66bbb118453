use Rattle.std.proofs.Common.{sym, subst}
use Rattle.mount_answering.specs.answers.declared.answer.Answer.{Answer}
use Rattle.mount_answering.specs.answers.declared.answer.Answer.TheVariants.{Reply as Replied}
use Rattle.mount_answering.specs.mount_core.Answers.{answer_of_fail}
use Rattle.looking.specs.Hosting.{IsLook}
use Rattle.looking.proofs.Looks.{done, failed}
use Rattle.looking.proofs.host.Looked.look.Goals as goal

pub returns-in-Ok-clause-answered : goal.returns-in-Ok-clause-answered
returns-in-Ok-clause-answered g c =
    let M = g.S.Blocks.meanings in
    let H = g.S.Blocks.holdings in
    subst (λ (s : g.row.S.Denot). IsLook M H c.args.now c.args.self.now c.args.command.now (Replied c.in-Ok.reply) s) (sym c.abandon.ensures.store)
    (done M H c.args.now c.args.self.now c.args.command.now c.requires.ready.empty c.perform-performed.new.blobs.tx c.in-Ok.reply (c.only_looks.ensures.0 c.if-not-only_looks.false) c.in-Ok.ensures.variant c.in-Ok.ensures.outcome)

pub returns-in-Err-clause-answered : goal.returns-in-Err-clause-answered
returns-in-Err-clause-answered g c =
    let M = g.S.Blocks.meanings in
    let H = g.S.Blocks.holdings in
    let told = subst (λ (s : g.row.S.Denot). IsLook M H c.args.now c.args.self.now c.args.command.now (answer_of_fail c.in-Err.fail) s) (sym c.abandon.ensures.store)
    (failed M H c.args.now c.args.self.now c.args.command.now c.requires.ready.empty c.perform-performed.new.blobs.tx c.in-Err.fail (c.only_looks.ensures.0 c.if-not-only_looks.false) c.in-Err.ensures.outcome) in
    subst (λ (a : Answer). IsLook M H c.args.now c.args.self.now c.args.command.now a c.abandon.new.self.store) (sym c.fail_answer.ensures) told
