use Rattle.std.proofs.Common.{◌∙◌}
use Rattle.mount_serving.proofs.Went.{went_on}
use Rattle.mount_serving.proofs.since.AskedHost.answer.Goals as goal

pub returns-clause-ready : goal.returns-clause-ready
returns-clause-ready g c =
    let e = c.answer.ensures in (
      e.ready,
      went_on g.H.Host.hosting g.S.Since.start _ _ c.args.now c.args.command.now c.answer.result c.requires.ready.1 e.answered
          (g.met.H.Host.lawful.refusal _ _ c.args.now _ c.answer.result e.answered ∙ c.requires.serves) e.chance,
    )
