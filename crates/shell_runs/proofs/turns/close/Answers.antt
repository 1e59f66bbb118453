use Rattle.std.proofs.Common.{◌∙◌, ap}
use Rattle.run_status.specs.Statuses.{first_of}
use Rattle.shell_runs.proofs.turns.close.Goals as goal

pub returns : goal.returns
returns g c =
    let z = c.close-closing.ensures in (
      c.close-closing.result.0,
      c.or.ensures ∙ ap (λ s. first_of s c.args.own) c.session_status.ensures,
      record { leaves = z.leaves; closes = z.closes },
    )
