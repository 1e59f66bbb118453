use Rattle.std.proofs.Common.{◌≡◌, subst}
use Rattle.run_status.specs.declared.status.Status.{Status}
use Rattle.run_status.specs.Statuses.{first_of}
use Rattle.setup_runs.proofs.end.end_run.Goals as goal

pub returns : goal.returns
returns g c =
    let z = c.close-closing.ensures in (
      c.close-closing.result.0,
      subst (λ (s : Status). c.or.result ≡ first_of c.args.status s) c.closing_status.ensures c.or.ensures,
      record { leaves = z.leaves; closes = z.closes },
    )
