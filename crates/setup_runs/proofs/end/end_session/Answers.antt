use Rattle.setup_runs.proofs.end.end_session.Goals as goal

pub returns : goal.returns
returns g c =
    let z = c.close-closing.ensures in (
      c.close-closing.result.0,
      c.session_status.ensures,
      record { leaves = z.leaves; closes = z.closes },
    )
