use Rattle.copy_runs.proofs.get.GetAsks.ask.Goals as goal

pub returns-clause-asked : goal.returns-clause-asked
returns-clause-asked g c =
    let told = c.get_told-end in
    let s = told.ensures.got in
    (s.0, s.1, λ old faults e. (s.2, s.3 (record { old = old; new = g.I.Source.rest c.args.input.now; faults = faults; risen = g.I.Source.faults c.args.input.now }) e.quiet))
