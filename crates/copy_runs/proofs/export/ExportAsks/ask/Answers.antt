use Rattle.copy_runs.proofs.export.ExportAsks.ask.Goals as goal

pub returns-clause-asked : goal.returns-clause-asked
returns-clause-asked g c =
    let told = c.copy_told-end in
    let s = told.ensures.copied in
    (s.0, s.1, λ old faults e. let x = s.3 (record { old = old; new = g.I.Source.rest c.args.input.now; faults = faults; risen = g.I.Source.faults c.args.input.now }) e.quiet in (s.2, record { qs = x.qs; result = x.result; fits = x.fits; is = x.is; host = x.host; told = x.told; unfailed = x.unfailed }))
