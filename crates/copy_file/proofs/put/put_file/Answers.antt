use Rattle.std.proofs.Common.{[], ◌∷◌, ◌∙◌, ap}
use Rattle.copy_sessions.specs.line_io.Reading.{coming}
use Rattle.fs_model.specs.declared.command.Command.TheVariants.{Mkfile}
use Rattle.copy_row.specs.copy_laws.Ends.{counted}
use Rattle.copy_file.proofs.Putting.{put_unmade, put_unwritten, put_whole}
use Rattle.copy_file.proofs.put.put_file.Goals as goal

pub returns-in-Err-clause-put : goal.returns-in-Err-clause-put
returns-in-Err-clause-put g c = put_unmade g.A.Asker.asking g.met.A.Asker.lawful c.args.asker.now c.make_file.new.asker (coming c.args.reader.now.ahead (g.I.Source.rest c.args.input.now)) c.args.to.now c.in-Err.stop c.in-Err.ensures.asks

pub returns-in-Ok-put_bytes-clause-put : goal.returns-in-Ok-put_bytes-clause-put
returns-in-Ok-put_bytes-clause-put g c =
    let come = coming c.args.reader.now.ahead (g.I.Source.rest c.args.input.now) in
    put_whole g.A.Asker.asking g.met.A.Asker.lawful c.args.asker.now c.make_file.new.asker c.put_bytes.new.asker come c.args.to.now c.make_file.new.totals c.put_bytes.new.totals
    c.in-Ok.ensures.asks (c.in-Ok.ensures.counts ∙ ap (λ z. counted z (Mkfile c.args.to.now ∷ [])) c.no_totals-totals.ensures) c.in-Ok-put_bytes.ensures.put

pub returns-in-Err-put_bytes-clause-put : goal.returns-in-Err-put_bytes-clause-put
returns-in-Err-put_bytes-clause-put g c =
    let come = coming c.args.reader.now.ahead (g.I.Source.rest c.args.input.now) in
    put_unwritten g.A.Asker.asking g.met.A.Asker.lawful c.args.asker.now c.make_file.new.asker c.put_bytes.new.asker come c.args.to.now c.make_file.new.totals c.put_bytes.new.totals c.in-Err-put_bytes.stop
    c.in-Ok.ensures.asks c.in-Err-put_bytes.ensures.put
