use Rattle.std.proofs.Common.{sym}
use Rattle.std.specs.declared.result.Result.TheVariants.{Ok, Err}
use Rattle.copy_row.proofs.Joining.{asked_one}
use Rattle.copy_row.proofs.Served.{read_given, read_refused, read_stopped}
use Rattle.copy_row.proofs.replies.ask_reader.Goals as goal

pub returns-in-None-clause-read : goal.returns-in-None-clause-read
returns-in-None-clause-read g c =
    let e = c.in-Ok.ensures in
    read_given g.A.Asker.asking c.args.asker.now c.ask.new.self c.args.command.now c.in-Ok.reply
    (asked_one g.A.Asker.asking c.args.asker.now c.ask.new.self c.args.command.now (Ok c.in-Ok.reply) e.moment e.went e.forgeries e.stops e.stands)
    (sym c.in-None.ensures) e.variant

pub returns-in-Some-clause-read : goal.returns-in-Some-clause-read
returns-in-Some-clause-read g c =
    let e = c.in-Ok.ensures in
    read_refused g.A.Asker.asking c.args.asker.now c.ask.new.self c.args.command.now c.in-Ok.reply c.in-Some.error c.requires.reader
    (asked_one g.A.Asker.asking c.args.asker.now c.ask.new.self c.args.command.now (Ok c.in-Ok.reply) e.moment e.went e.forgeries e.stops e.stands)
    (sym c.in-Some.ensures)

pub returns-in-Err-clause-read : goal.returns-in-Err-clause-read
returns-in-Err-clause-read g c =
    let e = c.in-Err.ensures in
    read_stopped g.A.Asker.asking c.args.asker.now c.ask.new.self c.args.command.now c.in-Err.field-0 c.requires.reader
    (asked_one g.A.Asker.asking c.args.asker.now c.ask.new.self c.args.command.now (Err c.in-Err.field-0) e.moment e.went e.forgeries e.stops e.stands)
