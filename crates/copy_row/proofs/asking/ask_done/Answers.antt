use Rattle.std.proofs.Common.{sym}
use Rattle.std.specs.declared.result.Result.TheVariants.{Ok, Err}
use Rattle.copy_row.proofs.Joining.{asked_one, asks_done, asks_refused, asks_stopped, is_done, is_refused}
use Rattle.copy_row.proofs.asking.ask_done.Goals as goal

pub returns-in-None-clause-asks : goal.returns-in-None-clause-asks
returns-in-None-clause-asks g c =
    let e = c.in-Ok.ensures in
    asks_done g.A.Asker.asking c.args.asker.now c.ask.new.self c.args.command.now c.in-Ok.reply
    (asked_one g.A.Asker.asking c.args.asker.now c.ask.new.self c.args.command.now (Ok c.in-Ok.reply) e.moment e.went e.forgeries e.stops e.stands)
    (is_done c.args.command.now c.in-Ok.reply c.requires.change e.variant (sym c.in-None.ensures))

pub returns-in-Ok-clause-asks : goal.returns-in-Ok-clause-asks
returns-in-Ok-clause-asks g c =
    let e = c.in-Ok.ensures in
    asks_refused g.A.Asker.asking c.args.asker.now c.ask.new.self c.args.command.now c.in-Ok.reply c.in-Some.error
    (asked_one g.A.Asker.asking c.args.asker.now c.ask.new.self c.args.command.now (Ok c.in-Ok.reply) e.moment e.went e.forgeries e.stops e.stands)
    (is_refused c.in-Ok.reply c.in-Some.error (sym c.in-Some.ensures))

pub returns-clause-asks : goal.returns-clause-asks
returns-clause-asks g c =
    let e = c.in-Err.ensures in
    asks_stopped g.A.Asker.asking c.args.asker.now c.ask.new.self c.args.command.now c.in-Err.field-0
    (asked_one g.A.Asker.asking c.args.asker.now c.ask.new.self c.args.command.now (Err c.in-Err.field-0) e.moment e.went e.forgeries e.stops e.stands)
