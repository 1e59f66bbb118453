use Rattle.std.proofs.Common.{sym}
use Rattle.std.specs.declared.result.Result.TheVariants.{Ok, Err}
use Rattle.copy_row.proofs.Joining.{asked_one}
use Rattle.copy_times.proofs.Given.{is_refused}
use Rattle.copy_times.proofs.Taken.{look_given, look_refused, look_stopped}
use Rattle.copy_times.proofs.looking.ask_look.Goals as goal

pub returns-in-None-clause-looked : goal.returns-in-None-clause-looked
returns-in-None-clause-looked g c =
    let e = c.in-Ok.ensures in
    look_given g.A.Asker.asking g.met.A.Asker.lawful c.args.asker.now c.ask.new.self c.args.command c.in-Ok.reply
    (asked_one g.A.Asker.asking c.args.asker.now c.ask.new.self c.args.command (Ok c.in-Ok.reply) e.moment e.went e.forgeries e.stops e.stands)
    (sym c.in-None.ensures) e.variant

pub returns-in-Some-clause-looked : goal.returns-in-Some-clause-looked
returns-in-Some-clause-looked g c =
    let e = c.in-Ok.ensures in
    look_refused g.A.Asker.asking g.met.A.Asker.lawful c.args.asker.now c.ask.new.self c.args.command c.path_of.result c.in-Some.error c.in-Ok.reply c.path_of.ensures
    (asked_one g.A.Asker.asking c.args.asker.now c.ask.new.self c.args.command (Ok c.in-Ok.reply) e.moment e.went e.forgeries e.stops e.stands)
    (is_refused c.in-Ok.reply c.in-Some.error (sym c.in-Some.ensures))

pub returns-in-Err-clause-looked : goal.returns-in-Err-clause-looked
returns-in-Err-clause-looked g c =
    let e = c.in-Err.ensures in
    look_stopped g.A.Asker.asking g.met.A.Asker.lawful c.args.asker.now c.ask.new.self c.args.command c.in-Err.field-0
    (asked_one g.A.Asker.asking c.args.asker.now c.ask.new.self c.args.command (Err c.in-Err.field-0) e.moment e.went e.forgeries e.stops e.stands)
