use Rattle.std.proofs.Common.{sym}
use Rattle.std.specs.declared.result.Result.TheVariants.{Ok, Err}
use Rattle.copy_row.proofs.Joining.{asked_one}
use Rattle.copy_times.proofs.Given.{gift_done, is_refused, one_done, one_refused, one_stopped}
use Rattle.copy_times.proofs.asking.ask_gift.Goals as goal

pub returns-in-None-clause-asks : goal.returns-in-None-clause-asks
returns-in-None-clause-asks g c =
    let e = c.in-Ok.ensures in
    one_done g.A.Asker.asking g.met.A.Asker.lawful c.args.asker.now c.ask.new.self c.args.command tt c.in-Ok.reply c.requires.gift
    (asked_one g.A.Asker.asking c.args.asker.now c.ask.new.self c.args.command (Ok c.in-Ok.reply) e.moment e.went e.forgeries e.stops e.stands)
    (gift_done c.args.command c.in-Ok.reply c.requires.gift e.variant (sym c.in-None.ensures))

pub returns-in-Some-clause-asks : goal.returns-in-Some-clause-asks
returns-in-Some-clause-asks g c =
    let e = c.in-Ok.ensures in
    one_refused g.A.Asker.asking g.met.A.Asker.lawful c.args.asker.now c.ask.new.self c.args.command c.path_of.result c.in-Some.error c.in-Ok.reply c.path_of.ensures
    (asked_one g.A.Asker.asking c.args.asker.now c.ask.new.self c.args.command (Ok c.in-Ok.reply) e.moment e.went e.forgeries e.stops e.stands)
    (is_refused c.in-Ok.reply c.in-Some.error (sym c.in-Some.ensures))

pub returns-in-Err-clause-asks : goal.returns-in-Err-clause-asks
returns-in-Err-clause-asks g c =
    let e = c.in-Err.ensures in
    one_stopped g.A.Asker.asking g.met.A.Asker.lawful c.args.asker.now c.ask.new.self c.args.command c.in-Err.field-0
    (asked_one g.A.Asker.asking c.args.asker.now c.ask.new.self c.args.command (Err c.in-Err.field-0) e.moment e.went e.forgeries e.stops e.stands)
