use Rattle.std.specs.declared.result.Result.TheVariants.{Ok, Err}
use Rattle.fs_model.specs.declared.command.Command.TheVariants as command
use Rattle.fs_model.specs.declared.reply.Reply.TheVariants.{Content, Error}
use Rattle.copy_row.proofs.Joining.{asked_one}
use Rattle.copy_file.proofs.Getting.{at_path, answered_so}
use Rattle.copy_file.proofs.get.ask_bytes.Goals as goal

pub returns-in-Ok-Content-clause-asked : goal.returns-in-Ok-Content-clause-asked
returns-in-Ok-Content-clause-asked g c =
    let M = g.A.Asker.asking in
    let e = c.in-Ok-Content.ensures in
    at_path M c.args.asker.now c.ask.new.self c.in-Ok.path c.args.from.now c.args.place (Ok (Content c.in-Ok-Content.bytes)) c.in-Ok.ensures
    (answered_so M c.args.asker.now c.ask.new.self c.in-Ok.path c.args.place c.in-Ok-Content.field-0 (Content c.in-Ok-Content.bytes) c.in-Ok-Content.field-0-is
    (asked_one M c.args.asker.now c.ask.new.self (command.Read c.in-Ok.path c.args.place 1048576) (Ok c.in-Ok-Content.field-0) e.moment e.went e.forgeries e.stops e.stands))

pub returns-in-Ok-Error-clause-asked : goal.returns-in-Ok-Error-clause-asked
returns-in-Ok-Error-clause-asked g c =
    let M = g.A.Asker.asking in
    let e = c.in-Ok-Error.ensures in
    at_path M c.args.asker.now c.ask.new.self c.in-Ok.path c.args.from.now c.args.place (Ok (Error c.in-Ok-Error.error)) c.in-Ok.ensures
    (answered_so M c.args.asker.now c.ask.new.self c.in-Ok.path c.args.place c.in-Ok-Error.field-0 (Error c.in-Ok-Error.error) c.in-Ok-Error.field-0-is
    (asked_one M c.args.asker.now c.ask.new.self (command.Read c.in-Ok.path c.args.place 1048576) (Ok c.in-Ok-Error.field-0) e.moment e.went e.forgeries e.stops e.stands))

pub returns-clause-asked : goal.returns-clause-asked
returns-clause-asked g c =
    let M = g.A.Asker.asking in
    let e = c.in-Err-ask.ensures in (
      c.in-Err-ask.field-0,
      at_path M c.args.asker.now c.ask.new.self c.in-Ok.path c.args.from.now c.args.place (Err c.in-Err-ask.field-0) c.in-Ok.ensures
          (asked_one M c.args.asker.now c.ask.new.self (command.Read c.in-Ok.path c.args.place 1048576) (Err c.in-Err-ask.field-0) e.moment e.went e.forgeries e.stops e.stands),
    )
