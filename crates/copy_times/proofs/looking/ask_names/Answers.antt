use Rattle.std.proofs.Common.{List}
use Rattle.fs_model.specs.declared.reply.ListRow.{ListRow}
use Rattle.fs_model.specs.declared.reply.Reply.{Reply}
use Rattle.copy_times.specs.Taking.{SaysNames}
use Rattle.copy_times.proofs.Taken.{names_seen, sees_fails, sees_memory}
use Rattle.copy_times.proofs.looking.ask_names.Goals as goal

pub returns-in-Err-clause-sees : goal.returns-in-Err-clause-sees
returns-in-Err-clause-sees g c = sees_memory g.A.Asker.asking g.met.A.Asker.lawful {X = List ListRow} c.args.asker.now (SaysNames c.args.path.now)

pub returns-in-Ok-Rows-clause-sees : goal.returns-in-Ok-Rows-clause-sees
returns-in-Ok-Rows-clause-sees g c =
    names_seen g.A.Asker.asking g.met.A.Asker.lawful c.args.asker.now c.ask_look.new.asker c.args.path.now c.in-Ok.path c.in-Ok-Rows.field-0 c.in-Ok-Rows.rows c.in-Ok.ensures c.in-Ok-Rows.field-0-is c.in-Ok-Rows.ensures.looked

pub returns-in-Err-ask_look-clause-sees : goal.returns-in-Err-ask_look-clause-sees
returns-in-Err-ask_look-clause-sees g c =
    sees_fails g.A.Asker.asking g.met.A.Asker.lawful {X = Reply} {Y = List ListRow} c.args.asker.now c.ask_look.new.asker (λ t reply. Unit {0}) (SaysNames c.args.path.now) c.in-Err-ask_look.fail c.in-Err-ask_look.ensures.looked
