use Rattle.std.proofs.Common.{[], ◌∷◌, ◌++◌, sym}
use Rattle.fs_model.specs.declared.attr.Attr.{Attr}
use Rattle.fs_model.specs.declared.reply.Reply.{Reply}
use Rattle.copy_times.specs.Taking.{SaysAttr}
use Rattle.copy_times.proofs.Taken.{attr_seen, sees_fails, sees_memory, stat_told}
use Rattle.copy_times.proofs.looking.ask_attr.Goals as goal

pub returns-in-Err-clause-sees : goal.returns-in-Err-clause-sees
returns-in-Err-clause-sees g c = sees_memory g.A.Asker.asking g.met.A.Asker.lawful {X = Attr} c.args.asker.now (SaysAttr (c.args.path.now ++ c.args.name.now ∷ []))

pub returns-in-Err-ask_look-clause-sees : goal.returns-in-Err-ask_look-clause-sees
returns-in-Err-ask_look-clause-sees g c =
    sees_fails g.A.Asker.asking g.met.A.Asker.lawful {X = Reply} {Y = Attr} c.args.asker.now c.ask_look.new.asker (λ t reply. Unit {0}) (SaysAttr (c.args.path.now ++ c.args.name.now ∷ [])) c.in-Err-ask_look.fail c.in-Err-ask_look.ensures.looked

pub unreachable-requires : goal.unreachable-requires
unreachable-requires g c = stat_told c.in-Ok.child c.in-Ok-ask_look.reply c.in-Ok-ask_look.ensures.looked.1.0 c.in-Ok-ask_look.ensures.looked.1.1 (sym c.in-None.ensures)

pub returns-clause-sees : goal.returns-clause-sees
returns-clause-sees g c =
    attr_seen g.A.Asker.asking g.met.A.Asker.lawful c.args.asker.now c.ask_look.new.asker (c.args.path.now ++ c.args.name.now ∷ []) c.in-Ok.child c.in-Ok-ask_look.reply c.in-Some.attr c.in-Ok.ensures (sym c.in-Some.ensures) c.in-Ok-ask_look.ensures.looked
