use Rattle.std.specs.declared.result.Result.TheVariants.{Ok, Err}
use Rattle.copy_attributes.proofs.Passes.{import_fails, import_then}
use Rattle.copy_attributes.proofs.inward.import_with_attributes.Goals as goal

pub returns-in-Err-clause-copied : goal.returns-in-Err-clause-copied
returns-in-Err-clause-copied g c =
    import_fails g.A.Asker.asking g.met.A.Asker.lawful c.args.asker.now c.import.new.asker (g.F.Folder.tree c.args.host.now) (g.F.Attributed.attributes c.import.new.host) c.args.target.now c.in-Err.fail c.in-Err.ensures.copied

pub returns-in-Ok-carry_in-clause-copied : goal.returns-in-Ok-carry_in-clause-copied
returns-in-Ok-carry_in-clause-copied g c =
    import_then g.A.Asker.asking g.met.A.Asker.lawful c.args.asker.now c.import.new.asker c.carry_in.new.asker (g.F.Folder.tree c.args.host.now) (g.F.Attributed.attributes c.import.new.host) (g.F.Attributed.attributes c.carry_in.new.host) c.args.target.now
    c.in-Ok.totals (Ok tt) c.in-Ok-carry_in.ensures.same c.in-Ok.ensures.copied c.in-Ok-carry_in.ensures.gave

pub returns-in-Err-carry_in-clause-copied : goal.returns-in-Err-carry_in-clause-copied
returns-in-Err-carry_in-clause-copied g c =
    import_then g.A.Asker.asking g.met.A.Asker.lawful c.args.asker.now c.import.new.asker c.carry_in.new.asker (g.F.Folder.tree c.args.host.now) (g.F.Attributed.attributes c.import.new.host) (g.F.Attributed.attributes c.carry_in.new.host) c.args.target.now
    c.in-Ok.totals (Err c.in-Err-carry_in.fail) c.in-Err-carry_in.ensures.same c.in-Ok.ensures.copied c.in-Err-carry_in.ensures.gave
