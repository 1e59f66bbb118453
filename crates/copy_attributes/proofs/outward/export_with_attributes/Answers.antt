use Rattle.std.specs.declared.result.Result.TheVariants.{Ok, Err}
use Rattle.copy_attributes.proofs.Passes.{export_fails, export_then}
use Rattle.copy_attributes.proofs.outward.export_with_attributes.Goals as goal

pub returns-in-Err-clause-copied : goal.returns-in-Err-clause-copied
returns-in-Err-clause-copied g c =
    export_fails g.A.Asker.asking g.met.A.Asker.lawful c.args.asker.now c.export.new.asker (g.F.Folder.tree c.args.host.now) (g.F.Folder.tree c.export.new.host) (g.F.Attributed.attributes c.export.new.host) c.args.source.now c.in-Err.fail c.in-Err.ensures.copied

pub returns-in-Ok-carry_out-clause-copied : goal.returns-in-Ok-carry_out-clause-copied
returns-in-Ok-carry_out-clause-copied g c =
    export_then g.A.Asker.asking g.met.A.Asker.lawful c.args.asker.now c.export.new.asker c.carry_out.new.asker (g.F.Folder.tree c.args.host.now) (g.F.Folder.tree c.export.new.host) (g.F.Folder.tree c.carry_out.new.host) (g.F.Attributed.attributes c.export.new.host) (g.F.Attributed.attributes c.carry_out.new.host) c.args.source.now
    c.in-Ok.totals (Ok tt) c.in-Ok-carry_out.ensures.tree c.in-Ok.ensures.copied c.in-Ok-carry_out.ensures.took

pub returns-in-Err-carry_out-clause-copied : goal.returns-in-Err-carry_out-clause-copied
returns-in-Err-carry_out-clause-copied g c =
    export_then g.A.Asker.asking g.met.A.Asker.lawful c.args.asker.now c.export.new.asker c.carry_out.new.asker (g.F.Folder.tree c.args.host.now) (g.F.Folder.tree c.export.new.host) (g.F.Folder.tree c.carry_out.new.host) (g.F.Attributed.attributes c.export.new.host) (g.F.Attributed.attributes c.carry_out.new.host) c.args.source.now
    c.in-Ok.totals (Err c.in-Err-carry_out.fail) c.in-Err-carry_out.ensures.tree c.in-Ok.ensures.copied c.in-Err-carry_out.ensures.took
