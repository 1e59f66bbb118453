use Rattle.fs_model.specs.declared.attr.Kind.TheVariants.{Directory, File, Link}
use Rattle.copy_row.proofs.Exports.{directory_row_out, of_kind}
use Rattle.copy_row.proofs.rows_out.row_out.Goals as goal

pub file_out-requires : goal.file_out-requires
file_out-requires g c = record { ready = c.requires.ready }

pub link_out-requires : goal.link_out-requires
link_out-requires g c = record { ready = c.requires.ready }

pub returns-in-Directory-clause-out : goal.returns-in-Directory-clause-out
returns-in-Directory-clause-out g c =
    of_kind g.A.Asker.asking c.args.asker.now c.args.asker.now (g.F.Folder.tree c.args.host.now) (g.F.Folder.tree c.directory_out.new.host) c.args.at.now.kind Directory c.args.at.now.tree c.args.at.now.host c.args.totals.now c.directory_out.new.totals c.directory_out.result c.in-Directory.is
    (directory_row_out g.A.Asker.asking g.met.A.Asker.lawful c.args.asker.now (g.F.Folder.tree c.args.host.now) (g.F.Folder.tree c.directory_out.new.host) c.args.at.now.tree c.args.at.now.host c.args.totals.now c.directory_out.new.totals c.directory_out.result c.directory_out.ensures.never c.directory_out.ensures.out)

pub returns-in-File-clause-out : goal.returns-in-File-clause-out
returns-in-File-clause-out g c =
    of_kind g.A.Asker.asking c.args.asker.now c.file_out.new.asker (g.F.Folder.tree c.args.host.now) (g.F.Folder.tree c.file_out.new.host) c.args.at.now.kind File c.args.at.now.tree c.args.at.now.host c.args.totals.now c.file_out.new.totals c.file_out.result c.in-File.is c.file_out.ensures.out

pub returns-in-Link-clause-out : goal.returns-in-Link-clause-out
returns-in-Link-clause-out g c =
    of_kind g.A.Asker.asking c.args.asker.now c.link_out.new.asker (g.F.Folder.tree c.args.host.now) (g.F.Folder.tree c.link_out.new.host) c.args.at.now.kind Link c.args.at.now.tree c.args.at.now.host c.args.totals.now c.link_out.new.totals c.link_out.result c.in-Link.is c.link_out.ensures.out
