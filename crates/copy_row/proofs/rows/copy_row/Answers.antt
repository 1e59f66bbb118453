use Rattle.std.proofs.Common.{refl}
use Rattle.copy_row.proofs.ByKind.{has_file, has_link, directory_made, link_made, as_kind}
use Rattle.copy_row.proofs.Chains.{still_faults}
use Rattle.copy_row.proofs.rows.copy_row.Goals as goal

pub make_directory-requires : goal.make_directory-requires
make_directory-requires g c = record { ready = c.requires.ready }

pub copy_file-requires-clause-ready : goal.copy_file-requires-clause-ready
copy_file-requires-clause-ready g c = c.requires.ready

pub copy_link-requires-clause-ready : goal.copy_link-requires-clause-ready
copy_link-requires-clause-ready g c = c.requires.ready

pub copy_file-requires-clause-told : goal.copy_file-requires-clause-told
copy_file-requires-clause-told g c = has_file (g.F.Folder.tree c.args.host.now) c.args.at.now.host c.args.at.now.kind c.in-File.is c.requires.told

pub copy_link-requires-clause-told : goal.copy_link-requires-clause-told
copy_link-requires-clause-told g c = has_link (g.F.Folder.tree c.args.host.now) c.args.at.now.host c.args.at.now.kind c.in-Link.is c.requires.told

pub returns-in-Directory-clause-ready : goal.returns-in-Directory-clause-ready
returns-in-Directory-clause-ready g c = c.make_directory.ensures.ready

pub returns-in-Directory-clause-same : goal.returns-in-Directory-clause-same
returns-in-Directory-clause-same g c = refl

pub returns-in-Directory-clause-faults : goal.returns-in-Directory-clause-faults
returns-in-Directory-clause-faults g c = still_faults _ _ c.make_directory.result c.make_directory.ensures.host refl

pub returns-in-Directory-clause-stops : goal.returns-in-Directory-clause-stops
returns-in-Directory-clause-stops g c = c.make_directory.ensures.stops

pub returns-in-Directory-clause-copied : goal.returns-in-Directory-clause-copied
returns-in-Directory-clause-copied g c = directory_made g.A.Asker.asking c.args.asker.now c.make_directory.new.asker (g.F.Folder.tree c.args.host.now) c.args.at.now.kind c.args.at.now.host c.args.at.now.tree c.args.totals.now c.make_directory.new.totals c.make_directory.result c.in-Directory.is c.requires.told c.make_directory.ensures.asks c.make_directory.ensures.counts

pub returns-in-File-clause-ready : goal.returns-in-File-clause-ready
returns-in-File-clause-ready g c = c.copy_file.ensures.ready

pub returns-in-File-clause-same : goal.returns-in-File-clause-same
returns-in-File-clause-same g c = c.copy_file.ensures.same

pub returns-in-File-clause-faults : goal.returns-in-File-clause-faults
returns-in-File-clause-faults g c = c.copy_file.ensures.faults

pub returns-in-File-clause-stops : goal.returns-in-File-clause-stops
returns-in-File-clause-stops g c = c.copy_file.ensures.stops

pub returns-in-Link-clause-ready : goal.returns-in-Link-clause-ready
returns-in-Link-clause-ready g c = c.copy_link.ensures.ready

pub returns-in-Link-clause-same : goal.returns-in-Link-clause-same
returns-in-Link-clause-same g c = c.copy_link.ensures.same

pub returns-in-Link-clause-faults : goal.returns-in-Link-clause-faults
returns-in-Link-clause-faults g c = c.copy_link.ensures.faults

pub returns-in-Link-clause-stops : goal.returns-in-Link-clause-stops
returns-in-Link-clause-stops g c = c.copy_link.ensures.stops

pub returns-in-File-clause-copied : goal.returns-in-File-clause-copied
returns-in-File-clause-copied g c = as_kind g.A.Asker.asking c.args.asker.now c.copy_file.new.asker (g.F.Folder.tree c.args.host.now) c.args.at.now.kind c.args.at.now.host c.args.at.now.tree c.args.totals.now c.copy_file.new.totals c.copy_file.result c.in-File.is c.copy_file.ensures.copied

pub returns-in-Link-clause-copied : goal.returns-in-Link-clause-copied
returns-in-Link-clause-copied g c = link_made g.A.Asker.asking c.args.asker.now c.copy_link.new.asker (g.F.Folder.tree c.args.host.now) c.args.at.now.kind c.args.at.now.host c.args.at.now.tree c.args.totals.now c.copy_link.new.totals c.copy_link.result c.in-Link.is c.copy_link.ensures.copied
