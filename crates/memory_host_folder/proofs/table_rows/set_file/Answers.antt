use Rattle.std.proofs.Common.{sym, subst}
use Rattle.std.specs.FinMap.{get}
use Rattle.fs_model.specs.declared.attr.Kind.TheVariants.{File}
use Rattle.host_attributes.specs.host_folder.Folders.{IsHostTree}
use Rattle.memory_host_folder.specs.Told.{told_by}
use Rattle.memory_host_folder.proofs.Growing.{filled, file_named, file_there}
use Rattle.memory_host_folder.proofs.Turned.{some_told, told_next}
use Rattle.memory_host_folder.proofs.table_rows.set_file.Goals as goal

pub set-requires-clause-named : goal.set-requires-clause-named
set-requires-clause-named c = file_named (told_by c.args.table.now) c.args.names.now (file_there (get (told_by c.args.table.now) c.args.names.now) c.requires.there).0 c.requires.tree (file_there (get (told_by c.args.table.now) c.args.names.now) c.requires.there).1

pub set-requires-clause-there : goal.set-requires-clause-there
set-requires-clause-there c = some_told c.args.table.now c.args.names.now (record { kind = File; bytes = (file_there (get (told_by c.args.table.now) c.args.names.now) c.requires.there).0 }) (file_there (get (told_by c.args.table.now) c.args.names.now) c.requires.there).1

pub returns-clause-set : goal.returns-clause-set
returns-clause-set c = told_next c.args.table.now c.set.new.self c.args.names.now (record { attr = c.attr_of.result; bytes = c.args.bytes.items }) File c.set.ensures.tree c.attr_of.ensures

pub returns-clause-tree : goal.returns-clause-tree
returns-clause-tree c =
    subst IsHostTree (sym (told_next c.args.table.now c.set.new.self c.args.names.now (record { attr = c.attr_of.result; bytes = c.args.bytes.items }) File c.set.ensures.tree c.attr_of.ensures))
    (filled (told_by c.args.table.now) c.args.names.now (file_there (get (told_by c.args.table.now) c.args.names.now) c.requires.there).0 c.args.bytes.items c.requires.tree (file_there (get (told_by c.args.table.now) c.args.names.now) c.requires.there).1)
