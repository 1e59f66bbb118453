use Rattle.std.proofs.Common.{sym, ◌∙◌, ap, subst}
use Rattle.host_attributes.specs.host_folder.Folders.{IsHostTree}
use Rattle.memory_host_folder.specs.Told.{told_by}
use Rattle.memory_host_folder.proofs.Growing.{told_root, root_is}
use Rattle.memory_host_folder.proofs.table_rows.root_table.Goals as goal

pub returns-clause-value : goal.returns-clause-value
returns-clause-value c = ap told_by c.new.ensures ∙ told_root

pub returns-clause-tree : goal.returns-clause-tree
returns-clause-tree c = subst IsHostTree (sym (ap told_by c.new.ensures ∙ told_root)) root_is
