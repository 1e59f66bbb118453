use Rattle.std.proofs.Common.{◌∙◌}
use Rattle.fs_model.specs.Tree.{upward}
use Rattle.host_attributes.proofs.host_folder_lemmas.Listings.{rows_rise}
use Rattle.memory_host_folder.proofs.Turned.{rows_each}
use Rattle.memory_host_folder.proofs.table_rows.rows_of.Goals as goal

pub returns-clause-order : goal.returns-clause-order
returns-clause-order c = rows_rise c.args.table.now (upward c.args.names.now) c.new.result (c.new.ensures ∙ c.in_ok-rows.ensures)

pub returns-clause-each : goal.returns-clause-each
returns-clause-each c = rows_each c.args.table.now c.args.names.now c.new.result (c.new.ensures ∙ c.in_ok-rows.ensures)
