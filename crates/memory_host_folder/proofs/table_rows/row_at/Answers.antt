use Rattle.std.proofs.Common.{sym, ◌∙◌, ap}
use Rattle.memory_host_folder.proofs.Turned.{get_told, host_in}
use Rattle.memory_host_folder.proofs.table_rows.row_at.Goals as goal

pub returns-in-Some : goal.returns-in-Some
returns-in-Some c = ap host_in c.in-Some.ensures ∙ sym (get_told c.args.table.now c.args.names.now)

pub returns-in-None : goal.returns-in-None
returns-in-None c = ap host_in c.in-None.ensures ∙ sym (get_told c.args.table.now c.args.names.now)
