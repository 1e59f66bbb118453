use Rattle.std.proofs.Common.{List}
use Rattle.fs_model.specs.declared.command.Command.TheVariants as command
use Rattle.fs_model.specs.declared.reply.ListRow.{ListRow}
use Rattle.copy_row.specs.Reads.{SaysRows}
use Rattle.copy_row.proofs.Served.{reads_none, reads_error}
use Rattle.copy_row.proofs.replies.ask_rows.Goals as goal

pub returns-in-Err-clause-reads : goal.returns-in-Err-clause-reads
returns-in-Err-clause-reads g c = reads_none g.A.Asker.asking g.met.A.Asker.lawful {X = List ListRow} c.args.asker.now c.args.tree.now SaysRows

pub returns-clause-reads : goal.returns-clause-reads
returns-clause-reads g c = reads_error g.A.Asker.asking {X = List ListRow} c.args.asker.now c.ask_reader.new.asker (command.List c.in-Ok.path) c.args.tree.now SaysRows c.in-Err-ask_reader.stop c.in-Ok.ensures c.in-Err-ask_reader.ensures.read
