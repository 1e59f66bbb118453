use Rattle.copy_row.proofs.Exports.{link_row_part}
use Rattle.copy_row.proofs.rows_out.link_out.Goals as goal

pub returns-in-Err-make_row-clause-out : goal.returns-in-Err-make_row-clause-out
returns-in-Err-make_row-clause-out g c = link_row_part g.A.Asker.asking c.args.asker.now c.ask_target.new.asker (g.F.Folder.tree c.args.host.now) (g.F.Folder.tree c.make_row.new.host) c.args.at.now.tree c.args.at.now.host c.args.totals.now c.args.totals.now c.in-Ok.target c.in-Err-make_row.stop c.in-Ok.ensures.reads c.in-Err-make_row.ensures.never c.in-Err-make_row.ensures.err
