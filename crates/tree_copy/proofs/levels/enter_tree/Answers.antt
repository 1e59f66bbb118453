use Rattle.tree_copy.proofs.Stepping.{tree_unasked, tree_unread, tree_unpushed, tree_entered}
use Rattle.tree_copy.proofs.levels.enter_tree.Goals as goal

pub returns-in-Err-clause-entered : goal.returns-in-Err-clause-entered
returns-in-Err-clause-entered g c = tree_unasked g.A.Asker.asking g.met.A.Asker.lawful c.args.asker.now c.args.host c.args.tree.now c.args.levels.now.items c.args.levels.now.items

pub returns-in-Err-ask_rows-clause-entered : goal.returns-in-Err-ask_rows-clause-entered
returns-in-Err-ask_rows-clause-entered g c = tree_unread g.A.Asker.asking c.args.asker.now c.ask_rows.new.asker c.args.host c.args.tree.now c.args.levels.now.items c.args.levels.now.items c.in-Err-ask_rows.stop c.in-Err-ask_rows.ensures.reads

pub returns-in-Err-push-clause-entered : goal.returns-in-Err-push-clause-entered
returns-in-Err-push-clause-entered g c = tree_unpushed g.A.Asker.asking c.args.asker.now c.ask_rows.new.asker c.args.host c.args.tree.now c.args.levels.now.items c.push.new.self.items c.in-Ok-ask_rows.rows c.in-Ok-ask_rows.ensures.reads

pub returns-clause-entered : goal.returns-clause-entered
returns-clause-entered g c = tree_entered g.A.Asker.asking c.args.asker.now c.ask_rows.new.asker c.args.host c.args.tree.now c.args.levels.now.items c.push.new.self.items c.in-Ok.path c.in-Ok-ask_rows.rows c.in-Ok-ask_rows.ensures.reads c.in-Ok.ensures c.in-Ok-push.ensures.items
