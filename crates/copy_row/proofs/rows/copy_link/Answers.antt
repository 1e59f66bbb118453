use Rattle.copy_row.proofs.Chains.{still_faults}
use Rattle.copy_row.proofs.Links.{link_memory, link_host}
use Rattle.copy_row.proofs.rows.copy_link.Goals as goal

pub returns-in-Err-Memory-clause-copied : goal.returns-in-Err-Memory-clause-copied
returns-in-Err-Memory-clause-copied g c = link_memory g.A.Asker.asking g.met.A.Asker.lawful c.args.asker.now (g.F.Folder.tree c.args.host.now) c.args.at.now.host c.args.at.now.tree c.args.totals.now c.requires.told

pub returns-in-Err-Failed-clause-copied : goal.returns-in-Err-Failed-clause-copied
returns-in-Err-Failed-clause-copied g c = link_host g.A.Asker.asking g.met.A.Asker.lawful c.args.asker.now (g.F.Folder.tree c.args.host.now) c.args.at.now.host c.args.at.now.tree c.args.totals.now c.requires.told

pub returns-in-Err-clause-copied : goal.returns-in-Err-clause-copied
returns-in-Err-clause-copied g c = link_memory g.A.Asker.asking g.met.A.Asker.lawful c.args.asker.now (g.F.Folder.tree c.args.host.now) c.args.at.now.host c.args.at.now.tree c.args.totals.now c.requires.told

pub returns-clause-faults : goal.returns-clause-faults
returns-clause-faults g c = still_faults _ _ c.ask_done.result c.ask_done.ensures.host c.in-Ok.ensures.cause.quiet
