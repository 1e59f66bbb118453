use Rattle.std.proofs.Common.{[], ◌∷◌}
use Rattle.fs_model.specs.declared.command.Command.TheVariants.{Mkfile}
use Rattle.copy_row.proofs.Chains.{none_memory}
use Rattle.copy_row.proofs.rows.make_file.Goals as goal

pub returns-in-Err-clause-asks : goal.returns-in-Err-clause-asks
returns-in-Err-clause-asks g c = none_memory g.A.Asker.asking g.met.A.Asker.lawful c.args.asker.now c.args.to.now (Mkfile c.args.to.now ∷ [])
