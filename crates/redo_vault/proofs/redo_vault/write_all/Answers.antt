use Rattle.std.proofs.Common.{arith, ◌∙◌}
use Rattle.redo_vault.proofs.Lists.{written_more, stops_here}
use Rattle.redo_vault.proofs.redo_vault.write_all.Goals as goal

pub returns-in-Err-clause-err : goal.returns-in-Err-clause-err
returns-in-Err-clause-err g c =
    stops_here c.args.list.now c.loop-i.i c.index-list-i.result (g.V.Vault.trace c.args.vault.now) (g.V.Vault.trace c.loop-i.vault) (g.V.Vault.trace c.write.new.vault)
    c.loop-i-test.true c.index-list-i.is c.loop-i.invariant.written c.in-Err.ensures.err

pub loop-i-preserved : goal.loop-i-preserved
loop-i-preserved g c = record {
  written = written_more c.args.list.now c.loop-i.i c.index-list-i.result (g.V.Vault.trace c.args.vault.now) (g.V.Vault.trace c.loop-i.vault) (g.V.Vault.trace c.write.new.vault)
      c.loop-i-test.true c.index-list-i.is c.loop-i.invariant.written c.in-Ok.ensures.ok;
  quiet = c.in-Ok.ensures.cause.quiet ∙ c.loop-i.invariant.quiet;
  idle = λ e. absurd (omega arith);
}
