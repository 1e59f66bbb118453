use Rattle.looking.proofs.Beginning.{search_stopped}
use Rattle.looking.proofs.Asked.{config_asked}
use Rattle.looking.proofs.finding.find_files.Goals as goal

pub returns-in-Err-clause-unbegun : goal.returns-in-Err-clause-unbegun
returns-in-Err-clause-unbegun g c = record {
  first = g.V.Vault.trace c.read_config.new.vault;
  cause = c.in-Err.ensures.cause;
  grows = c.in-Err.ensures.grows;
  asked = config_asked (g.V.Vault.trace c.args.vault) (g.V.Vault.trace c.read_config.new.vault) c.in-Err.ensures.reads;
}

pub returns-in-Err-find_from-clause-unbegun : goal.returns-in-Err-find_from-clause-unbegun
returns-in-Err-find_from-clause-unbegun g c =
    search_stopped g.V.Vault.trace g.V.Vault.faults c.args.password.now c.args.vault c.read_config.new.vault c.in-Ok.ensures.reads c.in-Ok.ensures.quiet c.in-Err-find_from.unbegun c.in-Err-find_from.ensures.none
