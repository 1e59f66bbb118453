use Rattle.program_laws.proofs.Mounts.{answered}
use Rattle.program_laws.proofs.law.answers_complete.Goals as goal

pub returns : goal.returns
returns g k now before after asked answer kept present answers stands quiet =
    answered g.V.Vault.trace g.V.Vault.faults g.K.Keeper now before after asked answer kept present answers stands quiet
