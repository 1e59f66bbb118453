use Rattle.std.proofs.lemmas.Result.{IfOk-weaker}
use Rattle.config_file.proofs.Lengths.{length_opened}
use Rattle.config_file.proofs.keys.unseal.Goals as goal

pub returns-clause-len : goal.returns-clause-len
returns-clause-len c = IfOk-weaker c.unseal.result _ _ (λ answer e. length_opened answer c.args.key.now c.args.sealed.now e) c.unseal.ensures
