use Rattle.std.proofs.Common.{◌∙◌, ap}
use Rattle.memory_outside.proofs.Plain.{plain_same}
use Rattle.memory_outside.proofs.memory_vault.MemoryVault.set_strangers.Goals as goal

pub returns-clause-plain : goal.returns-clause-plain
returns-clause-plain c = plain_same c.args.self.now c.restart.new.self (record {
  trace = ap (λ v. v.trace) c.restart.ensures ∙ ap (λ v. v.trace) c.self.view_is;
  files = ap (λ v. v.files) c.restart.ensures ∙ ap (λ v. v.files) c.self.view_is;
  answers = ap (λ v. v.answers) c.restart.ensures ∙ ap (λ v. v.answers) c.self.view_is;
})
