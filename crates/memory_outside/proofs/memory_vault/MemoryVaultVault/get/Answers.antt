use Rattle.std.proofs.Common.{◌∙◌, ap, sym, subst}
use Rattle.outside.specs.Honest.{lies}
use Rattle.outside.specs.View.{at_of, bytes_of}
use Rattle.memory_outside.specs.Vaults.{VaultState, IsUntampered}
use Rattle.memory_outside.proofs.Plain.{plain_same, plain_got, honest_get}
use Rattle.memory_outside.proofs.memory_vault.MemoryVaultVault.get.Goals as goal

pub returns-then-contains-clause-plain : goal.returns-then-contains-clause-plain
returns-then-contains-clause-plain c = plain_same c.args.self.now _ (record {
  trace = ap (λ v. v.trace) c.self.view_is;
  files = ap (λ v. v.files) c.self.view_is;
  answers = ap (λ v. v.answers) c.self.view_is;
})

pub returns-in-Ok-clause-honest : goal.returns-in-Ok-clause-honest
returns-in-Ok-clause-honest c p =
    ap (λ (v : VaultState). lies v.trace) c.in-Ok.ensures.ok
    ∙ honest_get c.args.self.now (at_of c.args.name.now) c.args.max (bytes_of c.in_ok-answer.answer) c.in_ok-answer.ensures p

pub returns-in-Ok-clause-plain : goal.returns-in-Ok-clause-plain
returns-in-Ok-clause-plain c p =
    subst IsUntampered (sym c.in-Ok.ensures.ok) (plain_got c.args.self.now (at_of c.args.name.now) c.args.max (bytes_of c.in_ok-answer.answer) p)

pub returns-in-Err-clause-honest : goal.returns-in-Err-clause-honest
returns-in-Err-clause-honest c p = ap (λ (v : VaultState). lies v.trace) c.in-Err.ensures.err

pub returns-in-Err-clause-plain : goal.returns-in-Err-clause-plain
returns-in-Err-clause-plain c p = subst IsUntampered (sym c.in-Err.ensures.err) p
