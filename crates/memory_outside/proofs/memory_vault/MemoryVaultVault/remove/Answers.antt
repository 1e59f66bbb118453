use Rattle.std.proofs.Common.{◌∙◌, ap, sym, subst}
use Rattle.outside.specs.View.{at_of}
use Rattle.memory_outside.specs.Vaults.{IsUntampered, without}
use Rattle.memory_outside.proofs.Plain.{plain_removed, plain_failed, plain_failed_removal}
use Rattle.memory_outside.proofs.memory_vault.MemoryVaultVault.remove.Goals as goal

pub returns-then-change_fails-clause-plain : goal.returns-then-change_fails-clause-plain
returns-then-change_fails-clause-plain c p =
    plain_failed c.fail_change.result c.args.self.now c.fail_change.new.self _ c.fail_change.ensures.failed c.fail_change.ensures.memory
    (plain_failed_removal c.args.self.now (at_of c.args.name.now) p) p

pub returns-in-Ok-clause-after : goal.returns-in-Ok-clause-after
returns-in-Ok-clause-after c =
    let told = c.self.view_is ∙ c.in-Ok.ensures.ok in
    let files = c.drop_file.ensures ∙ ap (λ v. without (at_of c.args.name.now) v.files) told in
    λ i. record (told i) { files = files i }

pub returns-in-Ok-clause-plain : goal.returns-in-Ok-clause-plain
returns-in-Ok-clause-plain c p = subst IsUntampered (sym (returns-in-Ok-clause-after c)) (plain_removed c.args.self.now (at_of c.args.name.now) p)
