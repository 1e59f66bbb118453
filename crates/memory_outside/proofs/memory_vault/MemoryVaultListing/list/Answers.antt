use Rattle.std.proofs.Common.{ap}
use Rattle.memory_outside.proofs.Plain.{plain_same, failed_has_cause}
use Rattle.memory_outside.proofs.memory_vault.MemoryVaultListing.list.Goals as goal

pub returns-then-contains-clause-cause : goal.returns-then-contains-clause-cause
returns-then-contains-clause-cause c = failed_has_cause c.args.self.now c.fail_list.new.self c.fail_list.result c.fail_list.ensures.failed c.fail_list.ensures.after c.fail_list.ensures.grows

pub returns-then-len-gt-MAX_NAMES-clause-cause : goal.returns-then-len-gt-MAX_NAMES-clause-cause
returns-then-len-gt-MAX_NAMES-clause-cause c =
    failed_has_cause c.args.self.now c.fail_list-then-len-gt-MAX_NAMES.new.self c.fail_list-then-len-gt-MAX_NAMES.result
    c.fail_list-then-len-gt-MAX_NAMES.ensures.failed c.fail_list-then-len-gt-MAX_NAMES.ensures.after c.fail_list-then-len-gt-MAX_NAMES.ensures.grows

pub returns-clause-plain : goal.returns-clause-plain
returns-clause-plain c = plain_same c.args.self.now _ (record {
  trace = ap (λ v. v.trace) c.self.view_is;
  files = ap (λ v. v.files) c.self.view_is;
  answers = ap (λ v. v.answers) c.self.view_is;
})
