use Rattle.std.proofs.Common.{◌≡◌, drop}
use Rattle.outside_suite.specs.Gets.{file_in, after_gets}
use Rattle.outside_suite.specs.Names.{six_names}
use Rattle.outside_suite.proofs.vault_promises.has_all.Given as goal

abbrev pub invariant-loop-name : goal.invariant-loop-name
invariant-loop-name g l =
    after_gets (file_in l.files) l.max (drop l.name-index l.name-items) (g.V.Vault.trace l.vault)
    ≡ after_gets (file_in l.files) l.max six_names (g.V.Vault.trace l.initial.vault)
