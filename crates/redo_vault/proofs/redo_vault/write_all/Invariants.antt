use Rattle.std.proofs.Common.{◌≡◌, take}
use Rattle.outside.specs.View.{list_of}
use Rattle.outside.specs.Writes.{after_writes}
use Rattle.redo_vault.proofs.redo_vault.write_all.Given as goal

abbrev pub invariant-loop-i : goal.invariant-loop-i
invariant-loop-i g l = record {
  written : g.V.Vault.trace l.vault ≡ after_writes (take l.i (list_of l.list)) (g.V.Vault.trace l.initial.vault);
  quiet : g.V.Vault.faults l.vault ≡ g.V.Vault.faults l.initial.vault;
  idle : l.i ≡ 0 → l.vault ≡ l.initial.vault;
}
