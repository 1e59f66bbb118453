use Rattle.std.proofs.Common.{◌≡◌}
use Rattle.found_blocks.specs.Searching.{SearchedBy}
use Rattle.found_blocks.specs.Views.{IsIdle, finding_by}
use Rattle.found_blocks.proofs.discover.follow_all.Given as goal

abbrev pub invariant-loop : goal.invariant-loop
invariant-loop g l = record {
  searched : SearchedBy (finding_by g.C.Sealer.opens l.initial.store) (finding_by g.C.Sealer.opens l.store) l.initial.search l.search (g.V.Vault.trace l.initial.store.sealed.vault.vault) (g.V.Vault.trace l.store.sealed.vault.vault);
  idle : IsIdle l.store.sealed (g.C.Sealer.iv_size l.store.sealed.cipher);
  rows : l.store.rows ≡ l.initial.store.rows;
  faults : g.V.Vault.faults l.store.sealed.vault.vault ≡ g.V.Vault.faults l.initial.store.sealed.vault.vault;
}
