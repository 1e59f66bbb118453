-- the blocks so far were written anew
use Rattle.std.proofs.Common.{◌≡◌, take}
use Rattle.cryfs_check.specs.check_rules.data_nodes.Layout.{ids_of}
use Rattle.found_blocks.specs.Finding.{IsKept}
use Rattle.found_blocks.specs.Views.{IsIdle, finding_by}
use Rattle.found_blocks.specs.block_versions.Views.{held_of}
use Rattle.found_anew.specs.Renewing.{RenewsAll, WentOnRenewing}
use Rattle.found_anew.proofs.renewing.renew_all.Given as goal

abbrev pub invariant-loop-id : goal.invariant-loop-id
invariant-loop-id g l = record {
  renews : RenewsAll (finding_by g.C.Sealer.opens l.initial.found) (held_of g.C.Sealer.opens l.initial.found.sealed l.initial.state) (held_of g.C.Sealer.opens l.found.sealed l.state)
      (ids_of (take l.id-index l.ids)) (g.V.Vault.trace l.initial.found.sealed.vault.vault) (g.V.Vault.trace l.found.sealed.vault.vault);
  grows : WentOnRenewing (finding_by g.C.Sealer.opens l.initial.found) (g.V.Vault.trace l.initial.found.sealed.vault.vault) (g.V.Vault.trace l.found.sealed.vault.vault);
  same : finding_by g.C.Sealer.opens l.found ≡ finding_by g.C.Sealer.opens l.initial.found;
  intact : IsKept (finding_by g.C.Sealer.opens l.found) × IsIdle l.found.sealed (g.C.Sealer.iv_size l.found.sealed.cipher);
  client : l.state.client ≡ l.initial.state.client;
  quiet : g.V.Vault.faults l.found.sealed.vault.vault ≡ g.V.Vault.faults l.initial.found.sealed.vault.vault;
}
