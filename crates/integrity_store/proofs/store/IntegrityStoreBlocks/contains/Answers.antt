use Rattle.std.proofs.Common.{◌∙◌}
use Rattle.std.specs.FinMap as fin
use Rattle.block_versions.specs.BlockRecords.{payload_in}
use Rattle.block_versions.specs.Held.{file_of, told_or_none}
use Rattle.integrity_store.specs.Views.{held_by}
use Rattle.block_versions.proofs.Loading.{live_wanted}
use Rattle.integrity_store.proofs.store.IntegrityStoreBlocks.contains.Goals as goal

pub returns : goal.returns
returns g c =
    let s = c.args.self.now in
    let h = held_by g.C.Sealer.opens s in
    c.is_live.ensures ∙ live_wanted (fin.get h.state.lives c.args.id.now.0) (payload_in h.opens h.size c.args.id.now.0 (file_of h (told_or_none (g.V.Vault.trace s.sealed.vault.vault)) c.args.id.now.0))
