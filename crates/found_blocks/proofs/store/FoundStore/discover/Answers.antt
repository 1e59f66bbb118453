use Rattle.found_blocks.specs.Finding.{IsKept}
use Rattle.found_blocks.specs.Searching.{with_rows}
use Rattle.found_blocks.specs.Views.{IsIdle, finding_by}
use Rattle.found_blocks.proofs.Searching.{kept_found}
use Rattle.found_blocks.proofs.store.FoundStore.discover.Goals as goal

pub returns-in-Ok-clause-intact : goal.returns-in-Ok-clause-intact
returns-in-Ok-clause-intact g c =
    let kept = kept_found (finding_by g.C.Sealer.opens c.args.self.now) (with_rows (finding_by g.C.Sealer.opens c.find_all.new.store) c.in-Ok.rows)
    (g.V.Vault.trace c.args.self.now.sealed.vault.vault) (g.V.Vault.trace c.find_all.new.store.sealed.vault.vault) c.requires.intact.0 c.in-Ok.ensures.ok c.in-Ok.ensures.no_zero in
    let both : IsKept (with_rows (finding_by g.C.Sealer.opens c.find_all.new.store) c.in-Ok.rows) × IsIdle c.find_all.new.store.sealed (g.C.Sealer.iv_size c.find_all.new.store.sealed.cipher)
    = (kept, c.in-Ok.ensures.idle) in
    both
