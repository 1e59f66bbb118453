use Rattle.found_blocks.specs.Views.{finding_by}
use Rattle.found_blocks.proofs.Discovering.{no_zero_found, nothing_kept, rows_found}
use Rattle.found_blocks.proofs.discover.find_all.Goals as goal

pub returns-in-Err-clause-err : goal.returns-in-Err-clause-err
returns-in-Err-clause-err g c =
    nothing_kept (finding_by g.C.Sealer.opens c.args.store.now) (finding_by g.C.Sealer.opens c.follow_all.new.store) c.new-search.result c.follow_all.new.search
    (g.V.Vault.trace c.args.store.now.sealed.vault.vault) (g.V.Vault.trace c.follow_all.new.store.sealed.vault.vault) c.new-search.ensures c.follow_all.ensures.searched

pub returns-in-Err-into_rows-clause-err : goal.returns-in-Err-into_rows-clause-err
returns-in-Err-into_rows-clause-err g c =
    nothing_kept (finding_by g.C.Sealer.opens c.args.store.now) (finding_by g.C.Sealer.opens c.follow_all.new.store) c.new-search.result c.follow_all.new.search
    (g.V.Vault.trace c.args.store.now.sealed.vault.vault) (g.V.Vault.trace c.follow_all.new.store.sealed.vault.vault) c.new-search.ensures c.follow_all.ensures.searched

pub returns-in-Ok-into_rows-clause-ok : goal.returns-in-Ok-into_rows-clause-ok
returns-in-Ok-into_rows-clause-ok g c =
    rows_found (finding_by g.C.Sealer.opens c.args.store.now) (finding_by g.C.Sealer.opens c.follow_all.new.store) c.new-search.result c.follow_all.new.search c.in-Ok-into_rows.rows
    (g.V.Vault.trace c.args.store.now.sealed.vault.vault) (g.V.Vault.trace c.follow_all.new.store.sealed.vault.vault) c.new-search.ensures c.follow_all.ensures.searched c.in-Ok-into_rows.ensures

pub returns-in-Ok-into_rows-clause-no_zero : goal.returns-in-Ok-into_rows-clause-no_zero
returns-in-Ok-into_rows-clause-no_zero g c =
    no_zero_found (finding_by g.C.Sealer.opens c.args.store.now) (finding_by g.C.Sealer.opens c.follow_all.new.store) c.new-search.result c.follow_all.new.search c.in-Ok-into_rows.rows
    (g.V.Vault.trace c.args.store.now.sealed.vault.vault) (g.V.Vault.trace c.follow_all.new.store.sealed.vault.vault) c.new-search.ensures c.follow_all.ensures.searched c.in-Ok-into_rows.ensures
