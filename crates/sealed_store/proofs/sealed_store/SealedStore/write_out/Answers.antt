use Rattle.std.proofs.Common.{◌≡◌, ◌<◌, length, sym, ◌∙◌, ap, subst, arith}
use Rattle.redo_vault.specs.Redo.{Redo}
use Rattle.sealed_store.specs.Drafts.{told_list}
use Rattle.sealed_store.specs.Stores.{Sealed}
use Rattle.outside.specs.Writes.{StopsAt}
use Rattle.sealed_store.proofs.Sealing.{on_err, stopped_first}
use Rattle.sealed_store.proofs.Told.{told_long}
use Rattle.sealed_store.proofs.sealed_store.SealedStore.write_out.Goals as goal

pub returns-then-is_err-clause-err : goal.returns-then-is_err-clause-err
returns-then-is_err-clause-err g c =
    let s = c.self.inside in
    let seal = g.C.Sealer.sealed s.cipher s.key in
    let failed = sym c.is_err.ensures.value ∙ c.if-is_err.true in
    let same : c.seal_waiting-sealed.new.vault ≡ s.vault = on_err c.seal_waiting-sealed.result _ failed c.seal_waiting-sealed.ensures.err in
    let some : 0 < length s.vault.list = on_err c.seal_waiting-sealed.result _ failed c.seal_waiting-sealed.ensures.some in
    subst (λ (t : Sealed g.row.V.Denot g.row.C.Denot). StopsAt t.vault.list (g.V.Vault.trace t.vault.vault) (g.V.Vault.trace c.seal_waiting-sealed.new.vault.vault) (told_list s.drafts seal s.block_size c.seal_waiting-sealed.new.vault.list)) c.self.view_is
    (stopped_first (told_list s.drafts seal s.block_size s.vault.list) _ _ _ (ap (λ (v : Redo g.row.V.Denot). told_list s.drafts seal s.block_size v.list) same)
    (omega (arith, told_long seal s.block_size s.drafts s.vault.list, some)) (ap (λ (v : Redo g.row.V.Denot). g.V.Vault.trace v.vault) same))
