use Rattle.std.proofs.Common.{◌≡◌, ◌≤◌, ℕ, List, Some, sym, ◌∙◌, ap, subst}
use Rattle.std.specs.FinMap as fin
use Rattle.block_id.specs.declared.sizes.TheConstants.{MIN_BLOCK, MAX_BLOCK}
use Rattle.outside.specs.Honest.{count_told}
use Rattle.outside.specs.View.{bytes_of}
use Rattle.record_saver.specs.store_api.Content.{over}
use Rattle.record_saver.specs.store_api.Durables.{Identity}
use Rattle.integrity_store.specs.block_versions.Forgeries.{forged}
use Rattle.integrity_store.specs.block_versions.Held.{wanted}
use Rattle.integrity_store.specs.block_versions.Standing.{identity_of, Stands}
use Rattle.integrity_store.specs.Views.{held_by}
use Rattle.tower_tests.proofs.Anew.{put_there}
use Rattle.tower_tests.proofs.reopening.put_reopen_load.Goals as goal

same_bytes : (x y : List ℕ) → Some x ≡ Some y → x ≡ y
same_bytes x y e = cc

pub reopen-requires-clause-size : goal.reopen-requires-clause-size
reopen-requires-clause-size g c = (subst (λ n. MIN_BLOCK ≤ n) c.requires.sealed.1 c.requires.intact.1.least, subst (λ n. n ≤ MAX_BLOCK) c.requires.sealed.1 c.requires.intact.1.most)

pub returns : goal.returns
returns g c = record {
  loads = λ few.
      let held = held_by g.C.Sealer.opens in
      let a = c.args.store in
      let b = c.in_ok-store.store in
      let n = c.in_ok-store-2.store in
      let w = c.load-2.new.self in
      let id = c.args.id.now.0 in
      let put = over (fin.insert fin.empty id (Some c.args.payload.items)) (wanted (held a) (g.V.Vault.trace a.sealed.vault.vault)) in
      let (bytes, is, stands) = c.in_ok-store.ensures.kept in
      let loaded : c.deref.result.now ≡ bytes = c.deref.ensures.value ∙ same_bytes _ _ (ap bytes_of (sym c.in-Some.is) ∙ (c.in_ok-record.ensures.ok ∙ is)) in
      let trace = c.into_vault-vault.ensures.trace in
      let stood : Stands (identity_of (held a)) c.deref.result.now (g.V.Vault.trace c.into_vault-vault.result) put
      = subst (λ t. Stands (identity_of (held a)) c.deref.result.now t put) (sym trace) (subst (λ k. Stands (identity_of (held a)) k (g.V.Vault.trace b.sealed.vault.vault) put) (sym loaded) stands) in
      let (sound, same) = c.in_ok-store-2.ensures.opened (identity_of (held a)) put c.requires.sealed.0 c.requires.sealed.1 stood in
      let opens = ap (λ (d : Identity). d.opens) c.in_ok-store.ensures.identity ∙ c.requires.sealed.0 in
      let size = ap (λ (d : Identity). d.size) c.in_ok-store.ensures.identity ∙ c.requires.sealed.1 in
      let counted : count_told (forged (held n).opens (held n).size) (g.V.Vault.trace n.sealed.vault.vault) ≡ count_told (forged (held a).opens (held a).size) (g.V.Vault.trace a.sealed.vault.vault)
      = c.in_ok-store-2.ensures.forgeries ∙ ((λ i. count_told (forged (sym opens i) (sym size i)) (trace i)) ∙ c.in_ok-store.ensures.forgeries) in
      let value = c.in_ok-answer.ensures.outcome.value tt sound (subst (λ m. count_told (forged (held w).opens (held w).size) (g.V.Vault.trace w.sealed.vault.vault) ≤ m) (sym counted) few) in
      value ∙ (same id ∙ put_there (wanted (held a) (g.V.Vault.trace a.sealed.vault.vault)) id c.args.payload.items);
}
