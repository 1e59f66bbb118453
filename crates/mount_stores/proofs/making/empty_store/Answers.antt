use Rattle.std.proofs.Common.{◌≡◌, List, ℕ, [], ◌++◌, false, refl, sym, ◌∙◌, ap, subst}
use Rattle.config_file.specs.aes_gcm.Gcm.{opened_of}
use Rattle.record_saver.specs.local_state.Record.{PlainState, plain_state, HasRecord}
use Rattle.outside.specs.View.{list_of}
use Rattle.integrity_store.specs.redo_vault.Redo.{Redo}
use Rattle.integrity_store.specs.sealed_store.Stores.{IsIntact, block_size_of}
use Rattle.integrity_store.specs.block_versions.StoreLaws.{steady_by}
use Rattle.integrity_store.specs.block_versions.Views.{held_of}
use Rattle.config_file.specs.Settings.{settings_of}
use Rattle.config_file.specs.declared.config.Cipher.{Cipher}
use Rattle.sha2.specs.Sha256.{sha256}
use Rattle.block_cache.specs.store_api.Holdings.{has_id}
use Rattle.mount_stores.specs.Making.{IsUnchanged}
use Rattle.mount_stores.specs.Identities.{holder_of, identity_for}
use Rattle.mount_stores.specs.Tower.{sealed_held, sealed_trace, sealed_holdings}
use Rattle.mount_stores.proofs.Found.{identity_is}
use Rattle.mount_stores.proofs.Fresh.{none_used, unused_none, untouched}
use Rattle.mount_stores.proofs.making.empty_store.Given.{Over}
use Rattle.mount_stores.proofs.making.empty_store.Goals as goal

abbrev RedoOf : Over → Type 0
RedoOf g = Redo g.row.V.Denot

pub new-requires-2-clause-state : goal.new-requires-2-clause-state
new-requires-2-clause-state g c =
    let list : c.new-sealed.result.vault.list ≡ [] = ap (λ (x : RedoOf g). x.list) c.new-sealed.ensures.vault ∙ (ap (λ (x : RedoOf g). x.list) c.new-redo.ensures ∙ ap list_of c.new.ensures.items) in
    subst (λ l. HasRecord (plain_state c.new_state-state.result) l) (sym list) c.new_state-state.ensures.record_

pub returns : goal.returns
returns g c =
    let n = c.new-2.ensures in
    let s1 = c.new-sealed.ensures in
    let state = c.new_state-state.ensures.is in
    let lives = ap (λ (s : PlainState). s.lives) state in
    let vault = ap (λ (x : RedoOf g). x.vault) s1.vault ∙ ap (λ (x : RedoOf g). x.vault) c.new-redo.ensures in
    let store = c.new-2.result in
    let steady = steady_by sealed_held (sealed_trace g.V.Vault.trace) (λ s. g.V.Vault.faults s.sealed.vault.vault) (λ s. IsIntact (block_size_of s.sealed) 16) in
    let unused : (id : List ℕ) → has_id ((sealed_holdings g.V.Vault.trace).used store) id ≡ false = λ id. ap (λ u. has_id u id) n.made.used ∙ none_used (plain_state c.new_state-state.result).lives id lives in
    record {
      intact = n.intact;
      same = n.made.trace ∙ ap g.V.Vault.trace vault;
      list = n.made.list ∙ (ap (λ (x : RedoOf g). x.list) s1.vault ∙ (ap (λ (x : RedoOf g). x.list) c.new-redo.ensures ∙ ap list_of c.new.ensures.items));
      few = n.made.faults ∙ ap g.V.Vault.faults vault;
      unused = unused;
      none = λ id. unused_none ((sealed_holdings g.V.Vault.trace).content store id) (has_id ((sealed_holdings g.V.Vault.trace).used store) id) (unused id) (steady.content_used store id n.intact);
      identity = n.made.identity
          ∙ (identity_is (held_of (λ (cipher : Cipher) key extra text. opened_of key extra text) c.new-sealed.result c.new_state-state.result) (settings_of c.args.config) (plain_state c.new_state-state.result) s1.size (ap opened_of s1.key) refl
          (ap (λ (s : PlainState). s.marked) state)
          (record {
            fs_id = ap (λ (s : PlainState). s.fs_id) state;
            digest = ap (λ (s : PlainState). s.key_digest) state ∙ (c.key_digest-digest.ensures ∙ ap (λ x. sha256 (x ++ c.args.config.key)) (sym (ap (λ (s : PlainState). s.key_salt) state)));
          }) ∙ ap (λ (s : PlainState). identity_for (settings_of c.args.config) (holder_of s)) state);
      least = n.made.least ∙ ap (λ (s : PlainState). s.least) state;
      sound = λ unchanged. n.sound.fresh lives (untouched _ (subst IsUnchanged (sym (n.made.trace ∙ ap g.V.Vault.trace vault)) unchanged));
    }
