use Rattle.std.proofs.Common.{sym, ◌∙◌, ap, subst, true}
use Rattle.integrity_store.specs.block_versions.Soundness.{IsUntouched}
use Rattle.integrity_store.specs.block_versions.Standing.{Stands}
use Rattle.integrity_store.specs.declared.store.IntegrityStore.{IntegrityStore}
use Rattle.config_file.specs.declared.config.Cipher.{Cipher}
use Rattle.block_cache.specs.store_api.Content.{SameContent}
use Rattle.record_saver.specs.local_state.Record.{plain_state}
use Rattle.mount_stores.specs.Tower.{sealed_held, sealed_trace, sealed_holdings, sealed_durables}
use Rattle.mount_stores.proofs.Found.{state_is}
use Rattle.mount_stores.proofs.tower.cached_store.Given.{Over}
use Rattle.mount_stores.proofs.tower.cached_store.Goals as goal

abbrev StoreOf : Over → Type 0
StoreOf g = IntegrityStore g.row.V.Denot Cipher

pub returns-in-Ok-clause-holds : goal.returns-in-Ok-clause-holds
returns-in-Ok-clause-holds g c =
    let trace = g.V.Vault.trace in
    let same = c.in-Ok.ensures.store in
    let new = c.new.result in
    let below = c.new.ensures.made in
    record {
      made = record {
        used = ap (λ (s : StoreOf g). (sealed_holdings trace).used s) same ∙ below.used;
        version = λ id. ap (λ (s : StoreOf g). (sealed_holdings trace).version s id) same ∙ below.version id;
        payload = ap (λ (s : StoreOf g). (sealed_holdings trace).payload s) same ∙ below.payload;
        identity = ap (λ (s : StoreOf g). (sealed_durables trace).identity s) same ∙ below.identity;
        least = ap (λ (s : StoreOf g). (sealed_durables trace).least s) same ∙ below.least;
        list = ap (λ (s : StoreOf g). (sealed_durables trace).list s) same ∙ below.list;
        trace = ap (λ (s : StoreOf g). sealed_trace trace s) same ∙ below.trace;
        faults = ap (λ (s : StoreOf g). g.V.Vault.faults s.sealed.vault.vault) same ∙ below.faults;
      };
      state = ap (λ (s : StoreOf g). (sealed_held s).state) same
          ∙ state_is (sealed_held new) (plain_state c.args.state) c.args.sealed.vault.list c.new.ensures.intact.0.has_record c.requires.state (c.new.ensures.recorded.written true);
    }

pub returns-in-Ok-clause-sound : goal.returns-in-Ok-clause-sound
returns-in-Ok-clause-sound g c =
    let trace = g.V.Vault.trace in
    let same = c.in-Ok.ensures.store in
    let below = c.new.ensures.sound in
    record {
      fresh = λ none untouched. c.in-Ok.ensures.sound (below.fresh none (subst (λ (s : StoreOf g). IsUntouched (sealed_trace trace s)) same untouched));
      opened = λ content kept is stands.
          let s = below.opened content kept is (subst (λ (s : StoreOf g). Stands ((sealed_durables trace).identity s) kept (sealed_trace trace s) content) same stands) in
          (c.in-Ok.ensures.sound s.0, subst (λ (s : StoreOf g). SameContent content ((sealed_holdings trace).content s)) (sym same) s.1);
    }
