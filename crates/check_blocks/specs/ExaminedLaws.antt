-- The laws of an examined file system's meanings.
use Rattle.std.specs.Prelude.{ℕ, List, refl}
use Rattle.std.proofs.Common.{◌∙◌}
use Rattle.std.specs.declared.option.Option.{Option}
use Rattle.mount.specs.block_cache.Through.{steady_past}
use Rattle.mount.specs.block_versions.StoreLaws.{steady_by}
use Rattle.mount.specs.Answering.{store_of}
use Rattle.mount.specs.declared.mount.Mount.{Mount}
use Rattle.mount.specs.mount_stores.Tower.{sealed_held, sealed_trace, sealed_meanings, sealed_holdings, tower_meanings, tower_holdings}
use Rattle.mount.specs.mount_stores.TowerLaws.{tower_lawful}
use Rattle.mount.specs.store_outcome.Meanings.{Lawful}
use Rattle.outside.specs.Trace.{Call}
use Rattle.outside.specs.declared.keeper.Keeper.{Ghosts as KeeperGhosts}
use Rattle.mount.specs.sealed_store.Stores.{IsIntact, block_size_of}
use Rattle.mount.specs.store_api.Holdings.{Steady}
use Rattle.check_blocks.specs.Examined.{SameBeside, examined_meanings, examined_holdings}

pub beside_none : {V : Type 0} {K : Type 0} (mount : Mount V K) → SameBeside mount mount
beside_none mount = record { opened = refl; root = refl; violated = refl; saver = refl; overlay = refl; cached = refl }

pub beside_on : {V : Type 0} {K : Type 0} (old mid new : Mount V K) → SameBeside old mid → SameBeside mid new → SameBeside old new
beside_on old mid new before after = record {
  opened = after.opened ∙ before.opened;
  root = after.root ∙ before.root;
  violated = after.violated ∙ before.violated;
  saver = after.saver ∙ before.saver;
  overlay = after.overlay ∙ before.overlay;
  cached = after.cached ∙ before.cached;
}

tower_steady : {V : Type 0} (trace : V → Option (List Call)) (faults : V → ℕ) → Steady (tower_meanings trace faults) (tower_holdings trace)
tower_steady trace faults =
    steady_past (λ c. c.store) (λ c. c.cached) (sealed_meanings trace faults) (sealed_holdings trace)
    (steady_by sealed_held (sealed_trace trace) (λ s. faults s.sealed.vault.vault) (λ s. IsIntact (block_size_of s.sealed) 16))

pub examined_lawful : {V : Type 0} {K : Type 0} (trace : V → Option (List Call)) (faults : V → ℕ) (G : KeeperGhosts K) → Lawful (examined_meanings {V = V} {K = K} trace faults G)
examined_lawful trace faults G =
    let l = tower_lawful trace faults in
    record {
      same = λ a. record { loaded = l.same (store_of a.mount); beside = beside_none a.mount };
      onward = λ a b c h k. record { loaded = l.onward (store_of a.mount) (store_of b.mount) (store_of c.mount) h.loaded k.loaded; beside = beside_on a.mount b.mount c.mount h.beside k.beside };
      met_before = λ a b c why h k. l.met_before (store_of a.mount) (store_of b.mount) (store_of c.mount) why h.loaded k.loaded;
      met_after = λ a b c why h k. l.met_after (store_of a.mount) (store_of b.mount) (store_of c.mount) why h.loaded k.loaded;
      forgeries_grow = λ a b h. l.forgeries_grow (store_of a.mount) (store_of b.mount) h.loaded;
      lies_grow = λ a b h. l.lies_grow (store_of a.mount) (store_of b.mount) h.loaded;
      faults_grow = λ a b h. l.faults_grow (store_of a.mount) (store_of b.mount) h.loaded;
      honest_unforged = λ a b h. l.honest_unforged (store_of a.mount) (store_of b.mount) h.loaded;
      honest_unmet = λ a b why h. l.honest_unmet (store_of a.mount) (store_of b.mount) why h.loaded;
      gave_same = λ a. l.gave_same (store_of a.mount);
      gave_split = λ a b c why h k. l.gave_split (store_of a.mount) (store_of b.mount) (store_of c.mount) why h.loaded k.loaded;
    }

pub examined_steady : {V : Type 0} {K : Type 0} (trace : V → Option (List Call)) (faults : V → ℕ) (G : KeeperGhosts K) → Steady (examined_meanings {V = V} {K = K} trace faults G) (examined_holdings trace)
examined_steady trace faults G =
    let st = tower_steady trace faults in
    record {
      sound_told = λ a. st.sound_told (store_of a.mount);
      at_least = λ a i. st.at_least (store_of a.mount) i.core.intact;
      at_most = λ a i. st.at_most (store_of a.mount) i.core.intact;
      content_used = λ a id i. st.content_used (store_of a.mount) id i.core.intact;
      zero_unused = λ a i. st.zero_unused (store_of a.mount) i.core.intact;
      sized = λ a id bytes i. st.sized (store_of a.mount) id bytes i.core.intact;
      spent_used = λ a id i. st.spent_used (store_of a.mount) id i.core.intact;
      spent_last = λ a id i. st.spent_last (store_of a.mount) id i.core.intact;
      last_spent = λ a id i. st.last_spent (store_of a.mount) id i.core.intact;
      unused_version = λ a id i. st.unused_version (store_of a.mount) id i.core.intact;
      loaded_payload = λ a b h. st.loaded_payload (store_of a.mount) (store_of b.mount) h.loaded;
      loaded_version = λ a b id h. st.loaded_version (store_of a.mount) (store_of b.mount) id h.loaded;
    }
