-- What was written anew is checked, and its record kept.
use Rattle.std.specs.Prelude.{◌≡◌, ◌≤◌, ℕ, false, List, Result}
use Rattle.std.specs.declared.option.Option.{Option}
use Rattle.std.specs.declared.option.Option.TheVariants.{Some}
use Rattle.std.specs.declared.result.Result.TheVariants.{Ok, Err}
use Rattle.block_id.specs.declared.fail.Fail.TheVariants.{Fault as BlockFault}
use Rattle.fs_model.specs.Tree.{Tree}
use Rattle.outside.specs.Causes.{RoseBy}
use Rattle.outside.specs.Trace.{Call}
use Rattle.outside.specs.declared.keeper.Keeper.{Ghosts as KeeperGhosts}
use Rattle.mount.specs.block_versions.Reads.{WentOnByReads}
use Rattle.mount.specs.block_versions.Standing.{records}
use Rattle.mount.specs.config_file.declared.config.Cipher.{Cipher}
use Rattle.mount.specs.integrity_store.declared.store.IntegrityStore.{IntegrityStore}
use Rattle.mount.specs.mount_core.Standing.{Keeps}
use Rattle.mount.specs.mount_stores.Tower.{sealed_held, sealed_trace, sealed_meanings, sealed_holdings, sealed_durables}
use Rattle.mount.specs.path_layer.Showing.{ShowsFiles}
use Rattle.mount.specs.record_saver.Saving.{KeepsEmpty}
use Rattle.mount.specs.record_saver.declared.saver.SyncError.TheVariants.{FaultState}
use Rattle.recovering.specs.declared.keeping.Unkept.{Unkept}
use Rattle.recovering.specs.declared.keeping.Unkept.TheVariants.{Failed, Unsaved}

-- The record of the store with an empty list is kept. Where the store was sound, has no mark, and no file that opens was forged meanwhile, it stands for a tree that its blocks show.
pub record KeepsShown {V : Type 0} {K : Type 0} (trace : V → Option (List Call)) (faults : V → ℕ) (G : KeeperGhosts K) (store : IntegrityStore V Cipher) (root : List ℕ) (vault : V) (keeper : K) : Type 0 where
  pub tree : Tree
  pub last : IntegrityStore V Cipher
  pub back : vault ≡ last.sealed.vault.vault
  pub empty : KeepsEmpty (sealed_durables trace) last (G.kept keeper)
  pub kept : G.kept keeper ≡ Some ((sealed_durables trace).local_record_of store false)
  pub same : sealed_held last ≡ sealed_held store
  pub reads : WentOnByReads (sealed_held store) (sealed_trace trace store) (trace vault)
  pub keeps : (sealed_meanings trace faults).sound store → ((sealed_durables trace).identity store).marked ≡ false
      → (sealed_meanings trace faults).forgeries last ≤ (sealed_meanings trace faults).forgeries store
      → Keeps records (ShowsFiles ((sealed_holdings trace).payload store) root) ((sealed_durables trace).identity store) (G.kept keeper) (trace vault) tree

-- after an error nothing is kept anew, but that a save that failed may have kept the record
abbrev pub LeavesUnkept : {V : Type 0} {K : Type 0} → (V → Option (List Call)) → KeeperGhosts K → IntegrityStore V Cipher → K → V → K → Result Unit Unkept → Type 0
LeavesUnkept trace G store keeper vault after (Ok _) = Unit {0}
LeavesUnkept trace G store keeper vault after (Err (Unsaved FaultState)) = Unit {0}
LeavesUnkept trace G store keeper vault after (Err error) = (G.kept after ≡ G.kept keeper) × WentOnByReads (sealed_held store) (sealed_trace trace store) (trace vault)

-- each fault is told just where its count rose
abbrev pub Tells : {V : Type 0} {K : Type 0} → (V → ℕ) → KeeperGhosts K → IntegrityStore V Cipher → K → V → K → Result Unit Unkept → Type 0
Tells faults G store keeper vault after (Err (Failed BlockFault)) = RoseBy 1 (faults store.sealed.vault.vault) (faults vault) × (G.faults after ≡ G.faults keeper)
Tells faults G store keeper vault after (Err (Unsaved FaultState)) = RoseBy 1 (G.faults keeper) (G.faults after) × (faults vault ≡ faults store.sealed.vault.vault)
Tells faults G store keeper vault after result = (faults vault ≡ faults store.sealed.vault.vault) × (G.faults after ≡ G.faults keeper)
