-- What was kept stands for a tree, by what a store was made of.
use Rattle.std.proofs.Common.{◌≡◌, ◌≤◌, ℕ, true, false, List, [], take, refl, sym, ◌∙◌, ap, subst, inr}
use Rattle.std.specs.Prelude.{is_some, Result, ◌-◌}
use Rattle.std.specs.declared.option.Option.{Option}
use Rattle.std.specs.declared.option.Option.TheVariants.{None, Some}
use Rattle.std.specs.declared.result.Result.TheVariants.{Ok, Err}
use Rattle.block_id.specs.Formats.{magic}
use Rattle.block_id.specs.declared.fail.Fail.TheVariants as fail
use Rattle.outside.specs.Causes.{RoseBy}
use Rattle.outside.specs.Honest.{count_told}
use Rattle.outside.specs.Trace.{Call, config}
use Rattle.outside.specs.declared.keeper.Keeper.{Ghosts as KeeperGhosts}
use Rattle.anew.specs.Begun.{HasNewClient, IsBegun}
use Rattle.anew.proofs.Kept.{its_record}
use Rattle.mount.specs.Representing.{Represents}
use Rattle.mount.specs.aes_gcm.Gcm.{opened_of}
use Rattle.mount.specs.block_versions.Forgeries.{forged}
use Rattle.mount.specs.block_versions.Held.{Held, wanted}
use Rattle.mount.specs.block_versions.ReadLaws.{last_went}
use Rattle.mount.specs.block_versions.Reads.{WentOnByReads}
use Rattle.mount.specs.block_versions.Standing.{identity_of, records}
use Rattle.mount.specs.config_file.Settings.{Settings}
use Rattle.mount.specs.config_file.declared.config.Cipher.{Cipher}
use Rattle.mount.specs.integrity_store.Made.{IsMadeOf, IsRecordedAs}
use Rattle.mount.specs.integrity_store.declared.store.IntegrityStore.{IntegrityStore}
use Rattle.mount.specs.local_state.Record.{HasRecord, record_bytes}
use Rattle.mount.specs.mount_core.Standing.{Keeps}
use Rattle.mount.specs.mount_stores.Identities.{KeepsRecord, holder_of, identity_for}
use Rattle.mount.specs.mount_stores.Tower.{sealed_held, sealed_trace, sealed_meanings, sealed_holdings, sealed_durables}
use Rattle.mount.specs.path_layer.Showing.{ShowsFiles}
use Rattle.mount.specs.record_saver.Saving.{KeptConfigures}
use Rattle.mount.specs.record_saver.declared.saver.SyncError.TheVariants.{Memory, FaultDirectory, FaultState}
use Rattle.mount.specs.store_api.Content.{SameContent}
use Rattle.mount.specs.store_api.Durables.{Identity, last_told}
use Rattle.recovering.specs.Keeping.{KeepsShown, LeavesUnkept, Tells}
use Rattle.recovering.specs.Restoring.{IsRestored, LeavesUnrestored, OnlyReads, TellsRestored}
use Rattle.recovering.specs.declared.keeping.Unkept.{Unkept}
use Rattle.recovering.specs.declared.keeping.Unkept.TheVariants.{Flaw, Failed, Unsaved}

told_of : (t : Option (List Call)) → is_some t ≡ true → (calls : List Call) × (t ≡ Some calls)
told_of None e = absurd (cc)
told_of (Some calls) e = (calls, refl)

-- the configuration's file was put last
configured_last : (h : Held) (file : List ℕ) (before written : Option (List Call)) → is_some before ≡ true → IsBegun h file before written
    → last_told config written ≡ Some (record { bytes = Some file; ok = true })
configured_last h file None written told begun = absurd (cc)
configured_last h file (Some before) written told begun = ap (last_told config) begun.1 ∙ begun.2.configured

module _ {V : Type 0} {K : Type 0} (trace : V → Option (List Call)) (faults : V → ℕ) (G : KeeperGhosts K) (h : Held) (root : List ℕ) (written : Option (List Call)) (failed : ℕ) (store : IntegrityStore V Cipher) (vault : V) (keeper : K)
    (has : HasRecord h.state []) (none : h.list ≡ [])
    (made : IsMadeOf (sealed_meanings trace faults) (sealed_holdings trace) (sealed_durables trace) h written failed store)
    (recorded : IsRecordedAs (sealed_durables trace) h store)
    (sound : (file : List ℕ) (before : Option (List Call)) → (take 14 file ≡ magic → ⊥) → HasNewClient h before → IsBegun h file before written
    → (sealed_meanings trace faults).sound store × SameContent (wanted h written) ((sealed_holdings trace).content store))
    (shown : KeepsShown trace faults G store root vault keeper) where
  kept_is : G.kept keeper ≡ Some (record_bytes h.state [])
  kept_is = shown.kept ∙ ap Some (recorded.written false)

  record_kept : KeepsRecord (G.kept keeper) h.state []
  record_kept = record { bytes = record_bytes h.state []; kept = kept_is; is_record = its_record (record h { list = [] }) has }

  reads : WentOnByReads (sealed_held store) written (trace vault)
  reads = subst (λ t. WentOnByReads (sealed_held store) t (trace vault)) made.trace shown.reads

  stands : (c : Settings) (file : List ℕ) (before : Option (List Call)) → c.root ≡ root → identity_of h ≡ identity_for c (holder_of h.state) → (take 14 file ≡ magic → ⊥)
      → HasNewClient h before → IsBegun h file before written
      → count_told (forged (opened_of c.key) c.block_size) (trace vault) ≤ count_told (forged (opened_of c.key) c.block_size) written
      → Represents ShowsFiles (G.kept keeper) (trace vault) c shown.tree
  stands c file before roots is no_block client begun few =
      let holder = holder_of h.state in
      let same : identity_of (sealed_held store) ≡ identity_for c holder = made.identity ∙ is in
      let opens : (sealed_held store).opens ≡ opened_of c.key = ap (λ (i : Identity). i.opens) same in
      let size : (sealed_held store).size ≡ c.block_size = ap (λ (i : Identity). i.size) same in
      let few_store : count_told (forged (sealed_held store).opens (sealed_held store).size) (trace vault) ≤ count_told (forged (sealed_held store).opens (sealed_held store).size) written =
      subst (λ (o : List ℕ → List ℕ → Option (List ℕ)). count_told (forged o (sealed_held store).size) (trace vault) ≤ count_told (forged o (sealed_held store).size) written) (sym opens)
      (subst (λ (n : ℕ). count_told (forged (opened_of c.key) n) (trace vault) ≤ count_told (forged (opened_of c.key) n) written) (sym size) few) in
      let few_last : (sealed_meanings trace faults).forgeries shown.last ≤ (sealed_meanings trace faults).forgeries store =
      subst (λ (k : Held). count_told (forged k.opens k.size) (sealed_trace trace shown.last) ≤ count_told (forged (sealed_held store).opens (sealed_held store).size) (sealed_trace trace store)) (sym shown.same)
      (subst (λ (t : Option (List Call)). count_told (forged (sealed_held store).opens (sealed_held store).size) (sealed_trace trace shown.last) ≤ count_told (forged (sealed_held store).opens (sealed_held store).size) t) (sym made.trace)
      (subst (λ (v : V). count_told (forged (sealed_held store).opens (sealed_held store).size) (trace v) ≤ count_told (forged (sealed_held store).opens (sealed_held store).size) written) shown.back few_store)) in
      let keeps = shown.keeps (sound file before no_block client begun).0 (ap (λ (i : Identity). i.marked) same) few_last in
      let payload : (sealed_holdings trace).payload store ≡ c.block_size - 78 = ap (λ n. n - 78) size in
      record {
        holder = holder;
        keeps = subst (λ (i : Identity). Keeps records (ShowsFiles (c.block_size - 78) c.root) i (G.kept keeper) (trace vault) shown.tree) same
            (subst (λ (n : ℕ). Keeps records (ShowsFiles n c.root) ((sealed_durables trace).identity store) (G.kept keeper) (trace vault) shown.tree) payload
            (subst (λ (r : List ℕ). Keeps records (ShowsFiles ((sealed_holdings trace).payload store) r) ((sealed_durables trace).identity store) (G.kept keeper) (trace vault) shown.tree) (sym roots) keeps));
      }

  configures : (file : List ℕ) (before : Option (List Call)) → is_some before ≡ true → IsBegun h file before written → KeptConfigures records (G.kept keeper) (trace vault) file
  configures file before told begun = (
    record_bytes h.state [],
    kept_is,
    record {
      state = h.state;
      list = [];
      is_record = its_record (record h { list = [] }) has;
      configured = inr (refl, last_went (sealed_held store) config written (trace vault) reads ∙ configured_last h file before written told begun);
    },
  )

  pub restored : IsRestored trace G h root written vault keeper
  restored = record { tree = shown.tree; kept = record_kept; stands = stands; configures = configures }

pub unrestored : {V : Type 0} {K : Type 0} (trace : V → Option (List Call)) (G : KeeperGhosts K) (store : IntegrityStore V Cipher) (keeper : K) (vault : V) (after : K) (result : Result Unit Unkept)
    → LeavesUnkept trace G store keeper vault after result → LeavesUnrestored G.kept keeper after result
unrestored trace G store keeper vault after (Ok u) l = tt
unrestored trace G store keeper vault after (Err (Flaw flaw)) l = l.0
unrestored trace G store keeper vault after (Err (Failed fail)) l = l.0
unrestored trace G store keeper vault after (Err (Unsaved Memory)) l = l.0
unrestored trace G store keeper vault after (Err (Unsaved FaultDirectory)) l = l.0
unrestored trace G store keeper vault after (Err (Unsaved FaultState)) l = tt

-- what was told of the store is told of what it was made of
pub tells_restored : {V : Type 0} {K : Type 0} (faults : V → ℕ) (G : KeeperGhosts K) (store : IntegrityStore V Cipher) (failed : ℕ) (keeper : K) (vault : V) (after : K) (result : Result Unit Unkept)
    → faults store.sealed.vault.vault ≡ failed → Tells faults G store keeper vault after result → TellsRestored G failed (faults vault) keeper after result
tells_restored faults G store failed keeper vault after (Ok u) is t = (t.0 ∙ is, t.1)
tells_restored faults G store failed keeper vault after (Err (Flaw flaw)) is t = (t.0 ∙ is, t.1)
tells_restored faults G store failed keeper vault after (Err (Failed fail.Memory)) is t = (t.0 ∙ is, t.1)
tells_restored faults G store failed keeper vault after (Err (Failed (fail.Violation why))) is t = (t.0 ∙ is, t.1)
tells_restored faults G store failed keeper vault after (Err (Failed fail.Fault)) is t = (subst (λ n. RoseBy 1 n (faults vault)) is t.0, t.1)
tells_restored faults G store failed keeper vault after (Err (Unsaved Memory)) is t = (t.0 ∙ is, t.1)
tells_restored faults G store failed keeper vault after (Err (Unsaved FaultDirectory)) is t = (t.0 ∙ is, t.1)
tells_restored faults G store failed keeper vault after (Err (Unsaved FaultState)) is t = (t.0, t.1 ∙ is)

pub only_reads : {V : Type 0} (trace : V → Option (List Call)) (store : IntegrityStore V Cipher) (written : Option (List Call)) (vault : V) → sealed_trace trace store ≡ written
    → WentOnByReads (sealed_held store) (sealed_trace trace store) (trace vault) → OnlyReads written (trace vault)
only_reads trace store written vault is went = record { reader = sealed_held store; reads = subst (λ t. WentOnByReads (sealed_held store) t (trace vault)) is went }
