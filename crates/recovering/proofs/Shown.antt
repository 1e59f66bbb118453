-- The record of a store whose blocks were checked stands for the tree that they show.
use Rattle.std.proofs.Common.{◌≡◌, ◌≤◌, ℕ, false, List, [], sym, ◌∙◌, ap, subst}
use Rattle.std.specs.Prelude.{is_some}
use Rattle.std.specs.declared.option.Option.{Option}
use Rattle.std.specs.declared.option.Option.TheVariants.{Some}
use Rattle.fs_model.specs.Tree.{Tree}
use Rattle.outside.specs.Honest.{count_told}
use Rattle.outside.specs.Trace.{Call}
use Rattle.cryfs_check.specs.check_rules.Certificates.{Owners}
use Rattle.cryfs_check.specs.Checks.{IsCertified}
use Rattle.cryfs_check.specs.check_rules.store_api.Content.{Id, SameContent}
use Rattle.cryfs_check.specs.check_rules.store_api.Holdings.{has_id}
use Rattle.cryfs_check.specs.check_rules.check_walk.Given.{content_of}
use Rattle.mount.proofs.mount_core_lemmas.path_layer_lemmas.Shows.{files_same}
use Rattle.mount.specs.block_versions.Forgeries.{forged}
use Rattle.mount.specs.block_versions.Held.{Held, wanted}
use Rattle.mount.specs.block_versions.Loads.{loads_by}
use Rattle.mount.specs.block_versions.ReadLaws.{went_sound, went_wanted}
use Rattle.mount.specs.block_versions.Reads.{WentOnByReads}
use Rattle.mount.specs.block_versions.Soundness.{SoundBy}
use Rattle.mount.specs.block_versions.Standing.{identity_of, records}
use Rattle.mount.specs.block_versions.StoreLaws.{sound_is_told}
use Rattle.mount.specs.config_file.declared.config.Cipher.{Cipher}
use Rattle.mount.specs.integrity_store.EnduringLaws.{enduring_by}
use Rattle.mount.specs.integrity_store.declared.store.IntegrityStore.{IntegrityStore}
use Rattle.mount.specs.sealed_store.Stores.{IsIntact, block_size_of}
use Rattle.mount.specs.mount_core.Standing.{Keeps}
use Rattle.mount.specs.mount_stores.Tower.{sealed_held, sealed_trace, sealed_meanings, sealed_holdings, sealed_durables}
use Rattle.mount.specs.path_layer.Showing.{ShowsFiles}
use Rattle.mount.specs.record_saver.Saving.{KeepsEmpty}
use Rattle.mount.specs.store_api.Durables.{Identity}
use Rattle.recovering.proofs.Given.{gave_went, gave_wanted, given_is}

module _ {V : Type 0} (trace : V → Option (List Call)) (faults : V → ℕ) (root : List ℕ) (a b : IntegrityStore V Cipher) (live : List Id) (owners : Owners)
    (cert : IsCertified (loads_by sealed_held (sealed_trace trace)) ((sealed_holdings trace).payload a) root live a b owners)
    (lives : (id : Id) → has_id live id ≡ is_some ((sealed_holdings trace).content a id)) where
  pub held_same : sealed_held b ≡ sealed_held a
  held_same = (gave_went sealed_held (sealed_trace trace) a b cert.given cert.gave).0

  pub went : WentOnByReads (sealed_held a) (sealed_trace trace a) (sealed_trace trace b)
  went = (gave_went sealed_held (sealed_trace trace) a b cert.given cert.gave).1

  abbrev pub tree : Tree
  tree = cert.certifies.tree

  content_same : SoundBy (sealed_held a) (sealed_trace trace a) → SameContent ((sealed_holdings trace).content a) ((sealed_holdings trace).content b)
  content_same sound id =
      let h = sealed_held a in
      ap (λ (k : Held). wanted k (sealed_trace trace b) id) held_same ∙ went_wanted h h (sealed_trace trace a) (sealed_trace trace b) went (sound_is_told h (sealed_trace trace a) sound) id

  shown : SoundBy (sealed_held a) (sealed_trace trace a)
      → count_told (forged (sealed_held a).opens (sealed_held a).size) (sealed_trace trace b) ≤ count_told (forged (sealed_held a).opens (sealed_held a).size) (sealed_trace trace a)
      → ShowsFiles ((sealed_holdings trace).payload a) root ((sealed_holdings trace).content b) tree
  shown sound few =
      let payload = (sealed_holdings trace).payload a in
      let agrees = gave_wanted sealed_held (sealed_trace trace) a b cert.given cert.gave sound few in
      let is = given_is ((sealed_holdings trace).content a) live cert.given agrees cert.certifies.whole lives in
      let given : ShowsFiles payload root (content_of cert.given) tree = record { map = cert.certifies.blobs; stores = cert.certifies.stores; shows = (cert.certifies.ids, cert.certifies.shows) } in
      files_same payload root ((sealed_holdings trace).content a) ((sealed_holdings trace).content b) tree (content_same sound)
      (files_same payload root (content_of cert.given) ((sealed_holdings trace).content a) tree is given)

  -- the record that is written with an empty list is one
  pub kept_empty : (kept : Option (List ℕ)) (bytes : List ℕ) → kept ≡ Some bytes → bytes ≡ (sealed_durables trace).local_record_of b false → (sealed_meanings trace faults).intact b
      → KeepsEmpty (sealed_durables trace) b kept
  kept_empty kept bytes is written intact =
      let laws = enduring_by sealed_held (sealed_trace trace) (λ s. faults s.sealed.vault.vault) (λ s. IsIntact (block_size_of s.sealed) 16) in
      (bytes, is, subst ((sealed_durables trace).is_record b false) (sym written) (laws.written b false intact))

  -- the record that is written with an empty list is kept, where nothing waits
  pub keeps : (kept : Option (List ℕ)) (bytes : List ℕ) → kept ≡ Some bytes → bytes ≡ (sealed_durables trace).local_record_of b false → (sealed_durables trace).list a ≡ []
      → (sealed_meanings trace faults).intact b → (sealed_meanings trace faults).sound a → ((sealed_durables trace).identity a).marked ≡ false
      → (sealed_meanings trace faults).forgeries b ≤ (sealed_meanings trace faults).forgeries a
      → Keeps records (ShowsFiles ((sealed_holdings trace).payload a) root) ((sealed_durables trace).identity a) kept (sealed_trace trace b) tree
  keeps kept bytes is written none intact sound unmarked few =
      let h = sealed_held a in
      let t = sealed_trace trace in
      let laws = enduring_by sealed_held t (λ s. faults s.sealed.vault.vault) (λ s. IsIntact (block_size_of s.sealed) 16) in
      let same : identity_of (sealed_held b) ≡ identity_of h = ap identity_of held_same in
      let sound_b : SoundBy (sealed_held b) (t b) = subst (λ (k : Held). SoundBy k (t b)) (sym held_same) (went_sound h h (t a) (t b) went sound) in
      let none_b = ap (λ (k : Held). k.list) held_same ∙ none in
      let is_record = laws.same_record b bytes none_b (subst ((sealed_durables trace).is_record b false) (sym written) (laws.written b false intact)) in
      let stands = laws.stands_now b bytes intact sound_b (ap (λ (i : Identity). i.marked) same ∙ unmarked) is_record in
      let fewer = subst (λ (k : Held). count_told (forged k.opens k.size) (t b) ≤ count_told (forged h.opens h.size) (t a)) held_same few in
      record {
        content = (sealed_holdings trace).content b;
        represents = (bytes, is, subst (λ i. records.stands i bytes (t b) ((sealed_holdings trace).content b)) same stands);
        shown = shown sound fewer;
      }
