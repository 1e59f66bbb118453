use Rattle.std.proofs.Common.{◌≡◌, List, refl, sym, ◌∙◌, ap, subst, arith}
use Rattle.std.specs.Prelude.{Option}
use Rattle.block_versions.specs.store_outcome.Meanings.{Meanings}
use Rattle.outside.specs.Honest.{is_lie, count_told}
use Rattle.outside.specs.Trace.{Call}
use Rattle.rand_core.specs.Stream.{Stream}
use Rattle.store_api.specs.Applying.{AppliesNone, KeepsCounts}
use Rattle.store_api.specs.Draws.{IsLater}
use Rattle.store_api.proofs.Draws.{later_same}
use Rattle.block_versions.specs.Forgeries.{forged}
use Rattle.block_versions.specs.ReadLaws.{went_same}
use Rattle.block_versions.specs.Reads.{WentOnByReads}
use Rattle.block_versions.specs.Soundness.{SoundBy}
use Rattle.block_versions.specs.Stores.{meanings_by}
use Rattle.outside.specs.Changes.{IsIncreasing}
use Rattle.outside.specs.ChangeLaws.{IsIncreasing-set_changes}
use Rattle.block_versions.specs.sealed_store.Stores.{IsIntact, block_size_of, cipher_of}
use Rattle.store_api.specs.Entries.{entries_of}
use Rattle.integrity_store.specs.declared.store.IntegrityStore.{IntegrityStore}
use Rattle.block_versions.specs.Held.{Held}
use Rattle.integrity_store.specs.Views.{held_by}
use Rattle.integrity_store.specs.WaitingLaws.{in_order}
use Rattle.integrity_store.specs.Applied.{applied_by}
use Rattle.integrity_store.proofs.Applying.{may_seal_batch, applied_nothing}
use Rattle.integrity_store.proofs.Batches.{is_spent, isnt_spent, Listed, may_come_listed, room, Marked, applied_batch, drawn_in, whole_batch, changed_batch}
use Rattle.integrity_store.proofs.apply.IntegrityStoreBlocksMut.apply.Given.{Over}
use Rattle.integrity_store.proofs.apply.IntegrityStoreBlocksMut.apply.Goals as goal

abbrev Store : Over → Type 0
Store g = IntegrityStore g.row.V.Denot g.row.C.Denot

abbrev held : (g : Over) → Store g → Held
held g s = held_by g.C.Sealer.opens s

abbrev trace : (g : Over) → Store g → Option (List Call)
trace g s = g.V.Vault.trace s.sealed.vault.vault

abbrev meanings : (g : Over) → Meanings (Store g)
meanings g = meanings_by (held g) (trace g) (λ s. g.V.Vault.faults s.sealed.vault.vault) (λ s. IsIntact (block_size_of s.sealed) (g.C.Sealer.iv_size (cipher_of s.sealed)))

-- by the same directory and the same key and size of blocks
counts_same : (g : Over) (a b : Store g) → (held g b).opens ≡ (held g a).opens → (held g b).size ≡ (held g a).size → b.sealed.vault.vault ≡ a.sealed.vault.vault → KeepsCounts (meanings g) a b
counts_same g a b opens size vault = record {
  forgeries = ap (λ k. count_told (forged k (held g b).size) (trace g b)) opens ∙ (ap (λ n. count_told (forged (held g a).opens n) (trace g b)) size
      ∙ ap (λ v. count_told (forged (held g a).opens (held g a).size) (g.V.Vault.trace v)) vault);
  lies = ap (λ v. count_told is_lie (g.V.Vault.trace v)) vault;
  faults = ap g.V.Vault.faults vault;
}

-- what is held is what was held
none_made : (g : Over) (a b : Store g) (stream left : Stream) → held g b ≡ held g a → b.sealed.vault.vault ≡ a.sealed.vault.vault → IsLater stream left → AppliesNone (meanings g) (applied_by (held g) (trace g)) a b stream left
none_made g a b stream left same vault later = record {
  nothing = applied_nothing (held g a) (held g b) (trace g a) (trace g b) same (ap g.V.Vault.trace vault);
  loaded = record { held = same; trace = subst (WentOnByReads (held g a) (trace g a)) (sym (ap g.V.Vault.trace vault)) (went_same (held g a) (trace g a)); faults = omega (arith, ap g.V.Vault.faults vault) };
  sound = λ sound. subst (λ h. SoundBy h (trace g b)) (sym same) (subst (SoundBy (held g a)) (sym (ap g.V.Vault.trace vault)) sound);
  later = later;
}

-- ---- spent ids

pub returns-then-some_spent-clause-spent : goal.returns-then-some_spent-clause-spent
returns-then-some_spent-clause-spent g c =
    (λ e. is_spent (held g) (trace g) c.args.self.now c.args.batch.now (entries_of c.entries-entries.result.now) c.entries-entries.ensures (sym c.some_spent.ensures ∙ c.if-some_spent.true), λ s. refl)

pub returns-in-Ok-clause-spent : goal.returns-in-Ok-clause-spent
returns-in-Ok-clause-spent g c =
    (λ e. absurd (cc), λ s. absurd (isnt_spent (held g) (trace g) c.args.self.now c.args.batch.now (entries_of c.entries-entries.result.now) c.entries-entries.ensures (sym c.some_spent.ensures ∙ c.if-some_spent.false) s))

pub returns-in-Err-clause-spent : goal.returns-in-Err-clause-spent
returns-in-Err-clause-spent g c =
    (λ e. absurd (cc), λ s. absurd (isnt_spent (held g) (trace g) c.args.self.now c.args.batch.now (entries_of c.entries-entries.result.now) c.entries-entries.ensures (sym c.some_spent.ensures ∙ c.if-some_spent.false) s))

-- ---- what is called

pub put_drafts-requires-clause-may : goal.put_drafts-requires-clause-may
put_drafts-requires-clause-may g c =
    may_seal_batch (held g) (trace g) c.args.self.now c.args.batch.now (entries_of c.entries-entries.result.now) c.entries-entries.ensures c.requires.intact.0 c.requires.fits
    (sym c.some_spent.ensures ∙ c.if-some_spent.false)

listed : (g : Over) (c : goal.After-raise_or_bury_all-arg-1 g)
    → Listed (held g) (trace g) c.args.self.now (held g c.put_drafts.new.self) c.args.batch.now (entries_of c.entries-entries.result.now) (g.R.Rng.stream c.args.chance.now) (g.R.Rng.stream c.put_drafts.new.chance)
listed g c = record {
  are = c.entries-entries.ensures;
  whole = c.requires.intact.0;
  fits = c.requires.fits;
  none_spent = sym c.some_spent.ensures ∙ c.if-some_spent.false;
  lists = c.in-Ok.ensures.listed;
}

pub raise_or_bury_all-requires-clause-may : goal.raise_or_bury_all-requires-clause-may
raise_or_bury_all-requires-clause-may g c = may_come_listed (listed g c)

pub raise_or_bury_all-requires-clause-room : goal.raise_or_bury_all-requires-clause-room
raise_or_bury_all-requires-clause-room g c = room (listed g c) c.put_drafts.new.self.state.known.spare c.in-Ok.ensures.room.ids

-- ---- what is returned after Ok

abbrev new : (g : Over) → goal.After-len-used g → Store g
new g c = let put = c.put_drafts.new.self in record put { state = record put.state { known = c.raise_or_bury_all.new.known } }

marked : (g : Over) (c : goal.After-len-used g)
    → Marked (held g) (trace g) c.args.self.now (new g c) (held g c.put_drafts.new.self) c.args.batch.now (entries_of c.entries-entries.result.now) (g.R.Rng.stream c.args.chance.now) (g.R.Rng.stream c.put_drafts.new.chance)
marked g c = record {
  listed = record {
    are = c.entries-entries.ensures;
    whole = c.requires.intact.0;
    fits = c.requires.fits;
    none_spent = sym c.some_spent.ensures ∙ c.if-some_spent.false;
    lists = c.in-Ok.ensures.listed;
  };
  known = c.raise_or_bury_all.new.known.lives;
  marked = c.raise_or_bury_all.ensures;
  held_is = refl;
  trace_is = ap g.V.Vault.trace c.in-Ok.ensures.vault;
  fit = c.len-used.ensures.fits;
  few = omega (arith, c.len-used.ensures.len, c.len-used.ensures.bound);
  rises = subst IsIncreasing (sym (ap (λ h. h.list) c.in-Ok.ensures.listed.held))
      (IsIncreasing-set_changes c.in-Ok.ensures.listed.changes (held g c.args.self.now).list (in_order (held g c.args.self.now).state (held g c.args.self.now).list c.requires.intact.0.has_record));
  count = c.in-Ok.ensures.room.waiting;
}

pub returns-in-Ok-clause-intact : goal.returns-in-Ok-clause-intact
returns-in-Ok-clause-intact g c = (whole_batch (marked g c), c.in-Ok.ensures.intact)

pub returns-in-Ok-clause-ok : goal.returns-in-Ok-clause-ok
returns-in-Ok-clause-ok g c = record {
  changed = changed_batch (marked g c) (λ s. g.V.Vault.faults s.sealed.vault.vault) (λ s. IsIntact (block_size_of s.sealed) (g.C.Sealer.iv_size (cipher_of s.sealed)));
  makes = applied_batch (marked g c);
  draws = drawn_in (marked g c);
}

pub returns-in-Ok-clause-counts : goal.returns-in-Ok-clause-counts
returns-in-Ok-clause-counts g c = counts_same g c.args.self.now (new g c) (ap (λ h. h.opens) c.in-Ok.ensures.listed.held) (ap (λ h. h.size) c.in-Ok.ensures.listed.held) c.in-Ok.ensures.vault

-- ---- what is returned after an error

pub returns-then-some_spent-clause-err : goal.returns-then-some_spent-clause-err
returns-then-some_spent-clause-err g c = none_made g c.args.self.now c.args.self.now (g.R.Rng.stream c.args.chance.now) (g.R.Rng.stream c.args.chance.now) refl refl (later_same (g.R.Rng.stream c.args.chance.now))

pub returns-in-Err-clause-err : goal.returns-in-Err-clause-err
returns-in-Err-clause-err g c = none_made g c.args.self.now c.put_drafts.new.self (g.R.Rng.stream c.args.chance.now) (g.R.Rng.stream c.put_drafts.new.chance) c.in-Err.ensures.held c.in-Err.ensures.vault c.put_drafts.ensures.later

pub returns-in-Err-clause-counts : goal.returns-in-Err-clause-counts
returns-in-Err-clause-counts g c = counts_same g c.args.self.now c.put_drafts.new.self (ap (λ h. h.opens) c.in-Err.ensures.held) (ap (λ h. h.size) c.in-Err.ensures.held) c.in-Err.ensures.vault
