-- A list with a configuration's file put into it: the blocks' files are as before.
use Rattle.std.proofs.Common.{◌≡◌, ◌⊎◌, inl, inr, ℕ, ◌<◌, ◌^◌, List, [], ◌∷◌, length, refl, sym, ◌∙◌, ap, subst}
use Rattle.std.specs.Prelude.{◌-◌, is_some, Result, OnOk, OnErr}
use Rattle.std.specs.FinMap as fin
use Rattle.std.specs.List.{AllByRecursion}
use Rattle.std.specs.declared.result.Result.TheVariants.{Ok, Err}
use Rattle.std.specs.declared.option.Option.{Option}
use Rattle.std.specs.declared.option.Option.TheVariants.{None, Some}
use Rattle.block_id.specs.declared.fail.Memory.{Memory}
use Rattle.outside.specs.Trace.{config, block, Call}
use Rattle.outside.specs.Changes.{FileChanges, change_at, set_change}
use Rattle.outside.specs.ChangeLaws.{change_at-set_change}
use Rattle.local_state.specs.Known.{Lives, is_last}
use Rattle.local_state.specs.Record.{PlainState, FitsEntry, Rise, record_bytes, HasRecord}
use Rattle.store_api.specs.Content.{SameContent}
use Rattle.store_api.specs.Holdings.{Stays}
use Rattle.store_api.specs.Lists.{MayConfigure}
use Rattle.block_versions.specs.BlockRecords.{Record, payload_in}
use Rattle.block_versions.specs.Held.{Held, live_version, waiting_or, bytes_in, told_or_none, where_live, wanted}
use Rattle.block_versions.specs.Soundness.{IsPast, SoundBy}
use Rattle.outside.specs.Honest.{last_change}
use Rattle.local_state.proofs.Records.{written_record}
use Rattle.integrity_store.specs.EnduringLaws.{configures_of}
use Rattle.block_versions.specs.Standing.{Configures}
use Rattle.block_versions.specs.Stores.{IsWhole, version_in, holdings_by, IsNoBlock}
use Rattle.integrity_store.proofs.OneWrite.{with_list}

-- ---- what is held of blocks

-- both lists say the same of blocks
abbrev pub SameBlocks : FileChanges → FileChanges → Type 0
SameBlocks old new = (id : List ℕ) → change_at (block id) new ≡ change_at (block id) old

module _ (h : Held) (list : FileChanges) (same : SameBlocks h.list list) where
  pub wanted_same : (trace : Option (List Call)) → SameContent (wanted h trace) (wanted (with_list h list) trace)
  wanted_same trace id =
      ap (λ w. where_live (live_version h id) (payload_in h.opens h.size id (waiting_or w (bytes_in (last_change (block id) (told_or_none trace)))))) (same id)

  past_same : (trace : List Call) (r : Record) → IsPast h trace r → IsPast (with_list h list) trace r
  past_same trace r p = record { life = p.life; used = p.used; version = p.version; payload = λ live. wanted_same (Some trace) r.id ∙ p.payload live }

  pub sound_same : (trace : Option (List Call)) → SoundBy h trace → SoundBy (with_list h list) trace
  sound_same None s = s
  sound_same (Some trace) s = record {
    waits = λ id version change live waits. let (bytes, payload, is, f) = s.waits id version change live (sym (same id) ∙ waits) in (bytes, payload, is, record { opens = f.opens; taken = f.taken });
    stands = λ id version live none. let (bytes, payload, is, f) = s.stands id version live (sym (same id) ∙ none) in (bytes, payload, is, record { opens = f.opens; taken = f.taken });
    buried = λ id dead none. elim (s.buried id dead (sym (same id) ∙ none)) [
      | inl gone ↦ inl gone
      | inr f ↦ inr (record { bytes = f.bytes; ok = f.ok; found = f.found; put = f.put; opens = f.opens; other = f.other })
    ];
    past = λ x bytes r was opens mine. past_same trace r (s.past x bytes r was opens mine);
    sealed = λ x bytes ok among. let f = s.sealed x bytes ok among in record { found = f.found; opens = f.opens; own_id = f.own_id };
  }

-- ---- a list that has a record

set_each : (lives : Lives) (bytes : List ℕ) (list : FileChanges) → length bytes < 2 ^ 32 → AllByRecursion (FitsEntry lives) list → AllByRecursion (FitsEntry lives) (set_change config (Some bytes) list)
set_each lives bytes [] short fits = (record { name = tt; bytes = short; change = refl }, tt)
set_each lives bytes ((config, change) ∷ list) short fits = (record { name = tt; bytes = short; change = refl }, fits.1)
set_each lives bytes ((block id, change) ∷ list) short fits = (record { name = tt; bytes = short; change = refl }, fits)

set_rises : (bytes : List ℕ) (list : FileChanges) → Rise None list → Rise None (set_change config (Some bytes) list)
set_rises bytes [] rises = (refl, tt)
set_rises bytes ((config, change) ∷ list) rises = (refl, rises.1)
set_rises bytes ((block id, change) ∷ list) rises = (refl, (refl, rises.1))

set_has : (state : PlainState) (bytes : List ℕ) (list : FileChanges) → length bytes < 2 ^ 32 → length (set_change config (Some bytes) list) < 2 ^ 64 → HasRecord state list
    → HasRecord state (set_change config (Some bytes) list)
set_has state bytes list short few has = record {
  state = has.state;
  entries = record { each = set_each state.lives bytes list short has.entries.each; order = set_rises bytes list has.entries.order; count = few };
}

-- ---- the whole call

-- the list is as it was, or has these bytes for the configuration
pub record Configured (bytes : List ℕ) (old new : FileChanges) : Type 0 where
  pub list : (new ≡ set_change config (Some bytes) old) ⊎ (new ≡ old)
  pub few : length new < 2 ^ 64

pub configured : {S : Type 0} (list : S → FileChanges) (r : Result Unit Memory) (bytes : List ℕ) (old new : S) → OnOk r (list new ≡ set_change config (Some bytes) (list old)) → OnErr r (new ≡ old) → length (list new) < 2 ^ 64
    → Configured bytes (list old) (list new)
configured list (Ok _) bytes old new set same few = record { list = inl set; few = few }
configured list (Err _) bytes old new set same few = record { list = inr (ap list same); few = few }

module _ (h : Held) (bytes : List ℕ) (new : FileChanges) (c : Configured bytes h.list new) where
  blocks_same : SameBlocks h.list new
  blocks_same id = elim c.list [
    | inl is ↦ ap (change_at (block id)) is ∙ change_at-set_change (block id) config (Some bytes) h.list
    | inr is ↦ ap (change_at (block id)) is
  ]

  pub configured_whole : MayConfigure bytes → IsWhole h → IsWhole (with_list h new)
  configured_whole may whole = elim c.list [
    | inl is ↦ record {
      least = whole.least;
      most = whole.most;
      has_record = subst (HasRecord h.state) (sym is) (set_has h.state bytes h.list may.0 (subst (λ list. length list < 2 ^ 64) is c.few) whole.has_record);
      config = subst IsNoBlock (sym (ap (change_at config) is ∙ change_at-set_change config config (Some bytes) h.list)) may.1;
      alike = whole.alike;
    }
    | inr is ↦ subst (λ list. IsWhole (with_list h list)) (sym is) whole
  ]

  pub configured_sound : (old now : Option (List Call)) → now ≡ old → SoundBy h old → SoundBy (with_list h new) now
  configured_sound old now same sound = subst (SoundBy (with_list h new)) (sym same) (sound_same h new blocks_same old sound)

pub configured_stays : {S : Type 0} (held : S → Held) (trace : S → Option (List Call)) (a b : S) (bytes : List ℕ) (new : FileChanges) → Configured bytes (held a).list new
    → held b ≡ with_list (held a) new → trace b ≡ trace a → Stays (holdings_by held trace) a b
configured_stays held trace a b bytes new c is same =
    let content : SameContent (wanted (held a) (trace a)) (wanted (held b) (trace b)) = λ id.
    ap (λ h. wanted h (trace b) id) is ∙ ap (λ t. wanted (with_list (held a) new) t id) same ∙ wanted_same (held a) new (blocks_same (held a) bytes new c) (trace a) id in
    record {
      ids = λ id. ap is_some (content id);
      content = λ told. content;
      told = ap is_some same;
      used = ap (λ h. fin.keys h.state.lives) is;
      spent = λ id. ap (λ h. is_last (fin.get h.state.lives id)) is;
      version = λ id. ap (λ h. version_in (fin.get h.state.lives id)) is;
      payload = ap (λ h. h.size - 78) is;
    }

-- what is kept after an ok says that these are the configuration's bytes
pub set_configures : (r : Result Unit Memory) (h : Held) (trace : Option (List Call)) (bytes : List ℕ) (new : FileChanges) → OnOk r (new ≡ set_change config (Some bytes) h.list) → IsWhole (with_list h new)
    → OnOk r (Configures (record_bytes h.state new) trace bytes)
set_configures (Ok _) h trace bytes new set whole =
    configures_of h.state new (record_bytes h.state new) trace bytes (written_record h.state new whole.has_record) (inl (ap (change_at config) set ∙ change_at-set_change config config (Some bytes) h.list))
set_configures (Err _) h trace bytes new set whole = tt
