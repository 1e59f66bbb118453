-- A store with another least format.
use Rattle.std.specs.Prelude.{◌≡◌, ◌⊎◌, ℕ, true, List, [], is_some}
use Rattle.std.proofs.Common.{refl, sym, ◌∙◌, ap, subst, inl, inr, arith}
use Rattle.std.specs.declared.option.Option.{Option}
use Rattle.std.specs.declared.option.Option.TheVariants.{None, Some}
use Rattle.outside.specs.Trace.{block, Call}
use Rattle.outside.specs.Honest.{LastChange, last_change}
use Rattle.local_state.specs.Record.{PlainState, IsLeast, IsRecord, FitsState, record_bytes}
use Rattle.store_api.specs.Durables.{IsLastNew, WasLastNew, IsNewFile, MayBeLeast}
use Rattle.block_versions.specs.BlockRecords.{Record, payload_in}
use Rattle.block_id.specs.declared.format.Format.{Format}
use Rattle.block_id.specs.declared.format.Format.TheVariants.{Alone, WithId}
use Rattle.block_id.specs.Formats.{IsTaken, format_in}
use Rattle.block_versions.specs.Held.{Held, file_of, live_version, told_or_none, waiting, wanted, where_live}
use Rattle.block_versions.specs.Soundness.{IsPast, SoundAt, SoundBy}
use Rattle.block_versions.specs.Stores.{IsWhole, holdings_by}
use Rattle.block_versions.specs.Standing.{Configures, durables_by}
use Rattle.local_state.proofs.Records.{written_record}
use Rattle.integrity_store.specs.EnduringLaws.{configures_of, configured_of}

-- the state with another least format
abbrev pub with_least : Held → ℕ → Held
with_least h n = record h { state = record h.state { least = n } }

-- of each live block, what waits or else its last change is a file of the newest format
pub record AreNew (h : Held) (trace : List Call) : Type 0 where
  pub listed : (id : List ℕ) (version : ℕ) (change : Option (List ℕ)) → live_version h id ≡ Some version → waiting h id ≡ Some change → (bytes : List ℕ) × (change ≡ Some bytes) × (format_in bytes ≡ Some WithId)
  pub last : (id : List ℕ) (version : ℕ) → live_version h id ≡ Some version → waiting h id ≡ None → IsLastNew (λ bytes. format_in bytes ≡ Some WithId) (last_change (block id) trace)

some_bytes : {a b : List ℕ} → Some a ≡ Some b → a ≡ b
some_bytes e = cc

-- at 1 each format is taken, at 2 the newest
taken_at_one : (bytes : List ℕ) (f : Format) → format_in bytes ≡ Some f → IsTaken 1 bytes
taken_at_one bytes Alone is = record { format = Alone; is = is; taken = refl }
taken_at_one bytes WithId is = record { format = WithId; is = is; taken = refl }

taken_at_two : (bytes : List ℕ) → format_in bytes ≡ Some WithId → IsTaken 2 bytes
taken_at_two bytes is = record { format = WithId; is = is; taken = refl }

module _ (h : Held) (n : ℕ) (trace : List Call) (s : SoundAt h trace) where
  past_least : (r : Record) → IsPast h trace r → IsPast (with_least h n) trace r
  past_least r p = record { life = p.life; used = p.used; version = p.version; payload = p.payload }

  module _ (taken : (bytes : List ℕ) → IsTaken h.state.least bytes → ((id : List ℕ) (version : ℕ) → live_version h id ≡ Some version → ((waiting h id ≡ Some (Some bytes)) ⊎ ((waiting h id ≡ None) × (last_change (block id) trace ≡ Some (record { bytes = Some bytes; ok = true })))) → IsTaken n bytes)) where
    pub sound_least : SoundAt (with_least h n) trace
    sound_least = record {
      waits = λ id version change live waits.
          let (bytes, payload, is, f) = s.waits id version change live waits in
          (bytes, payload, is, record { opens = f.opens; taken = taken bytes f.taken id version live (inl (waits ∙ ap Some is)) });
      stands = λ id version live none.
          let (bytes, payload, is, f) = s.stands id version live none in
          (bytes, payload, is, record { opens = f.opens; taken = taken bytes f.taken id version live (inr (none, is)) });
      buried = λ id dead none. elim (s.buried id dead none) [
        | inl gone ↦ inl gone
        | inr f ↦ inr (record { bytes = f.bytes; ok = f.ok; found = f.found; put = f.put; opens = f.opens; other = f.other })
      ];
      past = λ id bytes r was opens mine. past_least r (s.past id bytes r was opens mine);
      sealed = λ id bytes ok among. let f = s.sealed id bytes ok among in record { found = f.found; opens = f.opens; own_id = f.own_id };
    }

pub sound_one : (h : Held) (trace : List Call) → SoundAt h trace → SoundAt (with_least h 1) trace
sound_one h trace s = sound_least h 1 trace s (λ bytes t id version live where_. taken_at_one bytes t.format t.is)

abbrev bytes_or : Option (List ℕ) → List ℕ
bytes_or None = []
bytes_or (Some bytes) = bytes

abbrev last_bytes : Option LastChange → List ℕ
last_bytes None = []
last_bytes (Some change) = bytes_or change.bytes

new_bytes : (h : Held) (trace : List Call) → AreNew h trace → (bytes : List ℕ) (id : List ℕ) (version : ℕ) → live_version h id ≡ Some version
    → ((waiting h id ≡ Some (Some bytes)) ⊎ ((waiting h id ≡ None) × (last_change (block id) trace ≡ Some (record { bytes = Some bytes; ok = true })))) → format_in bytes ≡ Some WithId
new_bytes h trace new bytes id version live (inl waits) =
    let (other, is, format) = new.listed id version (Some bytes) live waits in
    ap format_in (some_bytes is) ∙ format
new_bytes h trace new bytes id version live (inr (none, last)) =
    let (other, ok, is, format) = new.last id version live none in
    let same : bytes ≡ other = ap last_bytes (sym last ∙ is) in
    ap format_in same ∙ format

pub sound_two : (h : Held) (trace : List Call) → AreNew h trace → SoundAt h trace → SoundAt (with_least h 2) trace
sound_two h trace new s = sound_least h 2 trace s (λ bytes t id version live where_. taken_at_two bytes (new_bytes h trace new bytes id version live where_))

-- ---- the whole call

in_range : {X : Type 0} (n : ℕ) → (n ≡ 1) ⊎ ((n ≡ 2) × X) → IsLeast n
in_range n (inl one) = record { from_one = omega (arith, one); to_two = omega (arith, one) }
in_range n (inr two) = record { from_one = omega (arith, two.0); to_two = omega (arith, two.0) }

fits_least : (s : PlainState) (n : ℕ) → IsLeast n → FitsState s → FitsState (record s { least = n })
fits_least s n least f = record {
  head = record { fs_id = f.head.fs_id; key_salt = f.head.key_salt; key_digest = f.head.key_digest; client = f.head.client };
  least = least;
  client = f.client;
  lives = f.lives;
  count = f.count;
}

pub whole_least : {X : Type 0} (h : Held) (n : ℕ) → (n ≡ 1) ⊎ ((n ≡ 2) × X) → IsWhole h → IsWhole (with_least h n)
whole_least h n may w = record {
  least = w.least;
  most = w.most;
  has_record = record { state = fits_least h.state n (in_range n may) w.has_record.state; entries = w.has_record.entries };
  config = w.config;
  alike = w.alike;
}

pub configured_least : (h : Held) (n : ℕ) (trace : Option (List Call)) → IsWhole (with_least h n) → (kept bytes : List ℕ) → IsRecord h.state h.list kept → Configures kept trace bytes
    → Configures (record_bytes (with_least h n).state h.list) trace bytes
configured_least h n trace w kept bytes is c =
    configures_of (with_least h n).state h.list (record_bytes (with_least h n).state h.list) trace bytes (written_record (with_least h n).state h.list w.has_record) (configured_of h.state h.list kept trace bytes is c)

module _ {S : Type 0} (held : S → Held) (trace : S → Option (List Call)) (s : S) where
  lives : (id : List ℕ) (version : ℕ) → live_version (held s) id ≡ Some version → is_some (wanted (held s) (trace s) id) ≡ true
  lives id version live = ap (λ v. is_some (where_live v (payload_in (held s).opens (held s).size id (file_of (held s) (told_or_none (trace s)) id)))) live

  new_of : (t : List Call) → trace s ≡ Some t → ((id : List ℕ) → is_some (wanted (held s) (trace s) id) ≡ true → IsNewFile (durables_by held trace) s id) → AreNew (held s) t
  new_of t is new = record {
    listed = λ id version change live waits. (new id (lives id version live)).waiting change waits;
    last = λ id version live none. subst (WasLastNew (λ bytes. format_in bytes ≡ Some WithId) (block id)) is ((new id (lives id version live)).written none);
  }

  pub sound_set : (n : ℕ) → MayBeLeast (durables_by held trace) (holdings_by held trace) s n → SoundBy (held s) (trace s) → SoundBy (with_least (held s) n) (trace s)
  sound_set n may sound = by_trace (trace s) refl sound
    where
      by_trace : (o : Option (List Call)) → trace s ≡ o → SoundBy (held s) o → SoundBy (with_least (held s) n) o
      by_trace None e x = absurd x
      by_trace (Some t) e x = elim may [
        | inl one ↦ subst (λ m. SoundAt (with_least (held s) m) t) (sym one) (sound_one (held s) t x)
        | inr two ↦ subst (λ m. SoundAt (with_least (held s) m) t) (sym two.0) (sound_two (held s) t (new_of t e two.1) x)
      ]
