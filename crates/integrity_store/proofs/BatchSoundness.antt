-- A batch changes the content as it says, and leaves a sound store sound.
use Rattle.std.proofs.Common.{◌≡◌, ℕ, ◌+◌, ◌-◌, ◌≤◌, List, true, false, refl, sym, ◌∙◌, ap, subst, inl, inr, arith}
use Rattle.std.proofs.lemmas.Bool.{le-ltb}
use Rattle.std.specs.Prelude.{Option, Some, None, is_some, not, ◌&&◌, ◌⊎◌}
use Rattle.std.specs.FinMap as fin
use Rattle.std.specs.Option.{option_map_or}
use Rattle.outside.specs.Trace.{Call, block}
use Rattle.outside.specs.Honest.{LastChange, last_change}
use Rattle.block_versions.specs.local_state.declared.life.Life.{Life}
use Rattle.block_versions.specs.local_state.Known.{raised_version, is_dead_in, version_if_live, is_last}
use Rattle.block_id.specs.declared.format.Format.TheVariants.{WithId}
use Rattle.block_id.specs.Formats.{IsTaken, format_in}
use Rattle.store_api.specs.Content.{Id, Changes, or_else, over}
use Rattle.store_api.specs.Holdings.{Changed, gives_payload, has_id}
use Rattle.block_versions.specs.BlockRecords.{Record, opened, payload_of, payload_in}
use Rattle.integrity_store.specs.Applied.{life_after, WaitsAfter, Applied}
use Rattle.block_versions.specs.Held.{Held, own, waiting, waiting_or, bytes_in, file_of, live_version, where_live, told_or_none, wanted}
use Rattle.block_versions.specs.Soundness.{IsForeign, IsFresh, IsPast, IsSealed, SoundAt, SoundBy}
use Rattle.block_versions.specs.Forgeries.{was_put}
use Rattle.block_versions.specs.Stores.{IsWhole, version_in, meanings_by, holdings_by}
use Rattle.block_versions.proofs.Reopening.{few_used}
use Rattle.block_versions.specs.StoreLaws.{has-keys}

-- ---- one id

dead_version : (life : Option Life) → version_if_live (life_after (Some None) life) ≡ None
dead_version None = refl
dead_version (Some life) = refl

stays_known : (said : Option (Option (List ℕ))) (life : Option Life) → is_some life ≡ true → is_some (life_after said life) ≡ true
stays_known None life known = known
stays_known (Some (Some payload)) life known = refl
stays_known (Some None) None known = known
stays_known (Some None) (Some life) known = refl

-- what a past life became
pub record Later (said : Option (Option (List ℕ))) (old : Life) : Type 0 where
  pub life : Life
  pub is : life_after said (Some old) ≡ Some life
  pub version : old.version ≤ life.version

later : (said : Option (Option (List ℕ))) (old : Life) → Later said old
later None old = record { life = old; is = refl; version = omega arith }
later (Some (Some payload)) old = record { life = record { version = old.version + 1; live = true }; is = refl; version = omega arith }
later (Some None) old = record { life = record { version = old.version; live = false }; is = refl; version = omega arith }

module _ (a b : Held) (old new : Option (List Call)) (changes : Changes) (x : Applied a b old new changes) where
  opened_same : (id file : List ℕ) → opened b.opens b.size id file ≡ opened a.opens a.size id file
  opened_same id file = ap (λ f. opened f b.size id file) x.opens ∙ ap (λ n. opened a.opens n id file) x.size

  least_same : b.state.least ≡ a.state.least
  least_same = ap (λ s. s.least) x.state

  client_same : b.state.client ≡ a.state.client
  client_same = ap (λ s. s.client) x.state

  own_same : (id : Id) (version : ℕ) (payload : List ℕ) → own b id version payload ≡ own a id version payload
  own_same id version payload = ap (λ (n : ℕ). record { id = id; client = n; version = version; payload = payload }) client_same

  abbrev marked : Option (Option (List ℕ)) → Id → Type 0
  marked said id = fin.get b.state.lives id ≡ life_after said (fin.get a.state.lives id)

  -- ---- the content

  file_same : (id : Id) (trace : List Call) → waiting b id ≡ waiting a id → file_of b trace id ≡ file_of a trace id
  file_same id trace same = ap (λ w. waiting_or w (bytes_in (last_change (block id) trace))) same

  payload_same : (id : Id) (file : Option (List ℕ)) → payload_in b.opens b.size id file ≡ payload_in a.opens a.size id file
  payload_same id file = ap (λ f. payload_in f b.size id file) x.opens ∙ ap (λ n. payload_in a.opens n id file) x.size

  -- ---- files

  fresh_same : (id : Id) (version : ℕ) (bytes payload : List ℕ) → IsFresh a id version bytes payload → IsFresh b id version bytes payload
  fresh_same id version bytes payload f = record {
    opens = opened_same id bytes ∙ (f.opens ∙ ap Some (sym (own_same id version payload)));
    taken = subst (λ n. IsTaken n bytes) (sym least_same) f.taken;
  }

  newest_taken : (file : List ℕ) → a.state.least ≤ 2 → format_in file ≡ Some WithId → IsTaken b.state.least file
  newest_taken file most is = record { format = WithId; is = is; taken = le-ltb 2 b.state.least (omega (arith, least_same, most)) }

  foreign_same : (id : Id) (last : Option LastChange) → IsForeign a id last → IsForeign b id last
  foreign_same id last f = record { bytes = f.bytes; ok = f.ok; found = f.found; put = f.put; opens = opened_same id f.bytes ∙ f.opens; other = λ e. f.other (e ∙ client_same) }

  sealed_same : (id bytes : List ℕ) → IsSealed a id bytes → IsSealed b id bytes
  sealed_same id bytes f = record { found = f.found; opens = opened_same id bytes ∙ f.opens; own_id = f.own_id }

  wanted_kept : (trace : Option (List Call)) (id : Id) → waiting b id ≡ waiting a id → fin.get b.state.lives id ≡ fin.get a.state.lives id → wanted b trace id ≡ wanted a trace id
  wanted_kept trace id waits lives =
      ap (λ m. where_live (version_if_live m) (payload_in b.opens b.size id (file_of b (told_or_none trace) id))) lives
      ∙ ap (where_live (live_version a id)) (ap (payload_in b.opens b.size id) (file_same id (told_or_none trace) waits) ∙ payload_same id (file_of a (told_or_none trace) id))

  wanted_said : (trace : Option (List Call)) (id : Id) (said : Option (Option (List ℕ))) → WaitsAfter a b id said → marked said id → wanted b trace id ≡ or_else said (wanted a trace id)
  wanted_said trace id None waits lives = wanted_kept trace id waits lives
  wanted_said trace id (Some (Some payload)) waits lives =
      ap (λ m. where_live (version_if_live m) (payload_in b.opens b.size id (file_of b (told_or_none trace) id))) lives
      ∙ ap (λ w. Some (payload_in b.opens b.size id (waiting_or w (bytes_in (last_change (block id) (told_or_none trace)))))) waits.1
      ∙ ap (λ r. Some (payload_of b.size r)) waits.2.opens
  wanted_said trace id (Some None) waits lives =
      ap (λ m. where_live (version_if_live m) (payload_in b.opens b.size id (file_of b (told_or_none trace) id))) lives
      ∙ ap (λ v. where_live v (payload_in b.opens b.size id (file_of b (told_or_none trace) id))) (dead_version (fin.get a.state.lives id))

  pub wanted_after : (trace : Option (List Call)) (id : Id) → wanted b trace id ≡ over changes (wanted a trace) id
  wanted_after trace id = wanted_said trace id (fin.get changes id) (x.waits id) (x.lives id)

  -- ---- soundness

  module _ (trace : List Call) (most : a.state.least ≤ 2) (s : SoundAt a trace) where
    waits_said : (id : Id) (version : ℕ) (change : Option (List ℕ)) (said : Option (Option (List ℕ))) → WaitsAfter a b id said → marked said id
        → live_version b id ≡ Some version → waiting b id ≡ Some change
        → (bytes payload : List ℕ) × (change ≡ Some bytes) × IsFresh b id version bytes payload
    waits_said id version change None waits lives live there =
        let w = s.waits id version change (ap version_if_live (sym lives) ∙ live) (sym waits ∙ there) in
        (w.0, w.1, w.2, fresh_same id version w.0 w.1 w.3)
    waits_said id version change (Some (Some payload)) waits lives live there =
        let raised : Some (raised_version (fin.get a.state.lives id)) ≡ Some version = ap version_if_live (sym lives) ∙ live in
        let same : raised_version (fin.get a.state.lives id) ≡ version = cc in
        let file : change ≡ Some waits.0 = cc (waits.1, there) in
        (waits.0, payload, file, record { opens = waits.2.opens ∙ ap (λ v. Some (own b id v payload)) same; taken = newest_taken waits.0 most waits.2.format })
    waits_said id version change (Some None) waits lives live there =
        let dead : None ≡ Some version = sym (dead_version (fin.get a.state.lives id)) ∙ (ap version_if_live (sym lives) ∙ live) in absurd (cc)

    stands_said : (id : Id) (version : ℕ) (said : Option (Option (List ℕ))) → WaitsAfter a b id said → marked said id → live_version b id ≡ Some version → waiting b id ≡ None
        → (bytes payload : List ℕ) × (last_change (block id) trace ≡ Some (record { bytes = Some bytes; ok = true })) × IsFresh b id version bytes payload
    stands_said id version None waits lives live none =
        let w = s.stands id version (ap version_if_live (sym lives) ∙ live) (sym waits ∙ none) in
        (w.0, w.1, w.2, fresh_same id version w.0 w.1 w.3)
    stands_said id version (Some (Some payload)) waits lives live none = let there = waits.1 in absurd (cc)
    stands_said id version (Some None) waits lives live none = absurd (cc)

    buried_said : (id : Id) (said : Option (Option (List ℕ))) → WaitsAfter a b id said → marked said id → is_dead_in b.state.lives id ≡ true → waiting b id ≡ None
        → (last_change (block id) trace ≡ Some (record { bytes = None; ok = true })) ⊎ IsForeign b id (last_change (block id) trace)
    buried_said id None waits lives dead none = elim (s.buried id (ap (λ o. is_some o && not (option_map_or (λ m. m.live) o false)) (sym lives) ∙ dead) (sym waits ∙ none)) [
      | inl gone ↦ inl gone
      | inr other ↦ inr (foreign_same id (last_change (block id) trace) other)
    ]
    buried_said id (Some (Some payload)) waits lives dead none = let there = waits.1 in absurd (cc)
    buried_said id (Some None) waits lives dead none = absurd (cc)

    past_payload : (r : Record) (p : IsPast a trace r) (said : Option (Option (List ℕ))) → WaitsAfter a b r.id said → marked said r.id → live_version b r.id ≡ Some r.version
        → wanted b (Some trace) r.id ≡ Some r.payload
    past_payload r p None waits lives live = wanted_kept (Some trace) r.id waits lives ∙ p.payload (ap version_if_live (sym lives) ∙ live)
    past_payload r p (Some (Some payload)) waits lives live =
        let raised : Some (raised_version (fin.get a.state.lives r.id)) ≡ Some r.version = ap version_if_live (sym lives) ∙ live in
        let version : p.life.version + 1 ≡ r.version = cc in
        absurd (omega (arith, p.version))
    past_payload r p (Some None) waits lives live =
        let dead : None ≡ Some r.version = sym (dead_version (fin.get a.state.lives r.id)) ∙ (ap version_if_live (sym lives) ∙ live) in absurd (cc)

    past_after : (r : Record) → IsPast a trace r → IsPast b trace r
    past_after r p =
        let said = fin.get changes r.id in
        let l = later said p.life in
        record {
          life = l.life;
          used = x.lives r.id ∙ (ap (life_after said) p.used ∙ l.is);
          version = omega (arith, p.version, l.version);
          payload = past_payload r p said (x.waits r.id) (x.lives r.id);
        }

    past_put : (id bytes : List ℕ) (r : Record) → was_put bytes trace ≡ true → opened b.opens b.size id bytes ≡ Some r → r.client ≡ b.state.client → IsPast b trace r
    past_put id bytes r was opens mine = past_after r (s.past id bytes r was (sym (opened_same id bytes) ∙ opens) (mine ∙ client_same))

    sound_at : SoundAt b trace
    sound_at = record {
      waits = λ id version change live there. waits_said id version change (fin.get changes id) (x.waits id) (x.lives id) live there;
      stands = λ id version live none. stands_said id version (fin.get changes id) (x.waits id) (x.lives id) live none;
      buried = λ id dead none. buried_said id (fin.get changes id) (x.waits id) (x.lives id) dead none;
      past = past_put;
      sealed = λ id bytes ok among. sealed_same id bytes (s.sealed id bytes ok among);
    }

  sound_by : (trace : Option (List Call)) → a.state.least ≤ 2 → SoundBy a trace → SoundBy b trace
  sound_by None most s = absurd s
  sound_by (Some trace) most s = sound_at trace most s

  pub sound_after : b.state.least ≤ 2 → SoundBy a old → SoundBy b new
  sound_after most s = subst (SoundBy b) (sym x.trace) (sound_by old (omega (arith, least_same, most)) s)

-- ---- the store after a batch

new_or_known : (said : Option (Option (List ℕ))) (life : Option Life) → is_some (life_after said life) ≡ true → (is_some life ≡ true) ⊎ (is_some said ≡ true)
new_or_known None life known = inl known
new_or_known (Some change) life known = inr refl

rises_or_rests : (said : Option (Option (List ℕ))) (life : Option Life) → (version_in life ≤ version_in (life_after said life)) × (version_in (life_after said life) ≤ version_in life + 1)
rises_or_rests None life = (omega arith, omega arith)
rises_or_rests (Some (Some payload)) None = (omega arith, omega arith)
rises_or_rests (Some (Some payload)) (Some life) = (omega arith, omega arith)
rises_or_rests (Some None) None = (omega arith, omega arith)
rises_or_rests (Some None) (Some life) = (omega arith, omega arith)

version_rests : (said : Option (Option (List ℕ))) (life : Option Life) → gives_payload said ≡ false → version_in (life_after said life) ≡ version_in life
version_rests None life e = refl
version_rests (Some (Some payload)) life e = absurd (cc)
version_rests (Some None) None e = refl
version_rests (Some None) (Some life) e = refl

module _ {S : Type 0} (held : S → Held) (trace : S → Option (List Call)) (faults : S → ℕ) (own_ : S → Type 0) (a b : S) (changes : Changes)
    (x : Applied (held a) (held b) (trace a) (trace b) changes) (whole : IsWhole (held b)) where
  content_is : (id : Id) → wanted (held b) (trace b) id ≡ over changes (wanted (held a) (trace a)) id
  content_is id = ap (λ t. wanted (held b) t id) x.trace ∙ wanted_after (held a) (held b) (trace a) (trace b) changes x (trace a) id

  used_said : (id : Id) → has_id (fin.keys (held b).state.lives) id ≡ true → (has_id (fin.keys (held a).state.lives) id ≡ true) ⊎ (is_some (fin.get changes id) ≡ true)
  used_said id used = elim (new_or_known (fin.get changes id) (fin.get (held a).state.lives id) (ap is_some (sym (x.lives id)) ∙ (sym (has-keys (held b) id) ∙ used))) [
    | inl known ↦ inl (has-keys (held a) id ∙ known)
    | inr said ↦ inr said
  ]

  pub changed : Changed (meanings_by held trace faults own_) (holdings_by held trace) a b changes
  changed = record {
    ids = λ id. ap is_some (content_is id);
    content = λ told id. content_is id;
    told = ap is_some x.trace;
    used = used_said;
    stays_used = λ id used.
        has-keys (held b) id ∙ (ap is_some (x.lives id) ∙ stays_known (fin.get changes id) (fin.get (held a).state.lives id) (sym (has-keys (held a) id) ∙ used));
    few = λ few. few_used (held b).state (held b).list whole.has_record;
    spent = λ id none. ap is_last (x.lives id ∙ ap (λ o. life_after o (fin.get (held a).state.lives id)) none);
    kept = λ id. subst (λ o. version_in (fin.get (held a).state.lives id) ≤ version_in o) (sym (x.lives id)) (rises_or_rests (fin.get changes id) (fin.get (held a).state.lives id)).0;
    raised = λ id. subst (λ o. version_in o ≤ version_in (fin.get (held a).state.lives id) + 1) (sym (x.lives id)) (rises_or_rests (fin.get changes id) (fin.get (held a).state.lives id)).1;
    rests = λ id none. ap version_in (x.lives id) ∙ version_rests (fin.get changes id) (fin.get (held a).state.lives id) none;
    payload = ap (λ n. n - 78) x.size;
    sound = sound_after (held a) (held b) (trace a) (trace b) changes x whole.has_record.state.least.to_two;
  }
