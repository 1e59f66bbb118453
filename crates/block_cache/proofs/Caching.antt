-- What a cache owes its store.
use Rattle.std.proofs.Common.{◌≡◌, ◌⊎◌, ℕ, true, List, Vec, Global, length, Option, None, Some, refl, sym, ◌∙◌, ap, subst, inl, inr}
use Rattle.std.specs.Prelude.{Result, Ok, IfSome, is_some}
use Rattle.block_id.specs.declared.fail.Fail.{Fail}
use Rattle.block_id.specs.declared.id.BlockId.{BlockId}
use Rattle.outside.specs.View.{bytes_of}
use Rattle.store_api.specs.store_outcome.Meanings.{Meanings, Lawful}
use Rattle.store_api.specs.store_outcome.Outcome.{Outcome}
use Rattle.store_api.specs.store_outcome.Lift.{lifted_with}
use Rattle.std.specs.FinMap.{get}
use Rattle.std.proofs.lemmas.Option.{none-some}
use Rattle.store_api.specs.Content.{Id, Changes, or_else}
use Rattle.store_api.specs.Holdings.{Holdings, Steady, Stays, Changed}
use Rattle.block_cache.specs.declared.cache.BlockCache.{BlockCache}
use Rattle.block_cache.specs.Payloads.{Payloads, cached_for, used_last, CachedOrNot, Renewed}
use Rattle.block_cache.specs.Through.{AreLive, Agree, meanings_past, holdings_past}
use Rattle.block_cache.proofs.Lookups.{cached-used, cached-with}

-- what is cached of q was cached of p, or is this payload
abbrev pub Grew : Id → List ℕ → Payloads → Payloads → Type 0
Grew id payload p q = (other found : List ℕ) → cached_for q other ≡ Some found → ((other ≡ id) × (payload ≡ found)) ⊎ (cached_for p other ≡ Some found)

pub grew : (id : BlockId) (payload : List ℕ) (p q : Payloads) → CachedOrNot id payload p q → Grew id.0 payload p q
grew id payload p q (inl same) other found h = inr (ap (λ x. cached_for x other) (sym same) ∙ h)
grew id payload p q (inr put) other found h = elim (cached-with id put.0 p other found (ap (λ x. cached_for x other) (sym put.2) ∙ h)) [
  | inl new ↦ inl (new.0, sym put.1 ∙ new.1)
  | inr old ↦ inr old
]

-- a cached payload was cached before, where its id wasn't changed, or is the change's
renewed_from : (change : Option (Option (List ℕ))) (old new : Option (List ℕ)) (bytes : List ℕ) → Renewed change old new → new ≡ Some bytes → ((change ≡ None) × (old ≡ Some bytes)) ⊎ (change ≡ Some (Some bytes))
renewed_from None old new bytes same found = inl (refl, sym same ∙ found)
renewed_from (Some change) old new bytes (inl none) found = absurd (none-some bytes (sym none ∙ found))
renewed_from (Some change) old new bytes (inr is) found = inr (ap Some (sym is ∙ found))

module _ {S : Type 0} (M : Meanings S) (H : Holdings S) where
  abbrev pub cache_of : S → Payloads → BlockCache S
  cache_of s p = record { store = s; cached = p }

  abbrev pub past : Meanings (BlockCache S)
  past = meanings_past (λ (c : BlockCache S). c.store) (λ (c : BlockCache S). c.cached) M H

  live-used : (s : S) (p : Payloads) (id : BlockId) → AreLive H s p → AreLive H s (used_last id p)
  live-used s p id live = record {
    sized = λ q bytes h. live.sized q bytes (sym (cached-used id p q) ∙ h);
    there = λ q bytes h. live.there q bytes (sym (cached-used id p q) ∙ h);
  }

  -- a cached payload is answered, and its block is the one used last
  pub outcome-cached : Lawful M → (s : S) (p q : Payloads) (id : BlockId) (bytes : Vec ℕ Global) → M.intact s × AreLive H s p → cached_for p id.0 ≡ Some bytes.items → q ≡ used_last id p
      → Outcome past (Unit {0}) (cache_of s p) (cache_of s q) (Ok (Some bytes)) (λ _ answer. bytes_of answer ≡ H.content s id.0)
  outcome-cached laws s p q id bytes kept cached used = subst (λ q. Outcome past (Unit {0}) (cache_of s p) (cache_of s q) (Ok (Some bytes)) (λ _ answer. bytes_of answer ≡ H.content s id.0)) (sym used) (record {
    intact = (kept.0, live-used s p id kept.1);
    loaded = laws.same s;
    sound = λ sound h. (sound.0, λ q found h. sound.1 q found (sym (cached-used id p q) ∙ h));
    met = tt;
    fault = tt;
    quiet = refl;
    noticed = laws.gave_same s;
    value = λ n sound h. sym (sound.1 id.0 bytes.items cached);
    structure = λ n sound h. tt;
  })

  live-loaded : (s t : S) (p q : Payloads) (id payload : List ℕ) → Stays H s t → Grew id payload p q → length payload ≡ H.payload s → is_some (H.content s id) ≡ true → AreLive H s p → AreLive H t q
  live-loaded s t p q id payload stays grew sized there live = record {
    sized = λ other found h. elim (grew other found h) [
      | inl new ↦ ap length (sym new.1) ∙ (sized ∙ sym stays.payload)
      | inr old ↦ live.sized other found old ∙ sym stays.payload
    ];
    there = λ other found h. stays.ids other ∙ elim (grew other found h) [
      | inl new ↦ ap (λ x. is_some (H.content s x)) new.0 ∙ there
      | inr old ↦ live.there other found old
    ];
  }

  agree-loaded : (s t : S) (p q : Payloads) (id payload : List ℕ) → Stays H s t → Grew id payload p q → H.told s ≡ true → H.content s id ≡ Some payload → Agree H s p → Agree H t q
  agree-loaded s t p q id payload stays grew told is agree other found h = stays.content told other ∙ elim (grew other found h) [
    | inl new ↦ ap (H.content s) new.0 ∙ (is ∙ ap Some new.1)
    | inr old ↦ agree other found old
  ]

  loaded_some : Steady M H → (s t : S) (p q : Payloads) (id : BlockId) (bytes : Vec ℕ Global) → AreLive H s p → CachedOrNot id bytes.items p q → Stays H s t
      → is_some (H.content s id.0) ≡ true → length bytes.items ≡ H.payload s → Outcome M (Unit {0}) s t (Ok (Some bytes)) (λ _ answer. bytes_of answer ≡ H.content s id.0)
      → Outcome past (Unit {0}) (cache_of s p) (cache_of t q) (Ok (Some bytes)) (λ _ answer. bytes_of answer ≡ H.content s id.0)
  loaded_some steady s t p q id bytes live cached stays there sized o =
      lifted_with (λ (c : BlockCache S). c.store) (λ (c : BlockCache S). AreLive H c.store c.cached) (λ (c : BlockCache S). Agree H c.store c.cached) (cache_of s p) (cache_of t q)
      (live-loaded s t p q id.0 bytes.items stays (grew id bytes.items p q cached) sized there live)
      (λ sound agree h. agree-loaded s t p q id.0 bytes.items stays (grew id bytes.items p q cached) (steady.sound_told s sound) (sym (o.value tt sound h)) agree) o

  -- a payload was loaded from the store below
  pub outcome-loaded : Steady M H → (s t : S) (p q : Payloads) (id : BlockId) (bytes : Vec ℕ Global) (answer : Option (Vec ℕ Global)) → AreLive H s p → CachedOrNot id bytes.items p q → Stays H s t
      → answer ≡ Some bytes → is_some answer ≡ is_some (H.content s id.0) → IfSome answer (λ payload. length payload.items ≡ H.payload s) → Outcome M (Unit {0}) s t (Ok answer) (λ _ answer. bytes_of answer ≡ H.content s id.0)
      → Outcome past (Unit {0}) (cache_of s p) (cache_of t q) (Ok (Some bytes)) (λ _ answer. bytes_of answer ≡ H.content s id.0)
  outcome-loaded steady s t p q id bytes answer live cached stays is there sized o =
      loaded_some steady s t p q id bytes live cached stays (sym there ∙ ap is_some is) (subst (λ answer. IfSome answer (λ payload. length payload.items ≡ H.payload s)) is sized)
      (subst (λ answer. Outcome M (Unit {0}) s t (Ok answer) (λ _ answer. bytes_of answer ≡ H.content s id.0)) is o)

  pub live-stays : (s t : S) (p : Payloads) → Stays H s t → AreLive H s p → AreLive H t p
  live-stays s t p stays live = record {
    sized = λ id bytes found. live.sized id bytes found ∙ sym stays.payload;
    there = λ id bytes found. stays.ids id ∙ live.there id bytes found;
  }

  pub agree-stays : Steady M H → (s t : S) (p : Payloads) → Stays H s t → M.sound s × Agree H s p → Agree H t p
  agree-stays steady s t p stays sound id found h = stays.content (steady.sound_told s sound.0) id ∙ sound.1 id found h

  -- the store below was asked past the cache
  pub outcome-asked : Steady M H → (s t : S) (p : Payloads) {T N : Type 0} {r : Result T Fail} {P : N → T → Type 0} → AreLive H s p → Stays H s t → Outcome M N s t r P → Outcome past N (cache_of s p) (cache_of t p) r P
  outcome-asked steady s t p live stays o =
      lifted_with (λ (c : BlockCache S). c.store) (λ (c : BlockCache S). AreLive H c.store c.cached) (λ (c : BlockCache S). Agree H c.store c.cached) (cache_of s p) (cache_of t p)
      (live-stays s t p stays live) (λ sound agree h. agree-stays steady s t p stays (sound, agree)) o

  -- the changes of a batch were made, and followed
  pub live-renewed : (s t : S) (changes : Changes) (p q : Payloads) → ((id bytes : List ℕ) → get changes id ≡ Some (Some bytes) → length bytes ≡ H.payload s) → Changed M H s t changes → ((id : Id) → Renewed (get changes id) (cached_for p id) (cached_for q id)) → AreLive H s p → AreLive H t q
  live-renewed s t changes p q sized changed renewed live = record {
    sized = λ id bytes found. elim (renewed_from (get changes id) (cached_for p id) (cached_for q id) bytes (renewed id) found) [
      | inl old ↦ live.sized id bytes old.1 ∙ sym changed.payload
      | inr new ↦ sized id bytes new ∙ sym changed.payload
    ];
    there = λ id bytes found. changed.ids id ∙ elim (renewed_from (get changes id) (cached_for p id) (cached_for q id) bytes (renewed id) found) [
      | inl old ↦ ap (λ change. is_some (or_else change (H.content s id))) old.0 ∙ live.there id bytes old.1
      | inr new ↦ ap (λ change. is_some (or_else change (H.content s id))) new
    ];
  }

  agree-renewed : (s t : S) (changes : Changes) (p q : Payloads) → H.told s ≡ true → Changed M H s t changes → ((id : Id) → Renewed (get changes id) (cached_for p id) (cached_for q id)) → Agree H s p → Agree H t q
  agree-renewed s t changes p q told changed renewed agree id bytes found = changed.content told id ∙ elim (renewed_from (get changes id) (cached_for p id) (cached_for q id) bytes (renewed id) found) [
    | inl old ↦ ap (λ change. or_else change (H.content s id)) old.0 ∙ agree id bytes old.1
    | inr new ↦ ap (λ change. or_else change (H.content s id)) new
  ]

  pub changed-renewed : Steady M H → (s t : S) (changes : Changes) (p q : Payloads) → Changed M H s t changes → ((id : Id) → Renewed (get changes id) (cached_for p id) (cached_for q id))
      → Changed past (holdings_past (λ (c : BlockCache S). c.store) H) (cache_of s p) (cache_of t q) changes
  changed-renewed steady s t changes p q changed renewed = record {
    ids = changed.ids;
    content = changed.content;
    told = changed.told;
    used = changed.used;
    stays_used = changed.stays_used;
    few = changed.few;
    spent = changed.spent;
    kept = changed.kept;
    raised = changed.raised;
    rests = changed.rests;
    payload = changed.payload;
    sound = λ sound. (changed.sound sound.0, agree-renewed s t changes p q (steady.sound_told s sound.0) changed renewed sound.1);
  }
