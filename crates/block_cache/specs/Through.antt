-- What a store means through a cache: f is the store below, and p are the cached payloads.
use Rattle.std.specs.Prelude.{◌≡◌, ℕ, true, List, length, is_some, Option, Some, None, option_map}
use Rattle.store_api.specs.store_outcome.Meanings.{Meanings, Lawful}
use Rattle.store_api.specs.store_outcome.Lift.{lift_with, lawful_with}
use Rattle.store_api.specs.Content.{Id, Changes}
use Rattle.store_api.specs.Fronts.{front_of}
use Rattle.store_api.specs.Loads.{GivesPayload, LoadAnswer, LoadsOver}
use Rattle.store_api.specs.Holdings.{Holdings, Steady, Stays}
use Rattle.store_api.specs.Durables.{Durables, Records, Enduring}
use Rattle.block_cache.specs.Payloads.{Payloads, cached_for}

-- whether the store is sound or not, each cached payload has the length of payloads and an id of the content
pub record AreLive {S : Type 0} (H : Holdings S) (s : S) (payloads : Payloads) : Type 0 where
  pub sized : (id bytes : List ℕ) → cached_for payloads id ≡ Some bytes → length bytes ≡ H.payload s
  pub there : (id bytes : List ℕ) → cached_for payloads id ≡ Some bytes → is_some (H.content s id) ≡ true

-- each cached payload is the content's
abbrev pub Agree : {S : Type 0} → Holdings S → S → Payloads → Type 0
Agree H s payloads = (id bytes : List ℕ) → cached_for payloads id ≡ Some bytes → H.content s id ≡ Some bytes

-- a cached payload is answered, unless memory is wanting, and the store below is left; with none it is asked
abbrev pub LoadsPast : {S : Type 0} → (S → S → Id → LoadAnswer → Type 0) → Option (List ℕ) → S → S → Id → LoadAnswer → Type 0
LoadsPast loads cached a b id answer = LoadsOver loads (option_map Some cached) a b id answer

-- a cached payload's front is answered, unless memory is wanting, and the store below is left
abbrev pub FrontPast : {S : Type 0} → ℕ → Option (List ℕ) → S → S → LoadAnswer → Type 0
FrontPast most None a b answer = Unit {0}
FrontPast most (Some payload) a b answer = (b ≡ a) × GivesPayload (front_of most (Some payload)) answer

module _ {A B : Type 0} (f : A → B) (p : A → Payloads) where
  abbrev pub meanings_past : Meanings B → Holdings B → Meanings A
  meanings_past M H = lift_with f (λ a. AreLive H (f a) (p a)) (λ a. Agree H (f a) (p a)) M

  abbrev pub loads_past : (B → B → Id → LoadAnswer → Type 0) → A → A → Id → LoadAnswer → Type 0
  loads_past loads a b id answer = LoadsPast loads (cached_for (p a) id) (f a) (f b) id answer

  pub lawful_past : (M : Meanings B) (H : Holdings B) → Lawful M → Lawful (meanings_past M H)
  lawful_past M H l = lawful_with f (λ a. AreLive H (f a) (p a)) (λ a. Agree H (f a) (p a)) M l

-- what the store below holds
abbrev pub holdings_past : {A B : Type 0} → (A → B) → Holdings B → Holdings A
holdings_past f H = record {
  content = λ a. H.content (f a);
  told = λ a. H.told (f a);
  used = λ a. H.used (f a);
  spent = λ a. H.spent (f a);
  version = λ a. H.version (f a);
  payload = λ a. H.payload (f a);
}

-- what the store below is opened as and keeps
abbrev pub durables_past : {A B : Type 0} → (A → B) → Durables B → Durables A
durables_past f D = record {
  identity = λ a. D.identity (f a);
  trace = λ a. D.trace (f a);
  list = λ a. D.list (f a);
  is_record = λ a. D.is_record (f a);
  local_record_of = λ a. D.local_record_of (f a);
  least = λ a. D.least (f a);
  is_new = D.is_new;
}

pub steady_with : {A B : Type 0} (f : A → B) (own agrees : A → Type 0) (M : Meanings B) (H : Holdings B) → Steady M H → Steady (lift_with f own agrees M) (holdings_past f H)
steady_with f own agrees M H st = record {
  sound_told = λ a s. st.sound_told (f a) s.0;
  at_least = λ a i. st.at_least (f a) i.0;
  at_most = λ a i. st.at_most (f a) i.0;
  content_used = λ a id i. st.content_used (f a) id i.0;
  zero_unused = λ a i. st.zero_unused (f a) i.0;
  sized = λ a id bytes i. st.sized (f a) id bytes i.0;
  spent_used = λ a id i. st.spent_used (f a) id i.0;
  spent_last = λ a id i. st.spent_last (f a) id i.0;
  last_spent = λ a id i. st.last_spent (f a) id i.0;
  unused_version = λ a id i. st.unused_version (f a) id i.0;
  loaded_payload = λ a b. st.loaded_payload (f a) (f b);
  loaded_version = λ a b id. st.loaded_version (f a) (f b) id;
}

pub steady_past : {A B : Type 0} (f : A → B) (p : A → Payloads) (M : Meanings B) (H : Holdings B) → Steady M H → Steady (meanings_past f p M H) (holdings_past f H)
steady_past f p M H st = steady_with f (λ a. AreLive H (f a) (p a)) (λ a. Agree H (f a) (p a)) M H st

pub stays_past : {A B : Type 0} (f : A → B) (H : Holdings B) (a b : A) → Stays H (f a) (f b) → Stays (holdings_past f H) a b
stays_past f H a b stays = record { ids = stays.ids; content = stays.content; told = stays.told; used = stays.used; spent = stays.spent; version = stays.version; payload = stays.payload }

pub enduring_past : {A B : Type 0} (f : A → B) (p : A → Payloads) (M : Meanings B) (H : Holdings B) (applied : B → B → Changes → Type 0) (D : Durables B) (R : Records) → Enduring M H applied D R
    → Enduring (meanings_past f p M H) (holdings_past f H) (λ a b changes. applied (f a) (f b) changes) (durables_past f D) R
enduring_past f p M H applied D R e = record {
  stands_now = λ a kept i s. e.stands_now (f a) kept i.0 s.0;
  written = λ a with_list i. e.written (f a) with_list i.0;
  got_stands = e.got_stands;
  got_configures = e.got_configures;
  marked_configures = e.marked_configures;
  applied_config = λ a b. e.applied_config (f a) (f b);
  stands_same = e.stands_same;
  stands_unmarked = e.stands_unmarked;
  marked = λ a. e.marked (f a);
  long = λ a. e.long (f a);
  plain = λ a. e.plain (f a);
  plain_marked = λ a. e.plain_marked (f a);
  configures_now = λ a. e.configures_now (f a);
  configured_now = λ a. e.configured_now (f a);
  loaded_identity = λ a b. e.loaded_identity (f a) (f b);
  loaded_list = λ a b. e.loaded_list (f a) (f b);
  loaded_goes_on = λ a b. e.loaded_goes_on (f a) (f b);
  gave_along = λ a b c. e.gave_along (f a) (f b) (f c);
  loaded_last = λ a b. e.loaded_last (f a) (f b);
  loaded_records = λ a b. e.loaded_records (f a) (f b);
  loaded_record = λ a b. e.loaded_record (f a) (f b);
  loaded_least = λ a b. e.loaded_least (f a) (f b);
  applied_least = λ a b. e.applied_least (f a) (f b);
  applied_new = λ a b. e.applied_new (f a) (f b);
  applied_rest = λ a b. e.applied_rest (f a) (f b);
  loaded_stands = λ a b. e.loaded_stands (f a) (f b);
  loaded_configures = λ a b. e.loaded_configures (f a) (f b);
  applied_identity = λ a b. e.applied_identity (f a) (f b);
  applied_trace = λ a b. e.applied_trace (f a) (f b);
  applied_configures = λ a b changes bytes h i j. e.applied_configures (f a) (f b) changes bytes h i.0 j.0;
  in_order = λ a i. e.in_order (f a) i.0;
  nothing_waits = λ a. e.nothing_waits (f a);
  same_record = λ a. e.same_record (f a);
  short_record = λ a. e.short_record (f a);
}
