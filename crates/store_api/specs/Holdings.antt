-- What a store of payloads holds, and what stays of it while blocks are only loaded.
use Rattle.std.specs.Prelude.{◌≡◌, ◌⊎◌, ◌≤◌, ◌<◌, ◌+◌, ◌^◌, ◌&&◌, ℕ, Bool, true, false, not, List, length, is_some}
use Rattle.std.specs.List.{list_any}
use Rattle.std.specs.declared.option.Option.{Option}
use Rattle.std.specs.declared.option.Option.TheVariants.{None, Some}
use Rattle.std.specs.FinMap.{get}
use Rattle.block_id.specs.Fresh.{zero_id}
use Rattle.block_id.specs.declared.sizes.TheConstants.{MIN_PAYLOAD, MAX_BLOCK}
use Rattle.store_outcome.specs.Meanings.{Meanings}
use Rattle.store_api.specs.Content.{Id, Content, same_id, SameIds, SameContent, Changes, over}

pub record Holdings (S : Type 0) : Type 1 where
  -- the payloads by their ids; where they aren't told, only the ids count
  pub content : S → Content
  -- whether the payloads are told
  pub told : S → Bool
  -- the ids that were ever in the content, each once or more often
  pub used : S → List Id
  -- the ids that can get no further payload
  pub spent : S → Id → Bool
  -- how often an id got a payload that counts: its known version, and 0 where it never did
  pub version : S → Id → ℕ
  -- the length of each payload
  pub payload : S → ℕ

abbrev pub has_id : List Id → Id → Bool
has_id ids id = list_any (same_id id) ids

-- neither used nor zero
abbrev pub is_free : List Id → Id → Bool
is_free used id = not (has_id used id) && not (same_id id zero_id)

-- so few ids are used that one is always free
abbrev pub IsFew : List Id → Type 0
IsFew used = length used < 2 ^ 64

-- what holds of every store that is intact
pub record Steady {S : Type 0} (M : Meanings S) (H : Holdings S) : Type 0 where
  pub sound_told : (a : S) → M.sound a → H.told a ≡ true
  pub at_least : (a : S) → M.intact a → MIN_PAYLOAD ≤ H.payload a
  pub at_most : (a : S) → M.intact a → H.payload a ≤ MAX_BLOCK
  pub content_used : (a : S) (id : Id) → M.intact a → is_some (H.content a id) ≡ true → has_id (H.used a) id ≡ true
  pub zero_unused : (a : S) → M.intact a → has_id (H.used a) zero_id ≡ false
  pub sized : (a : S) (id bytes : List ℕ) → M.intact a → H.told a ≡ true → H.content a id ≡ Some bytes → length bytes ≡ H.payload a
  pub spent_used : (a : S) (id : Id) → M.intact a → H.spent a id ≡ true → has_id (H.used a) id ≡ true
  -- an id is spent exactly where its version is the last of 64 bits
  pub spent_last : (a : S) (id : Id) → M.intact a → H.spent a id ≡ true → H.version a id + 1 ≡ 2 ^ 64
  pub last_spent : (a : S) (id : Id) → M.intact a → H.version a id + 1 ≡ 2 ^ 64 → H.spent a id ≡ true
  pub unused_version : (a : S) (id : Id) → M.intact a → has_id (H.used a) id ≡ false → H.version a id ≡ 0
  -- loading leaves the length of a payload, and the versions
  pub loaded_payload : (a b : S) → M.loaded a b → H.payload b ≡ H.payload a
  pub loaded_version : (a b : S) (id : Id) → M.loaded a b → H.version b id ≡ H.version a id

-- a call left what the store holds
pub record Stays {S : Type 0} (H : Holdings S) (a b : S) : Type 0 where
  pub ids : SameIds (H.content a) (H.content b)
  pub content : H.told a ≡ true → SameContent (H.content a) (H.content b)
  pub told : H.told b ≡ H.told a
  pub used : H.used b ≡ H.used a
  pub spent : (id : Id) → H.spent b id ≡ H.spent a id
  pub version : (id : Id) → H.version b id ≡ H.version a id
  pub payload : H.payload b ≡ H.payload a

-- an id may get a payload: it is in the content, or it is a new one
abbrev pub MayGet : {S : Type 0} → Holdings S → S → Id → Type 0
MayGet H s id = (is_some (H.content s id) ≡ true) ⊎ (is_free (H.used s) id ≡ true)

-- each payload has its length and an id that may get it; each removed id is in the content
pub record FitsStore {S : Type 0} (H : Holdings S) (s : S) (changes : Changes) : Type 0 where
  pub sized : (id bytes : List ℕ) → get changes id ≡ Some (Some bytes) → length bytes ≡ H.payload s
  pub gets : (id bytes : List ℕ) → get changes id ≡ Some (Some bytes) → MayGet H s id
  pub removes : (id : Id) → get changes id ≡ Some None → is_some (H.content s id) ≡ true

-- the change is a payload
abbrev pub gives_payload : Option (Option (List ℕ)) → Bool
gives_payload None = false
gives_payload (Some None) = false
gives_payload (Some (Some bytes)) = true

-- the store after a batch
pub record Changed {S : Type 0} (M : Meanings S) (H : Holdings S) (a b : S) (changes : Changes) : Type 0 where
  pub ids : (id : Id) → is_some (H.content b id) ≡ is_some (over changes (H.content a) id)
  pub content : H.told a ≡ true → SameContent (over changes (H.content a)) (H.content b)
  pub told : H.told b ≡ H.told a
  pub used : (id : Id) → has_id (H.used b) id ≡ true → (has_id (H.used a) id ≡ true) ⊎ (is_some (get changes id) ≡ true)
  pub stays_used : (id : Id) → has_id (H.used a) id ≡ true → has_id (H.used b) id ≡ true
  pub few : IsFew (H.used a) → IsFew (H.used b)
  pub spent : (id : Id) → get changes id ≡ None → H.spent b id ≡ H.spent a id
  -- no version falls, none rises by more than one, and that of an id without a new payload rests
  pub kept : (id : Id) → H.version a id ≤ H.version b id
  pub raised : (id : Id) → H.version b id ≤ H.version a id + 1
  pub rests : (id : Id) → gives_payload (get changes id) ≡ false → H.version b id ≡ H.version a id
  pub payload : H.payload b ≡ H.payload a
  pub sound : M.sound a → M.sound b

-- some id that gets a payload can get none
abbrev pub IsSpent : {S : Type 0} → Holdings S → S → Changes → Type 0
IsSpent H s changes = (id : Id) × (bytes : List ℕ) × (get changes id ≡ Some (Some bytes)) × (H.spent s id ≡ true)
