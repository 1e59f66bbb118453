-- What a store means whose changes wait until they are written out.
use Rattle.std.specs.Prelude.{◌≡◌, ◌⊎◌, ◌<◌, ℕ, Bool, true, false, List, [], length, slice_set, is_some}
use Rattle.std.specs.declared.option.Option.{Option}
use Rattle.std.specs.declared.option.Option.TheVariants.{None, Some}
use Rattle.block_id.specs.declared.fail.Why.{Why}
use Rattle.outside.specs.Trace.{At, Call, config, block, got, adds}
use Rattle.outside.specs.Changes.{change_at, IsIncreasing}
pub use Rattle.outside.specs.Going.{GoesOn}
use Rattle.outside.specs.Honest.{LastChange, last_change}
use Rattle.outside.specs.Plain.{IsPlain}
use Rattle.store_outcome.specs.Meanings.{Meanings}
use Rattle.std.specs.FinMap.{get}
use Rattle.store_api.specs.Content.{Content, SameContent, Changes}
use Rattle.store_api.specs.Holdings.{Holdings}

-- What a store was opened as, which no call changes. A record stands for a content only under it: the same bytes mean
-- nothing under another block size, key or file system.
pub record Identity : Type 0 where
  -- whether a violation is marked in its record
  pub marked : Bool
  pub fs_id : List ℕ
  pub key_salt : List ℕ
  pub key_digest : List ℕ
  -- the number of the client whose record it is
  pub client : ℕ
  -- how many bytes a block's file has
  pub size : ℕ
  -- what a sealed text opens to with some extra bytes
  pub opens : List ℕ → List ℕ → Option (List ℕ)

pub record Durables (S : Type 0) : Type 1 where
  -- what the store was opened as
  pub identity : S → Identity
  -- the calls on the directory below, where it tells them
  pub trace : S → Option (List Call)
  -- the unwritten list, by increasing names
  pub list : S → List (At × Option (List ℕ))
  -- these bytes are a record of what it holds, with this list or with an empty one, in any form that a record may have
  pub is_record : S → Bool → List ℕ → Type 0
  -- the one that is written, with this list or with an empty one
  pub local_record_of : S → Bool → List ℕ
  -- the least format of files that is taken
  pub least : S → ℕ
  -- a file's bytes are of the newest format
  pub is_new : List ℕ → Type 0

-- the last change of a file, by the calls that are told
abbrev pub last_told : At → Option (List Call) → Option LastChange
last_told name None = None
last_told name (Some calls) = last_change name calls

-- the configuration's file holds these bytes: they wait, or nothing waits for it and they were put last, with the answer ok
abbrev pub IsConfigured : List (At × Option (List ℕ)) → Option (List Call) → List ℕ → Type 0
IsConfigured list trace bytes =
    (change_at config list ≡ Some (Some bytes)) ⊎ ((change_at config list ≡ None) × (last_told config trace ≡ Some (record { bytes = Some bytes; ok = true })))

-- the last change put a file of the newest format, with either answer
abbrev pub IsLastNew : (List ℕ → Type 0) → Option LastChange → Type 0
IsLastNew is_new last = (bytes : List ℕ) × (ok : Bool) × (last ≡ Some (record { bytes = Some bytes; ok = ok })) × is_new bytes

-- the same, where the calls are told
abbrev pub WasLastNew : (List ℕ → Type 0) → At → Option (List Call) → Type 0
WasLastNew is_new name None = Unit {0}
WasLastNew is_new name (Some calls) = IsLastNew is_new (last_change name calls)

-- what waits for a block, else its last change, is a file of the newest format
pub record IsNewFile {S : Type 0} (D : Durables S) (s : S) (id : List ℕ) : Type 0 where
  pub waiting : (change : Option (List ℕ)) → change_at (block id) (D.list s) ≡ Some change → (bytes : List ℕ) × (change ≡ Some bytes) × D.is_new bytes
  pub written : change_at (block id) (D.list s) ≡ None → WasLastNew D.is_new (block id) (D.trace s)

-- this may be the least format: the older one always, the newest where each block of the content is of it
abbrev pub MayBeLeast : {S : Type 0} → Durables S → Holdings S → S → ℕ → Type 0
MayBeLeast D H s least = (least ≡ 1) ⊎ ((least ≡ 2) × ((id : List ℕ) → is_some (H.content s id) ≡ true → IsNewFile D s id))

-- what records mean, whatever a store does since they were kept
pub record Records : Type 1 where
  -- in a store opened as this, this record and this trace stand for this content
  pub stands : Identity → List ℕ → Option (List Call) → Content → Type 0
  -- a violation was marked in this record
  pub marked : List ℕ → Type 0
  -- by this record and this trace, the configuration's file holds these bytes
  pub configures : List ℕ → Option (List Call) → List ℕ → Type 0

-- the place of a record's mark
abbrev pub mark_place : ℕ
mark_place = 19

-- the record with its mark set
abbrev pub with_mark : List ℕ → List ℕ
with_mark bytes = slice_set bytes mark_place 1

pub record Enduring {S : Type 0} (M : Meanings S) (H : Holdings S) (applied : S → S → Changes → Type 0) (D : Durables S) (R : Records) : Type 0 where
  -- what a sound store keeps now stands for its content, unless a violation is marked in it
  pub stands_now : (s : S) (kept : List ℕ) → M.intact s → M.sound s → (D.identity s).marked ≡ false → D.is_record s true kept → R.stands (D.identity s) kept (D.trace s) (H.content s)
  -- what is written is a record
  pub written : (s : S) (with_list : Bool) → M.intact s → D.is_record s with_list (D.local_record_of s with_list)
  -- a get of any file leaves what a kept record stands for and says of the configuration's file, and so does a mark of the latter
  pub got_stands : (identity : Identity) (kept : List ℕ) (trace : Option (List Call)) (content : Content) (name : At) (max : ℕ) (answer : Option (List ℕ)) → R.stands identity kept trace content → R.stands identity kept (adds trace (got name max answer)) content
  pub got_configures : (kept : List ℕ) (trace : Option (List Call)) (bytes : List ℕ) (name : At) (max : ℕ) (answer : Option (List ℕ)) → R.configures kept trace bytes → R.configures kept (adds trace (got name max answer)) bytes
  pub marked_configures : (kept : List ℕ) (trace : Option (List Call)) (bytes : List ℕ) → R.configures kept trace bytes → R.configures (with_mark kept) trace bytes
  -- a batch says nothing of the configuration's file
  pub applied_config : (a b : S) (changes : Changes) → applied a b changes → change_at config (D.list b) ≡ change_at config (D.list a)
  pub stands_same : (identity : Identity) (kept : List ℕ) (trace : Option (List Call)) (old new : Content) → SameContent old new → R.stands identity kept trace old → R.stands identity kept trace new
  pub stands_unmarked : (identity : Identity) (kept : List ℕ) (trace : Option (List Call)) (content : Content) → R.stands identity kept trace content → R.marked kept → ⊥
  pub marked : (s : S) (with_list : Bool) (kept : List ℕ) → D.is_record s with_list kept → R.marked (with_mark kept)
  pub long : (s : S) (with_list : Bool) (kept : List ℕ) → D.is_record s with_list kept → mark_place < length kept
  -- every keeper takes it, and takes it marked
  pub plain : (s : S) (with_list : Bool) (kept : List ℕ) → D.is_record s with_list kept → IsPlain kept
  pub plain_marked : (s : S) (with_list : Bool) (kept : List ℕ) → D.is_record s with_list kept → IsPlain (with_mark kept)
  -- what a store keeps now says of the configuration's file what its list and its trace do
  pub configures_now : (s : S) (kept bytes : List ℕ) → D.is_record s true kept → IsConfigured (D.list s) (D.trace s) bytes → R.configures kept (D.trace s) bytes
  pub configured_now : (s : S) (kept bytes : List ℕ) → D.is_record s true kept → R.configures kept (D.trace s) bytes → IsConfigured (D.list s) (D.trace s) bytes
  -- loading leaves the identity, the list and both records, and what any kept record stands for and says of the configuration's file
  pub loaded_identity : (a b : S) → M.loaded a b → D.identity b ≡ D.identity a
  pub loaded_list : (a b : S) → M.loaded a b → D.list b ≡ D.list a
  -- loading only adds calls, none of which changes a file
  pub loaded_goes_on : (a b : S) → M.loaded a b → GoesOn (D.trace a) (D.trace b)
  -- what calls gave is in the trace alone
  pub gave_along : (a b c : S) (why : Why) → D.trace c ≡ D.trace b → M.gave a c why → M.gave a b why
  pub loaded_last : (a b : S) (name : At) → M.loaded a b → last_told name (D.trace b) ≡ last_told name (D.trace a)
  pub loaded_records : (a b : S) (with_list : Bool) → M.loaded a b → D.local_record_of b with_list ≡ D.local_record_of a with_list
  pub loaded_record : (a b : S) (with_list : Bool) (kept : List ℕ) → M.loaded a b → D.is_record a with_list kept → D.is_record b with_list kept
  pub loaded_stands : (a b : S) (identity : Identity) (kept : List ℕ) (content : Content) → M.loaded a b → R.stands identity kept (D.trace a) content → R.stands identity kept (D.trace b) content
  pub loaded_configures : (a b : S) (kept bytes : List ℕ) → M.loaded a b → R.configures kept (D.trace a) bytes → R.configures kept (D.trace b) bytes
  -- changes of blocks leave the identity and the trace, and what the store keeps says the same of the configuration's file
  pub applied_identity : (a b : S) (changes : Changes) → applied a b changes → D.identity b ≡ D.identity a
  pub applied_trace : (a b : S) (changes : Changes) → applied a b changes → D.trace b ≡ D.trace a
  pub applied_configures : (a b : S) (changes : Changes) (bytes : List ℕ) → applied a b changes → M.intact a → M.intact b
      → R.configures (D.local_record_of a true) (D.trace a) bytes → R.configures (D.local_record_of b true) (D.trace b) bytes
  -- the unwritten list stands in order of its names
  pub in_order : (s : S) → M.intact s → IsIncreasing (D.list s)
  -- loading and a batch leave the least format; each payload of a batch waits as a file of the newest format, and what it doesn't name waits as before
  pub loaded_least : (a b : S) → M.loaded a b → D.least b ≡ D.least a
  pub applied_least : (a b : S) (changes : Changes) → applied a b changes → D.least b ≡ D.least a
  pub applied_new : (a b : S) (changes : Changes) (id payload : List ℕ) → applied a b changes → get changes id ≡ Some (Some payload)
      → (bytes : List ℕ) × (change_at (block id) (D.list b) ≡ Some (Some bytes)) × D.is_new bytes
  pub applied_rest : (a b : S) (changes : Changes) (id : List ℕ) → applied a b changes → get changes id ≡ None → change_at (block id) (D.list b) ≡ change_at (block id) (D.list a)
  -- where nothing waits the records with an empty list are those with the list, and what is written is the same
  pub nothing_waits : (s : S) → D.list s ≡ [] → D.local_record_of s true ≡ D.local_record_of s false
  pub same_record : (s : S) (kept : List ℕ) → D.list s ≡ [] → D.is_record s false kept → D.is_record s true kept
  pub short_record : (s : S) (kept : List ℕ) → D.list s ≡ [] → D.is_record s true kept → D.is_record s false kept
