-- Payloads of blocks in memory, that of the block used last first.
use Rattle.std.specs.Prelude.{◌≡◌, ◌⊎◌, ℕ, nat_eq, Bool, true, false, List, Vec, Option, Some, None, Ok, option_map, cond, Result, OnOk, OnErr}
use Rattle.std.specs.FinMap as fin
use Rattle.std.specs.Map.{lookup}
use Rattle.std.specs.Cmp.Lexicographic.{pointwise}
use Rattle.std.specs.declared.alloc.Global.{Global}
use Rattle.lru.specs.LruCache.{LruCache, lru_cache, promoted, put_entries}
use Rattle.block_id.specs.declared.id.BlockId.{BlockId}
use Rattle.store_api.specs.Content.{Id, Changes, same_id}
use Rattle.store_api.specs.Loads.{LoadAnswer}
use Rattle.store_api.specs.declared.blocks.ApplyError.{ApplyError}

abbrev pub Payloads : Type 0
Payloads = LruCache BlockId (Vec ℕ Global)

abbrev pub equal_ids : BlockId → BlockId → Bool
equal_ids a b = pointwise nat_eq a.0 b.0

-- the payload that is cached for an id
abbrev pub cached_for : Payloads → Id → Option (List ℕ)
cached_for payloads id = option_map (λ bytes. bytes.items) (lookup (λ key. pointwise nat_eq id key.0) payloads.entries)

-- the same, and this block is the one used last
abbrev pub used_last : BlockId → Payloads → Payloads
used_last id payloads = lru_cache (promoted (equal_ids id) payloads.entries) payloads.cap

-- with a payload of the block used last; where there would be too many, that of the block used longest ago goes
abbrev pub with_payload : BlockId → Vec ℕ Global → Payloads → Payloads
with_payload id bytes payloads = lru_cache (put_entries equal_ids payloads id bytes) payloads.cap

-- a payload was cached, or found no memory
abbrev pub CachedOrNot : BlockId → List ℕ → Payloads → Payloads → Type 0
CachedOrNot id payload old new = (new ≡ old) ⊎ ((bytes : Vec ℕ Global) × (bytes.items ≡ payload) × (new ≡ with_payload id bytes old))

-- What a load leaves, by whether the id was cached: a cached payload that was answered is the one used last, and a payload of the
-- store below is cached or finds no memory. Nothing else is cached, and no negative answer.
abbrev pub AfterLoad : Bool → BlockId → LoadAnswer → Payloads → Payloads → Type 0
AfterLoad true id (Ok answer) old new = new ≡ used_last id old
AfterLoad false id (Ok (Some payload)) old new = CachedOrNot id payload old new
AfterLoad cached id answer old new = new ≡ old

-- what the load of a front leaves: the block of a cached payload is the one used last, and a front is never cached
abbrev pub AfterFront : Bool → BlockId → LoadAnswer → Payloads → Payloads → Type 0
AfterFront true id (Ok answer) old new = new ≡ used_last id old
AfterFront cached id answer old new = new ≡ old

-- what becomes of what is cached for an id: where it wasn't changed it stays, else it is the new payload or nothing
abbrev pub Renewed : Option (Option (List ℕ)) → Option (List ℕ) → Option (List ℕ) → Type 0
Renewed None old new = new ≡ old
Renewed (Some change) old new = (new ≡ None) ⊎ (new ≡ change)

-- What a batch of changes leaves of what is cached: what is cached for each id becomes what its change makes of it. Where none was
-- made all is as it was.
pub record AfterApply (result : Result Unit ApplyError) (changes : Changes) (old new : Payloads) : Type 0 where
  pub renewed : OnOk result ((id : Id) → Renewed (fin.get changes id) (cached_for old id) (cached_for new id))
  pub kept : OnErr result (new ≡ old)
  pub capacity : new.cap ≡ old.cap

-- the same of any id, where one was changed
abbrev pub RenewedOne : Id → Option (List ℕ) → Payloads → Payloads → Id → Type 0
RenewedOne id change old new other = Renewed (cond (same_id other id) (Some change) None) (cached_for old other) (cached_for new other)
