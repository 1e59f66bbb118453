-- A store's record at a keeper: what is kept, and what a sync makes of it.
use Rattle.std.specs.Prelude.{◌≡◌, ◌⊎◌, ◌<◌, ◌≤◌, ℕ, Bool, true, false, List, [], length, Result, IsErrOf, IsOk, OnOk, OnErr}
use Rattle.std.specs.declared.option.Option.{Option}
use Rattle.std.specs.declared.option.Option.TheVariants.{Some}
use Rattle.std.specs.declared.result.Result.TheVariants.{Ok, Err}
use Rattle.store_api.specs.store_outcome.Meanings.{Meanings}
use Rattle.outside.specs.Causes.{RoseBy}
use Rattle.outside.specs.Going.{GoesOn}
use Rattle.outside.specs.Plain.{IsPlain}
use Rattle.outside.specs.Trace.{Call}
use Rattle.outside.specs.Writes.{after_writes, StopsAt}
use Rattle.outside.specs.declared.keeper.Keeper.{Ghosts as KeeperGhosts}
use Rattle.store_api.specs.Content.{Content, SameContent}
use Rattle.store_api.specs.Durables.{Identity, Durables, Records, mark_place, with_mark}
use Rattle.store_api.specs.Holdings.{Holdings, Stays}
use Rattle.record_saver.specs.declared.saver.Saver.{Saver}
use Rattle.record_saver.specs.declared.saver.SyncError.{SyncError}
use Rattle.record_saver.specs.declared.saver.SyncError.TheVariants.{Memory, FaultDirectory, FaultState}

-- what is kept and the trace stand for this content
abbrev pub RepresentsContent : Records → Identity → Option (List ℕ) → Option (List Call) → Content → Type 0
RepresentsContent R identity kept trace content = (bytes : List ℕ) × (kept ≡ Some bytes) × R.stands identity bytes trace content

-- a record of this store with an empty list is kept
abbrev pub KeepsEmpty : {S : Type 0} → Durables S → S → Option (List ℕ) → Type 0
KeepsEmpty D store kept = (bytes : List ℕ) × (kept ≡ Some bytes) × D.is_record store false bytes

-- by what is kept and the trace, the configuration's file holds these bytes
abbrev pub KeptConfigures : Records → Option (List ℕ) → Option (List Call) → List ℕ → Type 0
KeptConfigures R kept trace bytes = (record_ : List ℕ) × (kept ≡ Some record_) × R.configures record_ trace bytes

-- where nothing changed since, the last record that was given is kept, it is one with an empty list, and nothing waits
pub record Whole {S : Type 0} {K : Type 0} (D : Durables S) (G : KeeperGhosts K) (saver : Saver K) (store : S) : Type 0 where
  pub kept : saver.changed ≡ false → G.kept saver.keeper ≡ Some saver.last.items
  pub last : saver.changed ≡ false → D.is_record store false saver.last.items
  pub none : saver.changed ≡ false → D.list store ≡ []

-- the last record can have its mark set
pub record CanMark {K : Type 0} (R : Records) (saver : Saver K) : Type 0 where
  pub marks : R.marked (with_mark saver.last.items)
  pub long : mark_place < length saver.last.items
  pub plain : IsPlain (with_mark saver.last.items)

-- what is kept is a record of this store, with its list or with an empty one
abbrev pub IsRecordOf : {S : Type 0} → Durables S → S → Option (List ℕ) → Type 0
IsRecordOf D store kept = (bytes : List ℕ) × (with_list : Bool) × (kept ≡ Some bytes) × D.is_record store with_list bytes

-- nothing is kept anew, and the directory wasn't changed
pub record Unmoved {S : Type 0} {K : Type 0} (D : Durables S) (G : KeeperGhosts K) (old : Saver K) (before : S) (new : Saver K) (after : S) : Type 0 where
  pub kept : G.kept new.keeper ≡ G.kept old.keeper
  pub trace : D.trace after ≡ D.trace before

-- after a sync this content is kept; after an error it may also be that nothing moved
abbrev pub Saved : {S : Type 0} {K : Type 0} → Durables S → Records → KeeperGhosts K → Saver K → S → Saver K → S → Content → Result Unit SyncError → Type 0
Saved D R G old before new after now (Ok _) = RepresentsContent R (D.identity after) (G.kept new.keeper) (D.trace after) now
Saved D R G old before new after now (Err _) = Unmoved D G old before new after ⊎ RepresentsContent R (D.identity after) (G.kept new.keeper) (D.trace after) now

-- after a sync the configuration's file holds these bytes by what is kept; after an error it may also be that nothing moved
abbrev pub SavedConfig : {S : Type 0} {K : Type 0} → Durables S → Records → KeeperGhosts K → Saver K → S → Saver K → S → List ℕ → Result Unit SyncError → Type 0
SavedConfig D R G old before new after bytes (Ok _) = KeptConfigures R (G.kept new.keeper) (D.trace after) bytes
SavedConfig D R G old before new after bytes (Err _) = Unmoved D G old before new after ⊎ KeptConfigures R (G.kept new.keeper) (D.trace after) bytes

-- a long record was saved: it is the last one, and it is kept
abbrev pub IsLongSaved : {S : Type 0} {K : Type 0} → Durables S → KeeperGhosts K → S → Saver K → Type 0
IsLongSaved D G before new = D.is_record before true new.last.items × (G.kept new.keeper ≡ Some new.last.items)

-- The last record is the one whose save last answered Ok: a short one after all three steps, and after an error in the later two a long one, which is kept unless a failed save of a short one kept that.
abbrev pub LastAfterLong : {S : Type 0} {K : Type 0} → Durables S → KeeperGhosts K → S → Saver K → Result Unit SyncError → Type 0
LastAfterLong D G before new (Ok _) = D.is_record before false new.last.items
LastAfterLong D G before new (Err Memory) = IsLongSaved D G before new
LastAfterLong D G before new (Err FaultDirectory) = IsLongSaved D G before new
LastAfterLong D G before new (Err FaultState) = D.is_record before true new.last.items × IsRecordOf D before (G.kept new.keeper)

-- Before the long record was saved the last one is that from before, and the store is as it was: for want of memory with the kept record, or by the failed save of the long one, which may have kept it.
abbrev pub LastBeforeLong : {S : Type 0} {K : Type 0} → Durables S → KeeperGhosts K → Saver K → S → Saver K → S → Result Unit SyncError → Type 0
LastBeforeLong D G old before new after (Ok _) = ⊥
LastBeforeLong D G old before new after (Err Memory) = (new.last.items ≡ old.last.items) × (after ≡ before) × (G.kept new.keeper ≡ G.kept old.keeper)
LastBeforeLong D G old before new after (Err FaultDirectory) = ⊥
LastBeforeLong D G old before new after (Err FaultState) =
    (new.last.items ≡ old.last.items) × (after ≡ before) × ((G.kept new.keeper ≡ G.kept old.keeper) ⊎ (G.kept new.keeper ≡ Some (D.local_record_of before true)))

-- what waited was written up to a call that failed, or all of it
abbrev pub Wrote : {S : Type 0} → Durables S → S → S → Type 0
Wrote D before after =
    StopsAt (D.list before) (D.trace before) (D.trace after) (D.list after) ⊎ ((D.trace after ≡ after_writes (D.list before) (D.trace before)) × (D.list after ≡ []))

-- this holds after every answer but a fault of the directory
abbrev pub UnlessDirectory : Result Unit SyncError → Type 0 → Type 0
UnlessDirectory (Ok _) P = P
UnlessDirectory (Err Memory) P = P
UnlessDirectory (Err FaultDirectory) P = Unit {0}
UnlessDirectory (Err FaultState) P = P

-- this holds after every answer but a fault of the keeper
abbrev pub UnlessState : Result Unit SyncError → Type 0 → Type 0
UnlessState (Ok _) P = P
UnlessState (Err Memory) P = P
UnlessState (Err FaultDirectory) P = P
UnlessState (Err FaultState) P = Unit {0}

-- a store and a keeper, by all that is said of them
pub record World (S : Type 0) (K : Type 0) : Type 1 where
  pub meanings : Meanings S
  pub holdings : Holdings S
  pub durables : Durables S
  pub records : Records
  pub keeper : KeeperGhosts K

abbrev pub world : {S : Type 0} → {K : Type 0} → Meanings S → Holdings S → Durables S → Records → KeeperGhosts K → World S K
world M H D R G = record { meanings = M; holdings = H; durables = D; records = R; keeper = G }

-- ---- what a saver's calls need and leave: old and a before, new and b after

-- what a sync needs
pub record CanSync {S : Type 0} {K : Type 0} (W : World S K) (saver : Saver K) (store : S) : Type 0 where
  pub intact : W.meanings.intact store
  pub room : length saver.last.items ≤ W.keeper.room saver.keeper
  pub whole : Whole W.durables W.keeper saver store

-- what it needs to keep a record with an empty list alone: nothing waits, and nothing changed since the last whole sync
pub record CanKeepShort {S : Type 0} {K : Type 0} (W : World S K) (saver : Saver K) (store : S) : Type 0 where
  pub intact : W.meanings.intact store
  pub room : length saver.last.items ≤ W.keeper.room saver.keeper
  pub none : W.durables.list store ≡ []
  pub unchanged : saver.changed ≡ false

-- a record with the list is kept, and was the last that was given
pub record IsLongKept {S : Type 0} {K : Type 0} (W : World S K) (saver : Saver K) (store : S) : Type 0 where
  pub intact : W.meanings.intact store
  pub room : length saver.last.items ≤ W.keeper.room saver.keeper
  pub kept : W.keeper.kept saver.keeper ≡ Some saver.last.items
  pub last : W.durables.is_record store true saver.last.items
  pub changed : saver.changed ≡ true

-- what any call that may sync leaves of its store and its keeper, however far it comes
pub record Leaves {S : Type 0} {K : Type 0} (W : World S K) (a : S) (k : K) (b : S) (l : K) (result : Result Unit SyncError) : Type 0 where
  pub identity : W.durables.identity b ≡ W.durables.identity a
  pub least : W.durables.least b ≡ W.durables.least a
  pub stays : Stays W.holdings a b
  pub sound : W.meanings.sound a → W.meanings.sound b
  pub goes_on : GoesOn (W.durables.trace a) (W.durables.trace b)
  pub forgeries : W.meanings.forgeries b ≡ W.meanings.forgeries a
  pub lies : W.meanings.lies b ≡ W.meanings.lies a
  -- each fault is told just where its count rose
  pub vault_grows : W.meanings.faults a ≤ W.meanings.faults b
  pub vault_cause : IsErrOf result FaultDirectory → RoseBy 1 (W.meanings.faults a) (W.meanings.faults b)
  pub vault_quiet : UnlessDirectory result (W.meanings.faults b ≡ W.meanings.faults a)
  pub keeper_grows : W.keeper.faults k ≤ W.keeper.faults l
  pub keeper_cause : IsErrOf result FaultState → RoseBy 1 (W.keeper.faults k) (W.keeper.faults l)
  pub keeper_quiet : UnlessState result (W.keeper.faults l ≡ W.keeper.faults k)

-- what each of the three calls leaves
pub record Moves {S : Type 0} {K : Type 0} (W : World S K) (old : Saver K) (a : S) (new : Saver K) (b : S) (result : Result Unit SyncError) : Type 0 where
  pub leaves : Leaves W a old.keeper b new.keeper result
  pub intact : W.meanings.intact b
  pub room : length new.last.items ≤ W.keeper.room new.keeper
  pub whole : Whole W.durables W.keeper new b
  pub ok : OnOk result (new.changed ≡ false)
  pub err : OnErr result (new.changed ≡ true)
  pub writes : OnOk result (W.durables.trace b ≡ after_writes (W.durables.list a) (W.durables.trace a))
  pub wrote : (b ≡ a) ⊎ Wrote W.durables a b
  -- what a record with the list says of the configuration's file it goes on to say, and what is written from here on says it
  pub waiting : (kept bytes : List ℕ) → W.durables.is_record a true kept → W.records.configures kept (W.durables.trace a) bytes → W.records.configures kept (W.durables.trace b) bytes
  pub present : (kept bytes : List ℕ) → W.holdings.told a ≡ true → W.durables.is_record a true kept → W.records.configures kept (W.durables.trace a) bytes → W.records.configures (W.durables.local_record_of b true) (W.durables.trace b) bytes

-- what the later two steps keep, where a record with the list was kept
pub record Finishes {S : Type 0} {K : Type 0} (W : World S K) (old : Saver K) (a : S) (new : Saver K) (b : S) (result : Result Unit SyncError) : Type 0 where
  pub stands : (now : Content) → W.meanings.sound a → (W.durables.identity a).marked ≡ false → SameContent now (W.holdings.content a) → RepresentsContent W.records (W.durables.identity b) (W.keeper.kept new.keeper) (W.durables.trace b) now
  pub configures : (kept bytes : List ℕ) → W.holdings.told a ≡ true → W.durables.is_record a true kept → W.records.configures kept (W.durables.trace a) bytes → KeptConfigures W.records (W.keeper.kept new.keeper) (W.durables.trace b) bytes
  pub last : LastAfterLong W.durables W.keeper a new result
  -- so does the last record, whether it is kept or not: a mark of it can be taken off
  pub stands_last : (now : Content) → W.meanings.sound a → (W.durables.identity a).marked ≡ false → SameContent now (W.holdings.content a) → W.records.stands (W.durables.identity b) new.last.items (W.durables.trace b) now
  pub keeps : (W.keeper.kept new.keeper ≡ W.keeper.kept old.keeper) ⊎ KeepsEmpty W.durables a (W.keeper.kept new.keeper)
  pub can_mark : CanMark W.records new

-- what a sync keeps
pub record Syncs {S : Type 0} {K : Type 0} (W : World S K) (old : Saver K) (a : S) (new : Saver K) (b : S) (result : Result Unit SyncError) : Type 0 where
  pub unchanged : old.changed ≡ false → IsOk result × (new ≡ old) × (b ≡ a)
  pub stands : (now : Content) → W.meanings.sound a → (W.durables.identity a).marked ≡ false → SameContent now (W.holdings.content a) → Saved W.durables W.records W.keeper old a new b now result
  pub configures : (kept bytes : List ℕ) → W.holdings.told a ≡ true → W.durables.is_record a true kept → W.records.configures kept (W.durables.trace a) bytes → SavedConfig W.durables W.records W.keeper old a new b bytes result
  pub last : LastBeforeLong W.durables W.keeper old a new b result ⊎ LastAfterLong W.durables W.keeper a new result
  -- what the last record stood for it stands for, or for what is now
  pub stands_last : (was now : Content) → W.records.stands (W.durables.identity a) old.last.items (W.durables.trace a) was → W.meanings.sound a → (W.durables.identity a).marked ≡ false → SameContent now (W.holdings.content a)
      → W.records.stands (W.durables.identity b) new.last.items (W.durables.trace b) was ⊎ W.records.stands (W.durables.identity b) new.last.items (W.durables.trace b) now
  pub keeps : (W.keeper.kept new.keeper ≡ W.keeper.kept old.keeper) ⊎ IsRecordOf W.durables a (W.keeper.kept new.keeper)
  pub can_mark : CanMark W.records old → CanMark W.records new

-- the last record has its mark, and is kept unless its save failed, which may have kept it
pub record Marks {K : Type 0} (G : KeeperGhosts K) (old new : Saver K) : Type 0 where
  pub last : new.last.items ≡ with_mark old.last.items
  pub changed : new.changed ≡ true
  pub kept : (G.kept new.keeper ≡ Some (with_mark old.last.items)) ⊎ ((G.kept new.keeper ≡ G.kept old.keeper) × RoseBy 1 (G.faults old.keeper) (G.faults new.keeper))
  pub room : G.room old.keeper ≤ G.room new.keeper
  pub grows : G.faults old.keeper ≤ G.faults new.keeper

-- What became of a save of the record with an empty list: it is kept, and the last; or for want of memory all is as it was;
-- or its save failed, so that either record may be kept, and the next sync saves again.
abbrev pub ShortSaved : {S : Type 0} {K : Type 0} → Durables S → KeeperGhosts K → S → Saver K → Saver K → Result Unit SyncError → Type 0
ShortSaved D G store old new (Ok _) = (new.last.items ≡ D.local_record_of store false) × (G.kept new.keeper ≡ Some new.last.items) × (new.changed ≡ false)
ShortSaved D G store old new (Err Memory) = (new.last.items ≡ old.last.items) × (G.kept new.keeper ≡ G.kept old.keeper) × (new.changed ≡ false)
ShortSaved D G store old new (Err FaultDirectory) = ⊥
ShortSaved D G store old new (Err FaultState) =
    (new.last.items ≡ old.last.items) × ((G.kept new.keeper ≡ G.kept old.keeper) ⊎ (G.kept new.keeper ≡ Some (D.local_record_of store false))) × (new.changed ≡ true)
