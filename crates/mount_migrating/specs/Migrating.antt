-- What writing blocks anew makes of a session: old before, new after it.
use Rattle.std.specs.Prelude.{◌≡◌, ◌≢◌, ◌⊎◌, ◌≤◌, ◌+◌, ◌^◌, ℕ, Bool, true, false, List, [], Result, Ok, Err, OnOk, OnErr, is_some}
use Rattle.std.specs.declared.option.Option.TheVariants.{Some}
use Rattle.mount_answering.specs.answers.declared.answer.Answer.{Answer}
use Rattle.mount_answering.specs.answers.declared.answer.Answer.TheVariants.{Reply as Replied, Memory, Spent, FaultDirectory, FaultState, Violation}
use Rattle.mount_answering.specs.answers.Sessions.{is_violation, directory_faults, state_faults}
use Rattle.block_id.specs.declared.fail.Fail.{Fail}
use Rattle.block_id.specs.declared.fail.Fail.TheVariants as fail
use Rattle.block_id.specs.declared.fail.Why.{Why}
use Rattle.fs_model.specs.Tree.{Tree}
use Rattle.fs_model.specs.declared.reply.Reply.TheVariants.{Done}
use Rattle.mount_answering.specs.store_outcome.Meanings.{Meanings}
use Rattle.outside.specs.Causes.{RoseBy}
use Rattle.outside.specs.Going.{GoesOn}
use Rattle.mount_answering.specs.record_saver.Saving.{World}
use Rattle.mount_answering.specs.record_saver.declared.saver.SyncError.{SyncError}
use Rattle.mount_answering.specs.record_saver.declared.saver.SyncError.TheVariants as sync_error
use Rattle.mount_answering.specs.store_api.Content.{Id, SameIds}
use Rattle.mount_answering.specs.store_api.Durables.{Durables, IsNewFile}
use Rattle.mount_answering.specs.store_api.Holdings.{Holdings, has_id}
use Rattle.mount_answering.specs.store_api.declared.blocks.ApplyError.{ApplyError}
use Rattle.mount_answering.specs.store_api.declared.blocks.ApplyError.TheVariants as apply_error
use Rattle.mount_answering.specs.mount_core.Showing.{Showing}
use Rattle.mount_answering.specs.mount_core.declared.body.Core.{Core}
use Rattle.mount_answering.specs.mount_core.Answering.{store_of}
use Rattle.mount_answering.specs.mount_core.Answers.{is_structure, OnFound, OnSpent}
use Rattle.mount_answering.specs.mount_core.Configuring.{CoreConfigures, ConfigAnswered}
use Rattle.mount_answering.specs.mount_core.Standing.{CoreStands, Roomed, Left, IsKeptMarked}
use Rattle.mount_migrating.specs.declared.error.MigrateError.{MigrateError}
use Rattle.mount_migrating.specs.declared.error.MigrateError.TheVariants as error

-- ---- errors

abbrev pub error_of_fail : Fail → MigrateError
error_of_fail fail.Memory = error.Memory
error_of_fail fail.Fault = error.FaultDirectory
error_of_fail (fail.Violation why) = error.Violation why

abbrev pub error_of_apply : ApplyError → MigrateError
error_of_apply apply_error.Memory = error.Memory
error_of_apply apply_error.Spent = error.Spent

abbrev pub error_of_sync : SyncError → MigrateError
error_of_sync sync_error.Memory = error.Memory
error_of_sync sync_error.FaultDirectory = error.FaultDirectory
error_of_sync sync_error.FaultState = error.FaultState

-- as the answer of a session
abbrev pub answer_of : MigrateError → Answer
answer_of error.Memory = Memory
answer_of error.Spent = Spent
answer_of error.FaultDirectory = FaultDirectory
answer_of error.FaultState = FaultState
answer_of (error.Violation why) = Violation why

-- what is told: that it is done, or why not
abbrev pub told : {T : Type 0} → Result T MigrateError → Answer
told (Ok n) = Replied Done
told (Err e) = answer_of e

abbrev pub is_done : {T : Type 0} → Result T MigrateError → Bool
is_done (Ok n) = true
is_done (Err e) = false

-- ---- ids

-- they are the ids of the content
abbrev pub AreLive : {S : Type 0} → Holdings S → S → List Id → Type 0
AreLive H s ids = (id : Id) → has_id ids id ≡ is_some (H.content s id)

-- one of them can get no further payload: its version is the last of 64 bits
abbrev pub IsSpentAmong : {S : Type 0} → Holdings S → S → List Id → Type 0
IsSpentAmong H s ids = (id : Id) × (has_id ids id ≡ true) × (H.version s id + 1 ≡ 2 ^ 64)

-- none of them is at its last version
abbrev pub AreUnspent : {S : Type 0} → Holdings S → S → List Id → Type 0
AreUnspent H s ids = (id : Id) → has_id ids id ≡ true → H.version s id + 1 ≢ 2 ^ 64

-- each of them is a file of the newest format
abbrev pub AreNew : {S : Type 0} → Holdings S → Durables S → S → List Id → Type 0
AreNew H D s ids = (id : Id) → has_id ids id ≡ true → IsNewFile D s id

-- no version rose by more than one, and only those of these ids
pub record Raises {S : Type 0} (H : Holdings S) (a b : S) (ids : List Id) : Type 0 where
  pub raised : (id : Id) → H.version b id ≤ H.version a id + 1
  pub rests : (id : Id) → has_id ids id ≡ false → H.version b id ≡ H.version a id

-- ---- a step

-- however far it comes: the tree that is present stays, and the configuration's file
pub record Proceeds {S : Type 0} {K : Type 0} (shows : Showing) (W : World S K) (old new : Core S K) : Type 0 where
  pub stands : (kept now : Tree) → CoreStands shows W old kept now → W.meanings.forgeries (store_of new) ≤ W.meanings.forgeries (store_of old) → Roomed shows W new kept now
  pub configures : (may : List (List ℕ)) (now : List ℕ) → CoreConfigures W.holdings W.durables W.records W.keeper old may now → CoreConfigures W.holdings W.durables W.records W.keeper new may now
  pub identity : W.durables.identity (store_of new) ≡ W.durables.identity (store_of old)
  pub payload : W.holdings.payload (store_of new) ≡ W.holdings.payload (store_of old)
  pub ids : SameIds (W.holdings.content (store_of old)) (W.holdings.content (store_of new))
  pub goes_on : GoesOn (W.durables.trace (store_of old)) (W.durables.trace (store_of new))
  pub sound : W.meanings.sound (store_of old) → W.meanings.forgeries (store_of new) ≤ W.meanings.forgeries (store_of old) → W.meanings.sound (store_of new)
  pub forgeries : W.meanings.forgeries (store_of old) ≤ W.meanings.forgeries (store_of new)
  pub lies : W.meanings.lies (store_of old) ≤ W.meanings.lies (store_of new)
  pub unforged : W.meanings.sound (store_of old) → W.meanings.lies (store_of new) ≤ W.meanings.lies (store_of old) → W.meanings.forgeries (store_of new) ≤ W.meanings.forgeries (store_of old)
  pub violated : new.violated ≡ old.violated
  pub root : new.root ≡ old.root

-- a block was found wrong in this way, by a load of it from what this came to
pub record IsFoundSince {S : Type 0} (M : Meanings S) (D : Durables S) (a b : S) (why : Why) : Type 0 where
  pub from : S
  pub goes_on : GoesOn (D.trace a) (D.trace from)
  pub loaded : M.loaded from b
  pub met : M.met from b why

-- why it ends so
pub record HasReason {S : Type 0} {K : Type 0} (shows : Showing) (W : World S K) (old : Core S K) (ids : List Id) (answer : Answer) (new : Core S K) : Type 0 where
  -- each fault is told just where its count rose
  pub vault_cause : RoseBy (directory_faults answer) (W.meanings.faults (store_of old)) (W.meanings.faults (store_of new))
  pub vault_quiet : directory_faults answer ≡ 0 → W.meanings.faults (store_of new) ≡ W.meanings.faults (store_of old)
  pub keeper_cause : RoseBy (state_faults answer) (W.keeper.faults old.saver.keeper) (W.keeper.faults new.saver.keeper)
  pub keeper_quiet : state_faults answer ≡ 0 → W.keeper.faults new.saver.keeper ≡ W.keeper.faults old.saver.keeper
  pub alarm : (kept now : Tree) → CoreStands shows W old kept now → W.meanings.lies (store_of new) ≤ W.meanings.lies (store_of old) → is_violation answer ≡ false
  pub of_blocks : is_structure answer ≡ false
  pub found : OnFound answer (IsFoundSince W.meanings W.durables (store_of old) (store_of new))
  pub spent : OnSpent answer (IsSpentAmong W.holdings (store_of old) ids)

-- a sync, or none: what was new stays so, and no new id is used
pub record Rests {S : Type 0} {K : Type 0} (shows : Showing) (W : World S K) (old : Core S K) (result : Result Unit MigrateError) (new : Core S K) : Type 0 where
  pub proceeds : Proceeds shows W old new
  pub reason : HasReason shows W old [] (told result) new
  pub used : W.holdings.used (store_of new) ≡ W.holdings.used (store_of old)
  pub versions : (id : Id) → W.holdings.version (store_of new) id ≡ W.holdings.version (store_of old) id
  pub stays_new : OnOk result ((id : Id) → IsNewFile W.durables (store_of old) id → IsNewFile W.durables (store_of new) id)

-- blocks of these ids were written anew, or those before an error
pub record Renews {S : Type 0} {K : Type 0} (shows : Showing) (W : World S K) (old : Core S K) (ids : List Id) (result : Result Unit MigrateError) (new : Core S K) : Type 0 where
  pub proceeds : Proceeds shows W old new
  pub reason : HasReason shows W old ids (told result) new
  pub raises : Raises W.holdings (store_of old) (store_of new) ids
  pub unspent : OnOk result (AreUnspent W.holdings (store_of old) ids)
  pub are_new : OnOk result (AreNew W.holdings W.durables (store_of new) ids)
  pub stays_new : OnOk result ((id : Id) → IsNewFile W.durables (store_of old) id → IsNewFile W.durables (store_of new) id)
  pub least : W.durables.least (store_of new) ≡ W.durables.least (store_of old)

-- the record with an empty list is kept, and says that no older format is taken
pub record IsMigratedRecord {S : Type 0} {K : Type 0} (W : World S K) (new : Core S K) : Type 0 where
  pub bytes : List ℕ
  pub kept : W.keeper.kept new.saver.keeper ≡ Some bytes
  pub is_record : W.durables.is_record (store_of new) false bytes
  pub least : W.durables.least (store_of new) ≡ 2
  pub unchanged : new.saver.changed ≡ false

-- ---- all of it

-- blocks of these ids were written anew and the record says so, or an error was met
pub record Moves {S : Type 0} {K : Type 0} (shows : Showing) (W : World S K) (old : Core S K) (ids : List Id) (result : Result Unit MigrateError) (new : Core S K) : Type 0 where
  pub proceeds : Proceeds shows W old new
  pub reason : HasReason shows W old ids (told result) new
  pub raises : Raises W.holdings (store_of old) (store_of new) ids
  pub unspent : OnOk result (AreUnspent W.holdings (store_of old) ids)
  pub done : OnOk result (IsMigratedRecord W new)
  -- after an error the older format is taken as before
  pub least : OnErr result (W.durables.least (store_of old) ≡ 1 → W.durables.least (store_of new) ≡ 1)
  -- after Ok the tree that is present is the one that is kept
  pub kept : OnOk result ((kept now : Tree) → CoreStands shows W old kept now → W.meanings.forgeries (store_of new) ≤ W.meanings.forgeries (store_of old) → CoreStands shows W new now now)

-- blocks of these ids were written anew and the record says so, or an error was met; after a violation the last record is marked
pub record Migrates {S : Type 0} {K : Type 0} (shows : Showing) (W : World S K) (old : Core S K) (ids : List Id) (result : Result Unit MigrateError) (new : Core S K) : Type 0 where
  pub violated : new.violated ≡ is_violation (told result)
  pub root : new.root ≡ old.root
  pub identity : W.durables.identity (store_of new) ≡ W.durables.identity (store_of old)
  pub payload : W.holdings.payload (store_of new) ≡ W.holdings.payload (store_of old)
  pub same_ids : SameIds (W.holdings.content (store_of old)) (W.holdings.content (store_of new))
  pub goes_on : GoesOn (W.durables.trace (store_of old)) (W.durables.trace (store_of new))
  pub forgeries : W.meanings.forgeries (store_of old) ≤ W.meanings.forgeries (store_of new)
  pub lies : W.meanings.lies (store_of old) ≤ W.meanings.lies (store_of new)
  pub unforged : W.meanings.sound (store_of old) → W.meanings.lies (store_of new) ≤ W.meanings.lies (store_of old) → W.meanings.forgeries (store_of new) ≤ W.meanings.forgeries (store_of old)
  pub stands : (kept now : Tree) → CoreStands shows W old kept now → W.meanings.forgeries (store_of new) ≤ W.meanings.forgeries (store_of old)
      → Left shows W new kept now now (is_violation (told result)) (is_done result)
  pub configures : (may : List (List ℕ)) (now : List ℕ) → CoreConfigures W.holdings W.durables W.records W.keeper old may now
      → ConfigAnswered W.holdings W.durables W.records W.keeper new may now (is_violation (told result))
  pub alarm : (kept now : Tree) → CoreStands shows W old kept now → W.meanings.lies (store_of new) ≤ W.meanings.lies (store_of old) → is_violation (told result) ≡ false
  pub of_blocks : is_structure (told result) ≡ false
  pub found : OnFound (told result) (IsFoundSince W.meanings W.durables (store_of old) (store_of new))
  pub spent : OnSpent (told result) (IsSpentAmong W.holdings (store_of old) ids)
  pub unspent : OnOk result (AreUnspent W.holdings (store_of old) ids)
  pub raises : Raises W.holdings (store_of old) (store_of new) ids
  pub done : OnOk result (IsMigratedRecord W new)
  -- after an error the older format is taken as before
  pub least : OnErr result (W.durables.least (store_of old) ≡ 1 → W.durables.least (store_of new) ≡ 1)
  pub vault_cause : RoseBy (directory_faults (told result)) (W.meanings.faults (store_of old)) (W.meanings.faults (store_of new))
  pub vault_quiet : directory_faults (told result) ≡ 0 → W.meanings.faults (store_of new) ≡ W.meanings.faults (store_of old)
  pub keeper_cause : RoseBy (state_faults (told result)) (W.keeper.faults old.saver.keeper) (W.keeper.faults new.saver.keeper)
  pub keeper_quiet : state_faults (told result) ≡ 0 → is_violation (told result) ≡ false → W.keeper.faults new.saver.keeper ≡ W.keeper.faults old.saver.keeper
  pub marked : is_violation (told result) ≡ true → IsKeptMarked W.records (W.keeper.kept new.saver.keeper) ⊎ RoseBy 1 (W.keeper.faults old.saver.keeper) (W.keeper.faults new.saver.keeper)
