-- What a session's calls leave of its core, said once for each store and keeper: old before the call, new after it.
use Rattle.std.specs.Prelude.{◌≡◌, ◌≢◌, ◌⊎◌, ◌≤◌, ◌<◌, ◌+◌, ℕ, Bool, true, false, ◌||◌, List, IfOk, IfErr, Result, IsOk, OnOk}
use Rattle.fs_model.specs.declared.command.Command.{Command}
use Rattle.fs_model.specs.declared.error.FsError.{FsError}
use Rattle.fs_model.specs.declared.reply.Reply.TheVariants.{Done, Error}
use Rattle.fs_model.specs.Instant.{Instant}
use Rattle.fs_model.specs.Tree.{Tree}
use Rattle.record_saver.specs.store_outcome.Meanings.{Meanings}
use Rattle.outside.specs.Causes.{RoseBy}
use Rattle.outside.specs.Going.{GoesOn}
use Rattle.answers.specs.declared.answer.Answer.{Answer}
use Rattle.answers.specs.declared.answer.Answer.TheVariants.{Reply as Replied, Memory, Refused}
use Rattle.answers.specs.Sessions.{Asked, FollowsAsked, is_violation, is_synced, directory_faults, state_faults}
use Rattle.record_saver.specs.store_api.Durables.{Durables}
use Rattle.record_saver.specs.store_api.Holdings.{Holdings, Stays}
use Rattle.record_saver.specs.store_api.Lists.{waiting_weight}
use Rattle.record_saver.specs.Saving.{World, KeepsEmpty, KeptConfigures, Wrote, Leaves}
use Rattle.record_saver.specs.declared.saver.SyncError.{SyncError}
use Rattle.path_layer.specs.Performing.{Showing, is_sync, IsReplyTo}
use Rattle.path_layer.specs.Sparing.{OnWriteInside}
use Rattle.mount_core.specs.declared.body.Core.{Core}
use Rattle.mount_core.specs.Answers.{is_done_answer, is_structure, OnFound, OnReply, OnSpent}
use Rattle.mount_core.specs.Causes.{FoundCause, MadeRoom, OnlyLoaded, PassedNone, SpentCause}
use Rattle.mount_core.specs.Configuring.{CoreConfigures, ConfigAnswered, ConfigClosed, ConfigSynced, Replaced}
use Rattle.mount_core.specs.Keeping.{IsSameOrRecord, ReplaceKeeps, SyncKeeps, LineKeeps}
use Rattle.mount_core.specs.Formats.{StaysLeast}
use Rattle.mount_core.specs.Sparing.{FewRaised}
use Rattle.mount_core.specs.Standing.{Ready, CoreStands, Synced, Roomed, IsKeptMarked, Left, Closed}

abbrev pub store_of : {S : Type 0} → {K : Type 0} → Core S K → S
store_of core = core.blobs.tx.store

-- ---- calls that may sync

-- whatever they answer
pub record CoreMoves {S : Type 0} {K : Type 0} (W : World S K) (old new : Core S K) (result : Result Unit SyncError) : Type 0 where
  pub ready : Ready W new
  pub leaves : Leaves W (store_of old) old.saver.keeper (store_of new) new.saver.keeper result
  pub violated : new.violated ≡ old.violated
  pub root : new.root ≡ old.root
  pub least : StaysLeast W (store_of old) (W.keeper.kept old.saver.keeper) (W.keeper.kept new.saver.keeper)

-- what a sync makes of what is kept
pub record CoreSyncs {S : Type 0} {K : Type 0} (shows : Showing) (W : World S K) (old new : Core S K) (result : Result Unit SyncError) : Type 0 where
  pub stands : (kept now : Tree) → CoreStands shows W old kept now → Synced shows W new kept now result
  pub configures : (may : List (List ℕ)) (now : List ℕ) → CoreConfigures W.holdings W.durables W.records W.keeper old may now → ConfigSynced W.holdings W.durables W.records W.keeper new may now result
  pub holds : (bytes : List ℕ) → W.holdings.told (store_of old) ≡ true → W.records.configures (W.durables.local_record_of (store_of old) true) (W.durables.trace (store_of old)) bytes
      → OnOk result (KeptConfigures W.records (W.keeper.kept new.saver.keeper) (W.durables.trace (store_of new)) bytes)
  pub emptied : OnOk result (KeepsEmpty W.durables (store_of new) (W.keeper.kept new.saver.keeper))
  pub ok : OnOk result (new.saver.changed ≡ false)
  pub unmoved : old.saver.changed ≡ false → IsOk result × (new ≡ old)
  pub wrote : (store_of new ≡ store_of old) ⊎ Wrote W.durables (store_of old) (store_of new)
  pub keeps : SyncKeeps W.durables W.keeper (store_of old) old.saver new.saver

-- what it makes of it where it comes first: where much waits, or the command is one
pub record MakesRoom {S : Type 0} {K : Type 0} (shows : Showing) (W : World S K) (old : Core S K) (command : Command) (new : Core S K) (result : Result Unit SyncError) : Type 0 where
  pub stands : (kept now : Tree) → CoreStands shows W old kept now → Roomed shows W new kept now
  pub synced : is_sync command ≡ true → (kept now : Tree) → CoreStands shows W old kept now → Synced shows W new kept now result
  pub configures : (may : List (List ℕ)) (now : List ℕ) → CoreConfigures W.holdings W.durables W.records W.keeper old may now → CoreConfigures W.holdings W.durables W.records W.keeper new may now
  pub unmoved : old.saver.changed ≡ false → IsOk result × (new ≡ old)
  pub few : OnOk result (waiting_weight (W.durables.list (store_of new)) < 8388608)
  pub spared : is_sync command ≡ false → waiting_weight (W.durables.list (store_of old)) < 8388608 → IsOk result × (new ≡ old)
  pub wrote : (store_of new ≡ store_of old) ⊎ Wrote W.durables (store_of old) (store_of new)
  pub keeps : SyncKeeps W.durables W.keeper (store_of old) old.saver new.saver

-- what it makes of it where the configuration's file is to hold these bytes
pub record CoreReplaces {S : Type 0} {K : Type 0} (shows : Showing) (W : World S K) (old : Core S K) (bytes : List ℕ) (new : Core S K) (result : Result Unit SyncError) : Type 0 where
  pub stands : (kept now : Tree) → CoreStands shows W old kept now → Synced shows W new kept now result
  pub configures : (may : List (List ℕ)) (now : List ℕ) → CoreConfigures W.holdings W.durables W.records W.keeper old may now → Replaced W.holdings W.durables W.records W.keeper new may now bytes result
  pub holds : W.holdings.told (store_of old) ≡ true → OnOk result (KeptConfigures W.records (W.keeper.kept new.saver.keeper) (W.durables.trace (store_of new)) bytes)
  pub emptied : OnOk result (KeepsEmpty W.durables (store_of new) (W.keeper.kept new.saver.keeper))
  pub ok : OnOk result (new.saver.changed ≡ false)
  -- also after an error, what was kept before or one of the two records of this store with these bytes waiting
  pub keeps : ReplaceKeeps W (store_of old) bytes old.saver new.saver

-- and the last one, which gives the store and the keeper back
pub record CoreCloses {S : Type 0} {K : Type 0} (shows : Showing) (W : World S K) (core : Core S K) (result : Result Unit SyncError) (store : S) (keeper : K) : Type 0 where
  pub stands : (kept now : Tree) → core.violated ≡ false → CoreStands shows W core kept now → Closed (shows (W.holdings.payload (store_of core)) core.root.0) W.durables W.records W.keeper store keeper kept now result
  pub configures : (may : List (List ℕ)) (now : List ℕ) → core.violated ≡ false → CoreConfigures W.holdings W.durables W.records W.keeper core may now → ConfigClosed W.records (W.keeper.kept keeper) (W.durables.trace store) may now result
  pub left : (core.violated ≡ true) ⊎ (core.saver.changed ≡ false) → IsOk result × (store ≡ store_of core) × (keeper ≡ core.saver.keeper)
  pub emptied : core.violated ≡ false → OnOk result (KeepsEmpty W.durables store (W.keeper.kept keeper))
  -- also after an error, what was kept before or one of this store's two records
  pub kept : core.violated ≡ false → IsSameOrRecord W.durables (store_of core) (W.keeper.kept core.saver.keeper) (W.keeper.kept keeper)
  pub least : StaysLeast W (store_of core) (W.keeper.kept core.saver.keeper) (W.keeper.kept keeper)
  pub wrote : (store ≡ store_of core) ⊎ Wrote W.durables (store_of core) store
  pub intact : W.meanings.intact store

-- ---- an answer

-- a line that is none gets its error, or finds no memory, or is refused
abbrev pub IsBadLineAnswer : FsError → Answer → Type 0
IsBadLineAnswer error answer = (answer ≡ Replied (Error error)) ⊎ ((answer ≡ Memory) ⊎ (answer ≡ Refused))

-- the tree that an answer leaves, and where it leaves the core
pub record LineAnswered {S : Type 0} {K : Type 0} (shows : Showing) (W : World S K) (moment : Instant) (core : Core S K) (kept present : Tree) (asked : Asked) (answer : Answer) : Type 0 where
  pub next : Tree
  pub follows : FollowsAsked moment present asked answer next
  pub left : Left shows W core kept present next (is_violation answer) (is_synced asked answer)

-- what a line leaves of its store: a before, b after; whether there was a violation before, and whether something changed since the last sync
pub record StoreAnswers {S : Type 0} (M : Meanings S) (H : Holdings S) (D : Durables S) (violated changed : Bool) (a : S) (asked : Asked) (answer : Answer) (b : S) : Type 0 where
  pub stays : is_done_answer answer ≡ false → Stays H a b
  pub stays_synced : IfOk asked (λ command. is_sync command ≡ true → Stays H a b)
  pub identity : D.identity b ≡ D.identity a
  pub least : D.least b ≡ D.least a
  pub payload : H.payload b ≡ H.payload a
  pub goes_on : GoesOn (D.trace a) (D.trace b)
  pub forgeries : M.forgeries a ≤ M.forgeries b
  pub lies : M.lies a ≤ M.lies b
  pub unforged : M.sound a → M.lies b ≤ M.lies a → M.forgeries b ≤ M.forgeries a
  pub loads : OnlyLoaded M H D changed (is_done_answer answer) a b
  pub room : IfOk asked (λ command. violated ≡ false → is_sync command ≡ false → MadeRoom M H D changed answer a b)
  pub found : OnFound answer (FoundCause M H D changed a b)
  pub noticed : PassedNone M H D changed answer a b
  pub vault_cause : RoseBy (directory_faults answer) (M.faults a) (M.faults b)
  pub vault_quiet : directory_faults answer ≡ 0 → M.faults b ≡ M.faults a
  pub spent : IfOk asked (λ command. OnSpent answer (SpentCause H a command))
  pub raised : (id : List ℕ) → H.version b id ≤ H.version a id + 1

-- what a line says of the session itself
pub record FormAnswers {S : Type 0} {K : Type 0} (old : Core S K) (asked : Asked) (answer : Answer) (new : Core S K) : Type 0 where
  pub refused : old.violated ≡ true → (answer ≡ Refused) × (new ≡ old)
  pub served : old.violated ≡ false → answer ≢ Refused
  pub violated : new.violated ≡ (is_violation answer || old.violated)
  pub unread : IfErr asked (λ error. IsBadLineAnswer error answer × (new ≡ old))
  pub root : new.root ≡ old.root
  pub variant : IfOk asked (λ command. OnReply answer (IsReplyTo command))

-- of the trees and the configuration that it stands for
pub record TreesAnswer {S : Type 0} {K : Type 0} (shows : Showing) (W : World S K) (moment : Instant) (old : Core S K) (asked : Asked) (answer : Answer) (new : Core S K) : Type 0 where
  pub stands : (kept present : Tree) → old.violated ≡ false → CoreStands shows W old kept present → W.meanings.forgeries (store_of new) ≤ W.meanings.forgeries (store_of old)
      → LineAnswered shows W moment new kept present asked answer
  pub configures : (may : List (List ℕ)) (present : List ℕ) → CoreConfigures W.holdings W.durables W.records W.keeper old may present → ConfigAnswered W.holdings W.durables W.records W.keeper new may present (is_violation answer)
  pub alarm : (kept present : Tree) → old.violated ≡ false → CoreStands shows W old kept present → W.meanings.lies (store_of new) ≤ W.meanings.lies (store_of old) → is_violation answer ≡ false
  pub built : (kept present : Tree) → old.violated ≡ false → CoreStands shows W old kept present → W.meanings.forgeries (store_of new) ≤ W.meanings.forgeries (store_of old) → is_structure answer ≡ false
  pub sparing : IfOk asked (λ command. (kept present : Tree) → CoreStands shows W old kept present → W.meanings.forgeries (store_of new) ≤ W.meanings.forgeries (store_of old)
      → OnWriteInside (W.holdings.payload (store_of old)) present command (FewRaised W.holdings (store_of old) (store_of new)))

-- and of what is kept: where nothing had changed since the last sync nothing was saved, only the reply Done came with a change, and a sync did nothing
pub record SaverAnswers {S : Type 0} {K : Type 0} (W : World S K) (old : Core S K) (asked : Asked) (answer : Answer) (new : Core S K) : Type 0 where
  pub unsaved : old.saver.changed ≡ false → is_violation answer ≡ false → (new.saver.keeper ≡ old.saver.keeper) × (new.saver.last ≡ old.saver.last)
  pub unchanged : old.saver.changed ≡ false → is_violation answer ≡ false → is_done_answer answer ≡ false → new.saver.changed ≡ false
  pub unmoved : IfOk asked (λ command. is_sync command ≡ true → old.violated ≡ false → old.saver.changed ≡ false → ((answer ≡ Replied Done) ⊎ (answer ≡ Memory)) × (new ≡ old))
  pub keeper_cause : RoseBy (state_faults answer) (W.keeper.faults old.saver.keeper) (W.keeper.faults new.saver.keeper)
  pub keeper_quiet : state_faults answer ≡ 0 → is_violation answer ≡ false → W.keeper.faults new.saver.keeper ≡ W.keeper.faults old.saver.keeper
  pub marked : is_violation answer ≡ true → IsKeptMarked W.records (W.keeper.kept new.saver.keeper) ⊎ RoseBy 1 (W.keeper.faults old.saver.keeper) (W.keeper.faults new.saver.keeper)
  pub least : StaysLeast W (store_of old) (W.keeper.kept old.saver.keeper) (W.keeper.kept new.saver.keeper)

-- asked this at this moment, a session gave this answer
pub record LineAnswers {S : Type 0} {K : Type 0} (shows : Showing) (W : World S K) (moment : Instant) (old : Core S K) (asked : Asked) (answer : Answer) (new : Core S K) : Type 0 where
  pub form : FormAnswers old asked answer new
  pub trees : TreesAnswer shows W moment old asked answer new
  pub store : StoreAnswers W.meanings W.holdings W.durables old.violated old.saver.changed (store_of old) asked answer (store_of new)
  pub saver : SaverAnswers W old asked answer new
  pub keeps : LineKeeps W.durables W.records W.keeper (store_of old) old.saver answer new.saver
