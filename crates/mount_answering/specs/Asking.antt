-- What a command makes of its session, less the sync before it.
use Rattle.std.specs.Prelude.{◌≡◌, ◌≢◌, ◌≤◌, ◌+◌, ℕ, false, List, length, Ok}
use Rattle.std.specs.FinMap as fin
use Rattle.fs_model.specs.Fitting.{IsFitting}
use Rattle.fs_model.specs.declared.command.Command.{Command}
use Rattle.fs_model.specs.declared.reply.Reply.{Reply}
use Rattle.fs_model.specs.Instant.{Instant}
use Rattle.fs_model.specs.Tree.{Tree}
use Rattle.mount_core.specs.store_outcome.Meanings.{Meanings}
use Rattle.outside.specs.Causes.{RoseBy}
use Rattle.outside.specs.Going.{GoesOn}
use Rattle.mount_core.specs.answers.declared.answer.Answer.{Answer}
use Rattle.mount_core.specs.answers.declared.answer.Answer.TheVariants.{Refused}
use Rattle.mount_core.specs.answers.Sessions.{is_violation, directory_faults, state_faults}
use Rattle.mount_core.specs.record_saver.Saving.{World, CanMark, Whole}
use Rattle.mount_core.specs.store_api.Content.{Changes}
use Rattle.mount_core.specs.store_api.Durables.{Durables}
use Rattle.mount_core.specs.store_api.Holdings.{Holdings, Stays, gives_payload}
use Rattle.mount_core.specs.store_api.Txs.{intact_in}
use Rattle.mount_core.specs.path_layer.Performing.{Showing, IsReplyTo}
use Rattle.mount_core.specs.path_layer.Sparing.{OnWriteInside}
use Rattle.mount_core.specs.declared.body.Core.{Core}
use Rattle.mount_core.specs.Answering.{SaverAnswers, store_of}
use Rattle.mount_core.specs.Answers.{is_done_answer, is_structure, Notices, OnFound, OnReply, OnSpent}
use Rattle.mount_core.specs.Causes.{OnlyLoaded, SpentCause}
use Rattle.mount_core.specs.Configuring.{CoreConfigures}
use Rattle.mount_core.specs.Keeping.{LineKeeps}
use Rattle.mount_core.specs.Sparing.{FewRaised}
use Rattle.mount_core.specs.Standing.{CoreStands, CorePerformed, Ready, Unapplied}

-- the keeper is left alone, and the session as it was
pub record KeepsSaver {S : Type 0} {K : Type 0} (old : Core S K) (answer : Answer) (new : Core S K) : Type 0 where
  pub keeper : new.saver.keeper ≡ old.saver.keeper
  pub last : new.saver.last ≡ old.saver.last
  pub saver : is_done_answer answer ≡ false → new.saver ≡ old.saver
  pub violated : new.violated ≡ old.violated
  pub root : new.root ≡ old.root

-- ---- a command

-- what it needs of its session
pub record CanAsk {S : Type 0} {K : Type 0} (W : World S K) (core : Core S K) (command : Command) : Type 0 where
  pub ready : Ready W core
  pub fits : IsFitting command

-- the answer names no fault of the keeper, has the form of the command, and is no refusal
pub record FormAsked (command : Command) (answer : Answer) : Type 0 where
  pub unfaulted : state_faults answer ≡ 0
  pub variant : OnReply answer (IsReplyTo command)
  pub served : answer ≢ Refused

pub record TreesAsked {S : Type 0} {K : Type 0} (shows : Showing) (W : World S K) (moment : Instant) (old : Core S K) (command : Command) (answer : Answer) (new : Core S K) : Type 0 where
  pub stands : (kept present : Tree) → CoreStands shows W old kept present → W.meanings.forgeries (store_of new) ≤ W.meanings.forgeries (store_of old) → CorePerformed shows W moment new kept present command answer
  pub configures : (may : List (List ℕ)) (now : List ℕ) → CoreConfigures W.holdings W.durables W.records W.keeper old may now → CoreConfigures W.holdings W.durables W.records W.keeper new may now
  pub alarm : (kept present : Tree) → CoreStands shows W old kept present → W.meanings.lies (store_of new) ≤ W.meanings.lies (store_of old) → is_violation answer ≡ false
  pub built : (kept present : Tree) → CoreStands shows W old kept present → W.meanings.forgeries (store_of new) ≤ W.meanings.forgeries (store_of old) → is_structure answer ≡ false
  pub sparing : (kept present : Tree) → CoreStands shows W old kept present → W.meanings.forgeries (store_of new) ≤ W.meanings.forgeries (store_of old)
      → OnWriteInside (W.holdings.payload (store_of old)) present command (FewRaised W.holdings (store_of old) (store_of new))

pub record StoreAsked {S : Type 0} (M : Meanings S) (H : Holdings S) (D : Durables S) (a : S) (command : Command) (answer : Answer) (b : S) : Type 0 where
  pub stays : is_done_answer answer ≡ false → Stays H a b
  pub identity : D.identity b ≡ D.identity a
  pub least : D.least b ≡ D.least a
  pub payload : H.payload b ≡ H.payload a
  pub goes_on : GoesOn (D.trace a) (D.trace b)
  pub sound : M.sound a → M.forgeries b ≤ M.forgeries a → M.sound b
  pub forgeries : M.forgeries a ≤ M.forgeries b
  pub lies : M.lies a ≤ M.lies b
  pub unforged : M.sound a → M.lies b ≤ M.lies a → M.forgeries b ≤ M.forgeries a
  pub loads : OnlyLoaded M H D false (is_done_answer answer) a b
  pub found : OnFound answer (M.met a b)
  pub noticed : Notices answer (M.gave a b)
  pub vault_grows : M.faults a ≤ M.faults b
  pub vault_cause : RoseBy (directory_faults answer) (M.faults a) (M.faults b)
  pub vault_quiet : directory_faults answer ≡ 0 → M.faults b ≡ M.faults a
  pub spent : OnSpent answer (SpentCause H a command)
  pub raised : (id : List ℕ) → H.version b id ≤ H.version a id + 1

-- ---- its reply, once its changes are applied

-- its changes can be applied, and of what is kept: the record can be marked, and has room
pub record CanSettle {S : Type 0} {K : Type 0} (W : World S K) (core : Core S K) : Type 0 where
  pub intact : intact_in W.meanings W.holdings core.blobs.tx
  pub room : length core.saver.last.items ≤ W.keeper.room core.saver.keeper
  pub can_mark : CanMark W.records core.saver
  pub whole : Whole W.durables W.keeper core.saver (store_of core)

pub record TreesSettled {S : Type 0} {K : Type 0} (shows : Showing) (W : World S K) (old : Core S K) (command : Command) (reply : Reply) (answer : Answer) (new : Core S K) : Type 0 where
  pub stands : (moment : Instant) (kept now : Tree) → Unapplied shows W moment old kept now command reply → CorePerformed shows W moment new kept now command answer
  pub configures : (may : List (List ℕ)) (now : List ℕ) → CoreConfigures W.holdings W.durables W.records W.keeper old may now → CoreConfigures W.holdings W.durables W.records W.keeper new may now

pub record StoreSettled {S : Type 0} (M : Meanings S) (H : Holdings S) (D : Durables S) (a : S) (overlay : Changes) (command : Command) (answer : Answer) (b : S) : Type 0 where
  pub stays : is_done_answer answer ≡ false → Stays H a b
  pub loaded : is_done_answer answer ≡ false → M.loaded a b
  pub uncalled : D.trace b ≡ D.trace a
  pub goes_on : GoesOn (D.trace a) (D.trace b)
  pub sound : M.sound a → M.sound b
  pub payload : H.payload b ≡ H.payload a
  pub identity : D.identity b ≡ D.identity a
  pub least : D.least b ≡ D.least a
  pub forgeries : M.forgeries b ≡ M.forgeries a
  pub lies : M.lies b ≡ M.lies a
  pub faults : M.faults b ≡ M.faults a
  pub spent : OnSpent answer (SpentCause H a command)
  pub raised : (id : List ℕ) → H.version b id ≤ H.version a id + 1
  pub rests : (id : List ℕ) → gives_payload (fin.get overlay id) ≡ false → H.version b id ≡ H.version a id

-- ---- a line

-- what it leaves of the keeper and the last record, and what is kept then
pub record SaverLeaves {S : Type 0} {K : Type 0} (W : World S K) (old : Core S K) (command : Command) (answer : Answer) (new : Core S K) : Type 0 where
  pub saver : SaverAnswers W old (Ok command) answer new
  pub keeps : LineKeeps W.durables W.records W.keeper (store_of old) old.saver answer new.saver
