-- What writing blocks anew takes of the stream of chance, and what it leaves as kept: a before, b after.
use Rattle.std.specs.Prelude.{◌≡◌, ◌⊎◌, true, false, List, [], ◌∷◌}
use Rattle.std.specs.declared.option.Option.TheVariants.{Some}
use Rattle.mount_answering.specs.answers.Sessions.{is_violation}
use Rattle.mount_answering.specs.answers.declared.answer.Answer.{Answer}
use Rattle.rand_core.specs.Stream.{Stream}
use Rattle.mount_answering.specs.record_saver.Saving.{World, Wrote}
use Rattle.mount_answering.specs.store_api.Content.{Changes}
use Rattle.mount_answering.specs.store_api.Durables.{with_mark}
use Rattle.mount_answering.specs.mount_core.declared.body.Core.{Core}
use Rattle.mount_answering.specs.mount_core.Answering.{store_of}
use Rattle.mount_answering.specs.mount_core.Drawing.{DrawsOnce, NamesKnown}
use Rattle.mount_answering.specs.mount_core.Keeping.{SyncKeeps}
use Rattle.mount_migrating.specs.Noticing.{OnlySet}

-- a session that is reached, with what is left of the stream there
pub record Reached (S K : Type 0) : Type 0 where
  pub core : Core S K
  pub left : Stream

-- A sync may have come first, which used no new id, and then one batch was applied at most, which has none either. What is kept afterwards, and the last record, is what it
-- was, or a record of the store as it was before.
pub record StepDraws {S : Type 0} {K : Type 0} (W : World S K) (applied : S → S → Changes → Type 0) (drawn : S → S → Changes → Stream → Stream → Type 0) (a b : Core S K) (stream left : Stream) : Type 0 where
  pub synced : S
  pub wrote : (synced ≡ store_of a) ⊎ Wrote W.durables (store_of a) synced
  pub used : W.holdings.used synced ≡ W.holdings.used (store_of a)
  pub once : DrawsOnce W.meanings (NamesKnown W.holdings) applied drawn synced (store_of b) stream left
  pub keeps : SyncKeeps W.durables W.keeper (store_of a) a.saver b.saver

-- Such steps follow one another, and these sessions stand between them: what one leaves of the stream, the next takes.
abbrev pub DrawsSteps : {S : Type 0} → {K : Type 0} → World S K → (S → S → Changes → Type 0) → (S → S → Changes → Stream → Stream → Type 0) → List (Reached S K) → Core S K → Core S K → Stream → Stream → Type 0
DrawsSteps W applied drawn [] a b stream left = StepDraws W applied drawn a b stream left
DrawsSteps W applied drawn (mid ∷ mids) a b stream left =
    StepDraws W applied drawn a mid.core stream mid.left × W.meanings.intact (store_of mid.core) × DrawsSteps W applied drawn mids mid.core b mid.left left

-- the same, whatever stands between
abbrev pub DrawsAlong : {S : Type 0} → {K : Type 0} → World S K → (S → S → Changes → Type 0) → (S → S → Changes → Stream → Stream → Type 0) → Core S K → Core S K → Stream → Stream → Type 0
DrawsAlong W applied drawn a b stream left = (mids : List (Reached _ _)) × DrawsSteps W applied drawn mids a b stream left

-- what a sync, or none, leaves: what waited was written, or a part of it from its front, and what is kept, as the last record, is what it was or a record of the store before
pub record SyncLeaves {S : Type 0} {K : Type 0} (W : World S K) (a b : Core S K) : Type 0 where
  pub wrote : (store_of b ≡ store_of a) ⊎ Wrote W.durables (store_of a) (store_of b)
  pub keeps : SyncKeeps W.durables W.keeper (store_of a) a.saver b.saver
  pub least : W.durables.least (store_of b) ≡ W.durables.least (store_of a)

-- only the least format was set, and a record of a store in which only that was set may have been kept
pub record SetsOnly {S : Type 0} {K : Type 0} (W : World S K) (a b : Core S K) : Type 0 where
  pub set : OnlySet W.holdings W.durables (store_of a) (store_of b)
  pub short : S
  pub set_short : OnlySet W.holdings W.durables (store_of a) short
  pub keeps : SyncKeeps W.durables W.keeper short a.saver b.saver

-- At last at most the least format was set, which draws nothing, and a record of a store in which only that was set may have been kept.
pub record DrawsAnew {S : Type 0} {K : Type 0} (W : World S K) (applied : S → S → Changes → Type 0) (drawn : S → S → Changes → Stream → Stream → Type 0) (a b : Core S K) (stream left : Stream) : Type 0 where
  pub end : Core S K
  pub along : DrawsAlong W applied drawn a end stream left
  pub set : OnlySet W.holdings W.durables (store_of end) (store_of b)
  pub short : S
  pub set_short : OnlySet W.holdings W.durables (store_of end) short
  pub keeps : SyncKeeps W.durables W.keeper short end.saver b.saver

-- after a violation the last record may have been kept with its mark
pub record DrawsMarked {S : Type 0} {K : Type 0} (W : World S K) (applied : S → S → Changes → Type 0) (drawn : S → S → Changes → Stream → Stream → Type 0) (a : Core S K) (answer : Answer) (b : Core S K) (stream left : Stream) : Type 0 where
  pub before : Core S K
  pub anew : DrawsAnew W applied drawn a before stream left
  pub same_store : store_of b ≡ store_of before
  pub calm : is_violation answer ≡ false → b.saver ≡ before.saver
  pub marks : is_violation answer ≡ true → (W.keeper.kept b.saver.keeper ≡ Some (with_mark before.saver.last.items)) ⊎ (W.keeper.kept b.saver.keeper ≡ W.keeper.kept before.saver.keeper)
