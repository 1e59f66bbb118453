-- What a call leaves as kept, and as the last record: old before, new after it.
use Rattle.std.specs.Prelude.{◌≡◌, ◌⊎◌, ℕ, true, false, List}
use Rattle.std.specs.declared.option.Option.{Option}
use Rattle.std.specs.declared.option.Option.TheVariants.{Some}
use Rattle.answers.specs.Sessions.{is_violation}
use Rattle.answers.specs.declared.answer.Answer.{Answer}
use Rattle.outside.specs.declared.keeper.Keeper.{Ghosts as KeeperGhosts}
use Rattle.record_saver.specs.Saving.{World, IsRecordOf}
use Rattle.record_saver.specs.declared.saver.Saver.{Saver}
use Rattle.record_saver.specs.store_api.Durables.{Durables, Records, with_mark}
use Rattle.record_saver.specs.store_api.Holdings.{Stays}
use Rattle.record_saver.specs.store_api.Lists.{with_config}

-- what it was, or a record of this store, with its list or with an empty one
abbrev pub IsSameOrRecord : {S : Type 0} → Durables S → S → Option (List ℕ) → Option (List ℕ) → Type 0
IsSameOrRecord D store old new = (new ≡ old) ⊎ IsRecordOf D store new

-- of what is kept and of the last record
pub record SyncKeeps {S : Type 0} {K : Type 0} (D : Durables S) (G : KeeperGhosts K) (store : S) (old new : Saver K) : Type 0 where
  pub kept : IsSameOrRecord D store (G.kept old.keeper) (G.kept new.keeper)
  pub last : IsSameOrRecord D store (Some old.last.items) (Some new.last.items)

-- a store that is this one, but that these bytes wait as the configuration's file
pub record HasConfigWaiting {S : Type 0} {K : Type 0} (W : World S K) (store : S) (bytes : List ℕ) (waiting : S) : Type 0 where
  pub identity : W.durables.identity waiting ≡ W.durables.identity store
  pub least : W.durables.least waiting ≡ W.durables.least store
  pub stays : Stays W.holdings store waiting
  pub list : W.durables.list waiting ≡ with_config bytes (W.durables.list store)
  pub trace : W.durables.trace waiting ≡ W.durables.trace store

-- what it was, or a record of this store with these bytes waiting as the configuration's file, with that list or with an empty one
abbrev pub IsSameOrWaiting : {S : Type 0} → {K : Type 0} → World S K → S → List ℕ → Option (List ℕ) → Option (List ℕ) → Type 0
IsSameOrWaiting {S = S} W store bytes old new = (new ≡ old) ⊎ ((waiting : S) × HasConfigWaiting W store bytes waiting × IsRecordOf W.durables waiting new)

-- of what is kept and of the last record, where the configuration's file was to be replaced by these bytes
pub record ReplaceKeeps {S : Type 0} {K : Type 0} (W : World S K) (store : S) (bytes : List ℕ) (old new : Saver K) : Type 0 where
  pub kept : IsSameOrWaiting W store bytes (W.keeper.kept old.keeper) (W.keeper.kept new.keeper)
  pub last : IsSameOrWaiting W store bytes (Some old.last.items) (Some new.last.items)

-- Only a violation marks. Then the last record is kept with its mark; or, where that wasn't saved, what is kept without a violation.
pub record LineKeeps {S : Type 0} {K : Type 0} (D : Durables S) (R : Records) (G : KeeperGhosts K) (store : S) (old : Saver K) (answer : Answer) (new : Saver K) : Type 0 where
  pub calm : is_violation answer ≡ false → SyncKeeps D G store old new
  pub marks : is_violation answer ≡ true → (last : List ℕ) × IsSameOrRecord D store (Some old.last.items) (Some last)
      × (((G.kept new.keeper ≡ Some (with_mark last)) × R.marked (with_mark last)) ⊎ IsSameOrRecord D store (G.kept old.keeper) (G.kept new.keeper))
