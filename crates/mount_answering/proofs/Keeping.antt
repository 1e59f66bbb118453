-- What a sync keeps, and what a line keeps after it.
use Rattle.std.proofs.Common.{◌≡◌, ◌⊎◌, ℕ, true, false, List, Global, refl, sym, ap, subst, inl, inr}
use Rattle.std.specs.Prelude.{Result, Vec}
use Rattle.std.specs.declared.option.Option.TheVariants.{Some}
use Rattle.std.specs.declared.result.Result.TheVariants.{Ok, Err}
use Rattle.mount_core.specs.Keeping.{IsSameOrRecord, SyncKeeps}
use Rattle.outside.specs.declared.keeper.Keeper.{Ghosts as KeeperGhosts}
use Rattle.mount_core.specs.record_saver.Saving.{LastBeforeLong, LastAfterLong}
use Rattle.mount_core.specs.record_saver.declared.saver.Saver.{Saver}
use Rattle.mount_core.specs.record_saver.declared.saver.SyncError.{SyncError}
use Rattle.mount_core.specs.record_saver.declared.saver.SyncError.TheVariants.{Memory, FaultDirectory, FaultState}
use Rattle.mount_core.specs.store_api.Durables.{Durables, Records, with_mark}

module _ {S : Type 0} {K : Type 0} (D : Durables S) (G : KeeperGhosts K) where
  -- after a sync the last record is the one from before, or one of the store
  pub last_kept : (old new : Saver K) (a b : S) (result : Result Unit SyncError) → LastBeforeLong D G old a new b result ⊎ LastAfterLong D G a new result → IsSameOrRecord D a (Some old.last.items) (Some new.last.items)
  last_kept old new a b (Ok u) (inl before) = absurd before
  last_kept old new a b (Ok u) (inr after) = inr (new.last.items, false, refl, after)
  last_kept old new a b (Err Memory) (inl before) = inl (ap Some before.0)
  last_kept old new a b (Err Memory) (inr after) = inr (new.last.items, true, refl, after.0)
  last_kept old new a b (Err FaultDirectory) (inl before) = absurd before
  last_kept old new a b (Err FaultDirectory) (inr after) = inr (new.last.items, true, refl, after.0)
  last_kept old new a b (Err FaultState) (inl before) = inl (ap Some before.0)
  last_kept old new a b (Err FaultState) (inr after) = inr (new.last.items, true, refl, after.0)

  -- a command leaves the keeper and the last record
  pub asked_keeps : (store : S) (old room new : Saver K) → SyncKeeps D G store old room → new.keeper ≡ room.keeper → new.last ≡ room.last → SyncKeeps D G store old new
  asked_keeps store old room new k keeper last = record {
    kept = subst (λ x. IsSameOrRecord D store (G.kept old.keeper) x) (sym (ap G.kept keeper)) k.kept;
    last = subst (λ (v : Vec ℕ Global). IsSameOrRecord D store (Some old.last.items) (Some v.items)) (sym last) k.last;
  }

  -- after a violation the last record was to be kept with its mark
  pub marked_kept : (R : Records) (store : S) (old room asked new : Saver K) → SyncKeeps D G store old room → asked.keeper ≡ room.keeper → asked.last ≡ room.last → R.marked (with_mark asked.last.items)
      → (G.kept new.keeper ≡ Some (with_mark asked.last.items)) ⊎ (G.kept new.keeper ≡ G.kept asked.keeper)
      → (last : List ℕ) × IsSameOrRecord D store (Some old.last.items) (Some last)
      × (((G.kept new.keeper ≡ Some (with_mark last)) × R.marked (with_mark last)) ⊎ IsSameOrRecord D store (G.kept old.keeper) (G.kept new.keeper))
  marked_kept R store old room asked new k keeper last marks (inl marked) = (asked.last.items, (asked_keeps store old room asked k keeper last).last, inl (marked, marks))
  marked_kept R store old room asked new k keeper last marks (inr same) =
      let a = asked_keeps store old room asked k keeper last in
      (asked.last.items, a.last, inr (subst (λ x. IsSameOrRecord D store (G.kept old.keeper) x) (sym same) a.kept))
