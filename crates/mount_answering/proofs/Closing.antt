-- What the end of a session leaves.
use Rattle.std.proofs.Common.{◌≡◌, ◌⊎◌, ◌∙◌, true, false, refl, sym, ap, subst, inl, inr}
use Rattle.std.specs.Prelude.{Result, IsOk}
use Rattle.std.specs.declared.result.Result.TheVariants.{Ok}
use Rattle.mount_core.specs.store_outcome.Meanings.{Meanings}
use Rattle.outside.specs.declared.keeper.Keeper.{Ghosts as KeeperGhosts}
use Rattle.mount_core.specs.store_api.Durables.{Durables, Records}
use Rattle.mount_core.specs.store_api.Holdings.{Holdings}
use Rattle.mount_core.specs.record_saver.Saving.{world, Leaves}
use Rattle.mount_core.specs.record_saver.declared.saver.SyncError.{SyncError}
use Rattle.mount_core.specs.path_layer.Performing.{Showing}
use Rattle.mount_core.specs.declared.body.Core.{Core}
use Rattle.mount_core.specs.Answering.{store_of, CoreMoves, CoreSyncs, CoreCloses}
use Rattle.mount_answering.proofs.Lines.{closed, config_closed, true_is_false}

module _ {S : Type 0} {K : Type 0} (shows : Showing) (M : Meanings S) (H : Holdings S) (D : Durables S) (R : Records) (G : KeeperGhosts K) where
  -- after a violation all is left as it is
  pub closes_violated : (core : Core S K) → core.violated ≡ true → M.intact (store_of core) → CoreCloses shows (world M H D R G) core (Ok tt) (store_of core) core.saver.keeper
  closes_violated core violated intact = record {
    stands = λ kept now fresh s. absurd (true_is_false (sym violated ∙ fresh));
    configures = λ may now fresh s. absurd (true_is_false (sym violated ∙ fresh));
    left = λ none. (refl, refl, refl);
    emptied = λ fresh. absurd (true_is_false (sym violated ∙ fresh));
    kept = λ fresh. absurd (true_is_false (sym violated ∙ fresh));
    least = λ k. k;
    wrote = inl refl;
    intact = intact;
  }

  left_synced : (old new : Core S K) (result : Result Unit SyncError) → old.violated ≡ false → (old.saver.changed ≡ false → IsOk result × (new ≡ old))
      → (old.violated ≡ true) ⊎ (old.saver.changed ≡ false) → IsOk result × (store_of new ≡ store_of old) × (new.saver.keeper ≡ old.saver.keeper)
  left_synced old new result fresh unmoved (inl violated) = absurd (true_is_false (sym violated ∙ fresh))
  left_synced old new result fresh unmoved (inr unchanged) =
      let u = unmoved unchanged in
      (u.0, ap (λ (core : Core S K). store_of core) u.1, ap (λ (core : Core S K). core.saver.keeper) u.1)

  -- else a sync was all
  pub closes_synced : (old new : Core S K) (result : Result Unit SyncError) → old.violated ≡ false → CoreMoves (world M H D R G) old new result → CoreSyncs shows (world M H D R G) old new result
      → CoreCloses shows (world M H D R G) old result (store_of new) new.saver.keeper
  closes_synced old new result fresh m z = record {
    stands = λ kept now f s. closed shows M H D R G new (H.payload (store_of old)) old.root.0 kept now result (sym m.leaves.stays.payload) (ap (λ x. x.0) (sym m.root)) (z.stands kept now s) z.emptied;
    configures = λ may now f s. config_closed shows M H D R G new may now result (z.configures may now s);
    left = left_synced old new result fresh z.unmoved;
    emptied = λ f. z.emptied;
    kept = λ f. z.keeps.kept;
    least = m.least;
    wrote = z.wrote;
    intact = m.ready.intact;
  }

  -- the store and the keeper are those of the last core
  pub closes_along : (first core last : Core S K) (store : S) (result answer : Result Unit SyncError) → last ≡ core → answer ≡ result → store ≡ store_of last
      → CoreCloses shows (world M H D R G) first result (store_of core) core.saver.keeper → CoreCloses shows (world M H D R G) first answer store last.saver.keeper
  closes_along first core last store result answer el ea es z =
      subst (λ x. CoreCloses shows (world M H D R G) first answer x last.saver.keeper) (sym es)
      (subst (λ (x : Core S K). CoreCloses shows (world M H D R G) first answer (store_of x) x.saver.keeper) (sym el)
      (subst (λ a. CoreCloses shows (world M H D R G) first a (store_of core) core.saver.keeper) (sym ea) z))

  pub leaves_along : (first core last : Core S K) (store : S) (result answer : Result Unit SyncError) → last ≡ core → answer ≡ result → store ≡ store_of last
      → Leaves (world M H D R G) (store_of first) first.saver.keeper (store_of core) core.saver.keeper result → Leaves (world M H D R G) (store_of first) first.saver.keeper store last.saver.keeper answer
  leaves_along first core last store result answer el ea es z =
      subst (λ x. Leaves (world M H D R G) (store_of first) first.saver.keeper x last.saver.keeper answer) (sym es)
      (subst (λ (x : Core S K). Leaves (world M H D R G) (store_of first) first.saver.keeper (store_of x) x.saver.keeper answer) (sym el)
      (subst (λ a. Leaves (world M H D R G) (store_of first) first.saver.keeper (store_of core) core.saver.keeper a) (sym ea) z))
