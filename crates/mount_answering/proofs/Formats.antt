-- The least format of what is kept.
use Rattle.std.proofs.Common.{◌≡◌, ◌⊎◌, ℕ, List, refl, sym, subst, inl, inr}
use Rattle.std.specs.declared.option.Option.{Option}
use Rattle.mount_core.specs.store_outcome.Meanings.{Meanings}
use Rattle.outside.specs.declared.keeper.Keeper.{Ghosts as KeeperGhosts}
use Rattle.mount_core.specs.store_api.Durables.{Durables, Records}
use Rattle.mount_core.specs.store_api.Holdings.{Holdings}
use Rattle.mount_core.specs.record_saver.Saving.{world, IsRecordOf}
use Rattle.mount_core.specs.Formats.{KeepsLeast, StaysLeast}
use Rattle.mount_core.specs.Standing.{IsKeptMarked}

module _ {S : Type 0} {K : Type 0} (M : Meanings S) (H : Holdings S) (D : Durables S) (R : Records) (G : KeeperGhosts K) where
  -- nothing was kept anew, or a record of the store
  pub least_synced : (store : S) (first last : Option (List ℕ)) → (last ≡ first) ⊎ IsRecordOf D store last → StaysLeast (world M H D R G) store first last
  least_synced store first last (inl same) k = subst (KeepsLeast D R (D.least store)) (sym same) k
  least_synced store first last (inr of) k = inr (store, refl, of)

  -- by a store of the same least format
  pub least_along : (a b : S) (first last : Option (List ℕ)) → D.least b ≡ D.least a → StaysLeast (world M H D R G) b first last → StaysLeast (world M H D R G) a first last
  least_along a b first last same stays = subst (λ n. KeepsLeast D R n first → KeepsLeast D R n last) same stays

  -- a marked record was kept, or nothing anew
  pub least_marked : (store : S) (first mid last : Option (List ℕ)) → IsKeptMarked R last ⊎ (last ≡ mid) → StaysLeast (world M H D R G) store first mid → StaysLeast (world M H D R G) store first last
  least_marked store first mid last (inl marked) stays k = inl marked
  least_marked store first mid last (inr same) stays k = subst (KeepsLeast D R (D.least store)) (sym same) (stays k)
