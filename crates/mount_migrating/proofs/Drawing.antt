-- Steps that draw, one behind the other.
use Rattle.std.proofs.Common.{◌≡◌, ◌⊎◌, ◌++◌, ℕ, false, List, [], ◌∷◌, Global, inl, inr, refl, sym, ap, subst}
use Rattle.std.specs.Prelude.{Result, Vec}
use Rattle.std.specs.declared.option.Option.TheVariants.{Some}
use Rattle.std.specs.declared.result.Result.TheVariants.{Ok, Err}
use Rattle.mount_answering.specs.store_outcome.Meanings.{Meanings, Lawful}
use Rattle.outside.specs.declared.keeper.Keeper.{Ghosts as KeeperGhosts}
use Rattle.rand_core.specs.Stream.{Stream}
use Rattle.mount_answering.specs.record_saver.Saving.{world, Wrote, ShortSaved}
use Rattle.mount_answering.specs.record_saver.declared.saver.Saver.{Saver}
use Rattle.mount_answering.specs.record_saver.declared.saver.SyncError.{SyncError}
use Rattle.mount_answering.specs.record_saver.declared.saver.SyncError.TheVariants.{Memory, FaultDirectory, FaultState}
use Rattle.mount_answering.specs.store_api.Content.{Changes}
use Rattle.mount_answering.specs.store_api.Durables.{Durables, Records}
use Rattle.mount_answering.specs.store_api.Holdings.{Holdings}
use Rattle.mount_answering.proofs.store_api_lemmas.Draws.{later_same}
use Rattle.mount_answering.specs.mount_core.declared.body.Core.{Core}
use Rattle.mount_answering.specs.mount_core.Answering.{store_of}
use Rattle.mount_answering.specs.mount_core.Drawing.{DrawsOnce, NamesKnown}
use Rattle.mount_answering.specs.mount_core.Keeping.{IsSameOrRecord, SyncKeeps}
use Rattle.mount_answering.proofs.mount_core_lemmas.Moving.{stays_same}
use Rattle.mount_migrating.specs.Drawing.{DrawsAlong, DrawsAnew, DrawsSteps, Reached, StepDraws}

-- ---- what is kept

module _ {S : Type 0} {K : Type 0} (D : Durables S) (G : KeeperGhosts K) where
  pub keeps_same : (store : S) (a b : Saver K) → b.keeper ≡ a.keeper → b.last ≡ a.last → SyncKeeps D G store a b
  keeps_same store a b keeper last = record { kept = inl (ap G.kept keeper); last = inl (ap (λ (v : Vec ℕ Global). Some v.items) last) }

  -- nothing more was kept
  pub keeps_on : (store : S) (a mid b : Saver K) → SyncKeeps D G store a mid → b.keeper ≡ mid.keeper → b.last ≡ mid.last → SyncKeeps D G store a b
  keeps_on store a mid b k keeper last = record {
    kept = subst (λ x. IsSameOrRecord D store (G.kept a.keeper) x) (sym (ap G.kept keeper)) k.kept;
    last = subst (λ (v : Vec ℕ Global). IsSameOrRecord D store (Some a.last.items) (Some v.items)) (sym last) k.last;
  }

  -- a record with an empty list was to be kept
  pub short_keeps : (store : S) (a b : Saver K) (result : Result Unit SyncError) → D.is_record store false (D.local_record_of store false) → ShortSaved D G store a b result → SyncKeeps D G store a b
  short_keeps store a b (Ok u) is (last, kept, changed) =
      let short : D.is_record store false b.last.items = subst (D.is_record store false) (sym last) is in
      record { kept = inr (b.last.items, false, kept, short); last = inr (b.last.items, false, refl, short) }
  short_keeps store a b (Err Memory) is (last, kept, changed) = record { kept = inl kept; last = inl (ap Some last) }
  short_keeps store a b (Err FaultDirectory) is saved = absurd saved
  short_keeps store a b (Err FaultState) is (last, inl same, changed) = record { kept = inl same; last = inl (ap Some last) }
  short_keeps store a b (Err FaultState) is (last, inr kept, changed) = record { kept = inr (D.local_record_of store false, false, kept, is); last = inl (ap Some last) }

-- ---- steps

module _ {S : Type 0} {K : Type 0} (M : Meanings S) (H : Holdings S) (D : Durables S) (R : Records) (G : KeeperGhosts K) (applied : S → S → Changes → Type 0) (drawn : S → S → Changes → Stream → Stream → Type 0) where
  abbrev Steps : List (Reached S K) → Core S K → Core S K → Stream → Stream → Type 0
  Steps mids a b stream left = DrawsSteps (world M H D R G) applied drawn mids a b stream left

  abbrev Along : Core S K → Core S K → Stream → Stream → Type 0
  Along a b stream left = DrawsAlong (world M H D R G) applied drawn a b stream left

  joined : (mids others : List (Reached S K)) (a b c : Core S K) (stream between left : Stream) → Steps mids a b stream between → M.intact (store_of b) → Steps others b c between left
      → Steps (mids ++ record { core = b; left = between } ∷ others) a c stream left
  joined [] others a b c stream between left step intact next = (step, intact, next)
  joined (mid ∷ mids) others a b c stream between left (step, sound, rest) intact next = (step, sound, joined mids others mid.core b c mid.left between left rest intact next)

  pub draws_then : (a b c : Core S K) (stream between left : Stream) → Along a b stream between → M.intact (store_of b) → Along b c between left → Along a c stream left
  draws_then a b c stream between left (mids, first) intact (others, next) = (mids ++ record { core = b; left = between } ∷ others, joined mids others a b c stream between left first intact next)

  -- a sync first, or nothing, and then a batch at most
  pub step_once : (a mid b : Core S K) (stream left : Stream) → (store_of mid ≡ store_of a) ⊎ Wrote D (store_of a) (store_of mid) → H.used (store_of mid) ≡ H.used (store_of a) → SyncKeeps D G (store_of a) a.saver mid.saver
      → DrawsOnce M (NamesKnown H) applied drawn (store_of mid) (store_of b) stream left → b.saver.keeper ≡ mid.saver.keeper → b.saver.last ≡ mid.saver.last → StepDraws (world M H D R G) applied drawn a b stream left
  step_once a mid b stream left wrote used keeps once keeper last =
      record { synced = store_of mid; wrote = wrote; used = used; once = once; keeps = keeps_on D G (store_of a) a.saver mid.saver b.saver keeps keeper last }

  module _ (lawful : Lawful M) where
    pub step_synced : (a b : Core S K) (stream : Stream) → (store_of b ≡ store_of a) ⊎ Wrote D (store_of a) (store_of b) → H.used (store_of b) ≡ H.used (store_of a) → SyncKeeps D G (store_of a) a.saver b.saver
        → StepDraws (world M H D R G) applied drawn a b stream stream
    step_synced a b stream wrote used keeps = step_once a b b stream stream wrote used keeps (inl (lawful.same (store_of b), later_same stream)) refl refl

    -- nothing was done
    pub draws_same : (a : Core S K) (stream : Stream) → Along a a stream stream
    draws_same a stream = ([], step_synced a a stream (inl refl) refl (keeps_same D G (store_of a) a.saver a.saver refl refl))

    -- a sync came behind
    pub draws_synced : (a b c : Core S K) (stream left : Stream) → Along a b stream left → M.intact (store_of b) → (store_of c ≡ store_of b) ⊎ Wrote D (store_of b) (store_of c) → H.used (store_of c) ≡ H.used (store_of b)
        → SyncKeeps D G (store_of b) b.saver c.saver → Along a c stream left
    draws_synced a b c stream left along intact wrote used keeps = draws_then a b c stream left left along intact ([], step_synced b c left wrote used keeps)

  -- ---- to the end

  pub draws_ended : (a b : Core S K) (stream left : Stream) → Along a b stream left → DrawsAnew (world M H D R G) applied drawn a b stream left
  draws_ended a b stream left along = record {
    end = b;
    along = along;
    set = record { stays = stays_same H (store_of b) (store_of b) refl; identity = refl; list = refl; trace = refl };
    short = store_of b;
    set_short = record { stays = stays_same H (store_of b) (store_of b) refl; identity = refl; list = refl; trace = refl };
    keeps = keeps_same D G (store_of b) b.saver b.saver refl refl;
  }
