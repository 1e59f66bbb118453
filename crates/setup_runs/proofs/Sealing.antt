-- What `create` and `passwd` seal: the one its first block alone, the other no block.
use Rattle.std.proofs.Common.{◌≡◌, ◌⊎◌, ℕ, true, false, List, [], ◌∷◌, refl, sym, ◌∙◌, subst, inl, inr}
use Rattle.std.specs.Prelude.{Result}
use Rattle.std.specs.declared.option.Option.{Option}
use Rattle.std.specs.declared.option.Option.TheVariants.{None, Some}
use Rattle.outside.specs.Changes.{FileChanges, change_at}
use Rattle.outside.specs.Trace.{At, Call, block, config}
use Rattle.outside.specs.declared.keeper.Keeper.{Ghosts as KeeperGhosts}
use Rattle.rand_core.specs.Stream.{Stream}
use Rattle.session_laws.proofs.Drawing.{adds_since, comes_since, holds_record, knows, nothing_waits, origin, since_then, waited, waits_of}
use Rattle.session_laws.specs.Answering.{store_of, calls_of, kept_of}
use Rattle.session_laws.specs.Drawing.{Origin, WaitsAs, AddsSince, ComesSince, SealsFirst, SealsNone}
use Rattle.session_laws.specs.Runs.{outside_of}
use Rattle.session_laws.specs.Turns.{Begun, Closing}
use Rattle.session_laws.specs.mount.Sealing.{AreSealed, ComesFrom, OpensSealed, SealsRoot, View, view_made, view_of, view_replaced}
use Rattle.session_laws.specs.mount.SealingLaws.{comes_later, comes_waiting}
use Rattle.session_laws.specs.mount.Tower.{tower}
use Rattle.session_laws.specs.mount.declared.mount.Mount.{Mount}
use Rattle.session_laws.specs.mount_core.Keeping.{IsSameOrRecord, IsSameOrWaiting, ReplaceKeeps}
use Rattle.session_laws.specs.mount_core.Showing.{ShowsFiles}
use Rattle.session_laws.specs.mount_stores.Tower.{tower_durables}
use Rattle.session_laws.specs.record_saver.declared.saver.SyncError.{SyncError}
use Rattle.session_laws.specs.store_api.Content.{Id}
use Rattle.session_laws.specs.store_api.Holdings.{has_id}
use Rattle.session_laws.specs.store_api.Lists.{with_config}

-- ---- a list with a configuration's file

config_there : (bytes : List ℕ) (list : FileChanges) → change_at config (with_config bytes list) ≡ Some (Some bytes)
config_there bytes [] = refl
config_there bytes ((config, change) ∷ list) = refl
config_there bytes ((block id, change) ∷ list) = refl

block_there : (bytes : List ℕ) (list : FileChanges) (id : Id) → change_at (block id) (with_config bytes list) ≡ change_at (block id) list
block_there bytes [] id = refl
block_there bytes ((config, change) ∷ list) id = refl
block_there bytes ((block other, change) ∷ list) id = refl

-- ---- a file system is made

module _ {V : Type 0} {K : Type 0} (trace : V → Option (List Call)) (faults : V → ℕ) (G : KeeperGhosts K) (bytes : List ℕ) (root : Id) (stream left : Stream) (vault last : V) (keeper last_keeper : K)
    (s : SealsRoot bytes root stream left (trace vault) (trace last) (G.kept keeper) (G.kept last_keeper)) where
  abbrev First : Origin
  First = origin (root ∷ []) s.drawn (G.kept keeper) (Some bytes)

  abbrev Made : View
  Made = view_made bytes root (trace vault)

  comes_first : (name : At) (change : Option (List ℕ)) → ComesFrom s.drawn Made name change → ComesSince First name change
  comes_first (block id) (Some file) (inl is) = inl is
  comes_first (block id) (Some file) (inr is) = absurd (cc)
  comes_first (block id) None (inl is) = inl is
  comes_first (block id) None (inr is) = absurd (cc)
  comes_first config (Some file) is = inl (let same : file ≡ bytes = cc in same)
  comes_first config None is = absurd (cc)

  pub seals_first : SealsFirst bytes root stream left (outside_of trace faults G vault keeper) (outside_of trace faults G last last_keeper)
  seals_first = record {
    drawn = s.drawn;
    draws = s.draws;
    since = record {
      calls = adds_since Made First comes_first (λ id is. is) (trace vault) (trace last) s.sealed.adds;
      waits = λ name change w. elim s.kept as (λ _. ComesSince First name change) [
        | inl same ↦ waited First name change (subst (λ k. WaitsAs k name change) same w)
        | inr holds ↦ comes_first name change (waits_of s.drawn Made (G.kept last_keeper) holds name change w)
      ];
    };
  }

-- ---- a password is changed

module _ {V : Type 0} {K : Type 0} (trace : V → Option (List Call)) (faults : V → ℕ) (G : KeeperGhosts K) (password : List ℕ) (vault : V) (keeper : K) (stream : Stream) (old : Mount V K) (begun : Begun ShowsFiles trace faults G password vault keeper old)
    (opens : OpensSealed (G.kept keeper) (trace vault) (view_of trace old)) (file : List ℕ) where
  abbrev Start : View
  Start = record { list = opens.0; calls = trace vault; known = (view_of trace old).known }

  abbrev Waiting : View
  Waiting = view_replaced file (view_of trace old)

  abbrev o : Origin
  o = origin Start.known [] (G.kept keeper) (Some file)

  from_start : (name : At) (change : Option (List ℕ)) → ComesFrom [] Start name change → ComesSince o name change
  from_start = comes_since Start.known [] (G.kept keeper) (Some file) opens.0 (trace vault) opens.1

  from_old : (name : At) (change : Option (List ℕ)) → ComesFrom [] (view_of trace old) name change → ComesSince o name change
  from_old name change is = from_start name change (comes_later [] [] Start (view_of trace old) opens.2.waits opens.2.known name change is)

  from_waiting : (name : At) (change : Option (List ℕ)) → ComesFrom [] Waiting name change → ComesSince o name change
  from_waiting (block id) (Some bytes) (inl none) = absurd none
  from_waiting (block id) (Some bytes) (inr is) = from_old (block id) (Some bytes) (inr (sym (block_there file (view_of trace old).list id) ∙ is))
  from_waiting (block id) None (inl is) = inl is
  from_waiting (block id) None (inr is) = from_old (block id) None (inr (sym (block_there file (view_of trace old).list id) ∙ is))
  from_waiting config (Some bytes) is = inl (let there = config_there file (view_of trace old).list in let same : bytes ≡ file = cc in same)
  from_waiting config None is = absurd (let there = config_there file (view_of trace old).list in cc)

  module _ (left : Mount V K) (last_vault : V) (last_keeper : K) (closing : Result Unit SyncError) (closed : Closing ShowsFiles trace faults G left closing last_vault last_keeper) (fresh : left.core.violated ≡ false)
      (keeps : ReplaceKeeps (tower trace faults G) (store_of old) file old.core.saver left.core.saver) where
    -- by what was there before the sync
    module _ (before : View) (from : (name : At) (change : Option (List ℕ)) → ComesFrom [] before name change → ComesSince o name change) (same : before.calls ≡ calls_of trace old) (known : before.known ≡ Start.known)
        (sealed : AreSealed [] before (view_of trace left)) where
      from_left : (name : At) (change : Option (List ℕ)) → ComesFrom [] (view_of trace left) name change → ComesSince o name change
      from_left name change is = from name change (comes_later [] [] before (view_of trace left) sealed.waits sealed.known name change is)

      abbrev Each : Option (List ℕ) → Type 0
      Each kept = (name : At) (change : Option (List ℕ)) → WaitsAs kept name change → ComesSince o name change

      each_old : Each (kept_of G old)
      each_old name change w = from_start name change (waits_of [] Start (kept_of G old) (nothing_waits [] Start (kept_of G old) begun.attached.state begun.attached.kept) name change w)

      each_left : IsSameOrWaiting (tower trace faults G) (store_of old) file (kept_of G old) (kept_of G left) → Each (kept_of G left)
      each_left (inl stays) name change w = subst Each (sym stays) each_old name change w
      each_left (inr (waiting, of, is)) name change w =
          from_waiting name change (waits_of [] Waiting (kept_of G left)
          (holds_record trace [] Waiting waiting (λ n c waits. comes_waiting Waiting n c (subst (λ l. change_at n l ≡ Some c) of.list waits)) (kept_of G left) is) name change w)

      each_last : IsSameOrRecord (tower_durables trace) (store_of left) (kept_of G left) (G.kept last_keeper) → Each (G.kept last_keeper)
      each_last (inl stays) name change w = subst Each (sym stays) (each_left keeps.kept) name change w
      each_last (inr is) name change w =
          from_left name change (waits_of [] (view_of trace left) (G.kept last_keeper) (holds_record trace [] (view_of trace left) (store_of left) (comes_waiting (view_of trace left)) (G.kept last_keeper) is) name change w)

      calls_left : AddsSince o (calls_of trace old) (calls_of trace left)
      calls_left = subst (λ t. AddsSince o t (calls_of trace left)) same (adds_since before o from (λ id is. subst (λ k. has_id k id ≡ true) known is) before.calls (calls_of trace left) sealed.adds)

      all_calls : AddsSince o (trace vault) (trace last_vault)
      all_calls =
          since_then o (trace vault) (calls_of trace old) (trace last_vault) (adds_since Start o from_start (λ id is. is) (trace vault) (calls_of trace old) opens.2.adds)
          (since_then o (calls_of trace old) (calls_of trace left) (trace last_vault) calls_left
          (adds_since (view_of trace left) o from_left (λ id is. subst (λ k. has_id k id ≡ true) known (sealed.known id is)) (calls_of trace left) (trace last_vault) closed.closes.sealed.adds))

      pub seals_before : SealsNone (Some file) (outside_of trace faults G vault keeper) (outside_of trace faults G last_vault last_keeper)
      seals_before = record {
        known = Start.known;
        knows = knows ShowsFiles trace faults G password vault keeper stream old begun opens;
        since = record { calls = all_calls; waits = each_last (closed.closes.kept fresh) };
      }

    pub seals_changed : AreSealed [] (view_of trace old) (view_of trace left) ⊎ AreSealed [] Waiting (view_of trace left) → SealsNone (Some file) (outside_of trace faults G vault keeper) (outside_of trace faults G last_vault last_keeper)
    seals_changed (inl sealed) = seals_before (view_of trace old) from_old refl refl sealed
    seals_changed (inr sealed) = seals_before Waiting from_waiting refl refl sealed
