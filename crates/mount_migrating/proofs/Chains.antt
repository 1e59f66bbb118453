-- Blocks written anew, before and after a sync, and all steps of a migration.
use Rattle.std.proofs.Common.{◌≡◌, ◌≤◌, ◌+◌, List, [], refl, sym, ◌∙◌, ap, arith}
use Rattle.std.specs.Prelude.{Result, OnOk, OnErr}
use Rattle.std.specs.declared.result.Result.TheVariants.{Ok, Err}
use Rattle.fs_model.specs.Tree.{Tree}
use Rattle.mount_answering.specs.store_outcome.Meanings.{Meanings}
use Rattle.outside.specs.declared.keeper.Keeper.{Ghosts as KeeperGhosts}
use Rattle.mount_answering.specs.record_saver.Saving.{world}
use Rattle.mount_answering.specs.store_api.Content.{Id}
use Rattle.mount_answering.specs.store_api.Durables.{Durables, Records}
use Rattle.mount_answering.specs.store_api.Holdings.{Holdings}
use Rattle.mount_answering.specs.mount_core.Showing.{Showing}
use Rattle.mount_answering.specs.mount_core.declared.body.Core.{Core}
use Rattle.mount_answering.specs.mount_core.Answering.{store_of}
use Rattle.mount_answering.specs.mount_core.Standing.{CoreStands}
use Rattle.mount_answering.proofs.Lines.{spent_on}
use Rattle.mount_migrating.specs.Migrating.{told, IsMigratedRecord, IsSpentAmong, Moves, Raises, Renews, Rests}
use Rattle.mount_migrating.specs.declared.error.MigrateError.{MigrateError}
use Rattle.mount_migrating.proofs.Proceeding.{either_kept, now_alone, proceeds_then, reason_after}

abbrev Ended : Type 0
Ended = Result Unit MigrateError

on_ok : (result : Ended) {P Q : Type 0} → (P → Q) → OnOk result P → OnOk result Q
on_ok (Ok u) f h = f h
on_ok (Err e) f h = tt

module _ {S : Type 0} {K : Type 0} (shows : Showing) (M : Meanings S) (H : Holdings S) (D : Durables S) (R : Records) (G : KeeperGhosts K) where
  -- the same versions
  raises_same : (a b c : S) (ids : List Id) → ((id : Id) → H.version b id ≡ H.version a id) → Raises H b c ids → Raises H a c ids
  raises_same a b c ids same r = record { raised = λ id. let v = same id in let s = r.raised id in omega (arith, v, s); rests = λ id none. r.rests id none ∙ same id }

  raises_on : (a b c : S) (ids : List Id) → Raises H a b ids → ((id : Id) → H.version c id ≡ H.version b id) → Raises H a c ids
  raises_on a b c ids r same = record { raised = λ id. let v = same id in let s = r.raised id in omega (arith, v, s); rests = λ id none. same id ∙ r.rests id none }

  spent_same : (a b : S) (ids : List Id) → ((id : Id) → H.version b id ≡ H.version a id) → IsSpentAmong H b ids → IsSpentAmong H a ids
  spent_same a b ids same (id, has, last) = (id, has, ap (λ n. n + 1) (sym (same id)) ∙ last)

  spent_none : (a b : S) (ids : List Id) → IsSpentAmong H b [] → IsSpentAmong H a ids
  spent_none a b ids (id, has, last) = absurd (cc has)

  -- first a sync
  pub renews_after : (old mid new : Core S K) (ids : List Id) (result : Ended) → D.least (store_of mid) ≡ D.least (store_of old) → Rests shows (world M H D R G) old (Ok tt) mid → Renews shows (world M H D R G) mid ids result new → Renews shows (world M H D R G) old ids result new
  renews_after old mid new ids result level r w = record {
    proceeds = proceeds_then shows M H D R G old mid new r.proceeds w.proceeds;
    reason = reason_after shows M H D R G old mid new ids ids (told result) r.proceeds w.proceeds (r.reason.vault_quiet refl) (r.reason.keeper_quiet refl) (spent_same (store_of old) (store_of mid) ids r.versions) w.reason;
    raises = raises_same (store_of old) (store_of mid) (store_of new) ids r.versions w.raises;
    unspent = on_ok result (λ u id has last. u id has (ap (λ n. n + 1) (r.versions id) ∙ last)) w.unspent;
    are_new = w.are_new;
    stays_new = on_ok result (λ stays id n. stays id (r.stays_new id n)) w.stays_new;
    least = w.least ∙ level;
  }

  -- the sync failed
  pub renews_stopped : (old new : Core S K) (ids : List Id) (e : MigrateError) → D.least (store_of new) ≡ D.least (store_of old) → Rests shows (world M H D R G) old (Err e) new → Renews shows (world M H D R G) old ids (Err e) new
  renews_stopped old new ids e level r =
      let w = r.reason in
      record {
        proceeds = r.proceeds;
        reason = record {
          vault_cause = w.vault_cause;
          vault_quiet = w.vault_quiet;
          keeper_cause = w.keeper_cause;
          keeper_quiet = w.keeper_quiet;
          alarm = w.alarm;
          of_blocks = w.of_blocks;
          found = w.found;
          spent = spent_on (told {T = Unit} (Err e)) (IsSpentAmong H (store_of old) []) (IsSpentAmong H (store_of old) ids) (spent_none (store_of old) (store_of old) ids) w.spent;
        };
        raises = record { raised = λ id. let v = r.versions id in omega (arith, v); rests = λ id none. r.versions id };
        unspent = tt;
        are_new = tt;
        stays_new = tt;
        least = level;
      }

  -- ---- all steps

  pub moves_unrenewed : (old new : Core S K) (ids : List Id) (e : MigrateError) → Renews shows (world M H D R G) old ids (Err e) new → Moves shows (world M H D R G) old ids (Err e) new
  moves_unrenewed old new ids e w = record { proceeds = w.proceeds; reason = w.reason; raises = w.raises; unspent = tt; done = tt; least = λ one. w.least ∙ one; kept = tt }

  module _ (old mid : Core S K) (ids : List Id) (w : Renews shows (world M H D R G) old ids (Ok tt) mid) where
    -- what follows is no more than a rest
    followed : (new : Core S K) (result : Ended) → Rests shows (world M H D R G) mid result new → OnOk result (IsMigratedRecord (world M H D R G) new)
        → OnErr result (D.least (store_of old) ≡ 1 → D.least (store_of new) ≡ 1)
        → OnOk result ((kept now : Tree) → CoreStands shows (world M H D R G) old kept now → M.forgeries (store_of new) ≤ M.forgeries (store_of old) → CoreStands shows (world M H D R G) new now now)
        → Moves shows (world M H D R G) old ids result new
    followed new result r done least kept = record {
      proceeds = proceeds_then shows M H D R G old mid new w.proceeds r.proceeds;
      reason = reason_after shows M H D R G old mid new [] ids (told result) w.proceeds r.proceeds (w.reason.vault_quiet refl) (w.reason.keeper_quiet refl) (spent_none (store_of old) (store_of mid) ids) r.reason;
      raises = raises_on (store_of old) (store_of mid) (store_of new) ids w.raises r.versions;
      unspent = on_ok result (λ u. w.unspent) (every result);
      done = done;
      least = least;
      kept = kept;
    }
      where
        every : (result : Ended) → OnOk result (Unit {0})
        every (Ok u) = tt
        every (Err e) = tt

    pub moves_unsynced : (new : Core S K) (e : MigrateError) → D.least (store_of new) ≡ D.least (store_of mid) → Rests shows (world M H D R G) mid (Err e) new → Moves shows (world M H D R G) old ids (Err e) new
    moves_unsynced new e level r = followed new (Err e) r tt (λ one. level ∙ (w.least ∙ one)) tt

    module _ (kept_core new : Core S K) (result : Ended) (r : Rests shows (world M H D R G) mid (Ok tt) kept_core)
        (whole : (k now : Tree) → CoreStands shows (world M H D R G) mid k now → CoreStands shows (world M H D R G) kept_core now now) (s : Rests shows (world M H D R G) kept_core result new)
        (done : OnOk result (IsMigratedRecord (world M H D R G) new)) (least : OnErr result (D.least (store_of new) ≡ 1)) where
      both : Rests shows (world M H D R G) mid result new
      both = record {
        proceeds = proceeds_then shows M H D R G mid kept_core new r.proceeds s.proceeds;
        reason = reason_after shows M H D R G mid kept_core new [] [] (told result) r.proceeds s.proceeds (r.reason.vault_quiet refl) (r.reason.keeper_quiet refl) (spent_none (store_of mid) (store_of kept_core) []) s.reason;
        used = s.used ∙ r.used;
        versions = λ id. s.versions id ∙ r.versions id;
        stays_new = on_ok result (λ stays id n. stays id (r.stays_new id n)) s.stays_new;
      }

      last_kept : (k now : Tree) → CoreStands shows (world M H D R G) old k now → M.forgeries (store_of new) ≤ M.forgeries (store_of old) → CoreStands shows (world M H D R G) new now now
      last_kept k now t few =
          let wf = w.proceeds.forgeries in
          let rf = r.proceeds.forgeries in
          let sf = s.proceeds.forgeries in
          either_kept shows M H D R G mid k now (w.proceeds.stands k now t (omega (arith, rf, sf, few)))
          (λ j u. now_alone shows M H D R G new now (s.proceeds.stands now now (whole j now u) (omega (arith, wf, rf, few))))

      pub moves_all : Moves shows (world M H D R G) old ids result new
      moves_all = followed new result both done (lowered result least) (on_ok result (λ u. last_kept) (every result))
        where
          every : (result : Ended) → OnOk result (Unit {0})
          every (Ok u) = tt
          every (Err e) = tt

          lowered : (result : Ended) → OnErr result (D.least (store_of new) ≡ 1) → OnErr result (D.least (store_of old) ≡ 1 → D.least (store_of new) ≡ 1)
          lowered (Ok u) h = tt
          lowered (Err e) h = λ one. h
