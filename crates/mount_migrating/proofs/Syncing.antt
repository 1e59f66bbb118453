-- What a sync keeps, and why one fails.
use Rattle.std.proofs.Common.{◌≡◌, List, [], refl, arith}
use Rattle.std.specs.Prelude.{Result}
use Rattle.std.specs.declared.result.Result.TheVariants.{Ok, Err}
use Rattle.mount_answering.specs.answers.declared.answer.Answer.TheVariants.{Reply as Replied}
use Rattle.fs_model.specs.declared.reply.Reply.TheVariants.{Done}
use Rattle.mount_answering.specs.store_outcome.Meanings.{Meanings}
use Rattle.outside.specs.declared.keeper.Keeper.{Ghosts as KeeperGhosts}
use Rattle.mount_answering.specs.record_saver.Saving.{world, Leaves}
use Rattle.mount_answering.specs.record_saver.declared.saver.SyncError.{SyncError}
use Rattle.mount_answering.specs.record_saver.declared.saver.SyncError.TheVariants as sync_error
use Rattle.mount_answering.specs.store_api.Content.{Id, Changes}
use Rattle.mount_answering.specs.store_api.Durables.{Durables, Records, Enduring}
use Rattle.mount_answering.specs.store_api.Holdings.{Holdings}
use Rattle.mount_answering.specs.mount_core.Showing.{Showing}
use Rattle.mount_answering.specs.mount_core.declared.body.Core.{Core}
use Rattle.mount_answering.specs.mount_core.Answering.{store_of, CoreMoves, CoreSyncs}
use Rattle.mount_answering.proofs.Synced.{config_roomed, roomed}
use Rattle.mount_migrating.specs.Migrating.{error_of_sync, told, HasReason, Proceeds, Rests}
use Rattle.mount_migrating.proofs.NewFiles.{new_synced}

module _ {S : Type 0} {K : Type 0} (shows : Showing) (M : Meanings S) (H : Holdings S) (D : Durables S) (R : Records) (G : KeeperGhosts K) (old new : Core S K) where
  pub synced_proceeds : (result : Result Unit SyncError) → CoreMoves (world M H D R G) old new result → CoreSyncs shows (world M H D R G) old new result → Proceeds shows (world M H D R G) old new
  synced_proceeds result m z =
      let l = m.leaves in
      let f = l.forgeries in
      let e = l.lies in
      record {
        stands = λ kept now s few. roomed shows M H D R G new kept now result (z.stands kept now s);
        configures = λ may now s. config_roomed shows M H D R G new may now result s.among (z.configures may now s);
        identity = l.identity;
        payload = l.stays.payload;
        ids = l.stays.ids;
        goes_on = l.goes_on;
        sound = λ sound few. l.sound sound;
        forgeries = omega (arith, f);
        lies = omega (arith, e);
        unforged = λ sound honest. omega (arith, f);
        violated = m.violated;
        root = m.root;
      }

  pub done_reason : (ids : List Id) → M.faults (store_of new) ≡ M.faults (store_of old) → G.faults new.saver.keeper ≡ G.faults old.saver.keeper → HasReason shows (world M H D R G) old ids (Replied Done) new
  done_reason ids vault keeper = record {
    vault_cause = omega (arith, vault);
    vault_quiet = λ none. vault;
    keeper_cause = omega (arith, keeper);
    keeper_quiet = λ none. keeper;
    alarm = λ kept now s honest. refl;
    of_blocks = refl;
    found = tt;
    spent = tt;
  }

  pub stopped_reason : (ids : List Id) (e : SyncError) → Leaves (world M H D R G) (store_of old) old.saver.keeper (store_of new) new.saver.keeper (Err e)
      → HasReason shows (world M H D R G) old ids (told {T = Unit} (Err (error_of_sync e))) new
  stopped_reason ids sync_error.Memory l =
      let v = l.vault_quiet in
      let k = l.keeper_quiet in
      record {
        vault_cause = omega (arith, v);
        vault_quiet = λ none. v;
        keeper_cause = omega (arith, k);
        keeper_quiet = λ none. k;
        alarm = λ kept now s honest. refl;
        of_blocks = refl;
        found = tt;
        spent = tt;
      }
  stopped_reason ids sync_error.FaultDirectory l =
      let k = l.keeper_quiet in
      record {
        vault_cause = l.vault_cause refl;
        vault_quiet = λ none. absurd (cc none);
        keeper_cause = omega (arith, k);
        keeper_quiet = λ none. k;
        alarm = λ kept now s honest. refl;
        of_blocks = refl;
        found = tt;
        spent = tt;
      }
  stopped_reason ids sync_error.FaultState l =
      let v = l.vault_quiet in
      record {
        vault_cause = omega (arith, v);
        vault_quiet = λ none. v;
        keeper_cause = l.keeper_cause refl;
        keeper_quiet = λ none. absurd (cc none);
        alarm = λ kept now s honest. refl;
        of_blocks = refl;
        found = tt;
        spent = tt;
      }

  -- a sync that went well
  pub done_rests : (applied : S → S → Changes → Type 0) → Enduring M H applied D R → M.intact (store_of old) → CoreMoves (world M H D R G) old new (Ok tt) → CoreSyncs shows (world M H D R G) old new (Ok tt)
      → Rests shows (world M H D R G) old (Ok tt) new
  done_rests applied endures intact m z = record {
    proceeds = synced_proceeds (Ok tt) m z;
    reason = done_reason [] m.leaves.vault_quiet m.leaves.keeper_quiet;
    used = m.leaves.stays.used;
    versions = m.leaves.stays.version;
    stays_new = λ id n. new_synced M H applied D R endures (store_of old) (store_of new) id intact z.wrote (m.ready.whole.none z.ok) n;
  }

  -- and one that didn't
  pub stopped_rests : (e : SyncError) → CoreMoves (world M H D R G) old new (Err e) → CoreSyncs shows (world M H D R G) old new (Err e) → Rests shows (world M H D R G) old (Err (error_of_sync e)) new
  stopped_rests e m z = record {
    proceeds = synced_proceeds (Err e) m z;
    reason = stopped_reason [] e m.leaves;
    used = m.leaves.stays.used;
    versions = m.leaves.stays.version;
    stays_new = tt;
  }
