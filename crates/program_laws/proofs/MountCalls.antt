-- Where nothing lies and nothing fails, only want of memory keeps a mount's calls from what they do.
use Rattle.std.proofs.Common.{◌≡◌, ◌⊎◌, ◌≤◌, ◌∙◌, ◌-◌, ℕ, true, false, List, refl, sym, ap, subst, inl, inr}
use Rattle.std.specs.Prelude.{Result, OnOk, IfOk, IsErrOf, is_some}
use Rattle.std.specs.declared.option.Option.{Option}
use Rattle.std.specs.declared.result.Result.TheVariants.{Ok, Err}
use Rattle.copy_file.specs.answers.Sessions.{is_violation, directory_faults, state_faults}
use Rattle.session_laws.specs.config_file.ConfigOf.{IsOnly, opened}
use Rattle.session_laws.specs.config_file.Settings.{Settings, settings_of}
use Rattle.session_laws.specs.config_file.declared.error.ConfigError.TheVariants as config_error
use Rattle.fs_model.specs.Tree.{Tree}
use Rattle.session_laws.specs.block_versions.Standing.{records}
use Rattle.session_laws.specs.block_versions.StoreLaws.{sound_is_told}
use Rattle.session_laws.proofs.Configuration.{opened_only, only_config}
use Rattle.check_runs.proofs.mount_lemmas.Reading.{represents_told}
use Rattle.check_runs.proofs.mount_lemmas.Standing.{represents}
use Rattle.check_runs.specs.mount.Answering.{store_of, calls_of, vault_faults, keeper_faults, kept_of}
use Rattle.check_runs.specs.mount.Mounts.{MountClosed}
use Rattle.check_runs.specs.mount.Representing.{Represents}
use Rattle.check_runs.specs.mount.Serving.{MountMoves, MountSyncs, ChangesPassword, MountLeaves, MountCloses}
use Rattle.check_runs.specs.mount.Tower.{tower}
use Rattle.check_runs.specs.mount.declared.mount.Halted.{Halted}
use Rattle.check_runs.specs.mount.declared.mount.Mount.{Mount}
use Rattle.check_runs.specs.mount_calls.Migrating.{MigratesMount, Counts, ids_in}
use Rattle.check_runs.specs.mount_core.Answers.{OnSpent}
use Rattle.check_runs.specs.mount_core.Standing.{Left, Synced}
use Rattle.check_runs.specs.mount_migrating.Migrating.{told, IsSpentAmong}
use Rattle.check_runs.specs.mount_migrating.declared.error.MigrateError.{MigrateError}
use Rattle.check_runs.specs.mount_migrating.declared.error.MigrateError.TheVariants as migrate_error
use Rattle.check_runs.proofs.mount_stores_lemmas.Reading.{only_unforged}
use Rattle.check_runs.specs.mount_stores.Identities.{HasEmptyList}
use Rattle.check_runs.specs.mount_stores.Tower.{held_in, tower_holdings}
use Rattle.check_runs.specs.mount_stores.Unforged.{IsOnlyConfig}
use Rattle.check_runs.specs.mount_stores.declared.error.OpenError.{OpenError}
use Rattle.check_runs.specs.mount_stores.declared.error.OpenError.TheVariants as open_error
use Rattle.outside.specs.Causes.{RoseBy}
use Rattle.outside.specs.Trace.{Call}
use Rattle.outside.specs.declared.keeper.Keeper.{Ghosts as KeeperGhosts}
use Rattle.shell_runs.specs.run_frame.Statuses.{opening_status}
use Rattle.run_status.specs.declared.status.Status.TheVariants.{Memory}
use Rattle.session_laws.proofs.Whole.{only_one}
use Rattle.session_laws.specs.Runs.{Outside, outside_of, PasswordOpens, lies}
use Rattle.session_laws.specs.Turns.{Begun}
use Rattle.shell_runs.specs.record_saver.Saving.{KeptConfigures}
use Rattle.shell_runs.specs.record_saver.declared.saver.SyncError.{SyncError}
use Rattle.shell_runs.specs.record_saver.declared.saver.SyncError.TheVariants as sync_error
use Rattle.copy_file.specs.store_api.Durables.{Identity}
use Rattle.check_runs.specs.mount_core.Showing.{ShowsFiles}
use Rattle.program_laws.specs.Calls.{IsUnfailed, moment_of, Attaches, left_by, WantsMemory, AttachEnds, SyncEnds, CloseEnds, AnewEnds}
use Rattle.program_laws.specs.Mounts.{MountStands, MountUntroubled}
use Rattle.program_laws.specs.Premises.{Leaves}
use Rattle.program_laws.proofs.Opening.{wants}

-- an opening that would end with want of memory finds none
wants_memory : (error : OpenError) → opening_status error ≡ Memory → WantsMemory error
wants_memory open_error.Memory e = tt
wants_memory open_error.NoState e = absurd (cc e)
wants_memory open_error.BadState e = absurd (cc e)
wants_memory open_error.Exists e = absurd (cc e)
wants_memory open_error.Marked e = absurd (cc e)
wants_memory (open_error.Mismatch kept found) e = absurd (cc e)
wants_memory open_error.NoConfig e = absurd (cc e)
wants_memory (open_error.Config config_error.Memory) e = tt
wants_memory (open_error.Config config_error.Form) e = absurd (cc e)
wants_memory (open_error.Config config_error.Locked) e = absurd (cc e)
wants_memory (open_error.Config config_error.Inner) e = absurd (cc e)
wants_memory open_error.FaultDirectory e = absurd (cc e)
wants_memory open_error.FaultState e = absurd (cc e)

module _ {V : Type 0} {K : Type 0} (trace : V → Option (List Call)) (faults : V → ℕ) (G : KeeperGhosts K) where
  -- ---- attach

  module _ (password : List ℕ) (vault : V) (keeper : K) (c : Settings) (tree : Tree) (given : Leaves password c tree (outside_of trace faults G vault keeper)) where
    abbrev Before : Outside
    Before = outside_of trace faults G vault keeper

    only : (after : Outside) → lies after ≤ lies Before → IsOnlyConfig password Before.kept Before.calls after.calls c
    only after honest =
        only_config password Before.kept Before.calls after.calls c given.opens.0 given.opens.2 given.opens.3.0 (opened_only password given.opens.0 c given.opens.1 given.opens.3) honest

    file_told : is_some Before.calls ≡ true
    file_told = represents_told ShowsFiles Before.kept Before.calls c tree given.stands

    module _ (mount : Mount V K) (b : Begun ShowsFiles trace faults G password vault keeper mount) (honest : lies (moment_of trace faults G mount) ≤ lies Before) where
      of_config : settings_of mount.opened.config ≡ c
      of_config = b.stands.config c file_told (only_unforged password Before.kept Before.calls (calls_of trace mount) c (only (moment_of trace faults G mount) honest))

      stands : MountStands trace faults G tree tree mount
      stands = record {
        unviolated = b.opened.fresh;
        stands = b.stands.tree tree (subst (λ x. Represents ShowsFiles Before.kept Before.calls x tree) (sym of_config) given.stands);
      }

      opened_well : AttachEnds trace faults G c tree (Ok mount) × Leaves password c tree (moment_of trace faults G mount)
      opened_well = (
        record { of_config = of_config; stands = stands; emptied = record { state = b.attached.state; keeps = b.attached.kept } },
        record {
          stands = subst (λ x. Represents ShowsFiles (kept_of G mount) (calls_of trace mount) x tree) of_config
              (represents ShowsFiles (settings_of mount.opened.config) b.opened.ready.holder _ _ _ (kept_of G mount) (calls_of trace mount) tree (ap (λ (i : Identity). i.size - 78) b.opened.ready.identity) (ap (λ x. x.0) b.opened.ready.root) b.opened.ready.identity stands.stands.keeps);
          opens = (given.opens.0, given.opens.1, only_one (kept_of G mount) (calls_of trace mount) given.opens.0 (b.stands.file given.opens.0 file_told given.opens.2).kept, given.opens.3);
        },
      )

    pub attached : (result : Result (Mount V K) (Halted V K)) → Attaches trace faults G password vault keeper result → lies (left_by trace faults G result) ≤ lies Before → IsUnfailed Before (left_by trace faults G result)
        → AttachEnds trace faults G c tree result × Leaves password c tree (left_by trace faults G result)
    attached (Ok mount) b honest quiet = opened_well mount b honest
    attached (Err h) u honest quiet =
        let after = outside_of trace faults G h.vault h.keeper in
        let one = only after honest in (
          wants_memory h.error (wants password Before.kept Before.calls after.calls Before.vault_faults after.vault_faults Before.keeper_faults after.keeper_faults c given.opens.1 given.opens.0
              given.opens.2 given.opens.3 honest quiet.directory quiet.state h.error u.fails.cause (u.leaves.calm c tree given.stands one)),
          record {
            stands = u.leaves.represents c tree given.stands (only_unforged password Before.kept Before.calls after.calls c one);
            opens = (given.opens.0, given.opens.1, u.leaves.configures given.opens.0 file_told given.opens.2, given.opens.3);
          },
        )

  -- ---- calls that sync

  module _ (before after : Mount V K) (kept present : Tree) (unviolated : after.core.violated ≡ false) (quiet : IsUnfailed (moment_of trace faults G before) (moment_of trace faults G after)) where
    by_sync : (result : Result Unit SyncError) → Synced ShowsFiles (tower trace faults G) after.core kept present result → OnOk result (HasEmptyList (kept_of G after)) → OnOk result (after.core.saver.changed ≡ false)
        → (IsErrOf result sync_error.FaultDirectory → RoseBy 1 (moment_of trace faults G before).vault_faults (moment_of trace faults G after).vault_faults)
        → (IsErrOf result sync_error.FaultState → RoseBy 1 (moment_of trace faults G before).keeper_faults (moment_of trace faults G after).keeper_faults)
        → SyncEnds trace faults G kept present after result
    by_sync (Ok u) s emptied unchanged directory state = (record { unviolated = unviolated; stands = s }, emptied, unchanged)
    by_sync (Err sync_error.Memory) (inl s) emptied unchanged directory state = inl (record { unviolated = unviolated; stands = s })
    by_sync (Err sync_error.Memory) (inr s) emptied unchanged directory state = inr (record { unviolated = unviolated; stands = s })
    by_sync (Err sync_error.FaultDirectory) s emptied unchanged directory state = absurd (quiet.directory (directory refl))
    by_sync (Err sync_error.FaultState) s emptied unchanged directory state = absurd (quiet.state (state refl))

  pub synced : (before after : Mount V K) (result : Result Unit SyncError) (kept present : Tree) → MountMoves trace faults G before after result → MountSyncs ShowsFiles trace faults G before after result
      → MountStands trace faults G kept present before → IsUnfailed (moment_of trace faults G before) (moment_of trace faults G after) → SyncEnds trace faults G kept present after result
  synced before after result kept present m s stands quiet =
      by_sync before after kept present m.fresh quiet result (s.stands kept present stands.stands) s.emptied s.ok m.leaves.vault_cause m.leaves.keeper_cause

  -- after Ok the file that was sealed is kept, and opens
  new_opens : (before after : Mount V K) (password file : List ℕ) (result : Result Unit SyncError) → OnOk result (KeptConfigures records (kept_of G after) (calls_of trace after) file)
      → IsOnly password file (opened (settings_of before.opened.config) before.opened.params) ⊎ (IsErrOf result sync_error.Memory × (after ≡ before))
      → OnOk result (PasswordOpens password (settings_of before.opened.config) (moment_of trace faults G after))
  new_opens before after password file (Ok u) holds (inl is_only) =
      (file, before.opened.params, holds, (is_only (opened (settings_of before.opened.config) before.opened.params)).1 refl)
  new_opens before after password file (Ok u) holds (inr (e, same)) = absurd (cc e)
  new_opens before after password file (Err e) holds opens = tt

  pub changed : (before after : Mount V K) (result : Result Unit SyncError) (password file : List ℕ) (kept present : Tree) → MountMoves trace faults G before after result → ChangesPassword ShowsFiles trace faults G before password file after result
      → MountStands trace faults G kept present before → IsUnfailed (moment_of trace faults G before) (moment_of trace faults G after)
      → SyncEnds trace faults G kept present after result × OnOk result (PasswordOpens password (settings_of before.opened.config) (moment_of trace faults G after))
  changed before after result password file kept present m s stands quiet = (
    by_sync before after kept present m.fresh quiet result (s.stands kept present stands.stands) s.emptied s.ok m.leaves.vault_cause m.leaves.keeper_cause,
    new_opens before after password file result (s.holds (sound_is_told (held_in (store_of before)) (calls_of trace before) stands.stands.sound.0)) s.opens,
  )

  -- ---- close

  by_closing : (mount : Mount V K) (vault : V) (keeper : K) (kept present : Tree) (result : Result Unit SyncError) → IsUnfailed (moment_of trace faults G mount) (outside_of trace faults G vault keeper)
      → MountLeaves trace faults G mount result vault keeper → MountClosed ShowsFiles (settings_of mount.opened.config) (G.kept keeper) (trace vault) kept present result
      → CloseEnds (settings_of mount.opened.config) kept present (outside_of trace faults G vault keeper) result
  by_closing mount vault keeper kept present (Ok u) quiet leaves s = s
  by_closing mount vault keeper kept present (Err sync_error.Memory) quiet leaves s = s
  by_closing mount vault keeper kept present (Err sync_error.FaultDirectory) quiet leaves s = absurd (quiet.directory (leaves.vault_cause refl))
  by_closing mount vault keeper kept present (Err sync_error.FaultState) quiet leaves s = absurd (quiet.state (leaves.keeper_cause refl))

  pub closed : (mount : Mount V K) (result : Result Unit SyncError) (vault : V) (keeper : K) (kept present : Tree) → MountLeaves trace faults G mount result vault keeper → MountCloses ShowsFiles trace faults G mount result vault keeper
      → MountStands trace faults G kept present mount → IsUnfailed (moment_of trace faults G mount) (outside_of trace faults G vault keeper)
      → CloseEnds (settings_of mount.opened.config) kept present (outside_of trace faults G vault keeper) result
  closed mount result vault keeper kept present leaves closes stands quiet =
      by_closing mount vault keeper kept present result quiet leaves (closes.stands kept present stands.unviolated stands.stands)

  -- ---- migrate

  by_migration : (before after : Mount V K) (result : Result ℕ MigrateError) → is_violation (told result) ≡ false → IfOk result (Counts before after) → OnSpent (told result) (IsSpentAmong (tower_holdings trace) (store_of before) (ids_in before))
      → (directory_faults (told result) ≡ 1 → ⊥) → (state_faults (told result) ≡ 1 → ⊥) → AnewEnds trace before after result
  by_migration before after (Ok count) calm counts spent directory state = counts
  by_migration before after (Err migrate_error.Memory) calm counts spent directory state = tt
  by_migration before after (Err migrate_error.Spent) calm counts spent directory state = spent
  by_migration before after (Err migrate_error.FaultDirectory) calm counts spent directory state = absurd (directory refl)
  by_migration before after (Err migrate_error.FaultState) calm counts spent directory state = absurd (state refl)
  by_migration before after (Err (migrate_error.Violation why)) calm counts spent directory state = absurd (cc calm)

  left_standing : (after : Mount V K) (kept present : Tree) → after.core.violated ≡ false → Left ShowsFiles (tower trace faults G) after.core kept present present false false
      → MountStands trace faults G kept present after ⊎ MountStands trace faults G present present after
  left_standing after kept present fresh (inl s) = inl (record { unviolated = fresh; stands = s })
  left_standing after kept present fresh (inr s) = inr (record { unviolated = fresh; stands = s })

  pub migrated : (before after : Mount V K) (result : Result ℕ MigrateError) (kept present : Tree) → MigratesMount ShowsFiles trace faults G before result after → MountStands trace faults G kept present before
      → MountUntroubled trace faults G before after → AnewEnds trace before after result × (MountStands trace faults G kept present after ⊎ MountStands trace faults G present present after)
  migrated before after result kept present m stands quiet =
      let calm = m.alarm kept present stands.stands quiet.honest in
      let few = m.unforged stands.stands.sound quiet.honest in (
        by_migration before after result calm m.count m.spent
            (λ e. quiet.directory_unfailed (subst (λ n. RoseBy n (vault_faults trace faults before) (vault_faults trace faults after)) e m.vault_cause))
            (λ e. quiet.state_unfailed (subst (λ n. RoseBy n (keeper_faults G before) (keeper_faults G after)) e m.keeper_cause)),
        left_standing after kept present (m.violated ∙ calm) (subst (λ b. Left ShowsFiles (tower trace faults G) after.core kept present present b false) calm (m.stands kept present stands.stands few)),
      )
