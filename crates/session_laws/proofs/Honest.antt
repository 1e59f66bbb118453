-- Where a directory gave what was last written, nothing that opens was forged.
use Rattle.std.proofs.Common.{◌≡◌, ◌≤◌, ◌||◌, ℕ, Bool, false, List, [], ◌∷◌, refl, sym, ap, ◌∙◌, inl, inr, arith}
use Rattle.std.specs.declared.option.Option.{Option}
use Rattle.mount.specs.aes_gcm.Gcm.{opened_of}
use Rattle.mount.specs.block_versions.Forgeries.{forged}
use Rattle.outside.specs.Honest.{count_told}
use Rattle.outside.specs.Trace.{Call}
use Rattle.run_frame.specs.answers.Sessions.{latest}
use Rattle.mount.specs.config_file.Settings.{Settings}
use Rattle.fs_model.specs.Tree.{Tree}
use Rattle.mount.specs.block_versions.Standing.{records}
use Rattle.mount.specs.mount_core.Showing.{Showing}
use Rattle.mount.specs.mount_core.Standing.{IsKeptMarked}
use Rattle.run_frame.specs.mount_stores.Unforged.{IsOnlyConfig, IsUnforgedConfig}
use Rattle.mount.proofs.Reading.{loaded_unmarked}
use Rattle.run_frame.proofs.mount_stores_lemmas.Reading.{only_unforged}
use Rattle.session_laws.specs.Runs.{Outside, OutsideStandsFor, lies}
use Rattle.session_laws.proofs.Whole.{unviolated}
use Rattle.session_laws.specs.Histories.{Run, session, quiet, examined, migrated, looked, before_of, condemns, was_violated, IsRun, IsUnforgedRun, AreRuns, end_of, OpensOrLocks, OpensOnly, IsHonestRun, AreHonestRuns}
use Rattle.session_laws.proofs.Configuration.{opened_only, locked_only, only_config}
use Rattle.session_laws.proofs.Following.{stands_on, marked_on, compose}

config_only : (password : List ℕ) (c : Settings) (before after : Outside) → OpensOrLocks password c before → lies after ≤ lies before → IsOnlyConfig password before.kept before.calls after.calls c
config_only password c before after (inl (file, cost, holds, opens)) honest =
    only_config password before.kept before.calls after.calls c file holds opens.0 (opened_only password file c cost opens) honest
config_only password c before after (inr (file, holds, locks)) honest =
    only_config password before.kept before.calls after.calls c file holds locks.0 (locked_only password file c locks) honest

config_unforged : (password : List ℕ) (c : Settings) (before after : Outside) → OpensOrLocks password c before → lies after ≤ lies before → IsUnforgedConfig password before.kept before.calls after.calls c
config_unforged password c before after opens honest = only_unforged password before.kept before.calls after.calls c (config_only password c before after opens honest)

pub one_opens_only : (c : Settings) (run : Run) → IsHonestRun c run → OpensOnly c run
one_opens_only c (session password before after closing es) h = config_only password c before after h.opens h.gave
one_opens_only c (quiet password before after) h = config_only password c before after h.opens h.gave
one_opens_only c (examined password before after bad) h = config_only password c before after h.opens h.gave
one_opens_only c (migrated password before after bad) h = config_only password c before after h.opens h.gave
one_opens_only c (looked before after) h = tt

module _ (shows : Showing) (c : Settings) where
  pub one_unforged : (tree : Tree) (run : Run) → IsRun shows run → OutsideStandsFor shows c tree (before_of run) → IsHonestRun c run → IsUnforgedRun c run
  one_unforged tree (session password before after closing es) run stands h =
      let config = config_unforged password c before after h.opens h.gave in
      (config, run.unforged c tree (record { stands = stands; unforged_config = config }) h.gave)
  one_unforged tree (quiet password before after) run stands h = config_unforged password c before after h.opens h.gave
  one_unforged tree (examined password before after bad) run stands h = config_unforged password c before after h.opens h.gave
  one_unforged tree (migrated password before after bad) run stands h =
      let config = config_unforged password c before after h.opens h.gave in
      (config, run.unforged c tree (record { stands = stands; unforged_config = config }) h.gave)
  one_unforged tree (looked before after) run stands h = tt

  -- over a marked record no session is opened, and no call made
  marked_unforged : (run : Run) → IsRun shows run → IsKeptMarked records (before_of run).kept → IsHonestRun c run → IsUnforgedRun c run
  marked_unforged (session password before after closing es) run m h =
      absurd (loaded_unmarked before.kept run.attached.attached.state run.attached.attached.list run.attached.attached.loaded m)
  marked_unforged (quiet password before after) run m h = config_unforged password c before after h.opens h.gave
  marked_unforged (examined password before after bad) run m h = config_unforged password c before after h.opens h.gave
  marked_unforged (migrated password before after bad) run m h =
      let same = ap (λ (t : Option (List Call)). count_told (forged (opened_of c.key) c.block_size) t) (run.marked m).2 in
      (config_unforged password c before after h.opens h.gave, omega (arith, same))
  marked_unforged (looked before after) run m h = tt

  pub all_unforged : (first : Tree) (start : Outside) (runs : List Run) → OutsideStandsFor shows c first start → AreHonestRuns shows c start runs → AreRuns shows c start runs
  all_unforged first start [] s all = tt
  all_unforged first start (run ∷ runs) s all =
      let before = all_unforged first start runs s all.3 in
      let left = compose shows c first start runs s before in
      let unforged = elim left.2 as (λ _. IsUnforgedRun c run) [
        | inl stands ↦ one_unforged (latest first left.0) run all.0 (stands_on shows c (end_of start runs) (before_of run) (latest first left.0) all.2 stands) all.1
        | inr marked ↦ marked_unforged run all.0 (marked_on shows c (end_of start runs) (before_of run) all.2 marked.1) all.1
      ] in
      (all.0, unforged, all.2, before)

  pub one_calm : (tree : Tree) (run : Run) → IsRun shows run → OutsideStandsFor shows c tree (before_of run) → IsHonestRun c run → condemns run ≡ false
  one_calm tree (session password before after closing es) run stands h =
      let unforged = one_unforged tree (session password before after closing es) run stands h in
      let answers = run.founded c tree (record { opens = record { stands = stands; unforged_config = unforged.0 }; unforged = unforged.1 }) in
      unviolated es (answers.no_false_alarm h.gave)
  one_calm tree (quiet password before after) run stands h = refl
  one_calm tree (examined password before after bad) run stands h =
      run.calm c tree (record { stands = stands; unforged_config = config_unforged password c before after h.opens h.gave }) h.gave
  one_calm tree (migrated password before after bad) run stands h =
      run.calm c tree (record { stands = stands; unforged_config = config_unforged password c before after h.opens h.gave }) h.gave
  one_calm tree (looked before after) run stands h = refl

  neither : (one other : Bool) → one ≡ false → other ≡ false → (one || other) ≡ false
  neither one other e f = ap (λ (b : Bool). b || other) e ∙ f

  -- without a violation before it, what the runs left is a tree
  left_tree : (first : Tree) (start : Outside) (run : Run) (runs : List Run) → OutsideStandsFor shows c first start → AreHonestRuns shows c start (run ∷ runs) → was_violated runs ≡ false
      → (tree : Tree) × OutsideStandsFor shows c tree (before_of run)
  left_tree first start run runs s all none =
      let left = compose shows c first start runs s (all_unforged first start runs s all.3) in
      elim left.2 as (λ _. (tree : Tree) × OutsideStandsFor shows c tree (before_of run)) [
        | inl stands ↦ (latest first left.0, stands_on shows c (end_of start runs) (before_of run) (latest first left.0) all.2 stands)
        | inr marked ↦ absurd (cc (sym marked.0 ∙ none))
      ]

  pub all_calm : (first : Tree) (start : Outside) (runs : List Run) → OutsideStandsFor shows c first start → AreHonestRuns shows c start runs → was_violated runs ≡ false
  all_calm first start [] s all = refl
  all_calm first start (run ∷ runs) s all =
      let before = all_calm first start runs s all.3 in
      let left = left_tree first start run runs s all before in
      neither (condemns run) (was_violated runs) (one_calm left.0 run all.0 left.1 all.1) before
