-- Runs compose.
use Rattle.std.proofs.Common.{◌≡◌, ◌⊎◌, ◌||◌, ℕ, Bool, true, false, List, [], ◌∷◌, refl, sym, subst, inl, inr}
use Rattle.std.proofs.lemmas.Bool.{or_left, or_right}
use Rattle.run_frame.specs.answers.Sessions.{latest, violated}
use Rattle.mount.specs.config_file.Settings.{Settings}
use Rattle.fs_model.specs.Tree.{Tree}
use Rattle.mount.specs.block_versions.Standing.{records}
use Rattle.mount.specs.mount_core.Showing.{Showing}
use Rattle.mount.specs.mount_core.Standing.{IsKeptMarked}
use Rattle.mount.specs.Representing.{Represents}
use Rattle.mount.proofs.Reading.{loaded_unmarked}
use Rattle.session_laws.proofs.Looked.{looked_stands}
use Rattle.session_laws.specs.Runs.{Outside, OutsideStandsFor, OpensTo, IsFounded, IsExaminedRun, IsMigrationRun, IsLookedRun}
use Rattle.session_laws.specs.Histories.{Run, session, quiet, examined, migrated, looked, before_of, after_of, exchanges_of, condemns, IsRun, IsUnforgedRun, GoesOnFrom, AreRuns, end_of, was_violated, IsRefusedRun, Looks, RunsFrom, Follow, EndsWith}

module _ (shows : Showing) (c : Settings) where
  pub stands_on : (last next : Outside) (tree : Tree) → GoesOnFrom last next → OutsideStandsFor shows c tree last → OutsideStandsFor shows c tree next
  stands_on last next tree on s = subst (λ x. Represents shows x next.calls c tree) (sym on.kept) (subst (λ x. Represents shows last.kept x c tree) (sym on.calls) s)

  pub marked_on : (last next : Outside) → GoesOnFrom last next → IsKeptMarked records last.kept → IsKeptMarked records next.kept
  marked_on last next on m = subst (IsKeptMarked records) (sym on.kept) m

  -- what one more run does, and where it leaves all
  abbrev Turned : Tree → Bool → Run → Type 0
  Turned from was run = (tree : Tree) × (RunsFrom shows c from run tree ⊎ ((was ≡ true) × (IsRefusedRun run ⊎ Looks run)))
      × (OutsideStandsFor shows c tree (after_of run) ⊎ (((condemns run || was) ≡ true) × IsKeptMarked records (after_of run).kept))

  -- a check
  examining : (password : List ℕ) (before after : Outside) (bad : Bool) (from : Tree) (was : Bool) → IsExaminedRun shows password before after bad → OpensTo shows password c from before after
      → Turned from was (examined password before after bad)
  examining password before after false from was run opens =
      let kept = run.stands c from opens refl in
      (from, inl (record { same = refl; kept = inr kept; no_false_alarm = run.calm c from opens }), inl kept)
  examining password before after true from was run opens = elim (run.condemned c from opens refl) as (λ _. Turned from was (examined password before after true)) [
    | inl m ↦ (from, inl (record { same = refl; kept = inl (refl, m); no_false_alarm = run.calm c from opens }), inr (refl, m))
    | inr kept ↦ (from, inl (record { same = refl; kept = inr kept; no_false_alarm = run.calm c from opens }), inl kept)
  ]

  -- blocks that are written anew
  migrating : (password : List ℕ) (before after : Outside) (bad : Bool) (from : Tree) (was : Bool) → IsMigrationRun shows password before after bad → IsFounded shows password c from before after
      → Turned from was (migrated password before after bad)
  migrating password before after false from was run founded =
      let kept = run.stands c from founded refl in
      (from, inl (record { same = refl; kept = inr kept; no_false_alarm = run.calm c from founded.opens }), inl kept)
  migrating password before after true from was run founded = elim (run.condemned c from founded refl) as (λ _. Turned from was (migrated password before after true)) [
    | inl m ↦ (from, inl (record { same = refl; kept = inl (refl, m); no_false_alarm = run.calm c from founded.opens }), inr (refl, m))
    | inr kept ↦ (from, inl (record { same = refl; kept = inr kept; no_false_alarm = run.calm c from founded.opens }), inl kept)
  ]

  serving : (run : Run) (from : Tree) (was : Bool) → IsRun shows run → IsUnforgedRun c run → OutsideStandsFor shows c from (before_of run) → Turned from was run
  serving (session password before after closing es) from was run u s =
      let a = run.founded c from (record { opens = record { stands = s; unforged_config = u.0 }; unforged = u.1 }) in
      elim a.kept as (λ _. Turned from was (session password before after closing es)) [
        | inl m ↦ (from, inl (record { trees = a.trees; replies = a.replies; kept = inl (m.0, m.1, refl); no_false_alarm = a.no_false_alarm; built = a.built }), inr (or_left (violated es) was m.0, m.1))
        | inr k ↦ (k.0, inl (record { trees = a.trees; replies = a.replies; kept = inr (k.1, k.2); no_false_alarm = a.no_false_alarm; built = a.built }), inl k.2)
      ]
  serving (quiet password before after) from was run u s =
      let kept = run.stands c from (record { stands = s; unforged_config = u }) in
      (from, inl (refl, kept), inl kept)
  serving (examined password before after bad) from was run u s = examining password before after bad from was run (record { stands = s; unforged_config = u })
  serving (migrated password before after bad) from was run u s =
      migrating password before after bad from was run (record { opens = record { stands = s; unforged_config = u.0 }; unforged = u.1 })
  serving (looked before after) from was run u s =
      let kept = looked_stands before after run shows c from s in
      (from, inl (refl, kept), inl kept)

  refused : (run : Run) (from : Tree) (was : Bool) → was ≡ true → IsKeptMarked records (before_of run).kept → exchanges_of run ≡ [] → condemns run ≡ false
      → (after_of run).kept ≡ (before_of run).kept → (after_of run).calls ≡ (before_of run).calls → Turned from was run
  refused run from was w m unanswered uncondemned kept calls = (
    from,
    inr (w, inl (record { marked = m; unanswered = unanswered; uncondemned = uncondemned; kept = kept; calls = calls })),
    inr (or_right (condemns run) was w, subst (IsKeptMarked records) (sym kept) m),
  )

  refusing : (run : Run) (from : Tree) (was : Bool) → was ≡ true → IsRun shows run → IsKeptMarked records (before_of run).kept → Turned from was run
  refusing (session password before after closing es) from was w run m =
      absurd (loaded_unmarked before.kept run.attached.attached.state run.attached.attached.list run.attached.attached.loaded m)
  refusing (quiet password before after) from was w run m =
      let same = run.marked m in
      refused (quiet password before after) from was w m refl refl same.0 same.1
  refusing (examined password before after bad) from was w run m =
      let same = run.marked m in
      refused (examined password before after bad) from was w m refl same.0 same.1 same.2
  refusing (migrated password before after bad) from was w run m =
      let same = run.marked m in
      refused (migrated password before after bad) from was w m refl same.0 same.1 same.2
  refusing (looked before after) from was w run m = (from, inr (w, inr (m, run)), inr (w, subst (IsKeptMarked records) (sym run.kept) m))

  abbrev Composed : Tree → Outside → List Run → Type 0
  Composed first start runs = (trees : List Tree) × Follow shows c first runs trees × EndsWith shows c first start runs trees

  add : (first : Tree) (start : Outside) (run : Run) (runs : List Run) → (before : Composed first start runs) → Turned (latest first before.0) (was_violated runs) run → Composed first start (run ∷ runs)
  add first start run runs before t = (t.0 ∷ before.0, (t.1, before.1), t.2)

  pub compose : (first : Tree) (start : Outside) (runs : List Run) → OutsideStandsFor shows c first start → AreRuns shows c start runs → Composed first start runs
  compose first start [] s all = ([], tt, inl s)
  compose first start (run ∷ runs) s all =
      let before = compose first start runs s all.3 in
      add first start run runs before (elim before.2 as (λ _. Turned (latest first before.0) (was_violated runs) run) [
        | inl stands ↦ serving run (latest first before.0) (was_violated runs) all.0 all.1 (stands_on (end_of start runs) (before_of run) (latest first before.0) all.2 stands)
        | inr marked ↦ refusing run (latest first before.0) (was_violated runs) marked.0 all.0 (marked_on (end_of start runs) (before_of run) all.2 marked.1)
      ])
