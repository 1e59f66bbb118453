-- A file system that was opened and closed, between which no line was answered.
use Rattle.std.proofs.Common.{◌≡◌, ℕ, true, false, List, sym, ◌∙◌, ap, subst, inl, inr}
use Rattle.std.specs.Prelude.{Result, is_some, IsOk}
use Rattle.std.specs.declared.option.Option.{Option}
use Rattle.std.specs.declared.option.Option.TheVariants.{None, Some}
use Rattle.std.specs.declared.result.Result.TheVariants.{Ok, Err}
use Rattle.session_laws.specs.config_file.Settings.{Settings, settings_of}
use Rattle.session_laws.specs.config_file.declared.config.Opened.{Opened}
use Rattle.fs_model.specs.Tree.{Tree}
use Rattle.session_laws.specs.block_versions.Standing.{records}
use Rattle.session_laws.specs.mount.declared.mount.Mount.{Mount}
use Rattle.session_laws.specs.mount.Answering.{store_of, kept_of}
use Rattle.session_laws.specs.mount.Mounts.{MountClosed, Attached}
use Rattle.session_laws.specs.mount.Representing.{Represents}
use Rattle.session_laws.specs.mount.Tower.{tower, TowerStands}
use Rattle.session_laws.proofs.mount_lemmas.Reading.{represents_told}
use Rattle.session_laws.specs.mount_core.Configuring.{ConfigClosed}
use Rattle.session_laws.specs.mount_core.Formats.{StaysLeast}
use Rattle.session_laws.specs.mount_core.Standing.{IsKeptMarked}
use Rattle.session_laws.specs.mount_stores.Tower.{tower_durables}
use Rattle.outside.specs.Changes.{change_at}
use Rattle.outside.specs.Going.{GoesOn, goes_on_onward, goes_on_call, goes_on_equal, goes_on_writes}
use Rattle.outside.specs.Trace.{Call, config, got}
use Rattle.outside.specs.Writes.{after_writes}
use Rattle.session_laws.specs.redo_vault.Redo.{Gave}
use Rattle.outside.specs.declared.keeper.Keeper.{Ghosts as KeeperGhosts}
use Rattle.session_laws.specs.Answering.{calls_of}
use Rattle.session_laws.specs.Runs.{Outside, outside_of, OutsideStandsFor, OpensTo, IsQuietRun}
use Rattle.session_laws.specs.Turns.{Begun, Closing}
use Rattle.session_laws.proofs.Formats.{taken}
use Rattle.session_laws.proofs.Whole.{each_before}
use Rattle.session_laws.specs.record_saver.Saving.{KeptConfigures}
use Rattle.session_laws.specs.record_saver.declared.saver.SyncError.{SyncError}
use Rattle.session_laws.specs.mount_core.Showing.{ShowsFiles}

pub config_ok : (kept : Option (List ℕ)) (calls : Option (List Call)) (may : List (List ℕ)) (file : List ℕ) (closing : Result Unit SyncError) → IsOk closing → ConfigClosed records kept calls may file closing
    → KeptConfigures records kept calls file
config_ok kept calls may file (Ok u) ok c = c
config_ok kept calls may file (Err e) ok c = absurd (cc)

-- ---- opening only adds calls

gave_on : (change : Option (Option (List ℕ))) (old new : Option (List Call)) (answer : Option (List ℕ)) → Gave change old new config 1127 answer → GoesOn old new
gave_on None old new answer g = subst (λ (t : Option (List Call)). GoesOn old t) (sym g) (goes_on_call old (got config 1127 answer))
gave_on (Some bytes) old new answer g = goes_on_equal old new g.0

pub attached_on : (password : List ℕ) (kept0 kept1 : Option (List ℕ)) (old new : Option (List Call)) (o : Opened) → Attached password kept0 kept1 old new o → GoesOn old new
attached_on password kept0 kept1 old new o a =
    subst (λ (t : Option (List Call)). GoesOn old t) (sym a.writes)
    (goes_on_onward old a.read (after_writes a.list a.read) (gave_on (change_at config a.list) old a.read (Some a.found.answer) a.found.gave) (goes_on_writes a.list a.read))

pub told_on : (old new : Option (List Call)) → GoesOn old new → is_some old ≡ true → is_some new ≡ true
told_on None new g e = absurd (cc)
told_on (Some calls) new g e = ap is_some g.1

module _ {V : Type 0} {K : Type 0} (trace : V → Option (List Call)) (faults : V → ℕ) (G : KeeperGhosts K) (password : List ℕ) (vault : V) (keeper : K) (first left : Mount V K) (closing : Result Unit SyncError) (last_vault : V) (last_keeper : K)
    (b : Begun ShowsFiles trace faults G password vault keeper first) (z : Closing ShowsFiles trace faults G left closing last_vault last_keeper)
    (fresh : left.core.violated ≡ false) (same : left.opened ≡ first.opened) (on : GoesOn (calls_of trace first) (calls_of trace left))
    (stands : (tree : Tree) → TowerStands ShowsFiles trace faults G first.core tree tree → TowerStands ShowsFiles trace faults G left.core tree tree) where
  abbrev Before : Outside
  Before = outside_of trace faults G vault keeper

  abbrev After : Outside
  After = outside_of trace faults G last_vault last_keeper

  pub calls_on : GoesOn (calls_of trace first) After.calls
  calls_on = goes_on_onward (calls_of trace first) (calls_of trace left) (trace last_vault) on z.leaves.goes_on

  -- the configuration that was found is that under which what was kept stood for a tree
  pub config_is : (c : Settings) (tree : Tree) → OpensTo ShowsFiles password c tree Before After → settings_of first.opened.config ≡ c
  config_is c tree f =
      b.stands.config c (represents_told ShowsFiles Before.kept Before.calls c tree f.stands)
      (each_before password Before.kept Before.calls (calls_of trace first) After.calls calls_on f.unforged_config)

  of_closed : (c : Settings) (tree : Tree) (result : Result Unit SyncError) → MountClosed ShowsFiles c After.kept After.calls tree tree result → Represents ShowsFiles After.kept After.calls c tree
  of_closed c tree (Ok u) s = s.0
  of_closed c tree (Err e) (inl s) = s
  of_closed c tree (Err e) (inr s) = s

  stands_after : (c : Settings) (tree : Tree) → OpensTo ShowsFiles password c tree Before After → OutsideStandsFor ShowsFiles c tree After
  stands_after c tree f =
      let is = config_is c tree f in
      let begun = b.stands.tree tree (subst (λ x. Represents ShowsFiles Before.kept Before.calls x tree) (sym is) f.stands) in
      subst (λ x. Represents ShowsFiles After.kept After.calls x tree) (ap (λ (o : Opened). settings_of o.config) same ∙ is)
      (of_closed (settings_of left.opened.config) tree closing (z.closes.stands tree tree fresh (stands tree begun)))

  pub quiet : ¬ IsKeptMarked records (G.kept keeper) → (tower_durables trace).least (store_of left) ≡ (tower_durables trace).least (store_of first)
      → StaysLeast (tower trace faults G) (store_of first) (kept_of G first) (kept_of G left) → IsQuietRun ShowsFiles password Before After
  quiet unmarked level stays = record {
    stands = stands_after;
    marked = λ m. absurd (unmarked m);
    least = taken ShowsFiles trace faults G password vault last_vault keeper last_keeper first left closing b level stays z;
  }
