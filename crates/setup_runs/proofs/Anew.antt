-- A file system that was opened, whose blocks were written anew or met an error, and that was closed.
use Rattle.std.proofs.Common.{◌≡◌, ◌⊎◌, ◌≤◌, ◌-◌, ℕ, Bool, true, false, List, [], ◌∷◌, length, refl, sym, ◌∙◌, ap, subst, inl, inr, arith}
use Rattle.std.specs.Prelude.{Result, is_some, is_ok, IfOk, IsOk, OnOk, OnErr}
use Rattle.std.specs.declared.option.Option.{Option}
use Rattle.std.specs.declared.result.Result.TheVariants.{Ok, Err}
use Rattle.session_laws.specs.aes_gcm.Gcm.{opened_of}
use Rattle.session_laws.specs.answers.Sessions.{is_violation, directory_faults, state_faults}
use Rattle.session_laws.specs.answers.declared.answer.Answer.{Answer}
use Rattle.session_laws.specs.answers.declared.answer.Answer.TheVariants as answer
use Rattle.session_laws.specs.config_file.Settings.{Settings, settings_of}
use Rattle.session_laws.specs.config_file.declared.config.Opened.{Opened}
use Rattle.fs_model.specs.Tree.{Tree}
use Rattle.session_laws.specs.block_versions.Forgeries.{forged}
use Rattle.session_laws.specs.block_versions.Standing.{records}
use Rattle.session_laws.specs.local_state.Known.{live_ids}
use Rattle.session_laws.specs.local_state.Record.{PlainState}
use Rattle.session_laws.proofs.mount_lemmas.Reading.{represents_told}
use Rattle.session_laws.proofs.mount_lemmas.Standing.{represents}
use Rattle.session_laws.specs.mount.Answering.{store_of, calls_of, forgeries_of, lies_of, kept_of}
use Rattle.session_laws.specs.mount.declared.mount.Mount.{Mount}
use Rattle.session_laws.specs.mount.Mounts.{IsReady, MountClosed}
use Rattle.session_laws.specs.mount.Representing.{Represents}
use Rattle.session_laws.specs.mount.Tower.{tower, TowerStands}
use Rattle.session_laws.specs.mount.Formats.{TakesFrom}
use Rattle.mount_calls.proofs.Newest.{newest_takes}
use Rattle.mount_calls.specs.Migrating.{ids_in, least_in, KeepsNewest, Counts, MigratesMount}
use Rattle.session_laws.specs.mount_core.Answers.{OnSpent}
use Rattle.session_laws.specs.mount_core.Configuring.{ConfigAnswered, ConfigClosed}
use Rattle.session_laws.specs.mount_core.Standing.{Left, IsKeptMarked}
use Rattle.mount_calls.specs.mount_migrating.Migrating.{told, IsSpentAmong}
use Rattle.mount_calls.specs.mount_migrating.declared.error.MigrateError.{MigrateError}
use Rattle.session_laws.proofs.mount_stores_lemmas.Reading.{same_kept}
use Rattle.session_laws.specs.mount_stores.Identities.{KeepsRecord}
use Rattle.session_laws.specs.mount_stores.Tower.{held_in, tower_holdings, tower_durables}
use Rattle.outside.specs.Causes.{RoseBy}
use Rattle.outside.specs.Going.{goes_on_onward}
use Rattle.outside.specs.Honest.{count_told}
use Rattle.outside.specs.Trace.{Call}
use Rattle.outside.specs.declared.keeper.Keeper.{Ghosts as KeeperGhosts}
use Rattle.session_laws.specs.run_frame.Statuses.{session_status}
use Rattle.run_status.specs.declared.ended.Ended.{Ended}
use Rattle.session_laws.specs.session_lines.declared.end.End.{End}
use Rattle.session_laws.proofs.Whole.{each_before, only_one, directory_rose, state_rose, directory_still, state_still}
use Rattle.session_laws.specs.Passing.{MountKeeps}
use Rattle.session_laws.specs.Runs.{Outside, outside_of, OutsideStandsFor, OpensTo, IsFounded, IsMigrationRun, forgeries, lies}
use Rattle.session_laws.specs.Turns.{Begun, Closing}
use Rattle.session_laws.specs.record_saver.Saving.{KeptConfigures}
use Rattle.session_laws.specs.record_saver.declared.saver.SyncError.{SyncError}
use Rattle.session_laws.specs.store_api.Durables.{Identity}
use Rattle.session_laws.specs.mount_core.Showing.{ShowsFiles}
use Rattle.setup_runs.specs.Migrate.{IsCount, IsSpentIn, LeavesMigrated}

true_is_false : true ≡ false → ⊥
true_is_false e = cc

on_spent : {P : Type 0} {Q : Type 0} (a : Answer) → (P → Q) → OnSpent a P → OnSpent a Q
on_spent answer.Spent f p = f p
on_spent (answer.Reply r) f p = tt
on_spent (answer.Violation why) f p = tt
on_spent answer.Memory f p = tt
on_spent answer.FaultDirectory f p = tt
on_spent answer.FaultState f p = tt
on_spent answer.Refused f p = tt

config_closed : (kept : Option (List ℕ)) (calls : Option (List Call)) (file : List ℕ) (closing : Result Unit SyncError) → ConfigClosed records kept calls (file ∷ []) file closing → KeptConfigures records kept calls file
config_closed kept calls file (Ok u) k = k
config_closed kept calls file (Err e) k = only_one kept calls file k

module _ {V : Type 0} {K : Type 0} (trace : V → Option (List Call)) (faults : V → ℕ) (G : KeeperGhosts K) (password : List ℕ) (vault : V) (keeper : K) (first left : Mount V K) (migration : Result ℕ MigrateError) (closing : Result Unit SyncError) (ended : Ended V K)
    (b : Begun ShowsFiles trace faults G password vault keeper first) (unmarked : ¬ IsKeptMarked records (G.kept keeper)) (m : MigratesMount ShowsFiles trace faults G first migration left) (ready : IsReady trace faults G left)
    (z : Closing ShowsFiles trace faults G left closing ended.vault ended.keeper) where
  abbrev Before : Outside
  Before = outside_of trace faults G vault keeper

  abbrev After : Outside
  After = outside_of trace faults G ended.vault ended.keeper

  abbrev bad : Bool
  bad = is_violation (told migration)

  -- ---- closing

  unsaved : (r : Result ℕ MigrateError) → OnOk r (first.core.saver.changed ≡ false → left.core.saver.changed ≡ false) → IsOk r → left.core.saver.changed ≡ false
  unsaved (Ok n) same ok = same b.opened.unchanged
  unsaved (Err e) same ok = absurd (cc)

  idle : IsOk migration ⊎ (bad ≡ true) → (left.core.violated ≡ true) ⊎ (left.core.saver.changed ≡ false)
  idle (inl ok) = inr (unsaved migration m.unchanged ok)
  idle (inr is) = inl (m.violated ∙ is)

  newest : (r : Result ℕ MigrateError) → migration ≡ r → OnOk r (first.core.saver.changed ≡ false → KeepsNewest (kept_of G left)) → OnOk r (KeepsNewest (G.kept ended.keeper))
  newest (Ok n) is k =
      let l = z.closes.left (idle (inl (ap (λ (r : Result ℕ MigrateError). is_ok r) is))) in
      subst (λ (k : K). KeepsNewest (G.kept k)) (sym l.2) (k b.opened.unchanged)
  newest (Err e) is k = tt

  -- ---- the record that was opened

  state_is : (held_in (store_of first)).state ≡ b.attached.state
  state_is =
      let h = held_in (store_of first) in
      let whole = b.opened.ready.core.whole in
      let last : KeepsRecord (kept_of G first) h.state [] = record { bytes = first.core.saver.last.items; kept = whole.kept b.opened.unchanged; is_record = whole.last b.opened.unchanged } in
      (same_kept (kept_of G first) h.state b.attached.state [] [] last b.attached.kept).0

  counted : (r : Result ℕ MigrateError) → IfOk r (Counts first left) → IfOk r (IsCount b.attached.state)
  counted (Ok n) (inl c) = inl (sym (ap (λ (s : PlainState). s.least) state_is) ∙ c.0, c.1)
  counted (Ok n) (inr c) = inr (sym (ap (λ (s : PlainState). s.least) state_is) ∙ c.0, c.1 ∙ ap (λ (s : PlainState). length (live_ids s.lives)) state_is)
  counted (Err e) c = tt

  spent_so : IsSpentAmong (tower_holdings trace) (store_of first) (ids_in first) → IsSpentIn b.attached.state
  spent_so s = subst (λ (p : PlainState). IsSpentIn p) state_is (s.0, s.1, (let e = s.2 in omega (arith, e)))

  -- ---- the configuration that opened is the one

  module _ (c : Settings) (tree : Tree) (f : OpensTo ShowsFiles password c tree Before After) where
    is_opened : settings_of first.opened.config ≡ c
    is_opened =
        let on = goes_on_onward (calls_of trace first) (calls_of trace left) (trace ended.vault) m.goes_on z.leaves.goes_on in
        b.stands.config c (represents_told ShowsFiles Before.kept Before.calls c tree f.stands) (each_before password Before.kept Before.calls (calls_of trace first) After.calls on f.unforged_config)

    is_left : settings_of left.opened.config ≡ c
    is_left = ap (λ (o : Opened). settings_of o.config) m.opened ∙ is_opened

    forged_first : forgeries_of trace faults first ≡ forgeries c Before
    forged_first = b.calls.forgeries ∙ ap (λ (s : Settings). count_told (forged (opened_of s.key) s.block_size) (trace vault)) is_opened

    forged_last : forgeries c After ≡ forgeries_of trace faults left
    forged_last = sym (ap (λ (s : Settings). count_told (forged (opened_of s.key) s.block_size) (trace ended.vault)) is_left) ∙ z.leaves.forgeries

    stood_first : TowerStands ShowsFiles trace faults G first.core tree tree
    stood_first = b.stands.tree tree (subst (λ (s : Settings). Represents ShowsFiles Before.kept Before.calls s tree) (sym is_opened) f.stands)

    honest_lies : lies After ≤ lies Before → lies_of trace faults left ≤ lies_of trace faults first
    honest_lies honest = let l = z.leaves.lies in let g = b.calls.lies in omega (arith, l, g, honest)

    calm_last : lies After ≤ lies Before → bad ≡ false
    calm_last honest = m.alarm tree tree stood_first (honest_lies honest)

    unforged_last : lies After ≤ lies Before → forgeries c After ≤ forgeries c Before
    unforged_last honest = let few = m.unforged stood_first.sound (honest_lies honest) in omega (arith, forged_first, forged_last, few)

    of_keeps : MountKeeps ShowsFiles trace G left tree → Represents ShowsFiles (kept_of G left) (calls_of trace left) c tree
    of_keeps k = subst (λ (s : Settings). Represents ShowsFiles (kept_of G left) (calls_of trace left) s tree) is_left
        (represents ShowsFiles (settings_of left.opened.config) ready.holder _ _ _ (kept_of G left) (calls_of trace left) tree (ap (λ (i : Identity). i.size - 78) ready.identity) (ap (λ x. x.0) ready.root) ready.identity k)

    of_closed : (result : Result Unit SyncError) → MountClosed ShowsFiles (settings_of left.opened.config) After.kept After.calls tree tree result → OutsideStandsFor ShowsFiles c tree After
    of_closed (Ok u) s = subst (λ (x : Settings). Represents ShowsFiles After.kept After.calls x tree) is_left s.0
    of_closed (Err e) (inl s) = subst (λ (x : Settings). Represents ShowsFiles After.kept After.calls x tree) is_left s
    of_closed (Err e) (inr s) = subst (λ (x : Settings). Represents ShowsFiles After.kept After.calls x tree) is_left s

    after_closing : TowerStands ShowsFiles trace faults G left.core tree tree → bad ≡ false → OutsideStandsFor ShowsFiles c tree After
    after_closing s fine = of_closed closing (z.closes.stands tree tree (m.violated ∙ fine) s)

    after_left : bad ≡ true → MountKeeps ShowsFiles trace G left tree → OutsideStandsFor ShowsFiles c tree After
    after_left is k =
        let l = z.closes.left (inl (m.violated ∙ is)) in
        subst (λ (k : K). Represents ShowsFiles (G.kept k) (trace ended.vault) c tree) (sym l.2) (subst (λ (v : V). Represents ShowsFiles (kept_of G left) (trace v) c tree) (sym l.1) (of_keeps k))

    stands_so : (flag : Bool) → bad ≡ flag → Left ShowsFiles (tower trace faults G) left.core tree tree tree flag false → bad ≡ false → OutsideStandsFor ShowsFiles c tree After
    stands_so true is s fine = absurd (true_is_false (sym is ∙ fine))
    stands_so false is (inl s) fine = after_closing s fine
    stands_so false is (inr s) fine = after_closing s fine

    condemned_so : (flag : Bool) → bad ≡ flag → Left ShowsFiles (tower trace faults G) left.core tree tree tree flag false → bad ≡ true → IsKeptMarked records After.kept ⊎ OutsideStandsFor ShowsFiles c tree After
    condemned_so false is s not_so = absurd (true_is_false (sym not_so ∙ is))
    condemned_so true is (inl k) so = let l = z.closes.left (inl (m.violated ∙ is)) in inl (subst (λ (k : K). IsKeptMarked records (G.kept k)) (sym l.2) k)
    condemned_so true is (inr (inl k)) so = inr (after_left is k)
    condemned_so true is (inr (inr k)) so = inr (after_left is k)

  module _ (c : Settings) (tree : Tree) (f : IsFounded ShowsFiles password c tree Before After) where
    few : forgeries_of trace faults left ≤ forgeries_of trace faults first
    few = omega (arith, forged_first c tree f.opens, forged_last c tree f.opens, f.unforged)

    left_so : Left ShowsFiles (tower trace faults G) left.core tree tree tree bad false
    left_so = m.stands tree tree (stood_first c tree f.opens) few

  -- an error was met only where the older format was taken, and otherwise the newest is
  stays_newest : (r : Result ℕ MigrateError) → migration ≡ r → OnErr r (least_in first ≡ 1) → TakesFrom 2 Before.kept → TakesFrom 2 After.kept
  stays_newest (Ok n) is older takes =
      let k : KeepsNewest After.kept = subst (λ (r : Result ℕ MigrateError). OnOk r (KeepsNewest After.kept)) is (newest migration refl m.kept) in
      newest_takes After.kept k
  stays_newest (Err e) is older takes =
      absurd (cc (sym older ∙ b.level 2 takes))

  run : IsMigrationRun ShowsFiles password Before After bad
  run = record {
    stands = λ c tree f fine. stands_so c tree f.opens bad refl (left_so c tree f) fine;
    condemned = λ c tree f is. condemned_so c tree f.opens bad refl (left_so c tree f) is;
    calm = calm_last;
    unforged = unforged_last;
    marked = λ k. absurd (unmarked k);
    least = stays_newest migration refl m.older;
  }

  -- ---- the configuration's file

  config_after : (file : List ℕ) (flag : Bool) → bad ≡ flag → ConfigAnswered (tower_holdings trace) (tower_durables trace) records G left.core (file ∷ []) file flag → KeptConfigures records After.kept After.calls file
  config_after file true v c =
      let l = z.closes.left (inl (m.violated ∙ v)) in
      subst (λ (k : K). KeptConfigures records (G.kept k) (trace ended.vault) file) (sym l.2) (subst (λ (x : V). KeptConfigures records (kept_of G left) (trace x) file) (sym l.1) (only_one (kept_of G left) (calls_of trace left) file c))
  config_after file false v c = config_closed (G.kept ended.keeper) (trace ended.vault) file closing (z.closes.configures (file ∷ []) file (m.violated ∙ v) c)

  kept_file : (file : List ℕ) → is_some Before.calls ≡ true → KeptConfigures records Before.kept Before.calls file → KeptConfigures records After.kept After.calls file
  kept_file file is_told k = config_after file bad refl (m.configures (file ∷ []) file (b.stands.file file is_told k))

  -- ---- faults

  marked_after : bad ≡ true → IsKeptMarked records After.kept ⊎ RoseBy 1 Before.keeper_faults After.keeper_faults
  marked_after is =
      let l = z.closes.left (inl (m.violated ∙ is)) in
      elim (m.marked is) [
        | inl k ↦ inl (subst (λ (k : K). IsKeptMarked records (G.kept k)) (sym l.2) k)
        | inr r ↦ inr (let k = ap G.faults l.2 in let g = b.calls.keeper_quiet in omega (arith, r, k, g))
      ]

  pub leaves : LeavesMigrated trace faults G password vault keeper first b.attached.state migration closing ended
  leaves = record {
    count = counted migration m.count;
    newest = newest migration refl m.kept;
    spent = on_spent (told migration) spent_so m.spent;
    closed = λ done. (z.closes.left (idle done)).0;
    directory_faults_happened = directory_rose closing (directory_faults (told migration)) _ _ _ _ b.calls.vault_quiet m.vault_cause z.leaves.vault_grows z.leaves.vault_cause;
    state_faults_happened = state_rose closing (state_faults (told migration)) _ _ _ _ b.calls.keeper_quiet m.keeper_cause z.leaves.keeper_grows z.leaves.keeper_cause;
    directory_quiet = directory_still closing (directory_faults (told migration)) _ _ _ _ b.calls.vault_quiet m.vault_quiet z.leaves.vault_quiet;
    state_quiet = λ fine. state_still closing (state_faults (told migration)) _ _ _ _ b.calls.keeper_quiet (λ none. m.keeper_quiet none fine) z.leaves.keeper_quiet;
    marked = marked_after;
    run = run;
    opens = λ other c is_told o. (o.0, o.1, kept_file o.0 is_told o.2, o.3);
    config = is_opened;
    unmarked = unmarked;
  }

  -- the status is that of a session, with the violation that stands in the mount
  pub status_so : (end : End) → ended.status ≡ session_status left.core.violated end closing → ended.status ≡ session_status bad end closing
  status_so end e = e ∙ ap (λ (v : Bool). session_status v end closing) m.violated
