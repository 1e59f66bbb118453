-- Until the directory gives a forged file of a block, the answers are the plain tree's.
use Rattle.std.proofs.Common.{◌≡◌, ◌⊎◌, ◌≤◌, ◌<◌, ◌∙◌, ℕ, List, [], ◌∷◌, refl, sym, ap, subst, inl, inr, arith}
use Rattle.std.proofs.lemmas.Bool.{cases_lt}
use Rattle.std.specs.Prelude.{Result}
use Rattle.std.specs.declared.option.Option.{Option}
use Rattle.mount.specs.aes_gcm.Gcm.{opened_of}
use Rattle.run_frame.specs.answers.Hosts.{Hosting, Ran}
use Rattle.run_frame.specs.answers.Sessions.{Exchange}
use Rattle.mount.specs.config_file.Settings.{Settings, settings_of}
use Rattle.fs_model.specs.Tree.{Tree}
use Rattle.mount.specs.block_versions.Forgeries.{forged}
use Rattle.mount.proofs.Reading.{represents_told}
use Rattle.mount.specs.Answering.{store_of, calls_of, forgeries_of}
use Rattle.mount.specs.Representing.{Represents}
use Rattle.mount.specs.Tower.{TowerStands}
use Rattle.mount.specs.declared.mount.Mount.{Mount}
use Rattle.run_frame.specs.mount_stores.Tower.{tower_durables}
use Rattle.outside.specs.Going.{goes_on_onward}
use Rattle.outside.specs.Honest.{count_told}
use Rattle.outside.specs.Trace.{Call}
use Rattle.outside.specs.declared.keeper.Keeper.{Ghosts as KeeperGhosts}
use Rattle.session_laws.proofs.Passes.{passed}
use Rattle.session_laws.proofs.Whole.{each_before}
use Rattle.session_laws.specs.Answering.{mount_hosting}
use Rattle.session_laws.specs.Passing.{Passed, PassedTrees}
use Rattle.session_laws.specs.Runs.{OpensTo, forgeries, outside_of}
use Rattle.session_laws.specs.Turns.{OnMount}
use Rattle.mount.specs.record_saver.declared.saver.SyncError.{SyncError}
use Rattle.mount.specs.store_api.Durables.{Identity}
use Rattle.mount.specs.mount_core.Showing.{Showing}
use Rattle.session_laws.specs.Forgeries.{forgeries_at, RoseAt, RightUntilForged}

-- ---- up to the line in whose answer a count rises

record Front {H : Type 0} (M : Hosting H) (count : H → ℕ) (old last : H) (es : List Exchange) : Type 0 where
  pub earlier : List Exchange
  pub mid : H
  pub ran : Ran M old earlier mid
  pub few : count mid ≤ count old
  pub until : ((es ≡ earlier) × (last ≡ mid)) ⊎ RoseAt M count mid last earlier es

module _ {H : Type 0} (M : Hosting H) (count : H → ℕ) (old : H) where
  -- no line before this one raised it
  by_count : (mid new : H) (e : Exchange) (es earlier : List Exchange) → Ran M old earlier mid → count mid ≤ count old → es ≡ earlier → M.answers mid e.at e.asked e.answer new
      → (count mid < count new) ⊎ (count new ≤ count mid) → Front M count old new (e ∷ es)
  by_count mid new e es earlier ran few all answers (inl rose) = record {
    earlier = earlier;
    mid = mid;
    ran = ran;
    few = few;
    until = inr (record { line = e; new = new; answers = answers; rose = rose; later = []; ran = refl; all = ap (λ x. e ∷ x) all });
  }
  by_count mid new e es earlier ran few all answers (inr same) = record {
    earlier = e ∷ earlier;
    mid = new;
    ran = (mid, ran, answers);
    few = omega (arith, few, same);
    until = inl (ap (λ x. e ∷ x) all, refl);
  }

  one_more : (mid new : H) (e : Exchange) (es : List Exchange) → Ran M old es mid → M.answers mid e.at e.asked e.answer new → (earlier : List Exchange) (at : H) → Ran M old earlier at → count at ≤ count old
      → ((es ≡ earlier) × (mid ≡ at)) ⊎ RoseAt M count at mid earlier es → Front M count old new (e ∷ es)
  one_more mid new e es all_ran answers earlier at ran few (inl (all, same)) =
      by_count at new e es earlier ran few all (subst (λ (h : H). M.answers h e.at e.asked e.answer new) same answers) (cases_lt (count at) (count new))
  one_more mid new e es all_ran answers earlier at ran few (inr rise) = record {
    earlier = earlier;
    mid = at;
    ran = ran;
    few = few;
    until = inr (record {
      line = rise.line;
      new = rise.new;
      answers = rise.answers;
      rose = rise.rose;
      later = e ∷ rise.later;
      ran = (mid, rise.ran, answers);
      all = ap (λ x. e ∷ x) rise.all;
    });
  }

  front : (last : H) (es : List Exchange) → Ran M old es last → Front M count old last es
  front last [] r = record { earlier = []; mid = old; ran = refl; few = omega arith; until = inl (refl, r) }
  front last (e ∷ es) r = let f = front r.0 es r.1 in one_more r.0 last e es r.1 r.2 f.earlier f.mid f.ran f.few f.until

-- ---- of a session

module _ {V : Type 0} {K : Type 0} (shows : Showing) (trace : V → Option (List Call)) (faults : V → ℕ) (G : KeeperGhosts K) (password : List ℕ) (vault last_vault : V) (keeper last_keeper : K)
    (closing : Result Unit SyncError) (es : List Exchange) (m : OnMount shows trace faults G password vault keeper closing last_vault last_keeper es)
    (c : Settings) (first : Tree) (f : OpensTo shows password c first (outside_of trace faults G vault keeper) (outside_of trace faults G last_vault last_keeper)) where
  abbrev Serving : Hosting (Mount V K)
  Serving = mount_hosting (λ (x : Mount V K). x) shows trace faults G

  went : (mid : Mount V K) (earlier : List Exchange) → Ran Serving m.opened earlier mid → Passed shows trace faults G m.opened mid earlier
  went mid earlier ran = passed (λ (x : Mount V K). x) shows trace faults G m.opened mid earlier m.begun.opened.fresh ran

  is_opened : settings_of m.opened.opened.config ≡ c
  is_opened =
      let told = represents_told shows (G.kept keeper) (trace vault) c first f.stands in
      let on = goes_on_onward (calls_of trace m.opened) (calls_of trace m.left) (trace last_vault) (went m.left es m.ran).goes_on m.closed.leaves.goes_on in
      m.begun.stands.config c told (each_before password (G.kept keeper) (trace vault) (calls_of trace m.opened) (trace last_vault) on f.unforged_config)

  stood : TowerStands shows trace faults G m.opened.core first first
  stood = m.begun.stands.tree first (subst (λ x. Represents shows (G.kept keeper) (trace vault) x first) (sym is_opened) f.stands)

  -- the store stays that of its configuration
  same_identity : (mid : Mount V K) (earlier : List Exchange) → Ran Serving m.opened earlier mid → (tower_durables trace).identity (store_of mid) ≡ (tower_durables trace).identity (store_of m.opened)
  same_identity mid [] r = ap (λ (x : Mount V K). (tower_durables trace).identity (store_of x)) r
  same_identity mid (e ∷ earlier) r = r.2.line.store.identity ∙ same_identity r.0 earlier r.1

  -- so its count of forgeries is that of its calls
  counts : (mid : Mount V K) (earlier : List Exchange) → Ran Serving m.opened earlier mid → forgeries_of trace faults mid ≡ forgeries_at trace c mid
  counts mid earlier r =
      ap (λ (i : Identity). count_told (forged i.opens i.size) (calls_of trace mid)) (same_identity mid earlier r ∙ m.begun.opened.ready.identity)
      ∙ ap (λ (s : Settings). count_told (forged (opened_of s.key) s.block_size) (calls_of trace mid)) is_opened

  at_first : forgeries_of trace faults m.opened ≡ forgeries c (outside_of trace faults G vault keeper)
  at_first = m.begun.calls.forgeries ∙ ap (λ (s : Settings). count_told (forged (opened_of s.key) s.block_size) (trace vault)) is_opened

  pub right : RightUntilForged shows trace faults G c first (forgeries c (outside_of trace faults G vault keeper)) m.opened m.left es
  right =
      let u = front Serving (forgeries_at trace c) m.opened m.left es m.ran in
      let p = went u.mid u.earlier u.ran in
      let here = counts u.mid u.earlier u.ran in
      let there = counts m.opened [] refl in
      let few : forgeries_of trace faults u.mid ≤ forgeries_of trace faults m.opened = omega (arith, here, there, u.few) in
      let t : PassedTrees shows trace faults G m.opened u.mid first u.earlier = p.passes first stood few in
      record {
        earlier = u.earlier;
        mount = u.mid;
        ran = u.ran;
        unforged = let start = at_first in let grew = p.forgeries in omega (arith, here, start, few, grew);
        trees = t.trees;
        replies = t.session;
        stands = t.left;
        built = t.built;
        until = u.until;
      }
