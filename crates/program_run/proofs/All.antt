-- Any list of calls of `run`.
use Rattle.std.proofs.Common.{◌≡◌, ◌∙◌, ◌⊎◌, ℕ, Bool, true, false, List, [], ◌∷◌, refl, sym, ap, subst, inl, inr}
use Rattle.std.specs.Prelude.{Result, OnOk, is_some}
use Rattle.std.specs.declared.option.Option.{Option}
use Rattle.std.specs.declared.option.Option.TheVariants.{None, Some}
use Rattle.std.specs.declared.result.Result.TheVariants.{Ok, Err}
use Rattle.block_id.specs.declared.id.BlockId.{BlockId}
use Rattle.cryfs_shell.specs.config_file.Settings.{Settings}
use Rattle.cryfs_shell.specs.program_words.declared.create_options.CreateOptions.{CreateOptions}
use Rattle.cryfs_shell.specs.setup_runs.CreateText.{Reports}
use Rattle.fs_model.specs.Tree.{Tree, empty_tree}
use Rattle.cryfs_shell.specs.block_versions.Standing.{records}
use Rattle.cryfs_shell.specs.mount_stores.Drawing.{drawn}
use Rattle.cryfs_shell.specs.mount.Making.{Created as Made}
use Rattle.cryfs_shell.specs.mount_stores.Making.{IsUnchanged, new_settings}
use Rattle.cryfs_shell.specs.mount_stores.declared.error.OpenError.{OpenError}
use Rattle.cryfs_shell.specs.mount_core.Standing.{IsKeptMarked}
use Rattle.outside.specs.Trace.{Call}
use Rattle.outside.specs.declared.keeper.Keeper.{Ghosts as KeeperGhosts}
use Rattle.run_status.specs.declared.status.Status.TheVariants.{Done}
use Rattle.cryfs_shell.specs.session_laws.Runs.{Outside, outside_of, OutsideStandsFor}
use Rattle.cryfs_shell.specs.program_words.declared.form.Form.{Form}
use Rattle.cryfs_shell.specs.program_words.declared.form.Form.TheVariants.{Create}
use Rattle.cryfs_shell.specs.program_words.Forms.{form_of}
use Rattle.cryfs_shell.specs.mount_core.Showing.{ShowsFiles}
use Rattle.cryfs_shell.specs.session_laws.Histories.{Run, before_of, after_of, GoesOnFrom, AreRuns, end_of, was_violated, RunsCompose}
use Rattle.cryfs_shell.specs.Doing.{Did}
use Rattle.cryfs_shell.specs.Kinds.{opens}
use Rattle.cryfs_shell.proofs.Statuses.{opening_is_no}
use Rattle.cryfs_shell.proofs.Sessions.{one_unread, unread_is_no}
use Rattle.program_run.specs.Calls.{RunCall, IsRunCall}
use Rattle.program_run.specs.Lists.{left_by, AreRunCalls, AreRunsOf, AreUnforged, CallsCompose}
use Rattle.program_run.proofs.One.{one, other}

goes_same : (last next : Outside) → next ≡ last → GoesOnFrom last next
goes_same last next e = record { kept = ap (λ (o : Outside). o.kept) e; calls = ap (λ (o : Outside). o.calls) e }

goes_on : (first second third : Outside) → GoesOnFrom first second → GoesOnFrom second third → GoesOnFrom first third
goes_on first second third a b = record { kept = b.kept ∙ a.kept; calls = b.calls ∙ a.calls }

-- something is kept where a tree is, or a marked record
pub marked_is_some : (kept : Option (List ℕ)) → IsKeptMarked records kept → is_some kept ≡ true
marked_is_some kept m = ap is_some m.1

end_is_some : (c : Settings) (tree : Tree) (was : Bool) (end : Outside) → OutsideStandsFor ShowsFiles c tree end ⊎ ((was ≡ true) × IsKeptMarked records end.kept) → is_some end.kept ≡ true
end_is_some c tree was end (inl s) = ap is_some s.keeps.represents.1
end_is_some c tree was end (inr m) = marked_is_some end.kept m.1

module _ {V : Type 0} {K : Type 0} (trace : V → Option (List Call)) (faults : V → ℕ) (names : V → Option (List (List ℕ))) (G : KeeperGhosts K) where
  -- ---- the runs of some calls

  add : (call : RunCall) (calls : List RunCall) (runs : List Run) → IsRunCall trace faults names G call → AreRunsOf calls runs → (b : Bool) → opens (form_of call.words) ≡ b
      → (all : List Run) × AreRunsOf (call ∷ calls) all
  add call calls runs h r true e =
      let run = one trace faults names G call h e in
      (run.0 ∷ runs, inl (e, run.1, r))
  add call calls [] h r false e = ([], (e, r))
  add call calls (run ∷ runs) h r false e = (run ∷ runs, inr (e, r))

  pub runs_of : (start : Outside) (calls : List RunCall) → AreRunCalls trace faults names G start calls → (runs : List Run) × AreRunsOf calls runs
  runs_of start [] all = ([], tt)
  runs_of start (call ∷ calls) all =
      let r = runs_of start calls all.2 in
      add call calls r.0 all.0 r.1 (opens (form_of call.words)) refl

  -- ---- what they do from a kept tree on

  module _ (composes : RunsCompose ShowsFiles) (c : Settings) (first : Tree) (start : Outside) (stands : OutsideStandsFor ShowsFiles c first start) where
    -- the runs go on from one another, and the calls left what the last of them did
    record AreLinked (calls : List RunCall) (runs : List Run) : Type 0 where
      are_runs : AreRuns ShowsFiles c start runs
      goes : GoesOnFrom (end_of start runs) (left_by start calls)

    -- a call that opens no file system leaves it so
    idle : (call : RunCall) (calls : List RunCall) (runs : List Run) → IsRunCall trace faults names G call → GoesOnFrom (left_by start calls) call.before → opens (form_of call.words) ≡ false
        → AreLinked calls runs → AreLinked (call ∷ calls) runs
    idle call calls runs h on e l =
        let served = composes c first start runs stands l.are_runs in
        let before = goes_on (end_of start runs) (left_by start calls) call.before l.goes on in
        let there : is_some call.before.kept ≡ true = ap is_some before.kept ∙ end_is_some c _ (was_violated runs) (end_of start runs) served.2 in
        record { are_runs = l.are_runs; goes = goes_on (end_of start runs) call.before call.after before (other trace faults names G call h e (λ _. there)) }

    linked : (calls : List RunCall) (runs : List Run) → AreRunCalls trace faults names G start calls → AreRunsOf calls runs → AreUnforged c runs → AreLinked calls runs
    linked [] [] all of u = record { are_runs = tt; goes = record { kept = refl; calls = refl } }
    linked [] (run ∷ runs) all of u = absurd of
    linked (call ∷ calls) [] all of u = idle call calls [] all.0 all.1 of.0 (linked calls [] all.2 of.1 u)
    linked (call ∷ calls) (run ∷ runs) all (inl (e, r, of)) u =
        let l = linked calls runs all.2 of u.1 in
        let before = goes_on (end_of start runs) (left_by start calls) call.before l.goes all.1 in
        record {
          are_runs = (r.is_run, u.0, goes_on (end_of start runs) call.before (before_of run) before (goes_same call.before (before_of run) r.begins), l.are_runs);
          goes = goes_same (after_of run) call.after (sym r.ends);
        }
    linked (call ∷ calls) (run ∷ runs) all (inr (e, of)) u = idle call calls (run ∷ runs) all.0 all.1 e (linked calls (run ∷ runs) all.2 of u)

    pub serve : (calls : List RunCall) (runs : List Run) → AreRunCalls trace faults names G start calls → AreRunsOf calls runs → CallsCompose c first start calls runs
    serve calls runs all of u =
        let l = linked calls runs all of u in
        let served = composes c first start runs stands l.are_runs in
        (served.0, served.1, served.2, l.goes)

  -- ---- what `create` left

  module _ (made : RunCall) (options : CreateOptions) (h : IsRunCall trace faults names G made) (done : made.status ≡ Done) (unchanged : IsUnchanged made.before.calls) where
    abbrev NewSettings : Settings
    NewSettings = new_settings options.block_size (drawn made.streams.chance).0

    reported : (file : List ℕ) (id : Result BlockId OpenError) → Reports id made.streams.output h.ended.status → OnOk id (G.kept h.keeper ≡ None)
        → (G.kept h.keeper ≡ None → Made ShowsFiles NewSettings file (G.kept h.keeper) (G.kept h.ended.keeper) (trace h.ended.vault) id) → OutsideStandsFor ShowsFiles NewSettings empty_tree (outside_of trace faults G h.ended.vault h.ended.keeper)
    reported file (Ok id) r none stands = (stands none).0.represents
    reported file (Err error) r none stands = absurd (opening_is_no error h.ended.status Done r.0 (sym h.status ∙ done) (λ x. x))

    on_ok : (id : Result BlockId OpenError) (P Q : Type 0) → OnOk id (P × Q) → OnOk id P
    on_ok (Ok id) P Q both = both.0
    on_ok (Err error) P Q both = tt

    created : Did trace faults names G made.words made.now made.streams h.vault h.keeper h.ended (Some (Create options)) → OutsideStandsFor ShowsFiles NewSettings empty_tree (outside_of trace faults G h.ended.vault h.ended.keeper)
    created (inl u) = absurd (unread_is_no h.ended.status Done (one_unread made.streams.input h.ended.status u.cause).unread (sym h.status ∙ done) (λ x. x))
    created (inr (password, script, has, unfailed, c)) =
        reported _ c.made c.reports (on_ok c.made (G.kept h.keeper ≡ None) _ c.anew.absent) (λ none. c.stands (subst (λ (o : Outside). IsUnchanged o.calls) h.begins unchanged) none)

    pub made_stands : form_of made.words ≡ Some (Create options) → OutsideStandsFor ShowsFiles NewSettings empty_tree made.after
    made_stands asked =
        subst (λ (o : Outside). OutsideStandsFor ShowsFiles NewSettings empty_tree o) (sym h.ends)
        (created (subst (λ (form : Option Form). Did trace faults names G made.words made.now made.streams h.vault h.keeper h.ended form) asked h.did))
