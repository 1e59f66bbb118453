-- The formats of block files that are taken, over calls of `run`.
use Rattle.std.proofs.Common.{◌≡◌, ◌⊎◌, ◌∙◌, ◌++◌, get_or, ℕ, Bool, true, false, List, [], ◌∷◌, length, refl, sym, ap, subst, inl, inr, arith, append-nil, length-append}
use Rattle.std.specs.Prelude.{Result, OnOk, is_some}
use Rattle.std.specs.declared.option.Option.{Option}
use Rattle.std.specs.declared.option.Option.TheVariants.{Some}
use Rattle.std.specs.declared.result.Result.TheVariants.{Ok, Err}
use Rattle.std.proofs.lemmas.List.{append_cancel_left}
use Rattle.std.proofs.lemmas.Option.{same_Some}
use Rattle.cryfs_shell.specs.answers.Texts.{text_of_answer}
use Rattle.block_id.specs.declared.id.BlockId.{BlockId}
use Rattle.cryfs_shell.specs.line_io.Streams.{Untouched}
use Rattle.cryfs_shell.specs.mount.Formats.{TakesFrom}
use Rattle.cryfs_shell.specs.mount_calls.Migrating.{KeepsNewest}
use Rattle.cryfs_shell.proofs.mount_calls_lemmas.Newest.{newest_takes}
use Rattle.cryfs_shell.specs.mount_migrating.Migrating.{answer_of}
use Rattle.cryfs_shell.specs.mount_migrating.declared.error.MigrateError.{MigrateError}
use Rattle.cryfs_shell.specs.mount_migrating.declared.error.MigrateError.TheVariants as error
use Rattle.cryfs_shell.specs.mount_stores.declared.error.OpenError.{OpenError}
use Rattle.outside.specs.Streams.{appends}
use Rattle.outside.specs.Trace.{Call}
use Rattle.outside.specs.declared.keeper.Keeper.{Ghosts as KeeperGhosts}
use Rattle.run_status.specs.declared.status.Status.TheVariants.{Done}
use Rattle.cryfs_shell.specs.session_lines.Driven.{Reported}
use Rattle.cryfs_shell.specs.session_lines.declared.end.End.{End}
use Rattle.cryfs_shell.specs.session_lines.declared.end.End.TheVariants as line_end
use Rattle.cryfs_shell.specs.session_laws.Runs.{Outside}
use Rattle.cryfs_shell.specs.setup_runs.CreateText.{Reports}
use Rattle.cryfs_shell.specs.setup_runs.MigrateText.{count_text, migrated_text}
use Rattle.cryfs_shell.specs.program_words.declared.create_options.CreateOptions.{CreateOptions}
use Rattle.cryfs_shell.specs.program_words.declared.form.Form.{Form}
use Rattle.cryfs_shell.specs.program_words.declared.form.Form.TheVariants.{Create, Migrate}
use Rattle.cryfs_shell.specs.program_words.Forms.{form_of}
use Rattle.cryfs_shell.specs.mount_core.Showing.{ShowsFiles}
use Rattle.cryfs_shell.specs.Doing.{Did}
use Rattle.cryfs_shell.specs.Kinds.{opens}
use Rattle.cryfs_shell.proofs.Statuses.{opening_is_no}
use Rattle.cryfs_shell.proofs.Sessions.{one_unread, unread_is_no}
use Rattle.cryfs_shell.specs.session_laws.Histories.{Run, session, quiet, examined, migrated, looked, before_of, after_of, IsRun}
use Rattle.program_run.specs.Calls.{RunCall, IsRunCall}
use Rattle.program_run.specs.Formats.{HasCreated, HasMigrated}
use Rattle.program_run.specs.Lists.{AreRunCalls, left_by}
use Rattle.program_run.proofs.All.{marked_is_some}
use Rattle.program_run.proofs.One.{one, other}

-- ---- one run, and any list of calls

run_takes : (run : Run) → IsRun ShowsFiles run → TakesFrom 2 (before_of run).kept → TakesFrom 2 (after_of run).kept
run_takes (session password before after closing es) r = r.least 2
run_takes (quiet password before after) r = r.least 2
run_takes (examined password before after bad) r = r.least 2
run_takes (migrated password before after bad) r = r.least
run_takes (looked before after) r = subst (TakesFrom 2) (sym r.kept)

takes_is_some : (kept : Option (List ℕ)) → TakesFrom 2 kept → is_some kept ≡ true
takes_is_some kept (inl marked) = marked_is_some kept marked
takes_is_some kept (inr (state, k, is)) = ap is_some k.keeps.kept

module _ {V : Type 0} {K : Type 0} (trace : V → Option (List Call)) (faults : V → ℕ) (names : V → Option (List (List ℕ))) (G : KeeperGhosts K) where
  call_takes : (call : RunCall) → IsRunCall trace faults names G call → (b : Bool) → opens (form_of call.words) ≡ b → TakesFrom 2 call.before.kept → TakesFrom 2 call.after.kept
  call_takes call h true e takes =
      let run = one trace faults names G call h e in
      subst (λ (o : Outside). TakesFrom 2 o.kept) run.1.ends (run_takes run.0 run.1.is_run (subst (λ (o : Outside). TakesFrom 2 o.kept) (sym run.1.begins) takes))
  call_takes call h false e takes = subst (TakesFrom 2) (sym (other trace faults names G call h e (λ _. takes_is_some call.before.kept takes)).kept) takes

  pub list_takes : (start : Outside) (calls : List RunCall) → AreRunCalls trace faults names G start calls → TakesFrom 2 start.kept → TakesFrom 2 (left_by start calls).kept
  list_takes start [] all takes = takes
  list_takes start (call ∷ calls) all takes =
      call_takes call all.0 (opens (form_of call.words)) refl (subst (TakesFrom 2) (sym all.1.kept) (list_takes start calls all.2 takes))

-- ---- the line that `migrate` writes

-- the third byte tells whether it is one of a count
abbrev third : MigrateError → ℕ
third error.Memory = 109
third error.Spent = 101
third error.FaultDirectory = 117
third error.FaultState = 117
third (error.Violation why) = 111

third_is : (e : MigrateError) → get_or (text_of_answer (answer_of e)) 2 0 ≡ third e
unfolding text_of_answer
third_is error.Memory = refl
third_is error.Spent = refl
third_is error.FaultDirectory = refl
third_is error.FaultState = refl
third_is (error.Violation why) = refl

third_of_count : (count : ℕ) (rest : List ℕ) → get_or (count_text count ++ rest) 2 0 ≡ 103
third_of_count count rest = refl

not_third : (e : MigrateError) → third e ≡ 103 → ⊥
not_third error.Memory h = omega arith
not_third error.Spent h = omega arith
not_third error.FaultDirectory h = omega arith
not_third error.FaultState h = omega arith
not_third (error.Violation why) h = omega arith

no_count : (e : MigrateError) (count : ℕ) (rest : List ℕ) → text_of_answer (answer_of e) ≡ count_text count ++ rest → ⊥
no_count e count rest is = not_third e (sym (third_is e) ∙ (ap (λ (z : List ℕ). get_or z 2 0) is ∙ third_of_count count rest))

not_more : (written : List ℕ) (x : ℕ) (rest : List ℕ) → written ≡ written ++ (x ∷ rest) → ⊥
not_more written x rest e = let same = ap length e in let long = length-append written (x ∷ rest) in omega (arith, same, long)

module _ {V : Type 0} {K : Type 0} (trace : V → Option (List Call)) (faults : V → ℕ) (names : V → Option (List (List ℕ))) (G : KeeperGhosts K) (call : RunCall) (h : IsRunCall trace faults names G call) where
  -- ---- what `create` left

  newest_of : (done : call.status ≡ Done) (made : Result BlockId OpenError) → Reports made call.streams.output h.ended.status → OnOk made (KeepsNewest (G.kept h.ended.keeper)) → KeepsNewest (G.kept h.ended.keeper)
  newest_of done (Ok id) r newest = newest
  newest_of done (Err error) r newest = absurd (opening_is_no error h.ended.status Done r.0 (sym h.status ∙ done) (λ x. x))

  created : (options : CreateOptions) → call.status ≡ Done → Did trace faults names G call.words call.now call.streams h.vault h.keeper h.ended (Some (Create options)) → KeepsNewest (G.kept h.ended.keeper)
  created options done (inl u) = absurd (unread_is_no h.ended.status Done (one_unread call.streams.input h.ended.status u.cause).unread (sym h.status ∙ done) (λ x. x))
  created options done (inr (password, script, has, unfailed, c)) = newest_of done c.made c.reports c.newest

  -- ---- what `migrate` left

  module _ (written : List ℕ) (count : ℕ) (old : call.streams.output.old ≡ Some written) (new : call.streams.output.new ≡ Some (written ++ count_text count)) where
    untouched : Untouched call.streams.output → ⊥
    untouched u = not_more written 109 _ (same_Some _ _ (sym old ∙ (sym u.0 ∙ new)))

    wrote : (text : List ℕ) → call.streams.output.new ≡ appends call.streams.output.old text → text ≡ count_text count
    wrote text e = append_cancel_left written text (count_text count) (same_Some _ _ (sym (ap (λ (o : Option (List ℕ)). appends o text) old) ∙ (sym e ∙ new)))

    told_so : (migration : Result ℕ MigrateError) (end : End) → Reported call.streams.output (migrated_text migration) end → OnOk migration (KeepsNewest (G.kept h.ended.keeper)) → KeepsNewest (G.kept h.ended.keeper)
    told_so (Ok n) end r newest = newest
    told_so (Err e) line_end.Finished r newest = absurd (no_count e count [] (wrote (text_of_answer (answer_of e)) r.0 ∙ sym (append-nil (count_text count))))
    told_so (Err e) line_end.InputFault r newest = absurd r
    told_so (Err e) line_end.OutputFault r newest =
        let cut = r.0 in
        absurd (no_count e count cut.1 (cut.2 ∙ ap (λ (p : List ℕ). p ++ cut.1) (wrote cut.0 cut.3)))

    migrated_newest : Did trace faults names G call.words call.now call.streams h.vault h.keeper h.ended (Some Migrate) → KeepsNewest (G.kept h.ended.keeper)
    migrated_newest (inl u) = absurd (untouched u.unwritten)
    migrated_newest (inr (password, after, has, unfailed, inl ((error, u), unwritten))) = absurd (untouched unwritten)
    migrated_newest (inr (password, after, has, unfailed, inr m)) = told_so m.migration m.end m.reported m.leaves.newest

  takes_last : KeepsNewest (G.kept h.ended.keeper) → TakesFrom 2 call.after.kept
  takes_last k = subst (λ (o : Outside). TakesFrom 2 o.kept) (sym h.ends) (newest_takes (G.kept h.ended.keeper) k)

  as_asked : (form : Form) → form_of call.words ≡ Some form → Did trace faults names G call.words call.now call.streams h.vault h.keeper h.ended (Some form)
  as_asked form asked = subst (λ (f : Option Form). Did trace faults names G call.words call.now call.streams h.vault h.keeper h.ended f) asked h.did

  pub begins_newest : HasCreated call ⊎ HasMigrated call → TakesFrom 2 call.after.kept
  begins_newest (inl (options, asked, done)) = takes_last (created options done (as_asked (Create options) asked))
  begins_newest (inr (asked, written, count, old, new)) = takes_last (migrated_newest written count old new (as_asked Migrate asked))
