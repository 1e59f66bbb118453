-- The configuration that an honest directory gives is the one that what is kept says.
use Rattle.std.proofs.Common.{◌≡◌, ◌≤◌, ℕ, true, false, not, List, length, take, refl, sym, ◌∙◌, ap, subst, inl, inr, arith}
use Rattle.std.specs.Prelude.{is_some}
use Rattle.std.proofs.lemmas.List.{take_all}
use Rattle.std.proofs.lemmas.Slice.Eq.{bytes_eq-Decides}
use Rattle.std.specs.declared.option.Option.{Option}
use Rattle.std.specs.declared.option.Option.TheVariants.{None, Some}
use Rattle.std.proofs.lemmas.Option.{same_Some}
use Rattle.std.proofs.lemmas.Bool.{not-false}
use Rattle.session_laws.proofs.config_file_lemmas.Opening.{only}
use Rattle.session_laws.specs.config_file.ConfigOf.{ConfigOf, ConfigFound, opened}
use Rattle.session_laws.specs.config_file.Settings.{Settings}
use Rattle.session_laws.specs.integrity_store.EnduringLaws.{configured_of}
use Rattle.session_laws.specs.block_versions.Standing.{Configures, records}
use Rattle.fs_model.specs.Tree.{Tree}
use Rattle.session_laws.proofs.Configuration.{opened_only, only_config}
use Rattle.copy_file.specs.line_io.Lines.{first_line}
use Rattle.copy_file.specs.line_io.Streams.{Stream}
use Rattle.check_runs.specs.mount_stores.Opening.{IsLoaded, GaveConfig}
use Rattle.check_runs.proofs.mount_stores_lemmas.Reading.{true_is_false}
use Rattle.outside.specs.Changes.{FileChanges, change_at, cut}
use Rattle.outside.specs.Honest.{same_answer, is_left, is_lie, count_calls, count_told}
use Rattle.outside.specs.HonestLaws.{uncounted}
use Rattle.outside.specs.Trace.{Call, config, got, adds}
use Rattle.session_laws.specs.local_state.Record.{PlainState}
use Rattle.session_laws.specs.redo_vault.Redo.{Gave}
use Rattle.scrypt_kdf.specs.Cost.{Cost}
use Rattle.session_laws.specs.Runs.{Outside, OpensTo, OpensOnlyTo}
use Rattle.session_laws.proofs.Whole.{only_opens}
use Rattle.shell_runs.specs.record_saver.Saving.{KeptConfigures}
use Rattle.copy_file.specs.store_api.Durables.{last_told, IsConfigured}
use Rattle.check_runs.specs.mount_core.Showing.{ShowsFiles}
use Rattle.program_laws.specs.Premises.{IsUntroubled, Finds}

-- ---- one honest get of the configuration

whole : (file : List ℕ) (answer : Option (List ℕ)) → length file ≤ 1127 → same_answer answer (Some (take 1127 file)) ≡ true → answer ≡ Some file
whole file None fits e = absurd (cc)
whole file (Some bytes) fits e = ap Some ((bytes_eq-Decides bytes (take 1127 file)).0 e ∙ take_all 1127 file fits)

got_last : (file : List ℕ) (t0 t1 : Option (List Call)) (answer : Option (List ℕ)) → length file ≤ 1127 → last_told config t0 ≡ Some (record { bytes = Some file; ok = true }) → t1 ≡ adds t0 (got config 1127 answer)
    → count_told is_lie t1 ≤ count_told is_lie t0 → answer ≡ Some file
got_last file None t1 answer fits last is honest = absurd (cc)
got_last file (Some t) t1 answer fits last is honest =
    let call = got config 1127 answer in
    let true_call : is_lie t call ≡ false = uncounted (is_lie t call) (count_calls is_lie t) (subst (λ x. count_told is_lie x ≤ count_calls is_lie t) is honest) in
    whole file answer fits (not-false (same_answer answer (Some (take 1127 file))) (ap (λ l. not (is_left l 1127 answer)) (sym last) ∙ true_call))

-- where no file was changed, none is given
pub none_given : (file : List ℕ) (t0 t1 : Option (List Call)) → is_some t0 ≡ true → last_told config t0 ≡ None → t1 ≡ adds t0 (got config 1127 (Some file)) → count_told is_lie t1 ≤ count_told is_lie t0 → ⊥
none_given file None t1 told none is honest = cc
none_given file (Some t) t1 told none is honest =
    let call = got config 1127 (Some file) in
    let true_call : is_lie t call ≡ false = uncounted (is_lie t call) (count_calls is_lie t) (subst (λ x. count_told is_lie x ≤ count_calls is_lie t) is honest) in
    true_is_false (ap (λ l. not (is_left l 1127 (Some file))) (sym none) ∙ true_call)

-- ---- from the list, or by that get

waits : (file : List ℕ) (change answer : Option (List ℕ)) → length file ≤ 1127 → change ≡ Some file → answer ≡ cut 1127 change → answer ≡ Some file
waits file change answer fits e is = is ∙ (ap (cut 1127) e ∙ ap Some (take_all 1127 file fits))

gave_file : (file : List ℕ) (list : FileChanges) (at : Option (Option (List ℕ))) (t0 t1 : Option (List Call)) (answer : Option (List ℕ)) → length file ≤ 1127 → change_at config list ≡ at → IsConfigured list t0 file
    → Gave at t0 t1 config 1127 answer → count_told is_lie t1 ≤ count_told is_lie t0 → answer ≡ Some file
gave_file file list None t0 t1 answer fits at (inl w) gave honest = absurd (cc (sym at ∙ w))
gave_file file list None t0 t1 answer fits at (inr (none, last)) gave honest = got_last file t0 t1 answer fits last gave honest
gave_file file list (Some change) t0 t1 answer fits at (inl w) gave honest = waits file change answer fits (cc (sym at ∙ w)) gave.1
gave_file file list (Some change) t0 t1 answer fits at (inr (none, last)) gave honest = absurd (cc (sym at ∙ none))

module _ (password : List ℕ) (kept : Option (List ℕ)) (t0 t1 : Option (List Call)) (state : PlainState) (list : FileChanges) (l : IsLoaded kept state list) (c : Settings) (cost : Cost) (file : List ℕ)
    (holds : KeptConfigures records kept t0 file) (opens : ConfigOf password file (opened c cost)) (honest : count_told is_lie t1 ≤ count_told is_lie t0) where
  configured : IsConfigured list t0 file
  configured = configured_of state list l.keeps.bytes t0 file l.keeps.is_record (subst (λ x. Configures x t0 file) (same_Some _ _ (sym holds.1 ∙ l.keeps.kept)) holds.2)

  -- the file is given
  pub given : (answer : Option (List ℕ)) → GaveConfig list t0 t1 answer → answer ≡ Some file
  given answer gave = gave_file file list (change_at config list) t0 t1 answer (omega (arith, opens.0.size)) refl configured gave honest

  -- and it is nothing else under the password
  pub given_is : (answer : List ℕ) (found : ConfigFound) → GaveConfig list t0 t1 (Some answer) → ConfigOf password answer found → found ≡ opened c cost
  given_is answer found gave is = only password file found (opened c cost) (subst (λ x. ConfigOf password x found) (same_Some _ _ (given (Some answer) gave)) is) opens

pub opens_only_to : (input output : Stream) (bytes : List ℕ) (c : Settings) (first : Tree) (before after : Outside) → Finds input bytes c first before → IsUntroubled input output before after → OpensOnlyTo ShowsFiles (first_line bytes) c first before after
opens_only_to input output bytes c first before after finds quiet = record {
  stands = finds.stands;
  only = only_config (first_line bytes) before.kept before.calls after.calls c finds.opens.0 finds.opens.2 finds.opens.3.0
      (opened_only (first_line bytes) finds.opens.0 c finds.opens.1 finds.opens.3) quiet.honest;
}

pub opens_to : (input output : Stream) (bytes : List ℕ) (c : Settings) (first : Tree) (before after : Outside) → Finds input bytes c first before → IsUntroubled input output before after → OpensTo ShowsFiles (first_line bytes) c first before after
opens_to input output bytes c first before after finds quiet = only_opens ShowsFiles (first_line bytes) c first before after (opens_only_to input output bytes c first before after finds quiet)
