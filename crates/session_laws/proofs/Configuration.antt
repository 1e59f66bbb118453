-- Where a directory gave what was last written, no configuration is forged.
use Rattle.std.proofs.Common.{◌≡◌, ◌≤◌, ℕ, true, false, not, List, ◌∷◌, ◌++◌, length, take, sym, ◌∙◌, ap, subst, inl, inr, arith}
use Rattle.std.proofs.lemmas.List.{take_all, length-take}
use Rattle.std.proofs.lemmas.Slice.Eq.{bytes_eq-Decides}
use Rattle.std.specs.declared.option.Option.{Option}
use Rattle.std.specs.declared.option.Option.TheVariants.{None, Some}
use Rattle.std.proofs.lemmas.Option.{same_Some}
use Rattle.std.proofs.lemmas.Bool.{not-false}
use Rattle.mount.proofs.config_file_lemmas.Opening.{only}
use Rattle.mount.specs.config_file.ConfigOf.{ConfigOf, opened, locked}
use Rattle.mount.specs.config_file.Format.{HasForm}
use Rattle.mount.specs.config_file.Settings.{Settings}
use Rattle.mount.specs.integrity_store.EnduringLaws.{configured_of}
use Rattle.mount.specs.block_versions.Standing.{Configures, records}
use Rattle.run_frame.specs.mount_stores.Identities.{KeepsRecord}
use Rattle.run_frame.specs.mount_stores.Unforged.{IsOnlyConfig}
use Rattle.outside.specs.Changes.{FileChanges, change_at}
use Rattle.outside.specs.Honest.{last_change, same_answer, is_left, is_lie, count_calls, count_told}
use Rattle.outside.specs.HonestLaws.{count_grows, uncounted}
use Rattle.outside.specs.Trace.{Call, config, got}
use Rattle.mount.specs.local_state.Record.{PlainState}
use Rattle.scrypt_kdf.specs.Cost.{Cost}
use Rattle.mount.specs.record_saver.Saving.{KeptConfigures}
use Rattle.mount.specs.store_api.Durables.{last_told, IsConfigured}

-- ---- what the kept file is under the password, each other one that is the same is

pub same_settings : (s t : Settings) (k l : Cost) → opened s k ≡ opened t l → s ≡ t
same_settings s t k l e = cc e

abbrev pub OpensOnly : List ℕ → List ℕ → Settings → Type 0
OpensOnly password file c = (found : Settings) (params : Cost) → ConfigOf password file (opened found params) → found ≡ c

pub opened_only : (password file : List ℕ) (c : Settings) (cost : Cost) → ConfigOf password file (opened c cost) → OpensOnly password file c
opened_only password file c cost opens found params o = same_settings found c params cost (only password file (opened found params) (opened c cost) o opens)

pub locked_only : (password file : List ℕ) (c : Settings) → ConfigOf password file locked → OpensOnly password file c
locked_only password file c locks found params o = absurd (cc (only password file (opened found params) locked o locks))

-- ---- the first call gives it, where it doesn't wait

-- one get of a file that was put last, asked for any number of bytes
got_put : (file : List ℕ) (max : ℕ) (before : List Call) (bytes : List ℕ) → last_change config before ≡ Some (record { bytes = Some file; ok = true }) → is_lie before (got config max (Some bytes)) ≡ false → bytes ≡ take max file
got_put file max before bytes last true_call =
    (bytes_eq-Decides bytes (take max file)).0 (not-false (same_answer (Some bytes) (Some (take max file))) (ap (λ l. not (is_left l max (Some bytes))) (sym last) ∙ true_call))

same_length : (file bytes : List ℕ) (max : ℕ) → bytes ≡ take max file → length bytes ≡ length file → bytes ≡ file
same_length file bytes max e same =
    let fits : length file ≤ max = omega (arith, length-take max file, ap length e, same) in
    e ∙ take_all max file fits

module _ (password : List ℕ) (kept : Option (List ℕ)) (t0 t1 : Option (List Call)) (c : Settings) (file : List ℕ)
    (holds : KeptConfigures records kept t0 file) (form : HasForm file) (only_this : OpensOnly password file c) (honest : count_told is_lie t1 ≤ count_told is_lie t0) where
  by_record : (state : PlainState) (list : FileChanges) → KeepsRecord kept state list → IsConfigured list t0 file
  by_record state list k = configured_of state list k.bytes t0 file k.is_record (subst (λ x. Configures x t0 file) (same_Some _ _ (sym holds.1 ∙ k.kept)) holds.2)

  is_this : (bytes : List ℕ) (found : Settings) (params : Cost) → bytes ≡ file → ConfigOf password bytes (opened found params) → found ≡ c
  is_this bytes found params e o = only_this found params (subst (λ x. ConfigOf password x (opened found params)) e o)

  waiting : (list : FileChanges) (bytes : List ℕ) → change_at config list ≡ Some (Some bytes) → IsConfigured list t0 file → bytes ≡ file
  waiting list bytes at (inl w) = cc (sym at ∙ w)
  waiting list bytes at (inr (none, last)) = absurd (cc (sym at ∙ none))

  called : (list : FileChanges) (before calls : List Call) (max : ℕ) (bytes : List ℕ) → change_at config list ≡ None → t0 ≡ Some before → t1 ≡ Some (calls ++ got config max (Some bytes) ∷ before) → IsConfigured list t0 file
      → bytes ≡ take max file
  called list before calls max bytes none eo en (inl w) = absurd (cc (sym none ∙ w))
  called list before calls max bytes none eo en (inr (free, last)) =
      let call = got config max (Some bytes) in
      let all : count_calls is_lie (calls ++ call ∷ before) ≤ count_calls is_lie before = subst (λ x. count_told is_lie (Some (calls ++ call ∷ before)) ≤ count_told is_lie x) eo (subst (λ x. count_told is_lie x ≤ count_told is_lie t0) en honest) in
      let first : count_calls is_lie (call ∷ before) ≤ count_calls is_lie before = omega (arith, all, count_grows is_lie (call ∷ before) calls) in
      got_put file max before bytes (ap (last_told config) (sym eo) ∙ last) (uncounted (is_lie before call) (count_calls is_lie before) first)

  -- so no other configuration opens
  pub only_config : IsOnlyConfig password kept t0 t1 c
  only_config = record {
    listed = λ state list bytes found params keeps at o. is_this bytes found params (waiting list bytes at (by_record state list keeps)) o;
    given = λ state list before calls max bytes found params keeps none eo en o.
        is_this bytes found params (same_length file bytes max (called list before calls max bytes none eo en (by_record state list keeps)) (omega (arith, o.0.size, form.size))) o;
  }
