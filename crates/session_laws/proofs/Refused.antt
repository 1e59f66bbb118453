-- Where opening stopped at what it found for the configuration, none was forged.
use Rattle.std.proofs.Common.{◌≡◌, ◌≤◌, ◌++◌, ℕ, List, [], ◌∷◌, length, sym, ◌∙◌, ap, subst, arith, length-append}
use Rattle.std.proofs.lemmas.List.{take_all}
use Rattle.std.proofs.lemmas.Option.{same_Some, none-some}
use Rattle.std.specs.declared.option.Option.{Option}
use Rattle.std.specs.declared.option.Option.TheVariants.{None, Some}
use Rattle.mount.proofs.config_file_lemmas.Opening.{only}
use Rattle.mount.specs.config_file.ConfigOf.{ConfigOf, ConfigFound, opened, form, locked, inner}
use Rattle.mount.specs.config_file.Settings.{Settings, settings_of}
use Rattle.mount.specs.config_file.declared.error.ConfigError.TheVariants as config_error
use Rattle.mount.specs.local_state.Record.{PlainState}
use Rattle.mount.specs.Opening.{AttachCause}
use Rattle.run_frame.specs.mount_stores.Opening.{IsLoaded, GaveConfig, IsMismatch, IsOf}
use Rattle.run_frame.proofs.mount_stores_lemmas.Reading.{same_kept}
use Rattle.run_frame.specs.mount_stores.Identities.{KeepsRecord}
use Rattle.run_frame.specs.mount_stores.Unforged.{IsUnforgedConfig}
use Rattle.run_frame.specs.mount_stores.declared.error.OpenError.{OpenError}
use Rattle.run_frame.specs.mount_stores.declared.error.OpenError.TheVariants as open_error
use Rattle.outside.specs.Changes.{FileChanges, change_at}
use Rattle.outside.specs.Trace.{Call, config, got, adds}
use Rattle.run_frame.specs.redo_vault.Redo.{Gave}
use Rattle.scrypt_kdf.specs.Cost.{Cost}
use Rattle.session_laws.specs.Histories.{StopsAtConfig}
use Rattle.session_laws.proofs.Configuration.{same_settings}

same_first : (calls before : List Call) (x y : Call) → calls ++ x ∷ before ≡ y ∷ before → x ≡ y
same_first [] before x y e = cc e
same_first (call ∷ calls) before x y e = absurd (omega (arith, length-append calls (x ∷ before), ap length e))

same_answer : (max most : ℕ) (bytes : List ℕ) (answer : Option (List ℕ)) → got config max (Some bytes) ≡ got config most answer → answer ≡ Some bytes
same_answer max most bytes answer e = cc e

module _ (password : List ℕ) (kept : Option (List ℕ)) (state : PlainState) (list : FileChanges) (t0 t1 : Option (List Call)) (l : IsLoaded kept state list) (c : Settings) where
  -- of what was given nothing opens as another configuration of the record's file system and key
  abbrev Refuses : Option (List ℕ) → Type 0
  Refuses answer = (bytes : List ℕ) (found : Settings) (cost : Cost) → answer ≡ Some bytes → ConfigOf password bytes (opened found cost) → IsOf state found → found ≡ c

  module _ (answer : Option (List ℕ)) (gave : GaveConfig list t0 t1 answer) (refuses : Refuses answer) where
    gave_by : (at : Option (Option (List ℕ))) → change_at config list ≡ at → Gave at t0 t1 config 1127 answer
    gave_by at e = subst (λ x. Gave x t0 t1 config 1127 answer) e gave

    one_state : (other : PlainState) (more : FileChanges) → KeepsRecord kept other more → (other ≡ state) × (more ≡ list)
    one_state other more keeps = same_kept kept other state more list keeps l.keeps

    in_list : (bytes : List ℕ) → change_at config list ≡ Some (Some bytes) → length bytes ≤ 1127 → answer ≡ Some bytes
    in_list bytes at short = (gave_by (Some (Some bytes)) at).1 ∙ ap Some (take_all 1127 bytes short)

    by_get : (before calls : List Call) (max : ℕ) (bytes : List ℕ) → change_at config list ≡ None → t0 ≡ Some before → t1 ≡ Some (calls ++ got config max (Some bytes) ∷ before) → answer ≡ Some bytes
    by_get before calls max bytes none e0 e1 =
        let read = sym e1 ∙ (gave_by None none ∙ ap (λ t. adds t (got config 1127 answer)) e0) in
        same_answer max 1127 bytes answer (same_first calls before (got config max (Some bytes)) (got config 1127 answer) (same_Some _ _ read))

    given_unforged : IsUnforgedConfig password kept t0 t1 c
    given_unforged = record {
      listed = λ other more bytes found cost keeps at opens of.
          let same = one_state other more keeps in
          refuses bytes found cost (in_list bytes (ap (change_at config) (sym same.1) ∙ at) (omega (arith, opens.0.size))) opens (subst (λ (s : PlainState). IsOf s found) same.0 of);
      given = λ other more before calls max bytes found cost keeps none e0 e1 opens of.
          let same = one_state other more keeps in
          refuses bytes found cost (by_get before calls max bytes (ap (change_at config) (sym same.1) ∙ none) e0 e1) opens (subst (λ (s : PlainState). IsOf s found) same.0 of);
    }

  -- it is another file system's
  mismatch : (kept_id found_id : List ℕ) (m : IsMismatch password state list t0 t1 kept_id found_id) → Refuses (Some m.opened_so.answer)
  mismatch kept_id found_id m bytes found cost e opens of =
      let whole = subst (λ x. ConfigOf password x (opened found cost)) (sym (same_Some _ _ e)) opens in
      let is = same_settings found (settings_of m.o.config) cost m.o.params (only password m.opened_so.answer (opened found cost) (opened (settings_of m.o.config) m.o.params) whole m.opened_so.opens) in
      absurd (m.other (subst (IsOf state) is of))

  -- nothing was given
  none : Refuses None
  none bytes found cost e opens of = absurd (none-some bytes e)

  -- it doesn't open
  unread : (answer : List ℕ) (wrong : ConfigFound) → ((found : Settings) (cost : Cost) → opened found cost ≡ wrong → ⊥) → ConfigOf password answer wrong → Refuses (Some answer)
  unread answer wrong differs is bytes found cost e opens of =
      absurd (differs found cost (only password bytes (opened found cost) wrong opens (subst (λ x. ConfigOf password x wrong) (same_Some _ _ e) is)))

pub refused_unforged : (password : List ℕ) (kept : Option (List ℕ)) (t0 t1 : Option (List Call)) (v0 v1 k0 k1 : ℕ) (error : OpenError) (c : Settings) → StopsAtConfig error → AttachCause password kept t0 t1 v0 v1 k0 k1 error
    → IsUnforgedConfig password kept t0 t1 c
refused_unforged password kept t0 t1 v0 v1 k0 k1 (open_error.Mismatch kept_id found_id) c stops (state, list, l, m) =
    given_unforged password kept state list t0 t1 l c (Some m.opened_so.answer) m.opened_so.gave (mismatch password kept state list t0 t1 l c kept_id.0 found_id.0 m)
refused_unforged password kept t0 t1 v0 v1 k0 k1 open_error.NoConfig c stops (state, list, l, gave) =
    given_unforged password kept state list t0 t1 l c None gave (none password kept state list t0 t1 l c)
refused_unforged password kept t0 t1 v0 v1 k0 k1 (open_error.Config config_error.Form) c stops (state, list, l, (answer, gave, is)) =
    given_unforged password kept state list t0 t1 l c (Some answer) gave (unread password kept state list t0 t1 l c answer form (λ found cost e. cc) is)
refused_unforged password kept t0 t1 v0 v1 k0 k1 (open_error.Config config_error.Locked) c stops (state, list, l, (answer, gave, is)) =
    given_unforged password kept state list t0 t1 l c (Some answer) gave (unread password kept state list t0 t1 l c answer locked (λ found cost e. cc) is)
refused_unforged password kept t0 t1 v0 v1 k0 k1 (open_error.Config config_error.Inner) c stops (state, list, l, (answer, gave, is)) =
    given_unforged password kept state list t0 t1 l c (Some answer) gave (unread password kept state list t0 t1 l c answer inner (λ found cost e. cc) is)
refused_unforged password kept t0 t1 v0 v1 k0 k1 (open_error.Config config_error.Memory) c stops cause = absurd stops
refused_unforged password kept t0 t1 v0 v1 k0 k1 open_error.Memory c stops cause = absurd stops
refused_unforged password kept t0 t1 v0 v1 k0 k1 open_error.NoState c stops cause = absurd stops
refused_unforged password kept t0 t1 v0 v1 k0 k1 open_error.BadState c stops cause = absurd stops
refused_unforged password kept t0 t1 v0 v1 k0 k1 open_error.Exists c stops cause = absurd stops
refused_unforged password kept t0 t1 v0 v1 k0 k1 open_error.Marked c stops cause = absurd stops
refused_unforged password kept t0 t1 v0 v1 k0 k1 open_error.FaultDirectory c stops cause = absurd stops
refused_unforged password kept t0 t1 v0 v1 k0 k1 open_error.FaultState c stops cause = absurd stops
