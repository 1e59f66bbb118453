-- A get of the configuration, and the record that is kept.
use Rattle.std.proofs.Common.{◌≡◌, ◌≤◌, ℕ, ◌+◌, List, ◌∷◌, length, take, true, false, refl, sym, ◌∙◌, ap, subst, inl, inr, arith}
use Rattle.std.specs.Prelude.{Bool, is_some, if◌then◌else◌}
use Rattle.std.proofs.lemmas.List.{take_all, length-take}
use Rattle.std.specs.FinMap as fin
use Rattle.std.specs.declared.option.Option.{Option}
use Rattle.std.specs.declared.option.Option.TheVariants.{None, Some}
use Rattle.std.proofs.lemmas.Option.{same_Some, none-some}
use Rattle.outside.specs.Going.{GoesOn, goes_on_call, goes_on_equal}
use Rattle.outside.specs.Trace.{At, Call, config, got, adds}
use Rattle.outside.specs.Honest.{is_lie, count_calls, count_told}
use Rattle.outside.specs.Changes.{FileChanges, change_at, cut}
use Rattle.record_saver.specs.local_state.Record.{PlainState, IsRecord}
use Rattle.record_saver.proofs.local_state_lemmas.Records.{one_reading}
use Rattle.integrity_store.specs.redo_vault.Redo.{Gave}
use Rattle.block_cache.specs.store_api.Content.{Content}
use Rattle.block_cache.specs.store_api.Durables.{Identity, last_told}
use Rattle.integrity_store.proofs.block_versions_lemmas.ConfigReads.{read_forgeries}
use Rattle.integrity_store.specs.EnduringLaws.{enduring_by}
use Rattle.integrity_store.specs.block_versions.Held.{Held}
use Rattle.integrity_store.specs.block_versions.Forgeries.{forged}
use Rattle.integrity_store.specs.block_versions.Standing.{Stands, Configures, records}
use Rattle.integrity_store.specs.block_versions.Stores.{version_in}
use Rattle.config_file.specs.ConfigOf.{ConfigOf, opened}
use Rattle.config_file.specs.Settings.{Settings, settings_of}
use Rattle.config_file.specs.declared.config.Opened.{Opened}
use Rattle.record_saver.specs.Saving.{KeptConfigures}
use Rattle.mount_stores.specs.Opening.{IsLoaded, AreKnown, OpenedConfig, ReadsConfigOnce}
use Rattle.mount_stores.specs.Identities.{Holder, holder_of, identity_for, KeepsRecord}
use Rattle.mount_stores.specs.Unforged.{EachConfig, IsOnlyConfig, IsUnforgedConfig}

pub true_is_false : true ≡ false → ⊥
true_is_false e = cc

-- ---- a get of the configuration

pub reads_gave : (o : Option (Option (List ℕ))) (a b : Option (List Call)) (answer : Option (List ℕ)) → Gave o a b config 1127 answer → ReadsConfigOnce a b
reads_gave None a b answer gave = inr (answer, gave)
reads_gave (Some change) a b answer gave = inl gave.0

pub reads_on : (a b : Option (List Call)) → ReadsConfigOnce a b → GoesOn a b
reads_on a b (inl e) = goes_on_equal a b e
reads_on a b (inr (answer, e)) = subst (λ x. GoesOn a x) (sym e) (goes_on_call a (got config 1127 answer))

pub reads_stands : (identity : Identity) (kept : List ℕ) (content : Content) (a b : Option (List Call)) → ReadsConfigOnce a b → Stands identity kept a content → Stands identity kept b content
reads_stands identity kept content a b (inl e) s = subst (λ x. Stands identity kept x content) (sym e) s
reads_stands identity kept content a b (inr (answer, e)) s =
    let laws = enduring_by {S = Held} (λ h. h) (λ h. None) (λ h. 0) (λ h. Unit {0}) in
    subst (λ x. Stands identity kept x content) (sym e) (laws.got_stands identity kept a content config 1127 answer s)

pub reads_configures : (kept bytes : List ℕ) (a b : Option (List Call)) → ReadsConfigOnce a b → Configures kept a bytes → Configures kept b bytes
reads_configures kept bytes a b (inl e) s = subst (λ x. Configures kept x bytes) (sym e) s
reads_configures kept bytes a b (inr (answer, e)) s =
    let laws = enduring_by {S = Held} (λ h. h) (λ h. None) (λ h. 0) (λ h. Unit {0}) in
    subst (λ x. Configures kept x bytes) (sym e) (laws.got_configures kept a bytes config 1127 answer s)

pub reads_forgeries : (opens : List ℕ → List ℕ → Option (List ℕ)) (size : ℕ) (a b : Option (List Call)) → ReadsConfigOnce a b → count_told (forged opens size) b ≡ count_told (forged opens size) a
reads_forgeries opens size a b (inl e) = ap (count_told (forged opens size)) e
reads_forgeries opens size a b (inr (answer, e)) = ap (count_told (forged opens size)) e ∙ read_forgeries opens size a 1127 answer

more : (b : Bool) (n : ℕ) → n ≤ (if b then 1 else 0) + n
more true n = omega arith
more false n = omega arith

added_lies : (a : Option (List Call)) (call : Call) → count_told is_lie a ≤ count_told is_lie (adds a call)
added_lies None call = omega arith
added_lies (Some t) call = more (is_lie t call) (count_calls is_lie t)

pub reads_lies : (a b : Option (List Call)) → ReadsConfigOnce a b → count_told is_lie a ≤ count_told is_lie b
reads_lies a b (inl e) = subst (λ x. count_told is_lie a ≤ count_told is_lie x) (sym e) (omega arith)
reads_lies a b (inr (answer, e)) = subst (λ x. count_told is_lie a ≤ count_told is_lie x) (sym e) (added_lies a (got config 1127 answer))

got_last : (name : At) (a : Option (List Call)) (answer : Option (List ℕ)) → last_told name (adds a (got config 1127 answer)) ≡ last_told name a
got_last name None answer = refl
got_last name (Some t) answer = refl

pub reads_last : (name : At) (a b : Option (List Call)) → ReadsConfigOnce a b → last_told name b ≡ last_told name a
reads_last name a b (inl e) = ap (last_told name) e
reads_last name a b (inr (answer, e)) = ap (last_told name) e ∙ got_last name a answer

got_told : (a : Option (List Call)) (answer : Option (List ℕ)) → is_some (adds a (got config 1127 answer)) ≡ is_some a
got_told None answer = refl
got_told (Some t) answer = refl

pub reads_told : (a b : Option (List Call)) → ReadsConfigOnce a b → is_some b ≡ is_some a
reads_told a b (inl e) = ap is_some e
reads_told a b (inr (answer, e)) = ap is_some e ∙ got_told a answer

pub reads_kept : (kept : Option (List ℕ)) (a b : Option (List Call)) (bytes : List ℕ) → ReadsConfigOnce a b → KeptConfigures records kept a bytes → KeptConfigures records kept b bytes
reads_kept kept a b bytes reads k = (k.0, k.1, reads_configures k.0 bytes a b reads k.2)

-- ---- the record that is kept

-- the versions of one record that is kept are those of any
-- one state and one list have the record that is kept
pub same_kept : (kept : Option (List ℕ)) (state other : PlainState) (list more : FileChanges) → KeepsRecord kept state list → KeepsRecord kept other more → (state ≡ other) × (list ≡ more)
same_kept kept state other list more k l =
    one_reading state other list more k.bytes k.is_record (subst (λ bytes. IsRecord other more bytes) (same_Some _ _ (sym l.kept ∙ k.kept)) l.is_record)

pub are_known : (kept : Option (List ℕ)) (state : PlainState) (list : FileChanges) (version : List ℕ → ℕ) → IsLoaded kept state list → ((id : List ℕ) → version id ≡ version_in (fin.get state.lives id)) → AreKnown kept version
are_known kept state list version l known = λ other more m id.
    known id ∙ ap (λ (s : PlainState). version_in (fin.get s.lives id)) (same_kept kept state other list more l.keeps m.keeps).0

-- what stands under a configuration was opened by its record's holder
pub stands_holder : (c : Settings) (holder : Holder) (state : PlainState) (list : FileChanges) (kept : List ℕ) (trace : Option (List Call)) (content : Content) → IsRecord state list kept
    → Stands (identity_for c holder) kept trace content → holder_of state ≡ holder
stands_holder c holder state list kept trace content is s =
    ap holder_of (one_reading state s.held.state list s.held.list kept is s.is_record).0 ∙ ap (λ (i : Identity). record { key_salt = i.key_salt; client = i.client }) s.same

-- ---- the configuration that was found

pub short_cut : (max : ℕ) (answer bytes : List ℕ) → answer ≡ take max bytes → length answer + 1 ≤ max → bytes ≡ answer
short_cut max answer bytes e short =
    let fits : length bytes ≤ max = omega (arith, length-take max bytes, ap length e, short) in
    sym (e ∙ take_all max bytes fits)

pub only_unforged : (password : List ℕ) (kept : Option (List ℕ)) (old new : Option (List Call)) (c : Settings) → IsOnlyConfig password kept old new c → IsUnforgedConfig password kept old new c
only_unforged password kept old new c o = record {
  listed = λ state list bytes found cost keeps at opens of. o.listed state list bytes found cost keeps at opens;
  given = λ state list before calls max bytes found cost keeps none eo en opens of. o.given state list before calls max bytes found cost keeps none eo en opens;
}

module _ {IsSo : PlainState → Settings → Type 0} (password : List ℕ) (kept : Option (List ℕ)) (state : PlainState) (list : FileChanges) (t0 read t1 : Option (List Call)) (o : Opened)
    (l : IsLoaded kept state list) (on : GoesOn read t1) (each : EachConfig IsSo password kept t0 t1) where
  in_list : (change : Option (List ℕ)) (answer : List ℕ) → change_at config list ≡ Some change → Some answer ≡ cut 1127 change → ConfigOf password answer (opened (settings_of o.config) o.params) → IsSo state (settings_of o.config)
  in_list None answer at is opens = absurd (none-some answer (sym is))
  in_list (Some bytes) answer at is opens =
      each.listed state list bytes (settings_of o.config) o.params l.keeps at
      (subst (λ x. ConfigOf password x (opened (settings_of o.config) o.params)) (sym (short_cut 1127 answer bytes (same_Some _ _ is) (omega (arith, opens.0.size)))) opens)

  by_get : (answer : List ℕ) (t : Option (List Call)) → change_at config list ≡ None → t0 ≡ t → is_some t ≡ true → read ≡ adds t (got config 1127 (Some answer)) → ConfigOf password answer (opened (settings_of o.config) o.params)
      → IsSo state (settings_of o.config)
  by_get answer None at e told is opens = absurd (true_is_false (sym told))
  by_get answer (Some before) at e told is opens =
      let after : GoesOn (Some (got config 1127 (Some answer) ∷ before)) t1 = subst (λ x. GoesOn x t1) is on in
      each.given state list before after.0 1127 answer (settings_of o.config) o.params l.keeps at e after.1 opens

  found_at : (w : Option (Option (List ℕ))) (answer : List ℕ) → change_at config list ≡ w → is_some t0 ≡ true → Gave w t0 read config 1127 (Some answer) → ConfigOf password answer (opened (settings_of o.config) o.params)
      → IsSo state (settings_of o.config)
  found_at None answer at told gave opens = by_get answer t0 at refl told gave opens
  found_at (Some change) answer at told gave opens = in_list change answer at gave.1 opens

  -- so is the configuration that opened
  pub found_is : is_some t0 ≡ true → OpenedConfig password list t0 read o → IsSo state (settings_of o.config)
  found_is told f = found_at (change_at config list) f.answer refl told f.gave f.opens
