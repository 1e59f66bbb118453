-- A store that knows no block, or one whose own file waits, over a directory in which nothing was changed, is sound.
use Rattle.std.specs.Prelude.{◌≡◌, ℕ, Bool, true, false, not, ◌&&◌, ◌||◌, cond, List, [], ◌∷◌, is_some, if◌then◌else◌}
use Rattle.std.specs.declared.option.Option.{Option}
use Rattle.std.specs.declared.option.Option.TheVariants.{None, Some}
use Rattle.std.proofs.Common.{refl, sym, ◌∙◌, ap, subst, inl, inr}
use Rattle.std.proofs.lemmas.Bool.{or_right}
use Rattle.std.proofs.lemmas.Option.{same_Some}
use Rattle.std.proofs.lemmas.Slice.Eq.{bytes_eq-Decides}
use Rattle.std.specs.FinMap.{get-empty, get-insert}
use Rattle.std.specs.FinMap as fin
use Rattle.std.specs.Option.{option_map_or}
use Rattle.outside.specs.Trace.{config, block, Call, got, put, removed, At}
use Rattle.outside.specs.Honest.{LastChange, last_change}
use Rattle.outside.specs.Names.{same_at}
use Rattle.local_state.specs.declared.life.Life.{Life}
use Rattle.local_state.specs.Known.{is_dead_in, is_live_in, version_if_live}
use Rattle.store_api.proofs.Rising.{ids_total, same_id_is}
use Rattle.store_api.specs.Content.{id_cmp, same_id}
use Rattle.block_versions.specs.Forgeries.{puts, was_put}
use Rattle.block_versions.specs.Held.{Held, live_version, waiting}
use Rattle.block_versions.specs.Reads.{Among}
use Rattle.block_versions.specs.Soundness.{IsFresh, IsUntouched, SoundAt, SoundBy}

true_is_false : true ≡ false → ⊥
true_is_false e = cc

pub same_self : (a : At) → same_at a a ≡ true
same_self config = refl
same_self (block a) = (bytes_eq-Decides a a).1 refl

some_change : (b : Bool) (change : LastChange) (last : Option LastChange) → b ≡ true → (if b then Some change else last) ≡ None → ⊥
some_change true change last is e = true_is_false (ap is_some e)
some_change false change last is e = true_is_false (sym is)

no_put : (trace : List Call) (bytes : List ℕ) → ((name : At) → last_change name trace ≡ None) → was_put bytes trace ≡ true → ⊥
no_put [] bytes none was = true_is_false (sym was)
no_put (got name max answer ∷ trace) bytes none was = no_put trace bytes none was
no_put (put name b ok ∷ trace) bytes none was = some_change (same_at name name) _ _ (same_self name) (none name)
no_put (removed name ok ∷ trace) bytes none was = some_change (same_at name name) _ _ (same_self name) (none name)

-- what is among the calls was put
among_put : (trace : List Call) (name : At) (bytes : List ℕ) (ok : Bool) → Among trace (put name bytes ok) → was_put bytes trace ≡ true
among_put [] name bytes ok among = absurd among
among_put (call ∷ trace) name bytes ok (inl is) = ap (λ c. puts bytes c || was_put bytes trace) is ∙ ap (λ b. b || was_put bytes trace) ((bytes_eq-Decides bytes bytes).1 refl)
among_put (call ∷ trace) name bytes ok (inr among) = or_right (puts bytes call) (was_put bytes trace) (among_put trace name bytes ok among)

never_live : (h : Held) (id : List ℕ) (version : ℕ) → h.state.lives ≡ fin.empty → live_version h id ≡ Some version → ⊥
never_live h id version empty live =
    let none : live_version h id ≡ None = ap (λ lives. version_if_live (fin.get lives id)) empty ∙ ap version_if_live (get-empty id_cmp id) in
    true_is_false (ap is_some (sym live ∙ none))

never_used : (h : Held) (id : List ℕ) → h.state.lives ≡ fin.empty → is_some (fin.get h.state.lives id) ≡ false
never_used h id empty = ap (λ lives. is_some (fin.get lives id)) empty ∙ ap is_some (get-empty id_cmp id)

pub untouched_sound : (h : Held) (trace : Option (List Call)) → h.state.lives ≡ fin.empty → IsUntouched trace → SoundBy h trace
untouched_sound h None empty none = none
untouched_sound h (Some trace) empty none = record {
  waits = λ id version change live w. absurd (never_live h id version empty live);
  stands = λ id version live w. absurd (never_live h id version empty live);
  buried = λ id dead w. absurd (true_is_false (sym dead ∙ dead_none id));
  past = λ id bytes r was is own. absurd (no_put trace bytes none was);
  sealed = λ id bytes ok among. absurd (no_put trace bytes none (among_put trace (block id) bytes ok among));
}
  where
    dead_none : (id : List ℕ) → is_dead_in h.state.lives id ≡ false
    dead_none id = ap (λ b. b && not (is_live_in h.state.lives id)) (never_used h id empty)

-- ---- one known block

abbrev living : ℕ → Life
living version = record { version = version; live = true }

only_live : (b : Bool) (version other : ℕ) (life : Option Life) → life ≡ cond b (Some (living version)) None → version_if_live life ≡ Some other → (b ≡ true) × (other ≡ version)
only_live true version other life e live = (refl, same_Some _ _ (sym live ∙ ap version_if_live e))
only_live false version other life e live = absurd (true_is_false (ap is_some (sym live ∙ ap version_if_live e)))

none_dead : (b : Bool) (version : ℕ) (life : Option Life) → life ≡ cond b (Some (living version)) None → (is_some life && not (option_map_or (λ m. m.live) life false)) ≡ false
none_dead true version life e = ap (λ (o : Option Life). is_some o && not (option_map_or (λ m. m.live) o false)) e
none_dead false version life e = ap (λ (o : Option Life). is_some o && not (option_map_or (λ m. m.live) o false)) e

module _ (h : Held) (id bytes payload : List ℕ) (version : ℕ) (one : h.state.lives ≡ fin.insert fin.empty id (living version)) (waits : waiting h id ≡ Some (Some bytes)) (fresh : IsFresh h id version bytes payload) where
  life_at : (other : List ℕ) → fin.get h.state.lives other ≡ cond (same_id other id) (Some (living version)) None
  life_at other = ap (λ lives. fin.get lives other) one ∙ get-insert ids_total fin.empty id (living version) other ∙ ap (cond (same_id other id) (Some (living version))) (get-empty id_cmp other)

  file_at : (other : List ℕ) (v : ℕ) (change : Option (List ℕ)) → live_version h other ≡ Some v → waiting h other ≡ Some change → (change ≡ Some bytes) × IsFresh h other v bytes payload
  file_at other v change live waited =
      let l = only_live (same_id other id) version v (fin.get h.state.lives other) (life_at other) live in
      let is : other ≡ id = same_id_is other id l.0 in (
        same_Some _ _ (sym waited ∙ ap (waiting h) is ∙ waits),
        subst (λ x. IsFresh h x v bytes payload) (sym is) (subst (λ n. IsFresh h id n bytes payload) (sym l.1) fresh),
      )

  never_written : (other : List ℕ) (v : ℕ) → live_version h other ≡ Some v → waiting h other ≡ None → ⊥
  never_written other v live none =
      let l = only_live (same_id other id) version v (fin.get h.state.lives other) (life_at other) live in
      true_is_false (ap is_some (sym waits ∙ ap (waiting h) (sym (same_id_is other id l.0)) ∙ none))

  one_sound : (trace : List Call) → ((name : At) → last_change name trace ≡ None) → SoundAt h trace
  one_sound trace none = record {
    waits = λ other v change live waited. let f = file_at other v change live waited in (bytes, payload, f.0, f.1);
    stands = λ other v live gone. absurd (never_written other v live gone);
    buried = λ other dead gone. absurd (true_is_false (sym dead ∙ none_dead (same_id other id) version (fin.get h.state.lives other) (life_at other)));
    past = λ other put r was is own. absurd (no_put trace put none was);
    sealed = λ other put ok among. absurd (no_put trace put none (among_put trace (block other) put ok among));
  }

  pub one_waits_sound : (trace : Option (List Call)) → IsUntouched trace → SoundBy h trace
  one_waits_sound None none = none
  one_waits_sound (Some trace) none = one_sound trace none
