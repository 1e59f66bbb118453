-- What loads of a sound store gave is what its content calls for.
use Rattle.std.proofs.Common.{◌≡◌, ℕ, ◌≤◌, Bool, true, false, cond, List, [], ◌∷◌, refl, sym, ◌∙◌, ap, subst, arith}
use Rattle.std.specs.Prelude.{◌||◌, is_some, map}
use Rattle.std.specs.FinMap.{find}
use Rattle.std.specs.declared.option.Option.{Option}
use Rattle.std.specs.declared.option.Option.TheVariants.{None, Some}
use Rattle.std.specs.declared.result.Result.TheVariants.{Ok}
use Rattle.outside.specs.Honest.{count_told}
use Rattle.outside.specs.Trace.{Call}
use Rattle.cryfs_check.specs.check_rules.check_walk.Given.{Given, GaveBy, AgreesWith, content_of}
use Rattle.cryfs_check.specs.check_rules.store_api.Content.{Id, Content, SameContent, id_cmp, same_id}
use Rattle.cryfs_check.specs.check_rules.store_api.Holdings.{has_id}
use Rattle.check_rules.proofs.Refuting.{agreed}
use Rattle.mount.specs.block_versions.Forgeries.{forged}
use Rattle.mount.specs.block_versions.ForgeryLaws.{went_count}
use Rattle.mount.specs.block_versions.Held.{Held, live_version, wanted}
use Rattle.mount.specs.block_versions.Loads.{LoadAnswers, loads_by}
use Rattle.mount.specs.block_versions.ReadLaws.{went_same, went_on, went_sound, went_wanted}
use Rattle.mount.specs.block_versions.Reads.{WentOnByReads}
use Rattle.mount.specs.block_versions.Soundness.{SoundBy}
use Rattle.mount.specs.block_versions.StoreLaws.{sound_is_told}
use Rattle.block_versions.proofs.Fetches.{fetched_value, fetched_went}

load_went : (h : Held) (old new : Option (List Call)) (id payload : List ℕ) (v : Option ℕ) → live_version h id ≡ v → LoadAnswers h old new id v (Ok (Some payload)) → WentOnByReads h old new
load_went h old new id payload None live j = absurd j
load_went h old new id payload (Some version) live j = fetched_went h old new id version (Ok payload) live j

load_value : (h : Held) (old new : Option (List Call)) (id payload : List ℕ) (v : Option ℕ) → live_version h id ≡ v → LoadAnswers h old new id v (Ok (Some payload)) → SoundBy h old
    → count_told (forged h.opens h.size) new ≤ count_told (forged h.opens h.size) old → Some payload ≡ wanted h old id
load_value h old new id payload None live j sound few = absurd j
load_value h old new id payload (Some version) live j sound few = fetched_value h old new id version payload live j sound few

module _ {T : Type 0} (held : T → Held) (trace : T → Option (List Call)) where
  pub gave_went : (a b : T) (given : Given) → GaveBy (loads_by held trace) a given b → (held b ≡ held a) × WentOnByReads (held a) (trace a) (trace b)
  gave_went a b [] same = (ap held same, subst (WentOnByReads (held a) (trace a)) (sym (ap trace same)) (went_same (held a) (trace a)))
  gave_went a b (g ∷ gs) (mid, (before, load)) =
      let one = gave_went a mid gs before in
      let judged : LoadAnswers (held a) (trace mid) (trace b) g.0 (live_version (held a) g.0) (Ok (Some g.1)) = subst (λ h. LoadAnswers h (trace mid) (trace b) g.0 (live_version h g.0) (Ok (Some g.1))) one.0 load.judged in
      (load.held ∙ one.0, went_on (held a) (trace a) (trace mid) (trace b) one.1 (load_went (held a) (trace mid) (trace b) g.0 g.1 (live_version (held a) g.0) refl judged))

  pub gave_wanted : (a b : T) (given : Given) → GaveBy (loads_by held trace) a given b → SoundBy (held a) (trace a)
      → count_told (forged (held a).opens (held a).size) (trace b) ≤ count_told (forged (held a).opens (held a).size) (trace a) → AgreesWith (wanted (held a) (trace a)) given
  gave_wanted a b [] same sound few = tt
  gave_wanted a b (g ∷ gs) (mid, (before, load)) sound few =
      let h = held a in
      let test = forged h.opens h.size in
      let one = gave_went a mid gs before in
      let judged : LoadAnswers h (trace mid) (trace b) g.0 (live_version h g.0) (Ok (Some g.1)) = subst (λ h. LoadAnswers h (trace mid) (trace b) g.0 (live_version h g.0) (Ok (Some g.1))) one.0 load.judged in
      let went = load_went h (trace mid) (trace b) g.0 g.1 (live_version h g.0) refl judged in
      let grows : count_told test (trace mid) ≤ count_told test (trace b) = went_count test h (trace mid) (trace b) went in
      let grew : count_told test (trace a) ≤ count_told test (trace mid) = went_count test h (trace a) (trace mid) one.1 in
      let value = load_value h (trace mid) (trace b) g.0 g.1 (live_version h g.0) refl judged (went_sound h h (trace a) (trace mid) one.1 sound) (omega (arith, few, grew)) in
      let same : wanted h (trace mid) g.0 ≡ wanted h (trace a) g.0 = went_wanted h h (trace a) (trace mid) one.1 (sound_is_told h (trace a) sound) g.0 in
      (sym same ∙ sym value, gave_wanted a mid gs before sound (omega (arith, few, grows)))

-- an id has something in what was given exactly where it was given
found_has : (x : Id) (given : Given) → is_some (find id_cmp x given) ≡ has_id (map (λ g. g.0) given) x
found_has x [] = refl
found_has x (g ∷ gs) = by (same_id x g.0) (found_has x gs)
  where
    by : (b : Bool) → is_some (find id_cmp x gs) ≡ has_id (map (λ g. g.0) gs) x → is_some (cond b (Some g.1) (find id_cmp x gs)) ≡ (b || has_id (map (λ g. g.0) gs) x)
    by true rest = refl
    by false rest = rest

-- what was given is the content that it agrees with, where each of its ids was given
pub given_is : (B : Content) (live : List Id) (given : Given) → AgreesWith B given → ((id : Id) → has_id (map (λ g. g.0) given) id ≡ has_id live id) → ((id : Id) → has_id live id ≡ is_some (B id))
    → SameContent (content_of given) B
given_is B live given agrees whole lives id = by (content_of given id) refl
  where
    by : (o : Option (List ℕ)) → content_of given id ≡ o → B id ≡ content_of given id
    by (Some text) is = agreed B given agrees id text is ∙ sym is
    by None is =
        let none : is_some (B id) ≡ false = sym (lives id) ∙ (sym (whole id) ∙ (sym (found_has id given) ∙ ap is_some is)) in
        empty (B id) none ∙ sym is
      where
        empty : (o : Option (List ℕ)) → is_some o ≡ false → o ≡ None
        empty None e = refl
        empty (Some text) e = absurd (cc)
