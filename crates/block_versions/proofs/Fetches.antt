-- What a fetch of a live block leaves and answers.
use Rattle.std.specs.Prelude.{◌≡◌, ◌≤◌, ℕ, ◌+◌, Bool, true, false, not, ◌&&◌, List, [], ◌∷◌, is_some, ◌-◌, length, take, Result}
use Rattle.std.specs.declared.option.Option.{Option}
use Rattle.std.specs.declared.option.Option.TheVariants.{None, Some}
use Rattle.std.specs.declared.result.Result.TheVariants.{Ok, Err}
use Rattle.std.proofs.Common.{refl, sym, ◌∙◌, ap, subst, inl, inr}
use Rattle.std.proofs.lemmas.List.{append_cancel_right}
use Rattle.std.proofs.lemmas.Option.{same_Some}
use Rattle.block_id.specs.declared.fail.Why.{Why}
use Rattle.block_id.specs.declared.fail.Why.TheVariants.{Missing, BadLength, BadPrefix, NotOpened, BadRecord, WrongId, ForeignClient, OldVersion, AheadVersion, Structure, OldFormat}
use Rattle.block_id.specs.declared.fail.Fail.{Fail}
use Rattle.block_id.specs.declared.fail.Fail.TheVariants.{Memory, Fault, Violation}
use Rattle.outside.specs.HonestLaws.{uncounted}
use Rattle.outside.specs.Trace.{block, Call, got, adds}
use Rattle.outside.specs.Changes.{cut}
use Rattle.outside.specs.Honest.{count_calls, count_told}
use Rattle.store_api.specs.store_outcome.Meanings.{IsNoticed, IsOfBlocks, OnVerdict, Tells}
use Rattle.sealed_store.specs.redo_vault.Redo.{Gave}
use Rattle.sealed_store.specs.BlockFiles.{opens_file, seen_file_in}
use Rattle.block_versions.proofs.Judging.{came_len, good_opens, judged_structure}
use Rattle.block_versions.specs.VerdictLaws.{bad_is_good}
use Rattle.block_versions.specs.BlockRecords.{opened}
use Rattle.block_versions.specs.RecordLaws.{cut_whole, opened-plain}
use Rattle.block_versions.specs.Verdicts.{bad, good, verdict}
use Rattle.block_versions.specs.Forgeries.{forged, was_put}
use Rattle.block_versions.specs.Held.{Held, live_version, own, waiting, wanted}
use Rattle.block_versions.specs.Loads.{LoadAnswers, Came, Fetched, Loads}
use Rattle.block_versions.specs.ReadLaws.{gave_same, went_same}
use Rattle.block_versions.specs.Reads.{FoundSince, GaveBad, GaveWrong, WentOnByReads}
use Rattle.block_versions.specs.Soundness.{SoundAt, SoundBy}

-- ---- the trace

went_one : (h : Held) (old new : Option (List Call)) (id : List ℕ) (version : ℕ) (file : Option (List ℕ)) → live_version h id ≡ Some version → waiting h id ≡ None
    → new ≡ adds old (got (block id) (h.size + 1) file) → WentOnByReads h old new
went_one h None new id version file live written is = is
went_one h (Some t) new id version file live written is = (
  got (block id) (h.size + 1) file ∷ [],
  is,
  (record { id = id; version = version; answer = file; live = live; written = written; is = refl }, tt),
)

came_went : (h : Held) (old new : Option (List Call)) (id : List ℕ) (version : ℕ) (file : Option (List ℕ)) → live_version h id ≡ Some version
    → Came h old new id file → WentOnByReads h old new
came_went h old new id version file live came =
    elim (waiting h id) as (λ w. waiting h id ≡ w → Gave w old new (block id) (h.size + 1) file → WentOnByReads h old new) [
      | Some change ↦ λ e f. subst (WentOnByReads h old) (sym f.0) (went_same h old)
      | None ↦ λ e f. went_one h old new id version file live e f
    ] refl came

pub fetched_went : (h : Held) (old new : Option (List Call)) (id : List ℕ) (version : ℕ) (r : Result (List ℕ) Fail) → live_version h id ≡ Some version
    → Fetched h old new id version r → WentOnByReads h old new
fetched_went h old new id version (Ok payload) live f = came_went h old new id version f.0 live f.1
fetched_went h old new id version (Err Memory) live f = subst (WentOnByReads h old) (sym f) (went_same h old)
fetched_went h old new id version (Err Fault) live f = subst (WentOnByReads h old) (sym f) (went_same h old)
fetched_went h old new id version (Err (Violation why)) live f = came_went h old new id version f.0 live f.1

-- ---- values

false_is_true : false ≡ true → ⊥
false_is_true e = cc

pub wanted_of : (h : Held) (t : List Call) (id : List ℕ) (version : ℕ) (bytes payload : List ℕ) → live_version h id ≡ Some version → waiting h id ≡ Some (Some bytes)
    → opened h.opens h.size id bytes ≡ Some (own h id version payload) → wanted h (Some t) id ≡ Some payload
wanted_of h t id version bytes payload live waits o = rw (live, waits, o) refl

not_false : (a b : Bool) → a ≡ true → (a && not b) ≡ false → b ≡ true
not_false true true is e = refl
not_false true false is e = absurd (false_is_true (sym e))
not_false false b is e = absurd (false_is_true is)

put_wanted : (h : Held) (t : List Call) (id bytes payload : List ℕ) (version : ℕ) → live_version h id ≡ Some version → SoundAt h t
    → opened h.opens h.size id bytes ≡ Some (own h id version payload) → was_put bytes t ≡ true → wanted h (Some t) id ≡ Some payload
put_wanted h t id bytes payload version live sound o was = (sound.past id bytes (own h id version payload) was o refl).payload live

-- Where no forged file came, the payload of a good one is the content's.
came_value : (h : Held) (old new : Option (List Call)) (id : List ℕ) (version : ℕ) (file : Option (List ℕ)) (payload : List ℕ) → live_version h id ≡ Some version
    → Came h old new id file → verdict h.opens h.size id h.state.client version h.state.least file ≡ good payload
    → SoundBy h old → count_told (forged h.opens h.size) new ≤ count_told (forged h.opens h.size) old → wanted h old id ≡ Some payload
came_value h None new id version file payload live came is sound few = absurd sound
came_value h (Some t) new id version file payload live came is sound few =
    let (bytes, same, o) = good_opens h.opens h.size id h.state.client version h.state.least file payload is in
    elim (waiting h id) as (λ w. waiting h id ≡ w → Gave w (Some t) new (block id) (h.size + 1) file → wanted h (Some t) id ≡ Some payload) [
      | Some change ↦ λ e f.
          let (b, p, sameb, ob) = sound.waits id version change live e in
          let whole : take (h.size + 1) b ≡ b = cut_whole h.opens h.size id b _ ob.opens in
          let eq : b ≡ bytes = sym whole ∙ same_Some _ _ (sym (f.1 ∙ ap (cut (h.size + 1)) sameb) ∙ same) in
          wanted_of h t id version bytes payload live (e ∙ ap Some (sameb ∙ ap Some eq)) o
      | None ↦ λ e f.
          let few' : count_calls (forged h.opens h.size) (got (block id) (h.size + 1) file ∷ t) ≤ count_calls (forged h.opens h.size) t = rw f at few in
          let unforged : forged h.opens h.size t (got (block id) (h.size + 1) (Some bytes)) ≡ false = rw same at (uncounted (forged h.opens h.size t (got (block id) (h.size + 1) file)) _ few') in
          let p = opened-plain h.opens h.size id bytes _ o in
          put_wanted h t id bytes payload version live sound o (not_false (is_some (opens_file h.opens h.size id bytes)) (was_put bytes t) (ap is_some p.1) unforged)
    ] refl came

-- ---- the answers

-- what is wrong was found
came_met : (h : Held) (old new : Option (List Call)) (id : List ℕ) (version : ℕ) (file : Option (List ℕ)) (why : Why) → live_version h id ≡ Some version
    → Came h old new id file → verdict h.opens h.size id h.state.client version h.state.least file ≡ bad why → FoundSince h old new why
came_met h None new id version file why live came wrong = tt
came_met h (Some t) new id version file why live came wrong =
    elim (waiting h id) as (λ w. waiting h id ≡ w → Gave w (Some t) new (block id) (h.size + 1) file → FoundSince h (Some t) new why) [
      | Some change ↦ λ e f. (
        [],
        f.0,
        record { id = id; version = version; file = file; live = live; wrong = wrong; came = inl (change, e, f.1) },
      )
      | None ↦ λ e f. (
        got (block id) (h.size + 1) file ∷ [],
        f,
        record { id = id; version = version; file = file; live = live; wrong = wrong; came = inr (inl refl) },
      )
    ] refl came

on_verdict : (met : Why → Type 0) (why : Why) → met why → OnVerdict (Violation why) met
on_verdict met Missing m = m
on_verdict met BadLength m = m
on_verdict met BadPrefix m = m
on_verdict met NotOpened m = m
on_verdict met BadRecord m = m
on_verdict met (WrongId id) m = m
on_verdict met (ForeignClient c) m = m
on_verdict met (OldVersion known found) m = m
on_verdict met (AheadVersion known found) m = m
on_verdict met Structure m = tt
on_verdict met OldFormat m = m

of_blocks : (why : Why) → (why ≡ Structure → ⊥) → IsOfBlocks (Violation why)
of_blocks Missing f = tt
of_blocks BadLength f = tt
of_blocks BadPrefix f = tt
of_blocks NotOpened f = tt
of_blocks BadRecord f = tt
of_blocks (WrongId id) f = tt
of_blocks (ForeignClient c) f = tt
of_blocks (OldVersion known found) f = tt
of_blocks (AheadVersion known found) f = tt
of_blocks Structure f = absurd (f refl)
of_blocks OldFormat f = tt

pub fetched_met : (h : Held) (old new : Option (List Call)) (id : List ℕ) (version : ℕ) (e : Fail) → live_version h id ≡ Some version
    → Fetched h old new id version (Err e) → OnVerdict e (FoundSince h old new)
fetched_met h old new id version Memory live f = tt
fetched_met h old new id version Fault live f = tt
fetched_met h old new id version (Violation why) live f =
    on_verdict (FoundSince h old new) why (came_met h old new id version f.0 why live f.1 f.2)

pub fetched_of_blocks : (h : Held) (old new : Option (List Call)) (id : List ℕ) (version : ℕ) (e : Fail) → Fetched h old new id version (Err e) → IsOfBlocks e
fetched_of_blocks h old new id version Memory f = tt
fetched_of_blocks h old new id version Fault f = tt
fetched_of_blocks h old new id version (Violation why) f =
    of_blocks why (λ e. judged_structure h.size id h.state.client version (seen_file_in h.opens h.size h.state.least id f.0) (f.2 ∙ ap bad e))

pub fetched_value : (h : Held) (old new : Option (List Call)) (id : List ℕ) (version : ℕ) (payload : List ℕ) → live_version h id ≡ Some version
    → Fetched h old new id version (Ok payload) → SoundBy h old → count_told (forged h.opens h.size) new ≤ count_told (forged h.opens h.size) old
    → Some payload ≡ wanted h old id
fetched_value h old new id version payload live f sound few = sym (came_value h old new id version f.0 payload live f.1 f.2 sound few)

pub fetched_len : (h : Held) (old new : Option (List Call)) (id : List ℕ) (version : ℕ) (payload : List ℕ)
    → Fetched h old new id version (Ok payload) → length payload ≡ h.size - 78
fetched_len h old new id version payload f = came_len h.opens h.size id h.state.client version h.state.least f.0 payload f.2

-- ---- what a call gave

some_trace : {a b : List Call} → Some a ≡ Some b → a ≡ b
some_trace e = cc

some_version : {m n : ℕ} → Some m ≡ Some n → m ≡ n
some_version e = cc

same_why : {a b : Why} → bad a ≡ bad b → a ≡ b
same_why e = cc

same_read : (id other : List ℕ) (max : ℕ) (file answer : Option (List ℕ)) → got (block id) max file ≡ got (block other) max answer → (other ≡ id) × (answer ≡ file)
same_read id other max file answer e = (cc, cc)

one_gave : (h : Held) (id : List ℕ) (version : ℕ) (file : Option (List ℕ)) (why : Why) → live_version h id ≡ Some version
    → GaveBad h (got (block id) (h.size + 1) file ∷ []) why → verdict h.opens h.size id h.state.client version h.state.least file ≡ bad why
one_gave h id version file why live gave = elim gave.came [
  | inl is ↦
      let (same, answer) = same_read id gave.id (h.size + 1) file gave.file is in
      let known : gave.version ≡ version = some_version (sym gave.live ∙ ap (live_version h) same ∙ live) in
      subst (λ f. verdict h.opens h.size id h.state.client version h.state.least f ≡ bad why) answer
      (subst (λ n. verdict h.opens h.size id h.state.client n h.state.least gave.file ≡ bad why) known
      (subst (λ x. verdict h.opens h.size x h.state.client gave.version h.state.least gave.file ≡ bad why) same gave.wrong))
  | inr none ↦ absurd none
]

-- of the one call that was made, the verdict tells what it gave
came_gave : (h : Held) (old new : Option (List Call)) (id : List ℕ) (version : ℕ) (file : Option (List ℕ)) (why : Why) → live_version h id ≡ Some version
    → Came h old new id file → GaveWrong h old new why → verdict h.opens h.size id h.state.client version h.state.least file ≡ bad why
came_gave h None new id version file why live came gave = absurd gave
came_gave h (Some t) new id version file why live came (calls, is, gave) =
    elim (waiting h id) as (λ w. Gave w (Some t) new (block id) (h.size + 1) file → verdict h.opens h.size id h.state.client version h.state.least file ≡ bad why) [
      | Some change ↦ λ f. absurd (gave_same h (Some t) why (calls, sym f.0 ∙ is, gave))
      | None ↦ λ f. one_gave h id version file why live (subst (λ calls. GaveBad h calls why) (append_cancel_right calls (got (block id) (h.size + 1) file ∷ []) t (some_trace (sym is ∙ f))) gave)
    ] came

pub fetched_none_wrong : (h : Held) (old new : Option (List Call)) (id : List ℕ) (version : ℕ) (payload : List ℕ) → live_version h id ≡ Some version
    → Fetched h old new id version (Ok payload) → IsNoticed (Ok payload) (GaveWrong h old new)
fetched_none_wrong h old new id version payload live f why gave = bad_is_good (sym (came_gave h old new id version f.0 why live f.1 gave) ∙ f.2)

uncalled : (h : Held) (old new : Option (List Call)) (why : Why) → new ≡ old → GaveWrong h old new why → ⊥
uncalled h old new why same gave = gave_same h old why (subst (λ t. GaveWrong h old t why) same gave)

pub fetched_tells : (h : Held) (old new : Option (List Call)) (id : List ℕ) (version : ℕ) (e : Fail) → live_version h id ≡ Some version
    → Fetched h old new id version (Err e) → Tells e (GaveWrong h old new)
fetched_tells h old new id version Memory live f = λ why gave. uncalled h old new why f gave
fetched_tells h old new id version Fault live f = λ why gave. uncalled h old new why f gave
fetched_tells h old new id version (Violation told) live f = λ why gave. same_why (sym (came_gave h old new id version f.0 why live f.1 gave) ∙ f.2)

-- ---- loads

pub loads_none : (h : Held) (old : Option (List Call)) (id : List ℕ) → live_version h id ≡ None → Loads h h old old id (Ok None)
loads_none h old id live = record { held = refl; judged = subst (λ v. LoadAnswers h old old id v (Ok None)) (sym live) refl }

pub loads_ok : (a b : Held) (old new : Option (List Call)) (id : List ℕ) (version : ℕ) (payload : List ℕ) → b ≡ a → live_version a id ≡ Some version → Fetched a old new id version (Ok payload)
    → Loads a b old new id (Ok (Some payload))
loads_ok a b old new id version payload same live f = record { held = same; judged = subst (λ v. LoadAnswers a old new id v (Ok (Some payload))) (sym live) f }

pub loads_err : (a b : Held) (old new : Option (List Call)) (id : List ℕ) (version : ℕ) (e : Fail) → b ≡ a → live_version a id ≡ Some version → Fetched a old new id version (Err e)
    → Loads a b old new id (Err e)
loads_err a b old new id version e same live f = record { held = same; judged = subst (λ v. LoadAnswers a old new id v (Err e)) (sym live) f }
