-- What a fetch of a block's front leaves and answers.
use Rattle.std.specs.Prelude.{◌≡◌, ◌⊎◌, ◌≤◌, ℕ, ◌+◌, ◌-◌, List, length, min, take, Vec, Result}
use Rattle.std.specs.declared.alloc.Global.{Global}
use Rattle.std.specs.declared.option.Option.{Option}
use Rattle.std.specs.declared.option.Option.TheVariants.{Some}
use Rattle.std.specs.declared.result.Result.TheVariants.{Ok, Err}
use Rattle.std.proofs.Common.{refl, sym, ◌∙◌, ap, subst, arith, inl, inr}
use Rattle.std.proofs.lemmas.Bool.{cases_lt}
use Rattle.std.proofs.lemmas.List.{length-take, take_all}
use Rattle.block_id.specs.declared.fail.Fail.{Fail}
use Rattle.block_id.specs.declared.fail.Fail.TheVariants.{Violation}
use Rattle.block_id.specs.declared.fail.Why.{Why}
use Rattle.outside.specs.Honest.{count_told}
use Rattle.outside.specs.Trace.{Call}
use Rattle.outside.specs.View.{bytes_of}
use Rattle.store_api.specs.store_outcome.Meanings.{HasCause, UnlessFault}
use Rattle.store_api.specs.store_outcome.Outcome.{Outcome, passed}
use Rattle.store_api.specs.Fronts.{front_of}
use Rattle.store_api.specs.Holdings.{Stays}
use Rattle.block_versions.proofs.Judging.{came_len}
use Rattle.block_versions.specs.VerdictLaws.{bad_is_good}
use Rattle.block_versions.specs.Verdicts.{Verdict, bad, front_verdict, good, verdict, verdict_of}
use Rattle.block_versions.specs.Forgeries.{forged}
use Rattle.block_versions.specs.Held.{Held, live_version, wanted}
use Rattle.block_versions.specs.Loads.{Came, Fetched, FetchedFront, front_answer}
use Rattle.block_versions.specs.Stores.{holdings_by, meanings_by}
use Rattle.block_versions.proofs.Fetches.{fetched_len, fetched_none_wrong, fetched_value}
use Rattle.block_versions.proofs.Loading.{loaded_err, only_read, stays, still_sound}

-- ---- what was judged, as a fetch's answer

-- the first bytes, where no more can be asked for than there are
take_alike : (most limit : ℕ) (payload : List ℕ) → length payload ≤ limit → take (min most limit) payload ≡ take most payload
take_alike most limit payload short = elim (cases_lt most limit) [
  | inl less ↦ ap (λ n. take n payload) (omega (arith, less))
  | inr more ↦ take_all (min most limit) payload (omega (arith, more, short)) ∙ sym (take_all most payload (omega (arith, more, short)))
]

-- an answer by a verdict
abbrev pub answer_by : Result (Vec ℕ Global) Why → Result (List ℕ) Fail
answer_by (Ok payload) = Ok payload.items
answer_by (Err why) = Err (Violation why)

same_good : {a b : List ℕ} → good a ≡ good b → a ≡ b
same_good e = cc

same_bad : {a b : Why} → bad a ≡ bad b → a ≡ b
same_bad e = cc

judged_answer : (n : ℕ) (r : Result (Vec ℕ Global) Why) (v : Verdict) → verdict_of r ≡ front_verdict n v
    → ((payload : List ℕ) × (v ≡ good payload) × (answer_by r ≡ Ok (take n payload))) ⊎ ((why : Why) × (v ≡ bad why) × (answer_by r ≡ Err (Violation why)))
judged_answer n (Ok front) (good payload) e = inl (payload, refl, ap Ok (same_good e))
judged_answer n (Ok front) (bad why) e = absurd (bad_is_good (sym e))
judged_answer n (Err found) (good payload) e = absurd (bad_is_good e)
judged_answer n (Err found) (bad why) e = inr (why, refl, ap (λ w. Err (Violation w)) (same_bad e))

-- the front of a file that came was judged
pub fetched_front : (h : Held) (old new : Option (List Call)) (id : List ℕ) (version most limit : ℕ) (file : Option (List ℕ)) (r : Result (Vec ℕ Global) Why)
    → h.size ≤ limit + 78 → Came h old new id file
    → verdict_of r ≡ front_verdict (min most limit) (verdict h.opens h.size id h.state.client version h.state.least file) → FetchedFront h old new id version most (answer_by r)
fetched_front h old new id version most limit file r room came is =
    elim (judged_answer (min most limit) r (verdict h.opens h.size id h.state.client version h.state.least file) is) [
      | inl (payload, fine, answer) ↦
          let len = came_len h.opens h.size id h.state.client version h.state.least file payload fine in
          record { whole = Ok payload; fetched = (file, came, fine); front = answer ∙ ap Ok (take_alike most limit payload (omega (arith, len, room))) }
      | inr (why, wrong, answer) ↦ record { whole = Err (Violation why); fetched = (file, came, wrong); front = answer }
    ]

-- ---- fronts that are whole

whole_front : (h : Held) (old new : Option (List Call)) (id : List ℕ) (version most : ℕ) (whole : Result (List ℕ) Fail) → h.size ≤ most + 78 → Fetched h old new id version whole → front_answer most whole ≡ whole
whole_front h old new id version most (Ok payload) room f = ap Ok (take_all most payload (omega (arith, room, fetched_len h old new id version payload f)))
whole_front h old new id version most (Err e) room f = refl

-- what is asked for is no less than a payload
pub fetched_whole : (h : Held) (old new : Option (List Call)) (id : List ℕ) (version most : ℕ) (answer : Result (List ℕ) Fail) → h.size ≤ most + 78 → FetchedFront h old new id version most answer
    → Fetched h old new id version answer
fetched_whole h old new id version most answer room f =
    subst (Fetched h old new id version) (sym (f.front ∙ whole_front h old new id version most f.whole room f.fetched)) f.fetched

-- ---- the answers

ok_front : (most : ℕ) (whole : Result (List ℕ) Fail) (front : List ℕ) → Ok front ≡ front_answer most whole → (payload : List ℕ) × (whole ≡ Ok payload) × (front ≡ take most payload)
ok_front most (Ok payload) front e = (payload, refl, cc)
ok_front most (Err fail) front e = absurd (cc)

err_front : (most : ℕ) (whole : Result (List ℕ) Fail) (e : Fail) → Err e ≡ front_answer most whole → whole ≡ Err e
err_front most (Ok payload) e is = absurd (cc)
err_front most (Err fail) e is = cc

-- the payload of which the front came
pub front_payload : (h : Held) (old new : Option (List Call)) (id : List ℕ) (version most : ℕ) (front : List ℕ) → FetchedFront h old new id version most (Ok front)
    → (payload : List ℕ) × Fetched h old new id version (Ok payload) × (front ≡ take most payload)
front_payload h old new id version most front f =
    let (payload, is, same) = ok_front most f.whole front f.front in
    (payload, subst (Fetched h old new id version) is f.fetched, same)

-- an error is that of the whole
pub front_failed : (h : Held) (old new : Option (List Call)) (id : List ℕ) (version most : ℕ) (e : Fail) → FetchedFront h old new id version most (Err e) → Fetched h old new id version (Err e)
front_failed h old new id version most e f = subst (Fetched h old new id version) (err_front most f.whole e f.front) f.fetched

pub front_len : (h : Held) (old new : Option (List Call)) (id : List ℕ) (version most : ℕ) (front : List ℕ) → FetchedFront h old new id version most (Ok front) → length front ≡ min most (h.size - 78)
front_len h old new id version most front f =
    let (payload, fetched, same) = front_payload h old new id version most front f in
    ap length same ∙ length-take most payload ∙ ap (min most) (fetched_len h old new id version payload fetched)

module _ {S : Type 0} (held : S → Held) (trace : S → Option (List Call)) (faults : S → ℕ) (own : S → Type 0) (a b : S) (id : List ℕ) where
  pub front_stays : (version most : ℕ) (r : Result (List ℕ) Fail) → held b ≡ held a → faults a ≤ faults b → live_version (held a) id ≡ Some version
      → FetchedFront (held a) (trace a) (trace b) id version most r → Stays (holdings_by held trace) a b
  front_stays version most r same later live f = stays held trace faults own a b id version f.whole same later live f.fetched

  pub front_ok : (version most : ℕ) (front : Vec ℕ Global) → (meanings_by held trace faults own).intact b → held b ≡ held a → faults a ≤ faults b → live_version (held a) id ≡ Some version
      → faults b ≡ faults a → FetchedFront (held a) (trace a) (trace b) id version most (Ok front.items)
      → Outcome (meanings_by held trace faults own) {T = Option (Vec ℕ Global)} Unit a b (Ok (Some front)) (λ _ answer. bytes_of answer ≡ front_of most (wanted (held a) (trace a) id))
  front_ok version most front intact same later live quiet f =
      let (payload, fetched, is) = front_payload (held a) (trace a) (trace b) id version most front.items f in
      record {
        intact = intact;
        loaded = only_read held trace faults own a b id version (Ok payload) same later live fetched;
        sound = λ s few. still_sound held trace faults own a b id version (Ok payload) same live fetched s;
        met = tt;
        fault = tt;
        quiet = quiet;
        noticed = fetched_none_wrong (held a) (trace a) (trace b) id version payload live fetched;
        value = λ n s few. ap Some is ∙ ap (front_of most) (fetched_value (held a) (trace a) (trace b) id version payload live fetched s
            (subst (λ h. count_told (forged h.opens h.size) (trace b) ≤ count_told (forged (held a).opens (held a).size) (trace a)) same few));
        structure = λ n s few. tt;
      }

  pub front_err : (version most : ℕ) (e : Fail) → (meanings_by held trace faults own).intact b → held b ≡ held a → faults a ≤ faults b → live_version (held a) id ≡ Some version
      → HasCause e (faults a) (faults b) → UnlessFault e (faults b ≡ faults a) → FetchedFront (held a) (trace a) (trace b) id version most (Err e)
      → Outcome (meanings_by held trace faults own) {T = Option (Vec ℕ Global)} Unit a b (Err e) (λ _ answer. bytes_of answer ≡ front_of most (wanted (held a) (trace a) id))
  front_err version most e intact same later live cause quiet f =
      passed (loaded_err held trace faults own a b id version e intact same later live cause quiet (front_failed (held a) (trace a) (trace b) id version most e f))
