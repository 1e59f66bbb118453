-- The outcome of a load, and of a load of a front.
use Rattle.std.specs.Prelude.{◌≡◌, ◌≤◌, ℕ, ◌+◌, ◌-◌, true, List, length, min, take, Vec, Result, is_some}
use Rattle.std.proofs.Common.{refl, sym, ◌∙◌, ap, subst, arith}
use Rattle.std.proofs.lemmas.List.{length-take, take_all}
use Rattle.std.specs.declared.alloc.Global.{Global}
use Rattle.std.specs.declared.option.Option.{Option}
use Rattle.std.specs.declared.option.Option.TheVariants.{None, Some}
use Rattle.std.specs.declared.result.Result.TheVariants.{Ok, Err}
use Rattle.block_id.specs.declared.fail.Fail.{Fail}
use Rattle.outside.specs.Trace.{Call}
use Rattle.outside.specs.Honest.{count_told}
use Rattle.outside.specs.View.{bytes_of}
use Rattle.block_versions.specs.store_outcome.Meanings.{HasCause, UnlessFault}
use Rattle.block_versions.specs.store_outcome.Outcome.{Outcome, passed}
use Rattle.store_api.specs.Content.{Id}
use Rattle.store_api.specs.Fronts.{front_of}
use Rattle.found_blocks.specs.Rows.{Author, author_in}
use Rattle.found_blocks.specs.Finding.{Finding, content_of, is_twin, payload_of, where_found}
use Rattle.found_blocks.specs.Fetching.{FetchedFront, front_answer}
use Rattle.found_blocks.specs.Reads.{Fetched, WentOnByReads, passes}
use Rattle.found_blocks.specs.Stores.{OnlyRead, meanings_by}
use Rattle.found_blocks.proofs.Fetches.{fetched_len, fetched_met, fetched_none_wrong, fetched_tells, fetched_value, fetched_went, found_of_blocks}

-- ---- fronts

-- what is asked for is no less than a payload
whole_front : (f : Finding) (old new : Option (List Call)) (id : Id) (author : Author) (most : ℕ) (whole : Result (List ℕ) Fail) → f.size ≤ most + 78 → Fetched f old new id author whole → front_answer most whole ≡ whole
whole_front f old new id author most (Ok payload) room x = ap Ok (take_all most payload (omega (arith, room, fetched_len f old new id author payload x)))
whole_front f old new id author most (Err e) room x = refl

pub fetched_whole : (f : Finding) (old new : Option (List Call)) (id : Id) (author : Author) (most : ℕ) (answer : Result (List ℕ) Fail) → f.size ≤ most + 78 → FetchedFront f old new id author most answer
    → Fetched f old new id author answer
fetched_whole f old new id author most answer room x =
    subst (Fetched f old new id author) (sym (x.front ∙ whole_front f old new id author most x.whole room x.fetched)) x.fetched

ok_front : (most : ℕ) (whole : Result (List ℕ) Fail) (front : List ℕ) → Ok front ≡ front_answer most whole → (payload : List ℕ) × (whole ≡ Ok payload) × (front ≡ take most payload)
ok_front most (Ok payload) front e = (payload, refl, cc)
ok_front most (Err fail) front e = absurd (cc)

err_front : (most : ℕ) (whole : Result (List ℕ) Fail) (e : Fail) → Err e ≡ front_answer most whole → whole ≡ Err e
err_front most (Ok payload) e is = absurd (cc)
err_front most (Err fail) e is = cc

pub front_payload : (f : Finding) (old new : Option (List Call)) (id : Id) (author : Author) (most : ℕ) (front : List ℕ) → FetchedFront f old new id author most (Ok front)
    → (payload : List ℕ) × Fetched f old new id author (Ok payload) × (front ≡ take most payload)
front_payload f old new id author most front x =
    let (payload, is, same) = ok_front most x.whole front x.front in
    (payload, subst (Fetched f old new id author) is x.fetched, same)

-- an error is that of the whole
pub front_failed : (f : Finding) (old new : Option (List Call)) (id : Id) (author : Author) (most : ℕ) (e : Fail) → FetchedFront f old new id author most (Err e) → Fetched f old new id author (Err e)
front_failed f old new id author most e x = subst (Fetched f old new id author) (err_front most x.whole e x.front) x.fetched

pub front_len : (f : Finding) (old new : Option (List Call)) (id : Id) (author : Author) (most : ℕ) (front : List ℕ) → FetchedFront f old new id author most (Ok front) → length front ≡ min most (f.size - 78)
front_len f old new id author most front x =
    let (payload, fetched, same) = front_payload f old new id author most front x in
    ap length same ∙ length-take most payload ∙ ap (min most) (fetched_len f old new id author payload fetched)

told_some : (t : Option (List Call)) → is_some t ≡ true → t ≡ None → ⊥
told_some t told none = let bad = rw none at told in cc

-- ---- outcomes

module _ {S : Type 0} (found : S → Finding) (trace : S → Option (List Call)) (faults : S → ℕ) (own : S → Type 0) (a b : S) (id : Id) (author : Author) where
  pub only_read : (r : Result (List ℕ) Fail) → found b ≡ found a → faults a ≤ faults b → author_in (found a).rows id ≡ Some author
      → Fetched (found a) (trace a) (trace b) id author r → OnlyRead (found a) (found b) (trace a) (trace b) (faults a) (faults b)
  only_read r same later row x = record { same = same; trace = fetched_went (found a) (trace a) (trace b) id author r row x; faults = later }

  went_told : (f : Finding) (t u : Option (List Call)) → WentOnByReads f t u → is_some t ≡ true → is_some u ≡ true
  went_told f None u went told = absurd (cc)
  went_told f (Some t) u (reads, is, all) told = ap is_some is

  twins : found b ≡ found a → count_told (passes is_twin (found b)) (trace b) ≤ count_told (passes is_twin (found a)) (trace a) → count_told (passes is_twin (found a)) (trace b) ≤ count_told (passes is_twin (found a)) (trace a)
  twins same few = subst (λ f. count_told (passes is_twin f) (trace b) ≤ count_told (passes is_twin (found a)) (trace a)) same few

  pub loaded_ok : (payload : Vec ℕ Global) → (meanings_by found trace faults own).intact b → found b ≡ found a → faults a ≤ faults b → author_in (found a).rows id ≡ Some author
      → faults b ≡ faults a → Fetched (found a) (trace a) (trace b) id author (Ok payload.items)
      → Outcome (meanings_by found trace faults own) {T = Option (Vec ℕ Global)} Unit a b (Ok (Some payload)) (λ _ answer. bytes_of answer ≡ content_of (found a) id)
  loaded_ok payload intact same later row quiet x =
      let went = fetched_went (found a) (trace a) (trace b) id author (Ok payload.items) row x in
      record {
        intact = intact;
        loaded = only_read (Ok payload.items) same later row x;
        sound = λ s few. went_told (found a) (trace a) (trace b) went s;
        met = tt;
        fault = tt;
        quiet = quiet;
        noticed = fetched_none_wrong (found a) (trace a) (trace b) id author payload.items row x;
        value = λ n s few. fetched_value (found a) (trace a) (trace b) id author payload.items row x (told_some (trace a) s) (twins same few);
        structure = λ n s few. tt;
      }

  pub loaded_err : (e : Fail) → (meanings_by found trace faults own).intact b → found b ≡ found a → faults a ≤ faults b → author_in (found a).rows id ≡ Some author
      → HasCause e (faults a) (faults b) → UnlessFault e (faults b ≡ faults a) → Fetched (found a) (trace a) (trace b) id author (Err e)
      → Outcome (meanings_by found trace faults own) {T = Option (Vec ℕ Global)} Unit a b (Err e) (λ _ answer. bytes_of answer ≡ content_of (found a) id)
  loaded_err e intact same later row cause quiet x =
      let went = fetched_went (found a) (trace a) (trace b) id author (Err e) row x in
      record {
        intact = intact;
        loaded = only_read (Err e) same later row x;
        sound = λ s few. went_told (found a) (trace a) (trace b) went s;
        met = fetched_met (found a) (trace a) (trace b) id author e row x;
        fault = cause;
        quiet = quiet;
        noticed = fetched_tells (found a) (trace a) (trace b) id author e row x;
        value = λ n s few. tt;
        structure = λ n s few. found_of_blocks (found a) (trace a) (trace b) id author e x;
      }

  pub front_ok : (most : ℕ) (front : Vec ℕ Global) → (meanings_by found trace faults own).intact b → found b ≡ found a → faults a ≤ faults b → author_in (found a).rows id ≡ Some author
      → faults b ≡ faults a → FetchedFront (found a) (trace a) (trace b) id author most (Ok front.items)
      → Outcome (meanings_by found trace faults own) {T = Option (Vec ℕ Global)} Unit a b (Ok (Some front)) (λ _ answer. bytes_of answer ≡ front_of most (content_of (found a) id))
  front_ok most front intact same later row quiet x =
      let (payload, fetched, is) = front_payload (found a) (trace a) (trace b) id author most front.items x in
      let went = fetched_went (found a) (trace a) (trace b) id author (Ok payload) row fetched in
      record {
        intact = intact;
        loaded = only_read (Ok payload) same later row fetched;
        sound = λ s few. went_told (found a) (trace a) (trace b) went s;
        met = tt;
        fault = tt;
        quiet = quiet;
        noticed = fetched_none_wrong (found a) (trace a) (trace b) id author payload row fetched;
        value = λ n s few. ap Some is ∙ ap (front_of most) (fetched_value (found a) (trace a) (trace b) id author payload row fetched (told_some (trace a) s) (twins same few));
        structure = λ n s few. tt;
      }

  pub front_err : (most : ℕ) (e : Fail) → (meanings_by found trace faults own).intact b → found b ≡ found a → faults a ≤ faults b → author_in (found a).rows id ≡ Some author
      → HasCause e (faults a) (faults b) → UnlessFault e (faults b ≡ faults a) → FetchedFront (found a) (trace a) (trace b) id author most (Err e)
      → Outcome (meanings_by found trace faults own) {T = Option (Vec ℕ Global)} Unit a b (Err e) (λ _ answer. bytes_of answer ≡ front_of most (content_of (found a) id))
  front_err most e intact same later row cause quiet x =
      passed (loaded_err e intact same later row cause quiet (front_failed (found a) (trace a) (trace b) id author most e x))

  -- a found block is in the content
  pub is_found : author_in (found a).rows id ≡ Some author → is_some (content_of (found a) id) ≡ true
  is_found row = ap (λ r. is_some (where_found r (payload_of (found a) id))) row
