-- What a fetch of a found block leaves and answers.
use Rattle.std.specs.Prelude.{◌≡◌, ◌≤◌, ℕ, ◌+◌, ◌-◌, Bool, true, false, not, List, [], ◌∷◌, length, min, Vec, Result}
use Rattle.std.specs.Str.{bytes_eq}
use Rattle.std.specs.FinMap as fin
use Rattle.std.specs.declared.alloc.Global.{Global}
use Rattle.std.specs.declared.option.Option.{Option}
use Rattle.std.specs.declared.option.Option.TheVariants.{None, Some}
use Rattle.std.specs.declared.result.Result.TheVariants.{Ok, Err}
use Rattle.std.proofs.Common.{refl, sym, ◌∙◌, ap, subst, inl, inr}
use Rattle.std.proofs.lemmas.List.{append_cancel_right}
use Rattle.std.proofs.lemmas.Slice.Eq.{bytes_eq-Decides}
use Rattle.block_id.specs.declared.fail.Why.{Why}
use Rattle.block_id.specs.declared.fail.Why.TheVariants.{Missing, BadLength, BadPrefix, NotOpened, BadRecord, WrongId, ForeignClient, OldVersion, AheadVersion, Structure, OldFormat}
use Rattle.block_id.specs.declared.fail.Fail.{Fail}
use Rattle.block_id.specs.declared.fail.Fail.TheVariants.{Memory, Fault, Violation}
use Rattle.outside.specs.Trace.{block, Call, got, adds}
use Rattle.outside.specs.Honest.{count_calls, count_told}
use Rattle.outside.specs.HonestLaws.{uncounted}
use Rattle.block_versions.specs.store_outcome.Meanings.{IsNoticed, IsOfBlocks, OnVerdict, Tells}
use Rattle.store_api.specs.Content.{Id}
use Rattle.block_versions.specs.Held.{Held}
use Rattle.block_versions.specs.Loads as held
use Rattle.block_versions.specs.VerdictLaws.{bad_is_good}
use Rattle.block_versions.specs.Verdicts.{bad, good, verdict_of, front_verdict}
use Rattle.block_versions.proofs.Judging.{came_len}
use Rattle.block_versions.proofs.Fetches.{fetched_of_blocks}
use Rattle.block_versions.proofs.HeldBlocksFronts.{answer_by, fetched_front}
use Rattle.found_blocks.specs.Rows.{Author, author_in}
use Rattle.found_blocks.specs.Finding.{Finding, content_of, is_twin, judged_as, payload_of, where_found}
use Rattle.found_blocks.specs.Reads.{Came, Fetched, FoundSince, GaveBad, GaveWrong, LoadAnswers, Loads, WentOnByReads, answer_passes, passes}
use Rattle.found_blocks.specs.Fetching.{FetchedFront, front_answer}
use Rattle.found_blocks.specs.ReadLaws.{gave_same, went_same}

-- ---- by what a store that knows one client would say

abbrev held_as : Finding → ℕ → Held
held_as f client = record {
  size = f.size;
  opens = f.opens;
  state = record { marked = false; least = 1; fs_id = []; key_salt = []; key_digest = []; client = client; lives = fin.empty };
  list = [];
}

from_held : (f : Finding) (old new : Option (List Call)) (id : Id) (author : Author) (r : Result (List ℕ) Fail) → held.Fetched (held_as f author.0) old new id author.1 r → Fetched f old new id author r
from_held f old new id author (Ok payload) h = h
from_held f old new id author (Err Memory) h = h
from_held f old new id author (Err Fault) h = h
from_held f old new id author (Err (Violation why)) h = h

to_held : (f : Finding) (old new : Option (List Call)) (id : Id) (author : Author) (r : Result (List ℕ) Fail) → Fetched f old new id author r → held.Fetched (held_as f author.0) old new id author.1 r
to_held f old new id author (Ok payload) h = h
to_held f old new id author (Err Memory) h = h
to_held f old new id author (Err Fault) h = h
to_held f old new id author (Err (Violation why)) h = h

same_front : (most : ℕ) (r : Result (List ℕ) Fail) → held.front_answer most r ≡ front_answer most r
same_front most (Ok payload) = refl
same_front most (Err fail) = refl

-- the front of a file that came was judged
pub front_came : (f : Finding) (old new : Option (List Call)) (id : Id) (author : Author) (most limit : ℕ) (file : Option (List ℕ)) (r : Result (Vec ℕ Global) Why)
    → f.size ≤ limit + 78 → new ≡ adds old (got (block id) (f.size + 1) file)
    → verdict_of r ≡ front_verdict (min most limit) (judged_as f id author file) → FetchedFront f old new id author most (answer_by r)
front_came f old new id author most limit file r room came is =
    let x = fetched_front (held_as f author.0) old new id author.1 most limit file r room came is in
    record { whole = x.whole; fetched = from_held f old new id author x.whole x.fetched; front = x.front ∙ same_front most x.whole }

-- ---- the trace

came_went : (f : Finding) (old new : Option (List Call)) (id : Id) (author : Author) (file : Option (List ℕ)) → author_in f.rows id ≡ Some author → Came f old new id file → WentOnByReads f old new
came_went f None new id author file row came = came
came_went f (Some t) new id author file row came = (
  got (block id) (f.size + 1) file ∷ [],
  came,
  (record { id = id; author = author; answer = file; found = row; is = refl }, tt),
)

pub fetched_went : (f : Finding) (old new : Option (List Call)) (id : Id) (author : Author) (r : Result (List ℕ) Fail) → author_in f.rows id ≡ Some author → Fetched f old new id author r
    → WentOnByReads f old new
fetched_went f old new id author (Ok payload) row x = came_went f old new id author x.0 row x.1
fetched_went f old new id author (Err Memory) row x = subst (WentOnByReads f old) (sym x) (went_same f old)
fetched_went f old new id author (Err Fault) row x = subst (WentOnByReads f old) (sym x) (went_same f old)
fetched_went f old new id author (Err (Violation why)) row x = came_went f old new id author x.0 row x.1

-- ---- values

false_is_true : false ≡ true → ⊥
false_is_true e = cc

not_not : (b : Bool) → not b ≡ false → b ≡ true
not_not true e = refl
not_not false e = absurd (false_is_true (sym e))

-- where no twin came, the payload of a file that is taken is the one that was found
came_value : (f : Finding) (old new : Option (List Call)) (id : Id) (author : Author) (file : Option (List ℕ)) (payload : List ℕ) → author_in f.rows id ≡ Some author → Came f old new id file
    → judged_as f id author file ≡ good payload → (old ≡ None → ⊥) → count_told (passes is_twin f) new ≤ count_told (passes is_twin f) old → payload ≡ payload_of f id
came_value f None new id author file payload row came is told few = absurd (told refl)
came_value f (Some t) new id author file payload row came is told few =
    let few' : count_calls (passes is_twin f) (got (block id) (f.size + 1) file ∷ t) ≤ count_calls (passes is_twin f) t = rw came at few in
    let none : passes is_twin f t (got (block id) (f.size + 1) file) ≡ false = uncounted (passes is_twin f t (got (block id) (f.size + 1) file)) _ few' in
    let tests : passes is_twin f t (got (block id) (f.size + 1) file) ≡ not (bytes_eq payload (payload_of f id))
    = ap (λ author. answer_passes is_twin f id author file) row ∙ ap (λ v. is_twin v (payload_of f id)) is in
    (bytes_eq-Decides payload (payload_of f id)).0 (not_not (bytes_eq payload (payload_of f id)) (sym tests ∙ none))

pub fetched_value : (f : Finding) (old new : Option (List Call)) (id : Id) (author : Author) (payload : List ℕ) → author_in f.rows id ≡ Some author → Fetched f old new id author (Ok payload)
    → (old ≡ None → ⊥) → count_told (passes is_twin f) new ≤ count_told (passes is_twin f) old → Some payload ≡ content_of f id
fetched_value f old new id author payload row x told few =
    ap Some (came_value f old new id author x.0 payload row x.1 x.2 told few) ∙ sym (ap (λ a. where_found a (payload_of f id)) row)

pub fetched_len : (f : Finding) (old new : Option (List Call)) (id : Id) (author : Author) (payload : List ℕ) → Fetched f old new id author (Ok payload) → length payload ≡ f.size - 78
fetched_len f old new id author payload x = came_len f.opens f.size id author.0 author.1 1 x.0 payload x.2

-- ---- what was wrong

on_verdict : (met : Why → Type 0) (why : Why) → met why → OnVerdict (Violation why) met
on_verdict met Missing m = m
on_verdict met BadLength m = m
on_verdict met BadPrefix m = m
on_verdict met NotOpened m = m
on_verdict met BadRecord m = m
on_verdict met (WrongId id) m = m
on_verdict met (ForeignClient c) m = m
on_verdict met (OldVersion known found) m = m
on_verdict met (AheadVersion known found) m = m
on_verdict met Structure m = tt
on_verdict met OldFormat m = m

came_met : (f : Finding) (old new : Option (List Call)) (id : Id) (author : Author) (file : Option (List ℕ)) (why : Why) → author_in f.rows id ≡ Some author → Came f old new id file
    → judged_as f id author file ≡ bad why → FoundSince f old new why
came_met f None new id author file why row came wrong = tt
came_met f (Some t) new id author file why row came wrong = (
  got (block id) (f.size + 1) file ∷ [],
  came,
  record { id = id; author = author; file = file; found = row; wrong = wrong; came = inl refl },
)

pub fetched_met : (f : Finding) (old new : Option (List Call)) (id : Id) (author : Author) (e : Fail) → author_in f.rows id ≡ Some author → Fetched f old new id author (Err e) → OnVerdict e (FoundSince f old new)
fetched_met f old new id author Memory row x = tt
fetched_met f old new id author Fault row x = tt
fetched_met f old new id author (Violation why) row x = on_verdict (FoundSince f old new) why (came_met f old new id author x.0 why row x.1 x.2)

pub found_of_blocks : (f : Finding) (old new : Option (List Call)) (id : Id) (author : Author) (e : Fail) → Fetched f old new id author (Err e) → IsOfBlocks e
found_of_blocks f old new id author e x = fetched_of_blocks (held_as f author.0) old new id author.1 e (to_held f old new id author (Err e) x)

some_trace : {a b : List Call} → Some a ≡ Some b → a ≡ b
some_trace e = cc

some_author : {a b : Author} → Some a ≡ Some b → a ≡ b
some_author e = cc

same_why : {a b : Why} → bad a ≡ bad b → a ≡ b
same_why e = cc

same_read : (id other : Id) (max : ℕ) (file answer : Option (List ℕ)) → got (block id) max file ≡ got (block other) max answer → (other ≡ id) × (answer ≡ file)
same_read id other max file answer e = (cc, cc)

one_gave : (f : Finding) (id : Id) (author : Author) (file : Option (List ℕ)) (why : Why) → author_in f.rows id ≡ Some author → GaveBad f (got (block id) (f.size + 1) file ∷ []) why
    → judged_as f id author file ≡ bad why
one_gave f id author file why row gave = elim gave.came [
  | inl is ↦
      let (same, answer) = same_read id gave.id (f.size + 1) file gave.file is in
      let by : gave.author ≡ author = some_author (sym gave.found ∙ ap (author_in f.rows) same ∙ row) in
      subst (λ x. judged_as f id author x ≡ bad why) answer
      (subst (λ a. judged_as f id a gave.file ≡ bad why) by
      (subst (λ x. judged_as f x gave.author gave.file ≡ bad why) same gave.wrong))
  | inr none ↦ absurd none
]

-- of the one call that was made, the verdict tells what it gave
came_gave : (f : Finding) (old new : Option (List Call)) (id : Id) (author : Author) (file : Option (List ℕ)) (why : Why) → author_in f.rows id ≡ Some author → Came f old new id file
    → GaveWrong f old new why → judged_as f id author file ≡ bad why
came_gave f None new id author file why row came gave = absurd gave
came_gave f (Some t) new id author file why row came (calls, is, gave) =
    one_gave f id author file why row (subst (λ calls. GaveBad f calls why) (append_cancel_right calls (got (block id) (f.size + 1) file ∷ []) t (some_trace (sym is ∙ came))) gave)

pub fetched_none_wrong : (f : Finding) (old new : Option (List Call)) (id : Id) (author : Author) (payload : List ℕ) → author_in f.rows id ≡ Some author → Fetched f old new id author (Ok payload)
    → IsNoticed (Ok payload) (GaveWrong f old new)
fetched_none_wrong f old new id author payload row x why gave = bad_is_good (sym (came_gave f old new id author x.0 why row x.1 gave) ∙ x.2)

uncalled : (f : Finding) (old new : Option (List Call)) (why : Why) → new ≡ old → GaveWrong f old new why → ⊥
uncalled f old new why same gave = gave_same f old why (subst (λ t. GaveWrong f old t why) same gave)

pub fetched_tells : (f : Finding) (old new : Option (List Call)) (id : Id) (author : Author) (e : Fail) → author_in f.rows id ≡ Some author → Fetched f old new id author (Err e) → Tells e (GaveWrong f old new)
fetched_tells f old new id author Memory row x = λ why gave. uncalled f old new why x gave
fetched_tells f old new id author Fault row x = λ why gave. uncalled f old new why x gave
fetched_tells f old new id author (Violation told) row x = λ why gave. same_why (sym (came_gave f old new id author x.0 why row x.1 gave) ∙ x.2)

-- ---- loads

pub loads_none : (f : Finding) (old : Option (List Call)) (id : Id) → author_in f.rows id ≡ None → Loads f f old old id (Ok None)
loads_none f old id row = record { same = refl; judged = subst (λ a. LoadAnswers f old old id a (Ok None)) (sym row) refl }

pub loads_ok : (a b : Finding) (old new : Option (List Call)) (id : Id) (author : Author) (payload : List ℕ) → b ≡ a → author_in a.rows id ≡ Some author → Fetched a old new id author (Ok payload)
    → Loads a b old new id (Ok (Some payload))
loads_ok a b old new id author payload same row x = record { same = same; judged = subst (λ r. LoadAnswers a old new id r (Ok (Some payload))) (sym row) x }

pub loads_err : (a b : Finding) (old new : Option (List Call)) (id : Id) (author : Author) (e : Fail) → b ≡ a → author_in a.rows id ≡ Some author → Fetched a old new id author (Err e)
    → Loads a b old new id (Err e)
loads_err a b old new id author e same row x = record { same = same; judged = subst (λ r. LoadAnswers a old new id r (Err e)) (sym row) x }
