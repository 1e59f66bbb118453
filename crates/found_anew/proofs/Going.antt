-- How the calls of a writing anew go on, and which of them gave twins.
use Rattle.std.proofs.Common.{◌≡◌, ◌⊎◌, ◌≤◌, ◌+◌, inl, inr, ℕ, Bool, true, false, List, [], ◌∷◌, ◌++◌, refl, sym, ◌∙◌, ap, subst, arith, append_assoc}
use Rattle.std.specs.Prelude.{not, if◌then◌else◌}
use Rattle.std.specs.Str.{bytes_eq}
use Rattle.std.proofs.lemmas.Slice.Eq.{bytes_eq-Decides}
use Rattle.std.specs.declared.option.Option.{Option}
use Rattle.std.specs.declared.option.Option.TheVariants.{None, Some}
use Rattle.std.specs.declared.result.Result.TheVariants.{Ok, Err}
use Rattle.block_id.specs.declared.fail.Fail.TheVariants.{Memory, Fault, Violation}
use Rattle.outside.specs.Honest.{count_calls, count_told}
use Rattle.outside.specs.HonestLaws.{count_grows}
use Rattle.outside.specs.Trace.{Call, block, got, put, adds}
use Rattle.anew.specs.Writing.{PutsFirst}
use Rattle.found_blocks.specs.Finding.{Finding, is_twin, judged_as, payload_of}
use Rattle.found_blocks.specs.Reads.{Fetched, IsRead, LoadAnswers, answer_passes, passes}
use Rattle.found_blocks.specs.Rows.{Author, author_in}
use Rattle.found_blocks.specs.block_versions.Held.{Held}
use Rattle.found_blocks.specs.block_versions.Verdicts.{Verdict, good}
use Rattle.found_blocks.specs.store_api.Content.{Id}
use Rattle.found_blocks.specs.store_api.Loads.{LoadAnswer}
use Rattle.found_anew.specs.Renewing.{AllRenewing, PutsFound, WentOnRenewing, twins}

-- ---- calls in a row

all-append : (f : Finding) (xs ys : List Call) → AllRenewing f xs → AllRenewing f ys → AllRenewing f (xs ++ ys)
all-append f [] ys a b = b
all-append f (x ∷ xs) ys a b = (a.0, all-append f xs ys a.1 b)

pub renewing_same : (f : Finding) (t : Option (List Call)) → WentOnRenewing f t t
renewing_same f None = refl
renewing_same f (Some t) = ([], refl, tt)

pub renewing_on : (f : Finding) (a b c : Option (List Call)) → WentOnRenewing f a b → WentOnRenewing f b c → WentOnRenewing f a c
renewing_on f None b c first second = subst (λ b. WentOnRenewing f b c) first second
renewing_on f (Some t) b c (xs, is, all) second =
    let (ys, is', all') = subst (λ b. WentOnRenewing f b c) is second in
    (ys ++ xs, is' ∙ ap Some (sym (append_assoc ys xs t)), all-append f ys xs all' all)

renewing_call : (f : Finding) (a b : Option (List Call)) (call : Call) → IsRead f call ⊎ PutsFound f call → b ≡ adds a call → WentOnRenewing f a b
renewing_call f None b call one is = is
renewing_call f (Some t) b call one is = (call ∷ [], is, (one, tt))

-- ---- by what was called

fetch_renewing : (f : Finding) (a b : Option (List Call)) (id : Id) (author : Author) (file : Option (List ℕ)) → author_in f.rows id ≡ Some author
    → b ≡ adds a (got (block id) (f.size + 1) file) → WentOnRenewing f a b
fetch_renewing f a b id author file found is = renewing_call f a b _ (inl (record { id = id; author = author; answer = file; found = found; is = refl })) is

pub load_renewing : (f : Finding) (a b : Option (List Call)) (id : Id) (o : Option Author) (answer : LoadAnswer) → author_in f.rows id ≡ o → LoadAnswers f a b id o answer → WentOnRenewing f a b
load_renewing f a b id None (Ok None) is j = subst (WentOnRenewing f a) (sym j) (renewing_same f a)
load_renewing f a b id None (Ok (Some payload)) is j = absurd j
load_renewing f a b id None (Err e) is j = absurd j
load_renewing f a b id (Some author) (Ok None) is j = absurd j
load_renewing f a b id (Some author) (Ok (Some payload)) is j = fetch_renewing f a b id author j.0 is j.1
load_renewing f a b id (Some author) (Err Memory) is j = subst (WentOnRenewing f a) (sym j) (renewing_same f a)
load_renewing f a b id (Some author) (Err Fault) is j = subst (WentOnRenewing f a) (sym j) (renewing_same f a)
load_renewing f a b id (Some author) (Err (Violation why)) is j = fetch_renewing f a b id author j.0 is j.1

put_renewing : (f : Finding) (h : Held) (a b : Option (List Call)) (id payload iv : List ℕ) (author : Author) (ok : Bool) → author_in f.rows id ≡ Some author
    → PutsFirst h id payload iv a b ok → WentOnRenewing f a b
put_renewing f h a b id payload iv author ok found p =
    renewing_call f a b _ (inr (record { id = id; author = author; bytes = p.file; ok = ok; found = found; is = refl })) p.is

put_or_none : (f : Finding) (h : Held) (a b : Option (List Call)) (id payload iv : List ℕ) (author : Author) → author_in f.rows id ≡ Some author
    → (b ≡ a) ⊎ PutsFirst h id payload iv a b false → WentOnRenewing f a b
put_or_none f h a b id payload iv author found (inl same) = subst (WentOnRenewing f a) (sym same) (renewing_same f a)
put_or_none f h a b id payload iv author found (inr p) = put_renewing f h a b id payload iv author false found p

-- a load gave a payload, and then its file was put
pub load_puts : (f : Finding) (h : Held) (a b c : Option (List Call)) (id payload other iv : List ℕ) (answer : Option (List ℕ)) (o : Option Author) → author_in f.rows id ≡ o → answer ≡ Some payload → LoadAnswers f a b id o (Ok answer)
    → PutsFirst h id other iv b c true → WentOnRenewing f a c
load_puts f h a b c id payload other iv answer None is some j puts = absurd (subst (λ q. LoadAnswers f a b id None (Ok q)) some j)
load_puts f h a b c id payload other iv answer (Some author) is some j puts =
    renewing_on f a b c (load_renewing f a b id (Some author) (Ok answer) is j) (put_renewing f h b c id other iv author true is puts)

-- or that failed
pub load_stops : (f : Finding) (h : Held) (a b c : Option (List Call)) (id payload other iv : List ℕ) (answer : Option (List ℕ)) (o : Option Author) → author_in f.rows id ≡ o → answer ≡ Some payload → LoadAnswers f a b id o (Ok answer)
    → (c ≡ b) ⊎ PutsFirst h id other iv b c false → WentOnRenewing f a c
load_stops f h a b c id payload other iv answer None is some j stops = absurd (subst (λ q. LoadAnswers f a b id None (Ok q)) some j)
load_stops f h a b c id payload other iv answer (Some author) is some j stops =
    renewing_on f a b c (load_renewing f a b id (Some author) (Ok answer) is j) (put_or_none f h b c id other iv author is stops)

-- ---- twins

pub more_twins : (f : Finding) (a b : Option (List Call)) → WentOnRenewing f a b → twins f a ≤ twins f b
more_twins f None b went = omega arith
more_twins f (Some t) b (calls, is, all) = subst (λ x. twins f (Some t) ≤ twins f x) (sym is) (count_grows (passes is_twin f) t calls)

one_more : (b : Bool) (n : ℕ) → (if b then 1 else 0) + n ≤ n → b ≡ false
one_more true n few = absurd (omega (arith, few))
one_more false n few = refl

not_false : (b : Bool) → not b ≡ false → b ≡ true
not_false true e = refl
not_false false e = absurd (cc)

-- a file that is taken has the payload that was found, where the count of twins stays
pub untwinned : (f : Finding) (calls : List Call) (id : Id) (author : Author) (file : Option (List ℕ)) (payload : List ℕ) → author_in f.rows id ≡ Some author
    → judged_as f id author file ≡ good payload → twins f (Some (got (block id) (f.size + 1) file ∷ calls)) ≤ twins f (Some calls) → payload ≡ payload_of f id
untwinned f calls id author file payload found judged few =
    let is : passes is_twin f calls (got (block id) (f.size + 1) file) ≡ not (bytes_eq payload (payload_of f id)) =
    ap (λ o. answer_passes is_twin f id o file) found ∙ ap (λ v. is_twin v (payload_of f id)) judged in
    let none = one_more (passes is_twin f calls (got (block id) (f.size + 1) file)) (count_calls (passes is_twin f) calls) few in
    (bytes_eq-Decides payload (payload_of f id)).0 (not_false (bytes_eq payload (payload_of f id)) (sym is ∙ none))
