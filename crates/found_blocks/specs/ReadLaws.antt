-- Reads leave what was found, and what was found wrong before.
use Rattle.std.specs.Prelude.{◌≡◌, ◌⊎◌, ◌≤◌, ℕ, ◌+◌, Bool, true, false, List, [], ◌∷◌, ◌++◌, is_some, if◌then◌else◌}
use Rattle.std.specs.declared.option.Option.{Option}
use Rattle.std.specs.declared.option.Option.TheVariants.{None, Some}
use Rattle.std.proofs.Common.{refl, sym, ◌∙◌, ap, subst, inl, inr, append_assoc, arith}
use Rattle.std.proofs.lemmas.List.{append_cancel_right}
use Rattle.block_id.specs.declared.fail.Why.{Why}
use Rattle.outside.specs.Trace.{block, Call, got}
use Rattle.outside.specs.Honest.{count_calls, count_told}
use Rattle.outside.specs.HonestLaws.{count_grows}
use Rattle.block_versions.specs.Reads.{Among}
use Rattle.block_versions.specs.Verdicts.{Verdict, good, bad}
use Rattle.found_blocks.specs.Finding.{Finding, is_other, is_twin, judged_as, payload_of}
use Rattle.found_blocks.specs.Reads.{AllReads, FoundSince, GaveBad, GaveWrong, IsRead, WentOnByReads, answer_passes, passes}

-- ---- lists of reads

all_reads-append : (f : Finding) (xs ys : List Call) → AllReads f xs → AllReads f ys → AllReads f (xs ++ ys)
all_reads-append f [] ys a b = b
all_reads-append f (x ∷ xs) ys a b = (a.0, all_reads-append f xs ys a.1 b)

pub went_same : (f : Finding) (trace : Option (List Call)) → WentOnByReads f trace trace
went_same f None = refl
went_same f (Some t) = ([], refl, tt)

pub went_on : (f : Finding) (a b c : Option (List Call)) → WentOnByReads f a b → WentOnByReads f b c → WentOnByReads f a c
went_on f None b c first second = subst (λ b. WentOnByReads f b c) first second
went_on f (Some t) b c (xs, is, all) second =
    let (ys, is', all') = subst (λ b. WentOnByReads f b c) is second in
    (ys ++ xs, is' ∙ ap Some (sym (append_assoc ys xs t)), all_reads-append f ys xs all' all)

among-left : (xs ys : List Call) (call : Call) → Among xs call → Among (xs ++ ys) call
among-left [] ys call in_ = absurd in_
among-left (x ∷ xs) ys call (inl is) = inl is
among-left (x ∷ xs) ys call (inr in_) = inr (among-left xs ys call in_)

among-right : (xs ys : List Call) (call : Call) → Among ys call → Among (xs ++ ys) call
among-right [] ys call in_ = in_
among-right (x ∷ xs) ys call in_ = inr (among-right xs ys call in_)

among_either : (xs ys : List Call) (call : Call) → Among (xs ++ ys) call → Among xs call ⊎ Among ys call
among_either [] ys call among = inr among
among_either (x ∷ xs) ys call (inl is) = inl (inl is)
among_either (x ∷ xs) ys call (inr among) = elim (among_either xs ys call among) [ inl a ↦ inl (inr a) | inr a ↦ inr a ]

gave_as : (f : Finding) (calls others : List Call) (why : Why) (g : GaveBad f calls why) → Among others (got (block g.id) (f.size + 1) g.file) → GaveBad f others why
gave_as f calls others why g came = record { id = g.id; author = g.author; file = g.file; found = g.found; wrong = g.wrong; came = came }

pub found_before : (f : Finding) (a b c : Option (List Call)) (why : Why) → WentOnByReads f a b → WentOnByReads f b c → FoundSince f a b why → FoundSince f a c why
found_before f None b c why first second found = tt
found_before f (Some t) b c why first second (reads, is, found) =
    let (ys, is', all') = subst (λ b. WentOnByReads f b c) is second in
    (ys ++ reads, is' ∙ ap Some (sym (append_assoc ys reads t)), gave_as f reads (ys ++ reads) why found (among-right ys reads _ found.came))

pub found_after : (f : Finding) (a b c : Option (List Call)) (why : Why) → WentOnByReads f a b → WentOnByReads f b c → FoundSince f b c why → FoundSince f a c why
found_after f None b c why first second found = tt
found_after f (Some t) b c why (xs, is, all) second found =
    let (ys, is', found') = subst (λ b. FoundSince f b c why) is found in
    (ys ++ xs, is' ∙ ap Some (sym (append_assoc ys xs t)), gave_as f ys (ys ++ xs) why found' (among-left ys xs _ found'.came))

-- ---- what calls gave

some_trace : {a b : List Call} → Some a ≡ Some b → a ≡ b
some_trace e = cc

-- where no call was made, none gave a file
pub gave_same : (f : Finding) (t : Option (List Call)) (why : Why) → GaveWrong f t t why → ⊥
gave_same f None why g = g
gave_same f (Some t) why (calls, is, gave) = (subst (λ calls. GaveBad f calls why) (sym (append_cancel_right [] calls t (some_trace is))) gave).came

gave_either : (f : Finding) (xs ys : List Call) (why : Why) → GaveBad f (xs ++ ys) why → GaveBad f xs why ⊎ GaveBad f ys why
gave_either f xs ys why g = elim (among_either xs ys (got (block g.id) (f.size + 1) g.file) g.came) [
  | inl a ↦ inl (gave_as f (xs ++ ys) xs why g a)
  | inr a ↦ inr (gave_as f (xs ++ ys) ys why g a)
]

-- what was given on two ways was given on one of them
pub gave_split : (f : Finding) (a b c : Option (List Call)) (why : Why) → WentOnByReads f a b → WentOnByReads f b c → GaveWrong f a c why → GaveWrong f a b why ⊎ GaveWrong f b c why
gave_split f None b c why first second g = absurd g
gave_split f (Some t) b c why (xs, is, all) second (calls, is', gave) =
    let (ys, more, all') = subst (λ b. WentOnByReads f b c) is second in
    let same : calls ≡ ys ++ xs = append_cancel_right calls (ys ++ xs) t (some_trace (sym is' ∙ more) ∙ sym (append_assoc ys xs t)) in
    elim (gave_either f ys xs why (subst (λ calls. GaveBad f calls why) same gave)) [
      | inl later ↦ inr (subst (λ b. GaveWrong f b c why) (sym is) (ys, more, later))
      | inr earlier ↦ inl (xs, is, earlier)
    ]

-- ---- counts

pub went_count : (test : List Call → Call → Bool) (f : Finding) (a b : Option (List Call)) → WentOnByReads f a b → count_told test a ≤ count_told test b
went_count test f None b went = omega arith
went_count test f (Some t) b (reads, is, all) = subst (λ b. count_calls test t ≤ count_told test b) (sym is) (count_grows test t reads)

fewer : (b c : Bool) → (b ≡ true → c ≡ true) → (if b then 1 else 0) ≤ (if c then 1 else 0)
fewer true true h = omega arith
fewer true false h = let bad : false ≡ true = h refl in cc
fewer false c h = omega arith

twin_is_other : (v : Verdict) (found : List ℕ) → is_twin v found ≡ true → is_other v found ≡ true
twin_is_other (good payload) found e = e
twin_is_other (bad why) found e = absurd (cc)

answer_other : (f : Finding) (call : Call) (r : IsRead f call) (before : List Call) → passes is_twin f before call ≡ true → passes is_other f before call ≡ true
answer_other f call r before e =
    let tests : (test : Verdict → List ℕ → Bool) → passes test f before call ≡ test (judged_as f r.id r.author r.answer) (payload_of f r.id)
    = λ test. ap (passes test f before) r.is ∙ ap (λ author. answer_passes test f r.id author r.answer) r.found in
    tests is_other ∙ twin_is_other (judged_as f r.id r.author r.answer) (payload_of f r.id) (sym (tests is_twin) ∙ e)

-- of reads no more are twins than are no found files
pub fewer_twins : (f : Finding) (trace reads : List Call) → AllReads f reads
    → count_calls (passes is_twin f) (reads ++ trace) + count_calls (passes is_other f) trace ≤ count_calls (passes is_other f) (reads ++ trace) + count_calls (passes is_twin f) trace
fewer_twins f trace [] all = omega arith
fewer_twins f trace (call ∷ reads) all =
    let first = fewer (passes is_twin f (reads ++ trace) call) (passes is_other f (reads ++ trace) call) (answer_other f call all.0 (reads ++ trace)) in
    let rest = fewer_twins f trace reads all.1 in
    omega (arith, first, rest)

-- where each answer was what was found, none was a twin
pub went_untwinned : (f : Finding) (a b : Option (List Call)) → WentOnByReads f a b → count_told (passes is_other f) b ≤ count_told (passes is_other f) a
    → count_told (passes is_twin f) b ≤ count_told (passes is_twin f) a
went_untwinned f None b went few = rw went (omega arith)
went_untwinned f (Some t) b (reads, is, all) few =
    let less = fewer_twins f t reads all in
    let few' = rw is at few in
    rw is (omega (arith, less, few'))

one_other : (f : Finding) (calls trace : List Call) (why : Why) (g : GaveBad f calls why) → count_calls (passes is_other f) trace + 1 ≤ count_calls (passes is_other f) (calls ++ trace)
one_other f [] trace why g = absurd g.came
one_other f (call ∷ calls) trace why g =
    elim g.came [
      | inl is ↦
          let wrong : passes is_other f (calls ++ trace) call ≡ true
          = ap (passes is_other f (calls ++ trace)) is ∙ (ap (λ author. answer_passes is_other f g.id author g.file) g.found ∙ ap (λ v. is_other v (payload_of f g.id)) g.wrong) in
          let grows = count_grows (passes is_other f) trace calls in
          rw wrong (omega (arith, grows))
      | inr later ↦
          let rest = one_other f calls trace why (gave_as f (call ∷ calls) calls why g later) in
          let grows = count_grows (passes is_other f) (calls ++ trace) (call ∷ []) in
          omega (arith, rest, grows)
    ]

-- where each answer was what was found, none was wrong
pub found_unmet : (f : Finding) (a b : Option (List Call)) (why : Why) → is_some a ≡ true → count_told (passes is_other f) b ≤ count_told (passes is_other f) a → FoundSince f a b why → ⊥
found_unmet f None b why told few found = cc
found_unmet f (Some t) b why told few (reads, is, found) =
    let few' = rw is at few in
    let more = one_other f reads t why found in
    omega (arith, few', more)
