-- One block more that is counted.
use Rattle.std.proofs.Common.{◌≡◌, ℕ, ◌+◌, ◌<◌, ◌≤◌, List, [], ◌∷◌, length, map, take, get_or, ◌∙◌, ap, arith}
use Rattle.std.proofs.lemmas.List.{length-map, map_more, take_all}
use Rattle.check_refused.specs.Surveys.{Loss, failures, is_refusal, refusals, ungiven_of}
use Rattle.check_refused.specs.declared.survey.Ungiven.{Ungiven}
use Rattle.check_refused.proofs.Surveying.{both, refusals_more}

one : (u : Loss) → refusals (u ∷ []) ≡ is_refusal u.1
unfolding refusals
one u = omega arith

pub counted_more : (xs : List Ungiven) (i : ℕ) (x : Ungiven) → i < length xs → x ≡ get_or xs i x → refusals (map ungiven_of (take i xs)) + is_refusal x.why ≡ refusals (map ungiven_of (take (i + 1) xs))
counted_more xs i x within is =
    let more = ap refusals (map_more ungiven_of xs i x within) in
    let sum = refusals_more (map ungiven_of (take i xs)) (ungiven_of (get_or xs i x) ∷ []) in
    let last = one (ungiven_of (get_or xs i x)) in
    let same = ap (λ (u : Ungiven). is_refusal u.why) is in
    omega (arith, more, sum, last, same)

pub others : (xs : List Ungiven) → refusals (map ungiven_of xs) + failures (map ungiven_of xs) ≡ length xs
others xs = both (map ungiven_of xs) ∙ length-map xs ungiven_of

pub counted_all : (xs : List Ungiven) (i : ℕ) → length xs ≤ i → refusals (map ungiven_of (take i xs)) ≡ refusals (map ungiven_of xs)
counted_all xs i past = ap (λ (ys : List Ungiven). refusals (map ungiven_of ys)) (take_all i xs past)
