-- Parts of a list that is cut into pieces.
use Rattle.std.proofs.Common.{◌≡◌, ◌⊎◌, ℕ, ◌+◌, ◌-◌, ◌≤◌, List, [], ◌++◌, length, take, drop, sym, ◌∙◌, ap, arith, inl, inr, append_assoc, append-nil}
use Rattle.std.specs.Prelude.{min}
use Rattle.std.proofs.lemmas.Bool.{cases_lt}
use Rattle.std.proofs.lemmas.List.{take-append-drop, length-take, length-drop, take-append-le, drop-append-le, take_all, drop_all, drop-take}
use Rattle.std.proofs.Math.Seq.{take-append-add, drop-append-add}
use Rattle.data_reads.specs.Reading.{between}

pub between-none : (from to : ℕ) (w : List ℕ) → (to ≤ from) ⊎ (length w ≤ from) → between from to w ≡ []
between-none from to w (inl le) = drop_all from (take to w) (omega (arith, length-take to w))
between-none from to w (inr le) = drop_all from (take to w) (omega (arith, length-take to w))

between-nil : (from to : ℕ) → between from to [] ≡ []
between-nil from to = between-none from to [] (inr (omega arith))

dropped : (from : ℕ) (xs zs : List ℕ) → drop from (xs ++ zs) ≡ drop from xs ++ drop (from - length xs) zs
dropped from xs zs =
    elim (cases_lt from (length xs)) [
      | inl lt ↦ drop-append-le from xs zs (omega arith) ∙ ap (λ k. drop from xs ++ drop k zs) (let e : 0 ≡ from - length xs = omega arith in e)
      | inr le ↦
          let e : from ≡ length xs + (from - length xs) = omega arith in
          ap (λ k. drop k (xs ++ zs)) e ∙ drop-append-add xs zs (from - length xs) ∙ ap (λ ys. ys ++ drop (from - length xs) zs) (sym (drop_all from xs le))
    ]

between-append : (from to : ℕ) (xs ys : List ℕ) → between from to (xs ++ ys) ≡ between from to xs ++ between (from - length xs) (to - length xs) ys
between-append from to xs ys =
    elim (cases_lt to (length xs)) [
      | inl lt ↦
          let none : between (from - length xs) (to - length xs) ys ≡ [] = between-none (from - length xs) (to - length xs) ys (inl (omega arith)) in
          ap (drop from) (take-append-le to xs ys (omega arith)) ∙ sym (ap (λ zs. between from to xs ++ zs) none ∙ append-nil (between from to xs))
      | inr le ↦
          let e : to ≡ length xs + (to - length xs) = omega arith in
          let whole : take to (xs ++ ys) ≡ xs ++ take (to - length xs) ys = ap (λ k. take k (xs ++ ys)) e ∙ take-append-add xs ys (to - length xs) in
          ap (drop from) whole ∙ dropped from xs (take (to - length xs) ys) ∙ ap (λ zs. drop from zs ++ between (from - length xs) (to - length xs) ys) (sym (take_all to xs le))
    ]

-- a part lies in the first piece and in what follows
pub between-step : (size from to : ℕ) (w : List ℕ) → between from to w ≡ between from to (take size w) ++ between (from - size) (to - size) (drop size w)
between-step size from to w =
    elim (cases_lt (length w) size) [
      | inl lt ↦
          let all : take size w ≡ w = take_all size w (omega arith) in
          let none : drop size w ≡ [] = drop_all size w (omega arith) in
          sym (ap (λ zs. between from to (take size w) ++ between (from - size) (to - size) zs) none ∙ ap (λ zs. between from to (take size w) ++ zs) (between-nil (from - size) (to - size))
          ∙ append-nil (between from to (take size w)) ∙ ap (between from to) all)
      | inr le ↦
          let len : length (take size w) ≡ size = omega (arith, length-take size w) in
          ap (between from to) (sym (take-append-drop size w)) ∙ between-append from to (take size w) (drop size w)
          ∙ ap (λ n. between from to (take size w) ++ between (from - n) (to - n) (drop size w)) len
    ]

-- to the length of a list at most
capped : (to end : ℕ) (w : List ℕ) → end ≡ min to (length w) → take end w ≡ take to w
capped to end w is =
    elim (cases_lt to (length w)) [
      | inl lt ↦ ap (λ k. take k w) (let e : end ≡ to = omega arith in e)
      | inr le ↦ take_all end w (omega arith) ∙ sym (take_all to w le)
    ]

-- a part within the bounds of the list
pub clipped : (from to start end : ℕ) (w : List ℕ) → end ≡ min to (length w) → start ≡ min from end → between start end w ≡ between from to w
clipped from to start end w ends starts =
    elim (cases_lt from end) [
      | inl lt ↦ ap (λ k. between k end w) (let e : start ≡ from = omega arith in e) ∙ ap (drop from) (capped to end w ends)
      | inr le ↦
          let first : between start end w ≡ [] = between-none start end w (inl (omega arith)) in
          let second : drop from (take to w) ≡ [] = drop_all from (take to w) (omega (arith, length-take to w)) in
          first ∙ sym second
    ]

pub read_on : (size from to : ℕ) (w before after more all : List ℕ) → after ++ between from to w ≡ before ++ all → more ≡ after ++ between from to (take size w)
    → more ++ between (from - size) (to - size) (drop size w) ≡ before ++ all
read_on size from to w before after more all so_far is =
    ap (λ xs. xs ++ between (from - size) (to - size) (drop size w)) is ∙ append_assoc after (between from to (take size w)) (between (from - size) (to - size) (drop size w))
    ∙ ap (λ xs. after ++ xs) (sym (between-step size from to w)) ∙ so_far

pub read_out : (from to : ℕ) (w before after all : List ℕ) → w ≡ [] → after ++ between from to w ≡ before ++ all → after ≡ before ++ all
read_out from to w before after all none so_far = sym (ap (λ xs. after ++ between from to xs) none ∙ ap (λ xs. after ++ xs) (between-nil from to) ∙ append-nil after) ∙ so_far

-- the range that the code takes
pub ranged : (from to start end : ℕ) (w : List ℕ) → end ≡ min to (length w) → start ≡ min from end → take (end - start) (drop start w) ≡ between from to w
ranged from to start end w ends starts =
    let whole : start + (end - start) ≡ end = omega arith in
    sym (drop-take start (end - start) w) ∙ ap (λ k. drop start (take k w)) whole ∙ clipped from to start end w ends starts

-- so many places from one on
pub counted : (from count to most : ℕ) (w : List ℕ) → to ≡ min (from + count) most → length w ≤ most → between from to w ≡ take count (drop from w)
counted from count to most w is fits =
    elim (cases_lt (from + count) most) [
      | inl lt ↦ ap (λ k. between from k w) (let e : to ≡ from + count = omega arith in e) ∙ drop-take from count w
      | inr le ↦
          ap (drop from) (take_all to w (omega arith)) ∙ sym (take_all count (drop from w) (omega (arith, length-drop from w)))
    ]

pub all_between : (to : ℕ) (w : List ℕ) → length w ≤ to → between 0 to w ≡ w
all_between to w fits = take_all to w fits
