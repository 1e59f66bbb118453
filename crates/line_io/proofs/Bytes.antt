-- Bytes that were read ahead, on their way into a piece.
use Rattle.std.proofs.Common.{◌≡◌, ℕ, ◌+◌, ◌-◌, ◌≤◌, List, [], ◌∷◌, ◌++◌, length, take, drop, slice_range, refl, sym, ◌∙◌, ap, subst, arith, append_assoc}
use Rattle.std.proofs.Math.Seq.{take-add, take-append-add}
use Rattle.std.proofs.lemmas.List.{drop-drop, length-take, length-drop, take_at, take-append-le}
use Rattle.std.specs.declared.option.Option.{Option}
use Rattle.std.specs.declared.option.Option.TheVariants.{None, Some}
use Rattle.outside.specs.Streams.{WereTaken, Ends}
use Rattle.line_io.specs.Reading.{coming, TookAhead}
use Rattle.line_io.proofs.Flow.{WereTaken-append}

-- the first of them stand in the piece, and the others are still ahead
pub moved_front : (items new post : List ℕ) (start end n : ℕ) → start ≤ end → end ≤ length items → n ≤ end - start → new ≡ slice_range items start (start + n) → slice_range items start end ≡ take n (new ++ post) ++ slice_range items (start + n) end
moved_front items new post start end n le fits few is =
    let left = drop start items in
    let m : ℕ = end - (start + n) in
    let here : start + n - start ≡ n = omega arith in
    let sum : end - start ≡ n + m = omega (arith, le, few) in
    let front : new ≡ take n left = is ∙ ap (λ k. take k left) here in
    let long : length new ≡ n = omega (arith, ap length front, length-take n left, length-drop start items, few, fits, le) in
    ap (λ k. take k left) sum
    ∙ (take-add n m left
    ∙ (ap (λ z. z ++ take m (drop n left)) (sym front ∙ sym (take_at new post n long))
    ∙ ap (λ z. take n (new ++ post) ++ take m z) (drop-drop n start items)))

-- bytes that are ahead are the next that come
taken_ahead : (a b : List ℕ) (rest : Option (List ℕ)) → WereTaken (coming (a ++ b) rest) (coming b rest) a
taken_ahead a b None = refl
taken_ahead a b (Some rest) = (b ++ rest, append_assoc a b rest, refl)

-- more of them stand in the piece
pub read_on : (first before now : Option (List ℕ)) (rest : Option (List ℕ)) (found left piece new post : List ℕ) (len n : ℕ) → WereTaken first before (take len piece) → coming found rest ≡ before → found ≡ take n new ++ left
    → now ≡ coming left rest → len ≤ length piece → n ≤ length new → WereTaken first now (take (len + n) (take len piece ++ (new ++ post)))
read_on first before now rest found left piece new post len n taken came moved is fits few =
    let long : length (take len piece) ≡ len = omega (arith, length-take len piece, fits) in
    let more : WereTaken before now (take n new) =
    subst (λ z. WereTaken z now (take n new)) (ap (λ z. coming z rest) (sym moved) ∙ came) (subst (λ z. WereTaken (coming (take n new ++ left) rest) z (take n new)) (sym is) (taken_ahead (take n new) left rest)) in
    let whole : take (len + n) (take len piece ++ (new ++ post)) ≡ take len piece ++ take n new =
    ap (λ k. take (k + n) (take len piece ++ (new ++ post))) (sym long) ∙ (take-append-add (take len piece) (new ++ post) n ∙ ap (λ z. take len piece ++ z) (take-append-le n new post few)) in
    subst (λ z. WereTaken first now z) (sym whole) (WereTaken-append first before now (take len piece) (take n new) taken more)

-- nothing comes behind bytes where nothing came with them
pub Ends-behind : (found a b : List ℕ) (rest : Option (List ℕ)) → found ≡ a ++ b → Ends (coming found rest) → Ends (coming b rest)
Ends-behind found a b None is e = tt
Ends-behind found a b (Some rest) is e = last a (b ++ rest) (sym (append_assoc a b rest) ∙ (ap (λ z. z ++ rest) (sym is) ∙ e))
  where
    last : (x y : List ℕ) → x ++ y ≡ [] → y ≡ []
    last [] y h = h
    last (b ∷ x) y h = absurd (cc)

-- looking ahead failed: what came is still to come
pub still_coming : (ahead now : List ℕ) (old new : Option (List ℕ)) → TookAhead ahead old new now → now ≡ [] → coming now new ≡ coming ahead old
still_coming ahead now old new t none =
    let both = split ahead t.0 (sym t.2 ∙ none) in
    ap (λ z. coming z new) (none ∙ sym both.0) ∙ ap (coming ahead) (same old new (subst (λ z. WereTaken old new z) both.1 t.1))
  where
    split : (a b : List ℕ) → a ++ b ≡ [] → (a ≡ []) × (b ≡ [])
    split [] b h = (refl, h)
    split (x ∷ a) b h = absurd (cc)

    same : (old new : Option (List ℕ)) → WereTaken old new [] → new ≡ old
    same None new g = g
    same (Some old) new g = g.2 ∙ ap Some (sym g.1)
