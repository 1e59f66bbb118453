-- What stands behind others after it was cut.
use Rattle.std.proofs.Common.{◌≡◌, ◌≤◌, ◌+◌, ◌++◌, ℕ, List, take, length, length-append, ap, ◌∙◌, arith}
use Rattle.std.proofs.lemmas.List.{take-append-le}
use Rattle.std.proofs.Math.Seq.{take-take, take-append-add}

pub cut_behind : (front piece post rest : List ℕ) (len m n : ℕ) → len ≡ length front → n ≤ length piece → len + n ≤ m
    → take (len + n) (take m ((front ++ (piece ++ post)) ++ rest)) ≡ front ++ take n piece
cut_behind front piece post rest len m n same few within =
    take-take (len + n) m ((front ++ (piece ++ post)) ++ rest) within
    ∙ take-append-le (len + n) (front ++ (piece ++ post)) rest (grind (arith, same, few, length-append front (piece ++ post), length-append piece post))
    ∙ ap (λ k. take (k + n) (front ++ (piece ++ post))) same
    ∙ take-append-add front (piece ++ post) n
    ∙ ap (λ (xs : List ℕ). front ++ xs) (take-append-le n piece post few)
