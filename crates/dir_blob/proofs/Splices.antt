-- A body in which the bytes between two places become others.
use Rattle.std.specs.Prelude.{◌≡◌, ℕ, ◌+◌, ◌-◌, ◌≤◌, List, ◌++◌, length, take, drop}
use Rattle.std.proofs.Common.{sym, ◌∙◌, ap, arith}
use Rattle.std.proofs.lemmas.List.{length-take, length-drop, length-append, take-append-drop, drop-drop}
use Rattle.block_id.specs.Contents.{resized, written}
use Rattle.block_id.proofs.Contents.{written_inside, written_tail, cut_written}

pub spliced_length : (body : List ℕ) (front back : ℕ) (bytes : List ℕ) → front ≤ length body → back ≤ length body → length (take front body ++ (bytes ++ drop back body)) ≡ front + length bytes + (length body - back)
spliced_length body front back bytes le le2 =
    omega (arith, length-append (take front body) (bytes ++ drop back body), length-append bytes (drop back body), length-take front body, length-drop back body)

module _ (body : List ℕ) (front : ℕ) (le : front ≤ length body) where
  front_length : length (take front body) ≡ front
  front_length = omega (arith, length-take front body, le)

  -- written behind the front
  at_front : (bytes : List ℕ) → written body front bytes ≡ written (take front body ++ drop front body) (length (take front body)) bytes
  at_front bytes = ap (λ z. written z front bytes) (sym (take-append-drop front body)) ∙ ap (λ k. written (take front body ++ drop front body) k bytes) (sym front_length)

  -- all that follows is written
  pub spliced_over : (bytes : List ℕ) → length body ≤ front + length bytes → written body front bytes ≡ take front body ++ bytes
  spliced_over bytes long = at_front bytes ∙ written_tail (take front body) (drop front body) bytes (omega (arith, length-drop front body, long))

  -- all that follows is written, and the end is cut off
  pub spliced_cut : (bytes : List ℕ) → front + length bytes ≤ length body → resized (written body front bytes) (front + length bytes) ≡ take front body ++ bytes
  spliced_cut bytes short =
      ap (λ z. resized z (front + length bytes)) (at_front bytes)
      ∙ (ap (λ k. resized (written (take front body ++ drop front body) (length (take front body)) bytes) (k + length bytes)) (sym front_length)
      ∙ cut_written (take front body) (drop front body) bytes (omega (arith, length-drop front body, short)))

  -- as many bytes are written as go
  pub spliced_inside : (back : ℕ) (bytes : List ℕ) → front ≤ back → back ≤ length body → length bytes ≡ back - front → written body front bytes ≡ take front body ++ (bytes ++ drop back body)
  spliced_inside back bytes order within same =
      let old : List ℕ = take (back - front) (drop front body) in
      let place : front + (back - front) ≡ back = omega (arith, order) in
      let rest : drop front body ≡ old ++ drop back body =
      sym (take-append-drop (back - front) (drop front body)) ∙ ap (λ z. old ++ z) (drop-drop (back - front) front body ∙ ap (λ k. drop k body) place) in
      at_front bytes
      ∙ (ap (λ z. written (take front body ++ z) (length (take front body)) bytes) rest
      ∙ written_inside (take front body) old bytes (drop back body) (omega (arith, length-take (back - front) (drop front body), length-drop front body, same, order, within)))
