use Rattle.std.proofs.Common.{◌≡◌, ℕ, ◌+◌, ◌%◌, ◌^◌, List, [], ◌∷◌, ◌++◌, length, take, drop, slice_index, sym, ap, ◌∙◌, arith, length-drop, drop-cons}
use Rattle.std.proofs.lemmas.List.{append-nil, nil_from_length}
use Rattle.std.specs.Int.{w32, from_be_bytes, to_be_bytes}
use Rattle.aes_gcm.specs.Gctr.{inc32}
use Rattle.format_tests.proofs.plain_steps.inc32.Goals as goal

-- four bytes stand behind the first twelve of sixteen, and none behind these
module _ (block : List ℕ) (len : length block ≡ 16) where
  none : drop 4 (drop 12 block) ≡ []
  none = nil_from_length (drop 4 (drop 12 block)) (omega (arith, length-drop 4 (drop 12 block), length-drop 12 block))

  end : drop 16 block ≡ []
  end = nil_from_length (drop 16 block) (omega (arith, length-drop 16 block))

  last_four : drop 12 block ≡ slice_index block 12 ∷ slice_index block 13 ∷ slice_index block 14 ∷ slice_index block 15 ∷ []
  last_four =
      drop-cons block 12 0 (omega arith) ∙ ap (λ l. slice_index block 12 ∷ l) (drop-cons block 13 0 (omega arith)
      ∙ ap (λ l. slice_index block 13 ∷ l) (drop-cons block 14 0 (omega arith) ∙ ap (λ l. slice_index block 14 ∷ l) (drop-cons block 15 0 (omega arith)
      ∙ ap (λ l. slice_index block 15 ∷ l) end)))

  next_is : (new : List ℕ) (count : ℕ) → count ≡ from_be_bytes w32 (slice_index block 12 ∷ slice_index block 13 ∷ slice_index block 14 ∷ slice_index block 15 ∷ [])
      → new ≡ to_be_bytes w32 ((count + 1) % 2 ^ 32) → take 12 block ++ (new ++ drop 4 (drop 12 block)) ≡ inc32 block
  next_is new count is made =
      let at : count ≡ from_be_bytes w32 (drop 12 block) = is ∙ ap (from_be_bytes w32) (sym last_four) in
      let put : new ≡ to_be_bytes w32 ((from_be_bytes w32 (drop 12 block) + 1) % 2 ^ 32) = made ∙ ap (λ (n : ℕ). to_be_bytes w32 ((n + 1) % 2 ^ 32)) at in
      (λ i. take 12 block ++ (put i ++ none i)) ∙ ap (λ (l : List ℕ). take 12 block ++ l) (append-nil (to_be_bytes w32 ((from_be_bytes w32 (drop 12 block) + 1) % 2 ^ 32)))

pub returns : goal.returns
returns c =
    next_is c.args.block (omega arith) c.copy_from_slice.new.self c.from_be_bytes-count.result c.from_be_bytes-count.ensures (c.copy_from_slice.ensures.after ∙ c.to_be_bytes.ensures)
