-- The bytes that were read ahead, as pieces of a line.
use Rattle.std.proofs.Common.{◌≡◌, ◌≤◌, ◌<◌, ◌+◌, ◌-◌, ◌++◌, ◌∷◌, ℕ, List, [], length, take, drop, slice_range, ap, ◌∙◌, arith, length-append}
use Rattle.std.proofs.lemmas.Grind.{common_steps}
use Rattle.std.proofs.lemmas.List.{drop-take, drop-drop, length-take}
use Rattle.std.specs.List.{position}
use Rattle.std.specs.declared.option.Option.{Option}
use Rattle.std.specs.declared.option.Option.TheVariants.{None, Some}
use Rattle.line_io.specs.Lines.{is_newline, IsUnbroken, IsFirstNewline, kept_on}
use Rattle.line_io.proofs.Cutting.{found, not_found}

pub IsFirstNewline-lt : (bytes : List ℕ) (n : ℕ) → IsFirstNewline bytes n → n < length bytes
IsFirstNewline-lt bytes n cut = omega (arith, simp (length-append, length-take) at (ap length cut.1))

-- the bytes that follow a newline in a part of a block
slice_rest : (items : List ℕ) (start end n : ℕ) → start ≤ end → start + (n + 1) ≤ end
    → drop (n + 1) (slice_range items start end) ≡ slice_range items (start + (n + 1)) end
slice_rest items start end n h k =
    let m = end - (start + (n + 1)) in
    let e : end - start ≡ n + 1 + m = omega arith in
    ap (λ i. drop (n + 1) (take i (drop start items))) e ∙ (drop-take (n + 1) m (drop start items) ∙ ap (take m) (drop-drop (n + 1) start items))

slice_front : (items : List ℕ) (start end n : ℕ) → start ≤ end → end ≤ length items → n ≤ end - start
    → take (start + n - start) (drop start items) ≡ take n (slice_range items start end)
slice_front items start end n h k l =
    let e : start + n - start ≡ n = omega arith in
    ap (λ i. take i (drop start items)) e ∙ take_less (drop start items) n (end - start) l
  where
    take_less : (xs : List ℕ) (n m : ℕ) → n ≤ m → take n xs ≡ take n (take m xs)
    take_less xs n m h = grind (arith, common_steps)

-- up to a newline
pub piece_cut : (line now : Option (List ℕ)) (items : List ℕ) (start end n : ℕ) → start ≤ end → end ≤ length items
    → Some n ≡ position is_newline (slice_range items start end)
    → now ≡ kept_on line (take (start + n - start) (drop start items))
    → (part : List ℕ) × IsUnbroken part × (slice_range items start end ≡ part ++ 10 ∷ slice_range items (start + (n + 1)) end) × (now ≡ kept_on line part)
piece_cut line now items start end n h k e f =
    let slice = slice_range items start end in
    let cut : IsFirstNewline slice n = found slice n e in
    let l : length slice ≡ end - start = slice_length items start end h k in
    let m : n < end - start = omega (arith, IsFirstNewline-lt slice n cut, l) in (
      take n slice,
      cut.0,
      cut.1 ∙ ap (λ (rest : List ℕ). take n slice ++ 10 ∷ rest) (slice_rest items start end n h (omega arith)),
      f ∙ ap (kept_on line) (slice_front items start end n h k (omega arith)),
    )
  where
    slice_length : (items : List ℕ) (start end : ℕ) → start ≤ end → end ≤ length items → length (slice_range items start end) ≡ end - start
    slice_length items start end h k = grind (arith, common_steps)

-- all of them, where there is none
pub piece_whole : (line now : Option (List ℕ)) (items : List ℕ) (start end : ℕ)
    → None ≡ position is_newline (slice_range items start end)
    → now ≡ kept_on line (slice_range items start end)
    → IsUnbroken (slice_range items start end) × (slice_range items end end ≡ []) × (now ≡ kept_on line (slice_range items start end))
piece_whole line now items start end e f = (not_found (slice_range items start end) e, empty items end, f)
  where
    empty : (items : List ℕ) (end : ℕ) → slice_range items end end ≡ []
    empty items end = grind (arith, common_steps)
