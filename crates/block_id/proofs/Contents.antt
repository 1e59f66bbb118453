-- Laws of byte lists that are cut, filled up or written into.
use Rattle.std.specs.Prelude.{◌≡◌, ℕ, ◌+◌, ◌-◌, ◌≤◌, max, List, [], ◌∷◌, ◌++◌, length, take, drop, replicate}
use Rattle.std.proofs.Common.{refl, sym, ◌∙◌, ap, append_assoc, arith}
use Rattle.std.proofs.lemmas.List.{length-append, length-take, length-drop, length-replicate, drop_all, append-nil}
use Rattle.std.proofs.Math.Seq.{take-append-add, drop-append-add, take-append_seam, drop-append_seam}
use Rattle.block_id.specs.Contents.{zeros, resized, overwritten, written}

-- ---- lengths

pub length-resized : (old : List ℕ) (n : ℕ) → length (resized old n) ≡ n
length-resized old n = omega (arith, length-append (take n old) (replicate (n - length old) 0), length-take n old, length-replicate {A = ℕ} (n - length old) 0)

pub length-overwritten : (old : List ℕ) (from : ℕ) (bytes : List ℕ) → length (overwritten old from bytes) ≡ max (length old) (from + length bytes)
length-overwritten old from bytes =
    omega (arith, length-append (resized old from ++ bytes) (drop (from + length bytes) old), length-append (resized old from) bytes, length-resized old from, length-drop (from + length bytes) old)

pub length-written : (old : List ℕ) (from : ℕ) (bytes : List ℕ) → from + length bytes ≤ length old → length (written old from bytes) ≡ length old
length-written old from [] le = refl
length-written old from (b ∷ bytes) le = omega (arith, length-overwritten old from (b ∷ bytes), le)

-- ---- within the old list no zeros come

pub resized_within : (old : List ℕ) (n : ℕ) → n ≤ length old → resized old n ≡ take n old
resized_within old n le = let none : n - length old ≡ 0 = omega arith in ap (λ k. take n old ++ zeros k) none ∙ append-nil (take n old)

pub overwritten_within : (old : List ℕ) (from : ℕ) (bytes : List ℕ) → from ≤ length old → overwritten old from bytes ≡ (take from old ++ bytes) ++ drop (from + length bytes) old
overwritten_within old from bytes le = ap (λ x. (x ++ bytes) ++ drop (from + length bytes) old) (resized_within old from le)

-- ---- behind a list that stays

pub resized_behind : (front old : List ℕ) (n : ℕ) → resized (front ++ old) (length front + n) ≡ front ++ resized old n
resized_behind front old n =
    let less : (length front + n) - length (front ++ old) ≡ n - length old = omega (arith, length-append front old) in
    ap (λ x. x ++ zeros ((length front + n) - length (front ++ old))) (take-append-add front old n)
    ∙ (ap (λ k. (front ++ take n old) ++ zeros k) less ∙ append_assoc front (take n old) (zeros (n - length old)))

overwritten_behind : (front old : List ℕ) (from : ℕ) (bytes : List ℕ) → overwritten (front ++ old) (length front + from) bytes ≡ front ++ overwritten old from bytes
overwritten_behind front old from bytes =
    let place : (length front + from) + length bytes ≡ length front + (from + length bytes) = omega arith in
    ap (λ x. (x ++ bytes) ++ drop ((length front + from) + length bytes) (front ++ old)) (resized_behind front old from)
    ∙ (ap (λ k. ((front ++ resized old from) ++ bytes) ++ drop k (front ++ old)) place
    ∙ (ap (λ x. ((front ++ resized old from) ++ bytes) ++ x) (drop-append-add front old (from + length bytes))
    ∙ simp append_assoc))

pub written_behind : (front old : List ℕ) (from : ℕ) (bytes : List ℕ) → written (front ++ old) (length front + from) bytes ≡ front ++ written old from bytes
written_behind front old from [] = refl
written_behind front old from (b ∷ bytes) = overwritten_behind front old from (b ∷ bytes)

-- ---- from the start, and within a list

written_start : (old bytes : List ℕ) → written old 0 bytes ≡ bytes ++ drop (length bytes) old
written_start old [] = refl
written_start old (b ∷ bytes) =
    let place : 0 + length (b ∷ bytes) ≡ length (b ∷ bytes) = omega arith in
    overwritten_within old 0 (b ∷ bytes) (omega arith) ∙ ap (λ k. (b ∷ bytes) ++ drop k old) place

-- these bytes and the rest of the old list behind a list that stays
written_at_seam : (front old bytes : List ℕ) → written (front ++ old) (length front) bytes ≡ front ++ (bytes ++ drop (length bytes) old)
written_at_seam front old bytes =
    let start : length front ≡ length front + 0 = omega arith in
    ap (λ k. written (front ++ old) k bytes) start ∙ (written_behind front old 0 bytes ∙ ap (λ x. front ++ x) (written_start old bytes))

-- writing within the list
pub written_inside : (front old bytes back : List ℕ) → length old ≡ length bytes → written (front ++ (old ++ back)) (length front) bytes ≡ front ++ (bytes ++ back)
written_inside front old bytes back e =
    written_at_seam front (old ++ back) bytes ∙ ap (λ z. front ++ (bytes ++ z)) (ap (λ k. drop k (old ++ back)) (sym e) ∙ drop-append_seam old back)

-- writing over all that follows
pub written_tail : (front old bytes : List ℕ) → length old ≤ length bytes → written (front ++ old) (length front) bytes ≡ front ++ bytes
written_tail front old bytes le = written_at_seam front old bytes ∙ ap (λ z. front ++ z) (ap (λ z. bytes ++ z) (drop_all (length bytes) old le) ∙ append-nil bytes)

-- writing, and cutting what follows
pub cut_written : (front old bytes : List ℕ) → length bytes ≤ length old → resized (written (front ++ old) (length front) bytes) (length front + length bytes) ≡ front ++ bytes
cut_written front old bytes le =
    let rest = drop (length bytes) old in
    ap (λ x. resized x (length front + length bytes)) (written_at_seam front old bytes)
    ∙ (resized_within (front ++ (bytes ++ rest)) (length front + length bytes) (omega (arith, length-append front (bytes ++ rest), length-append bytes rest))
    ∙ (take-append-add front (bytes ++ rest) (length bytes) ∙ ap (λ x. front ++ x) (take-append_seam bytes rest)))
