-- Bytes that are read behind others.
use Rattle.std.proofs.Common.{◌≡◌, ℕ, zero, suc, ◌+◌, ◌-◌, ◌<◌, ◌≤◌, List, [], ◌∷◌, ◌++◌, length, take, drop, refl, sym, ◌∙◌, ap, subst, arith}
use Rattle.std.specs.Prelude.{IfSome, Some, None}
use Rattle.std.specs.FinMap.{get}
use Rattle.std.specs.declared.option.Option.{Option}
use Rattle.std.proofs.lemmas.List.{length-take, length-drop, length-append, take_all, drop-drop, take-append-le, take_at, take-take}
use Rattle.std.proofs.lemmas.Option.{same_Some}
use Rattle.fs_model.specs.declared.attr.Kind.TheVariants.{File}
use Rattle.copy_laws.specs.host_folder.Folders.{HostRow, HostPath, HostTree, IsFileAt}
use Rattle.copy_row.specs.Reading.{IsFilled, IsFull}
use Rattle.copy_row.specs.Rows.{IsPiece}

one_file : (t : HostTree) (p : HostPath) (w v : List ℕ) → get t p ≡ Some (record { kind = File; bytes = w }) → get t p ≡ Some (record { kind = File; bytes = v }) → w ≡ v
one_file t p w v h g =
    let rows : ◌≡◌ {A = HostRow} (record { kind = File; bytes = w }) (record { kind = File; bytes = v }) = same_Some _ _ (sym h ∙ g) in
    ap (λ (row : HostRow). row.bytes) rows

-- the first bytes of two lists that stand one behind the other
take_two : (a b : List ℕ) (n k : ℕ) → length a ≡ k → take (k + n) (a ++ b) ≡ a ++ take n b
take_two [] b n k e = let none : k + n ≡ n = omega (arith, e) in ap (λ z. take z b) none
take_two (x ∷ a) b n zero e = absurd (omega (arith, e))
take_two (x ∷ a) b n (suc k) e =
    let less : length a ≡ k = omega (arith, e) in
    let sum : suc k + n ≡ suc (k + n) = omega arith in
    ap (λ z. take z (x ∷ (a ++ b))) sum ∙ ap (λ z. x ∷ z) (take_two a b n k less)

take_none : (n : ℕ) → take {A = ℕ} n [] ≡ []
take_none zero = refl
take_none (suc n) = refl

take_split : (k n : ℕ) (w : List ℕ) → take (k + n) w ≡ take k w ++ take n (drop k w)
take_split zero n w = let none : 0 + n ≡ n = omega arith in ap (λ z. take z w) none
take_split (suc k) n [] = take_none (suc k + n) ∙ sym (take_none n)
take_split (suc k) n (x ∷ w) =
    let sum : suc k + n ≡ suc (k + n) = omega arith in
    ap (λ z. take z (x ∷ w)) sum ∙ ap (λ z. x ∷ z) (take_split k n w)

-- n bytes more behind those that stand in the piece
more_here : (t : HostTree) (p : HostPath) (from len n : ℕ) (piece old new post : List ℕ) → len ≤ length piece → n ≤ length new → (0 < len → IsFilled t p from len piece) → IsFileAt t p (from + len) n old new
    → IsFilled t p from (len + n) (take len piece ++ (new ++ post))
more_here t p from zero n piece old new post le few before at = record {
  bytes = at.bytes;
  there = at.there;
  is = start;
}
  where
    start : take (0 + n) ([] ++ (new ++ post)) ≡ take (0 + n) (drop from at.bytes)
    start =
        let none : 0 + n ≡ n = omega arith in
        let here : from + 0 ≡ from = omega arith in
        ap (λ z. take z (new ++ post)) none ∙ (take-append-le n new post few ∙ (at.read ∙ (ap (λ z. take n (drop z at.bytes)) here ∙ ap (λ z. take z (drop from at.bytes)) (sym none))))
more_here t p from (suc k) n piece old new post le few before at =
    let b = before (omega arith) in
    let same : at.bytes ≡ b.bytes = one_file t p at.bytes b.bytes at.there b.there in
    let long : length (take (suc k) piece) ≡ suc k = omega (arith, length-take (suc k) piece) in
    record {
      bytes = b.bytes;
      there = b.there;
      is =
          take_two (take (suc k) piece) (new ++ post) n (suc k) long
          ∙ (ap (λ z. take (suc k) piece ++ z) (take-append-le n new post few ∙ (at.read ∙ ap (λ z. take n (drop (from + suc k) z)) same))
          ∙ (ap (λ z. z ++ take n (drop (from + suc k) b.bytes)) b.is
          ∙ (ap (λ z. take (suc k) (drop from b.bytes) ++ take n z) (sym (drop-drop (suc k) from b.bytes))
          ∙ sym (take_split (suc k) n (drop from b.bytes)))));
    }

pub filled_more : (told : Option HostTree) (p : HostPath) (from len n : ℕ) (piece old new post : List ℕ) → len ≤ length piece → n ≤ length new → (0 < len → IfSome told (λ t. IsFilled t p from len piece)) → IfSome told (λ t. IsFileAt t p (from + len) n old new)
    → IfSome told (λ t. IsFilled t p from (len + n) (take len piece ++ (new ++ post)))
filled_more None p from len n piece old new post le few before at = tt
filled_more (Some t) p from len n piece old new post le few before at = more_here t p from len n piece old new post le few before at

-- the piece is full
pub filled_all : (told : Option HostTree) (p : HostPath) (from len : ℕ) (piece : List ℕ) → length piece ≤ len → len ≤ length piece → 0 < len → (0 < len → IfSome told (λ t. IsFilled t p from len piece)) → IfSome told (λ t. IsFull t p from len piece)
filled_all None p from len piece ge le some before = tt
filled_all (Some t) p from len piece ge le some before =
    let b = before some in
    let same : len ≡ length piece = omega (arith, ge, le) in
    record { bytes = b.bytes; there = b.there; is = b.is ∙ ap (λ z. take z (drop from b.bytes)) same }

-- the file ends here
end_here : (t : HostTree) (p : HostPath) (from len : ℕ) (piece old new post : List ℕ) → len < length piece → length (take len piece ++ (new ++ post)) ≡ length piece → 0 < length old → (0 < len → IsFilled t p from len piece) → IsFileAt t p (from + len) 0 old new
    → IsFull t p from len (take len piece ++ (new ++ post))
end_here t p from len piece old new post room same some before at =
    let at_end : length at.bytes ≤ from + len = at.end refl some in
    let few : length (drop from at.bytes) ≤ len = omega (arith, at_end, length-drop from at.bytes) in
    let long : length (take len piece) ≡ len = omega (arith, room, length-take len piece) in
    record {
      bytes = at.bytes;
      there = at.there;
      is =
          take_at (take len piece) (new ++ post) len long
          ∙ (first len before few
          ∙ (take_all len (drop from at.bytes) few ∙ sym (take_all (length (take len piece ++ (new ++ post))) (drop from at.bytes) (omega (arith, few, same, room)))));
    }
  where
    first : (len : ℕ) → (0 < len → IsFilled t p from len piece) → length (drop from at.bytes) ≤ len → take len piece ≡ take len (drop from at.bytes)
    first zero before few = refl
    first (suc k) before few =
        let b = before (omega arith) in
        b.is ∙ ap (λ z. take (suc k) (drop from z)) (one_file t p b.bytes at.bytes b.there at.there)

pub filled_end : (told : Option HostTree) (p : HostPath) (from len : ℕ) (piece old new post : List ℕ) → len < length piece → length (take len piece ++ (new ++ post)) ≡ length piece → 0 < length old → (0 < len → IfSome told (λ t. IsFilled t p from len piece))
    → IfSome told (λ t. IsFileAt t p (from + len) 0 old new) → IfSome told (λ t. IsFull t p from len (take len piece ++ (new ++ post)))
filled_end None p from len piece old new post room same some before at = tt
filled_end (Some t) p from len piece old new post room same some before at = end_here t p from len piece old new post room same some before at

-- the bytes that were filled are the piece
pub piece_of : (told : Option HostTree) (p : HostPath) (from n : ℕ) (piece cut : List ℕ) → length piece ≡ 1048576 → cut ≡ take n piece → IfSome told (λ t. IsFull t p from n piece) → IfSome told (λ t. IsPiece t p from cut)
piece_of None p from n piece cut whole is full = tt
piece_of (Some t) p from n piece cut whole is full = record { bytes = full.bytes; there = full.there; is = is ∙ (full.is ∙ ap (λ z. take z (drop from full.bytes)) whole) }

-- the same, where the folder was asked in between
pub read_more : (now told : Option HostTree) (p : HostPath) (from len n : ℕ) (piece old new post : List ℕ) → now ≡ told → len ≤ length piece → n ≤ length new → (0 < len → IfSome told (λ t. IsFilled t p from len piece)) → IfSome now (λ t. IsFileAt t p (from + len) n old new)
    → IfSome told (λ t. IsFilled t p from (len + n) (take len piece ++ (new ++ post)))
read_more now told p from len n piece old new post same le few before at = filled_more told p from len n piece old new post le few before (subst (λ z. IfSome z (λ t. IsFileAt t p (from + len) n old new)) same at)

pub read_end : (now told : Option HostTree) (p : HostPath) (from len n : ℕ) (piece old new post : List ℕ) → now ≡ told → n ≡ 0 → len < length piece → length (take len piece ++ (new ++ post)) ≡ length piece → 0 < length old
    → (0 < len → IfSome told (λ t. IsFilled t p from len piece)) → IfSome now (λ t. IsFileAt t p (from + len) n old new) → IfSome told (λ t. IsFull t p from len (take len piece ++ (new ++ post)))
read_end now told p from len n piece old new post same none room long some before at =
    filled_end told p from len piece old new post room long some before (subst (λ z. IfSome told (λ t. IsFileAt t p (from + len) z old new)) none (subst (λ z. IfSome z (λ t. IsFileAt t p (from + len) n old new)) same at))

-- a part that was written keeps the length
pub put_length : (len : ℕ) (piece new : List ℕ) → len ≤ length piece → length new ≡ length piece - len → length (take len piece ++ (new ++ drop (length piece - len) (drop len piece))) ≡ length piece
put_length len piece new le e =
    omega (arith, e, le, length-append (take len piece) (new ++ drop (length piece - len) (drop len piece)), length-append new (drop (length piece - len) (drop len piece)), length-take len piece, length-drop (length piece - len) (drop len piece), length-drop len piece)

pub cut_written : (n v : ℕ) (new post : List ℕ) → n ≤ length new → n ≤ v → take n (take v (new ++ post)) ≡ take n new
cut_written n v new post le few = take-take n v (new ++ post) few ∙ take-append-le n new post le
