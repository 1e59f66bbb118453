use Rattle.std.proofs.Common.{◌≡◌, ◌≤◌, ◌++◌, ◌∷◌, ◌+◌, ◌-◌, ℕ, List, [], length, take, drop, slice_range, ap, ◌∙◌, arith, sym, subst}
use Rattle.std.specs.List.{position}
use Rattle.std.specs.declared.option.Option.{Option}
use Rattle.std.specs.declared.option.Option.TheVariants.{None, Some}
use Rattle.line_io.specs.Lines.{is_newline, IsUnbroken, kept_on}
use Rattle.line_io.specs.Reading.{Reading}
use Rattle.line_io.proofs.Pieces.{piece_cut, piece_whole}
use Rattle.line_io.proofs.reader.LineReader.take_piece.Goals as goal

cut_of : (r : Reading) (line now : Option (List ℕ)) (items one two : List ℕ) (start end n : ℕ) → line ≡ r.line → slice_range items start end ≡ r.ahead
    → one ≡ items → two ≡ items → start ≤ end → end ≤ length items
    → Some n ≡ position is_newline (slice_range one start end)
    → now ≡ kept_on line (take (start + n - start) (drop start two))
    → (part : List ℕ) × IsUnbroken part × (r.ahead ≡ part ++ 10 ∷ slice_range items (start + (n + 1)) end) × (now ≡ kept_on r.line part)
cut_of r line now items one two start end n e f a b h k p q =
    let cut = piece_cut line now items start end n h k
    (subst (λ (l : List ℕ). Some n ≡ position is_newline (slice_range l start end)) a p)
    (subst (λ (l : List ℕ). now ≡ kept_on line (take (start + n - start) (drop start l))) b q) in
    (cut.0, cut.1, sym f ∙ cut.2, cut.3 ∙ ap (λ (l : Option (List ℕ)). kept_on l cut.0) e)

whole_of : (r : Reading) (line now : Option (List ℕ)) (items one two : List ℕ) (start end : ℕ) → line ≡ r.line → slice_range items start end ≡ r.ahead
    → one ≡ items → two ≡ items
    → None ≡ position is_newline (slice_range one start end)
    → now ≡ kept_on line (slice_range two start end)
    → IsUnbroken r.ahead × (slice_range items end end ≡ []) × (now ≡ kept_on r.line r.ahead)
whole_of r line now items one two start end e f a b p q =
    let whole = piece_whole line now items start end
    (subst (λ (l : List ℕ). None ≡ position is_newline (slice_range l start end)) a p)
    (subst (λ (l : List ℕ). now ≡ kept_on line (slice_range l start end)) b q) in
    (subst IsUnbroken f whole.0, whole.1, whole.2 ∙ (ap (λ (l : Option (List ℕ)). kept_on l (slice_range items start end)) e ∙ ap (kept_on r.line) f))

pub returns-in-Some-clause-piece : goal.returns-in-Some-clause-piece
returns-in-Some-clause-piece c =
    let v = c.self.view_is in
    cut_of c.args.self.now _ _ _ _ _ _ _ _ (ap (λ (r : Reading). r.line) v) (ap (λ (r : Reading). r.ahead) v)
    c.deref.ensures.value c.deref-in-Some.ensures.value (omega arith) (omega arith) c.in-Some.ensures c.append.ensures

pub returns-in-None-clause-piece : goal.returns-in-None-clause-piece
returns-in-None-clause-piece c =
    let v = c.self.view_is in
    whole_of c.args.self.now _ _ _ _ _ _ _ (ap (λ (r : Reading). r.line) v) (ap (λ (r : Reading). r.ahead) v)
    c.deref.ensures.value c.deref-in-None.ensures.value c.in-None.ensures c.append-in-None.ensures
