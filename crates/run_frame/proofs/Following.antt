-- The line after the first.
use Rattle.std.proofs.Common.{◌≡◌, ℕ, List, [], ◌∷◌, ◌++◌, Bool, true, false, cond, nat_le, length, refl, sym, ◌∙◌, ap, subst, inl, inr, arith, append_assoc}
use Rattle.std.proofs.lemmas.Bool.Decides.{nat_tests}
use Rattle.std.proofs.lemmas.List.{append_cancel_right}
use Rattle.std.specs.declared.option.Option.{Option}
use Rattle.std.specs.declared.option.Option.TheVariants.{None, Some}
use Rattle.outside.specs.Streams.{WereTaken}
use Rattle.line_io.specs.Lines.{is_newline, lines, onto_first, first_of, first_line, IsUnbroken, kept}
use Rattle.line_io.specs.Reading.{coming}
use Rattle.line_io.proofs.Cutting.{lines-cut, lines-last}
use Rattle.line_io.proofs.Flow.{WereTaken-append}
use Rattle.run_frame.specs.Passwords.{after_first, second_line, IsLongLine, IsNextPassword}

-- ---- lines, each with its newline

unlines : List (List ℕ) → List ℕ
unlines [] = []
unlines (line ∷ more) = line ++ 10 ∷ unlines more

unlines_onto : (byte : ℕ) (more : List (List ℕ)) → (more ≡ [] → ⊥) → unlines (onto_first byte more) ≡ byte ∷ unlines more
unfolding unlines
unlines_onto byte [] h = absurd (h refl)
unlines_onto byte (line ∷ more) h = refl

is_ten : (byte : ℕ) → is_newline byte ≡ true → 10 ≡ byte
is_ten byte e = grind (arith, nat_tests)

some_line : (byte : ℕ) (more : List (List ℕ)) (b : Bool) → cond b ([] ∷ more) (onto_first byte more) ≡ [] → ⊥
some_line byte more true e = cc
some_line byte [] false e = cc
some_line byte (line ∷ more) false e = cc

some_lines : (a : List ℕ) (byte : ℕ) (rest : List ℕ) → lines (a ++ byte ∷ rest) ≡ [] → ⊥
some_lines [] byte rest e = some_line byte (lines rest) (is_newline byte) e
some_lines (x ∷ a) byte rest e = some_line x (lines (a ++ byte ∷ rest)) (is_newline x) e

unlines_one : (byte : ℕ) (more : List (List ℕ)) (b : Bool) → is_newline byte ≡ b → (more ≡ [] → ⊥) → unlines (cond b ([] ∷ more) (onto_first byte more)) ≡ byte ∷ unlines more
unfolding unlines
unlines_one byte more true e h = ap (λ x. x ∷ unlines more) (is_ten byte e)
unlines_one byte more false e h = unlines_onto byte more h

-- in front of bytes, others stay what they are
unlines_lines : (a : List ℕ) (byte : ℕ) (rest : List ℕ) → unlines (lines (a ++ byte ∷ rest)) ≡ a ++ unlines (lines (byte ∷ rest))
unfolding unlines
unlines_lines [] byte rest = refl
unlines_lines (x ∷ a) byte rest =
    unlines_one x (lines (a ++ byte ∷ rest)) (is_newline x) refl (some_lines a byte rest) ∙ ap (λ l. x ∷ l) (unlines_lines a byte rest)

-- ---- no line ends in a line

unbroken_one : (byte : ℕ) (more : List (List ℕ)) (b : Bool) → is_newline byte ≡ b → IsUnbroken (first_of more) → IsUnbroken (first_of (cond b ([] ∷ more) (onto_first byte more)))
unbroken_one byte more true e u = tt
unbroken_one byte [] false e u = (e, tt)
unbroken_one byte (line ∷ more) false e u = (e, u)

pub first_unbroken : (bytes : List ℕ) → IsUnbroken (first_line bytes)
first_unbroken [] = tt
first_unbroken (byte ∷ bytes) = unbroken_one byte (lines bytes) (is_newline byte) refl (first_unbroken bytes)

pub first_whole : (line : List ℕ) → IsUnbroken line → first_line line ≡ line
first_whole [] u = refl
first_whole (byte ∷ line) u = ap first_of (lines-last byte line u)

-- bytes in which no line ends have no second one
pub no_second : (bytes : List ℕ) → IsUnbroken bytes → second_line bytes ≡ []
no_second [] u = refl
no_second (byte ∷ bytes) u = ap (λ l. first_of (after_first l)) (lines-last byte bytes u)

-- ---- the second line in a part of the bytes is the first of what was read ahead and of the part

pub split_nil : (a b : List ℕ) → a ++ b ≡ [] → (a ≡ []) × (b ≡ [])
split_nil [] b e = (refl, e)
split_nil (x ∷ a) b e = absurd (cc)

lines_in : (taken ahead rest part left line : List ℕ) → lines (taken ++ rest) ≡ line ∷ lines (ahead ++ rest) → rest ≡ part ++ left → lines (taken ++ part) ≡ line ∷ lines (ahead ++ part)
unfolding unlines
lines_in taken ahead [] part left line e f =
    subst (λ (x : List ℕ). lines (taken ++ x) ≡ line ∷ lines (ahead ++ x)) (sym (split_nil part left (sym f)).0) e
lines_in taken ahead (byte ∷ rest) part left line e f =
    let z = unlines (lines (byte ∷ rest)) in
    let same : taken ++ z ≡ (line ++ 10 ∷ ahead) ++ z =
    sym (unlines_lines taken byte rest) ∙ (ap unlines e ∙ (ap (λ (l : List ℕ). line ++ 10 ∷ l) (unlines_lines ahead byte rest) ∙ sym (append_assoc line (10 ∷ ahead) z))) in
    let cut : taken ≡ line ++ 10 ∷ ahead = append_cancel_right taken (line ++ 10 ∷ ahead) z same in
    let unbroken : IsUnbroken line = subst IsUnbroken (ap first_of e) (first_unbroken (taken ++ byte ∷ rest)) in
    ap (λ (l : List ℕ). lines (l ++ part)) cut ∙ (ap lines (append_assoc line (10 ∷ ahead) part) ∙ lines-cut line (ahead ++ part) unbroken)

-- these bytes were taken, and this is their first line, and that their second
pub record AreTaken (old new : Option (List ℕ)) (line next : List ℕ) : Type 0 where
  pub taken : List ℕ
  pub gave : WereTaken old new taken
  pub is_first : line ≡ first_line taken
  pub is_second : next ≡ second_line taken

pub two_taken : (old mid new : Option (List ℕ)) (taken ahead part line : List ℕ) → WereTaken old mid taken → WereTaken mid new part → line ≡ first_line taken → IsNextPassword old line (coming ahead mid)
    → AreTaken old new line (first_line (ahead ++ part))
two_taken None mid new taken ahead part line g h f n =
    let next = first_line (ahead ++ part) in
    let unbroken : IsUnbroken line = subst IsUnbroken (sym f) (first_unbroken taken) in
    let cut : lines (line ++ 10 ∷ next) ≡ line ∷ lines next = lines-cut line next unbroken in
    record {
      taken = line ++ 10 ∷ next;
      gave = subst (λ (m : Option (List ℕ)). WereTaken m new part) g h;
      is_first = sym (ap first_of cut);
      is_second = sym (ap (λ (l : List (List ℕ)). first_of (after_first l)) cut ∙ first_whole next (first_unbroken (ahead ++ part)));
    }
two_taken (Some old) mid new taken ahead part line g h f (inl n) =
    let m : WereTaken (Some g.0) new part = subst (λ (m : Option (List ℕ)). WereTaken m new part) g.2 h in
    let more : ahead ++ g.0 ≡ n.0 = same (ahead ++ g.0) n.0 (ap (coming ahead) (sym g.2) ∙ n.2) in
    let e : lines (taken ++ g.0) ≡ line ∷ lines (ahead ++ g.0) = ap lines (sym g.1) ∙ (n.1 ∙ ap (λ (l : List ℕ). line ∷ lines l) (sym more)) in
    let l = lines_in taken ahead g.0 part m.0 line e m.1 in
    record {
      taken = taken ++ part;
      gave = WereTaken-append (Some old) mid new taken part g h;
      is_first = sym (ap first_of l);
      is_second = sym (ap (λ (l : List (List ℕ)). first_of (after_first l)) l);
    }
  where
    same : (a b : List ℕ) → ◌≡◌ {A = Option (List ℕ)} (Some a) (Some b) → a ≡ b
    same a b e = cc
two_taken (Some old) mid new taken ahead part line g h f (inr n) =
    let m : WereTaken (Some g.0) new part = subst (λ (m : Option (List ℕ)). WereTaken m new part) g.2 h in
    let first = split_nil taken g.0 (sym g.1 ∙ n.0) in
    let second = split_nil part m.0 (sym m.1 ∙ first.1) in
    let none : (ahead ≡ []) × (g.0 ≡ []) = split_nil ahead g.0 (same (ahead ++ g.0) old (ap (coming ahead) (sym g.2) ∙ n.2) ∙ n.0) in
    let all : taken ++ part ≡ [] = ap (λ (l : List ℕ). l ++ part) first.0 ∙ second.0 in
    record {
      taken = taken ++ part;
      gave = WereTaken-append (Some old) mid new taken part g h;
      is_first = n.1 ∙ sym (ap first_line all);
      is_second = ap first_line (ap (λ (l : List ℕ). l ++ part) none.0 ∙ second.0) ∙ sym (ap second_line all);
    }
  where
    same : (a b : List ℕ) → ◌≡◌ {A = Option (List ℕ)} (Some a) (Some b) → a ≡ b
    same a b e = cc

-- ---- what is kept of a line

pub kept_line : (line held : List ℕ) → Some held ≡ kept line → (held ≡ line) × (¬ IsLongLine line)
kept_line line held = by_length (nat_le (length line) 1048576) refl
  where
    by_length : (b : Bool) → nat_le (length line) 1048576 ≡ b → Some held ≡ cond b (Some line) None → (held ≡ line) × (¬ IsLongLine line)
    by_length true e f = (cc, λ l. absurd (grind (arith, nat_tests)))
    by_length false e f = absurd (cc)

pub kept_none : (line : List ℕ) → ◌≡◌ {A = Option (List ℕ)} None (kept line) → IsLongLine line
kept_none line = by_length (nat_le (length line) 1048576) refl
  where
    by_length : (b : Bool) → nat_le (length line) 1048576 ≡ b → ◌≡◌ {A = Option (List ℕ)} None (cond b (Some line) None) → IsLongLine line
    by_length true e f = absurd (cc)
    by_length false e f = grind (arith, nat_tests)
