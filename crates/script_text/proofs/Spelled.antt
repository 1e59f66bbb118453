-- Words with escapes, byte by byte.
use Rattle.std.proofs.Common.{◌≡◌, ℕ, ◌+◌, ◌*◌, ◌-◌, ◌<◌, ◌≤◌, List, [], ◌∷◌, ◌++◌, length, take, drop, get_or, Option, Some, None, refl, sym, ap, ◌∙◌, arith, append-nil, length-drop}
use Rattle.std.specs.Option.{option_map}
use Rattle.std.specs.Prelude.{◌&&◌, cond, nat_lt}
use Rattle.std.proofs.lemmas.Bool.{ne_eqb, cond-true, cond-false, and_from, and_right, lt-ltb, le-ltb}
use Rattle.std.proofs.lemmas.List.{take_rest}
use Rattle.script_text.specs.Escapes.{byte_of, with_byte, escape_of, unescaped}

pub unescaped-nil : unescaped [] ≡ Some []
unfolding unescaped
unescaped-nil = refl

plain_first : (c : ℕ) (rest : List ℕ) → (c ≡ 92 → ⊥) → unescaped (c ∷ rest) ≡ with_byte (Some c) (unescaped rest)
unfolding unescaped
plain_first c [] ne = rw (ne_eqb c 92 ne, unescaped) refl
plain_first c (x ∷ []) ne = rw (ne_eqb c 92 ne, unescaped) refl
plain_first c (x ∷ h ∷ []) ne = rw (ne_eqb c 92 ne, unescaped) refl
plain_first c (x ∷ h ∷ l ∷ rest) ne = rw (ne_eqb c 92 ne, unescaped) refl

escape_first : (x h l : ℕ) (rest : List ℕ) → unescaped (92 ∷ x ∷ h ∷ l ∷ rest) ≡ with_byte (escape_of x h l) (unescaped rest)
unfolding unescaped
escape_first x h l rest = refl

escape_cut : (rest : List ℕ) → length rest < 3 → unescaped (92 ∷ rest) ≡ None
unfolding unescaped
escape_cut [] short = refl
escape_cut (x ∷ []) short = refl
escape_cut (x ∷ h ∷ []) short = refl
escape_cut (x ∷ h ∷ l ∷ rest) short = absurd (omega arith)

one_and : (w : List ℕ) → 0 < length w → w ≡ get_or w 0 0 ∷ drop 1 w
one_and [] h = absurd (omega arith)
one_and (c ∷ rest) h = refl

four_and : (w : List ℕ) → 4 ≤ length w → w ≡ get_or w 0 0 ∷ get_or w 1 0 ∷ get_or w 2 0 ∷ get_or w 3 0 ∷ drop 4 w
four_and [] h = absurd (omega arith)
four_and (a ∷ []) h = absurd (omega arith)
four_and (a ∷ b ∷ []) h = absurd (omega arith)
four_and (a ∷ b ∷ c ∷ []) h = absurd (omega arith)
four_and (a ∷ b ∷ c ∷ d ∷ rest) h = refl

-- a byte that stands for itself
pub unescaped_plain : (w : List ℕ) → 0 < length w → (get_or w 0 0 ≡ 92 → ⊥) → unescaped w ≡ with_byte (Some (get_or w 0 0)) (unescaped (take (length w - 1) (drop 1 w)))
unescaped_plain w h ne = ap unescaped (one_and w h) ∙ plain_first (get_or w 0 0) (drop 1 w) ne ∙ ap (λ z. with_byte (Some (get_or w 0 0)) (unescaped z)) (sym (take_rest w 1))

-- a backslash with fewer than three bytes after it
pub unescaped_cut : (w : List ℕ) → 0 < length w → get_or w 0 0 ≡ 92 → length w < 4 → unescaped w ≡ None
unescaped_cut w h slash short =
    ap unescaped (one_and w h) ∙ ap (λ c. unescaped (c ∷ drop 1 w)) slash ∙ escape_cut (drop 1 w) (omega (arith, length-drop 1 w))

-- a backslash and what follows it
pub escape_here : (w : List ℕ) → 4 ≤ length w → get_or w 0 0 ≡ 92 → unescaped w ≡ with_byte (escape_of (get_or w 1 0) (get_or w 2 0) (get_or w 3 0)) (unescaped (take (length w - 4) (drop 4 w)))
escape_here w h slash =
    ap unescaped (four_and w h) ∙ ap (λ c. unescaped (c ∷ get_or w 1 0 ∷ get_or w 2 0 ∷ get_or w 3 0 ∷ drop 4 w)) slash
    ∙ escape_first (get_or w 1 0) (get_or w 2 0) (get_or w 3 0) (drop 4 w) ∙ ap (λ z. with_byte (escape_of (get_or w 1 0) (get_or w 2 0) (get_or w 3 0)) (unescaped z)) (sym (take_rest w 4))

pub unescaped_no_x : (w : List ℕ) → 4 ≤ length w → get_or w 0 0 ≡ 92 → (get_or w 1 0 ≡ 120 → ⊥) → unescaped w ≡ None
unescaped_no_x w h slash ne = escape_here w h slash ∙ (rw (ne_eqb (get_or w 1 0) 120 ne) refl)

pub unescaped_byte : (w : List ℕ) (o : Option ℕ) → 4 ≤ length w → get_or w 0 0 ≡ 92 → get_or w 1 0 ≡ 120 → o ≡ byte_of (get_or w 2 0) (get_or w 3 0)
    → unescaped w ≡ with_byte o (unescaped (take (length w - 4) (drop 4 w)))
unescaped_byte w o h slash x byte =
    escape_here w h slash ∙ ap (λ c. with_byte (escape_of c (get_or w 2 0) (get_or w 3 0)) (unescaped (take (length w - 4) (drop 4 w)))) x
    ∙ ap (λ b. with_byte b (unescaped (take (length w - 4) (drop 4 w)))) (sym byte)

-- the byte of two digits by their values
pub no_high : (h l : ℕ) → (h < 16 → ⊥) → cond (nat_lt h 16 && nat_lt l 16) (Some (16 * h + l)) None ≡ None
no_high h l bad = cond-false (nat_lt h 16 && nat_lt l 16) _ _ (ap (λ b. b && nat_lt l 16) (le-ltb h 16 (omega arith)))

pub no_low : (h l : ℕ) → (l < 16 → ⊥) → cond (nat_lt h 16 && nat_lt l 16) (Some (16 * h + l)) None ≡ None
no_low h l bad = cond-false (nat_lt h 16 && nat_lt l 16) _ _ (and_right (nat_lt h 16) (nat_lt l 16) (le-ltb l 16 (omega arith)))

pub of_digits : (h l x y : ℕ) → (h < 16) × (x ≡ h) → (l < 16) × (y ≡ l) → Some (16 * x + y) ≡ cond (nat_lt h 16 && nat_lt l 16) (Some (16 * h + l)) None
of_digits h l x y high low = rw (high.1, low.1) (sym (cond-true _ _ _ (and_from _ _ (lt-ltb h 16 high.0) (lt-ltb l 16 low.0))))

pub none_more : (bytes : List ℕ) → option_map (λ after. bytes ++ after) (unescaped []) ≡ Some bytes
none_more bytes = ap (option_map (λ after. bytes ++ after)) unescaped-nil ∙ ap Some (append-nil bytes)
