-- The search for the first newline.
use Rattle.std.proofs.Common.{◌≡◌, ℕ, List, length, sym, ◌∙◌, ap, arith}
use Rattle.std.proofs.lemmas.Bool.{cond-true, cond-false, lt-ltb, le-ltb, false_from_ne_true}
use Rattle.std.proofs.lemmas.List.Sums.{position_or_len_is}
use Rattle.std.specs.List.{position, position_or_len}
use Rattle.std.specs.declared.option.Option.{Option}
use Rattle.std.specs.declared.option.Option.TheVariants.{None, Some}
use Rattle.memchr.specs.Find.{IsFirstByte, is_byte}
use Rattle.line_io.specs.Lines.{is_newline}

-- what a search answers is the place of the first newline
pub first_newline : (bytes : List ℕ) (r : Option ℕ) → IsFirstByte (is_byte 10) bytes r → r ≡ position is_newline bytes
first_newline bytes (Some n) h =
    let high = h.0.high in
    let place : position_or_len is_newline bytes ≡ n = position_or_len_is is_newline bytes n 0 (omega arith) (λ k l. false_from_ne_true _ (h.0.before k (omega arith) l)) (λ l. h.1) in
    sym (cond-true _ _ _ (lt-ltb (position_or_len is_newline bytes) (length bytes) (omega (arith, place))) ∙ ap (λ (p : ℕ). Some p) place)
first_newline bytes None h =
    let place : position_or_len is_newline bytes ≡ length bytes = position_or_len_is is_newline bytes (length bytes) 0 (omega arith) (λ k l. false_from_ne_true _ (h k (omega arith) l)) (λ l. absurd (omega arith)) in
    sym (cond-false _ _ _ (le-ltb (position_or_len is_newline bytes) (length bytes) (omega (arith, place))))
