-- A line that is cut at its first space.
use Rattle.std.proofs.Common.{◌≡◌, ℕ, ◌+◌, ◌-◌, true, List, [], ◌∷◌, length, take, drop, Some, None, sym, ap, ◌∙◌, arith, subst}
use Rattle.std.proofs.lemmas.List.{get_or_default, take_rest}
use Rattle.std.proofs.lemmas.List.Splits.{slice_split_none, slice_split_first}
use Rattle.std.proofs.lemmas.List.Sums.{position_or_len_is}
use Rattle.std.proofs.lemmas.Bool.{false_from_ne_true}
use Rattle.std.specs.List.{position_or_len}
use Rattle.memchr.specs.Find.{IsFirstByte, is_byte}
use Rattle.script_text.specs.Words.{is_space, words}

-- at a space
pub cut_found : (line : List ℕ) (n : ℕ) → IsFirstByte (is_byte 32) line (Some n) → words line ≡ take n line ∷ words (take (length line - (n + 1)) (drop (n + 1) line))
cut_found line n h =
    let high = h.0.high in
    let place : position_or_len is_space line ≡ n = position_or_len_is is_space line n 0 (omega arith) (λ k l. false_from_ne_true _ (h.0.before k (omega arith) l)) (λ l. h.1) in
    slice_split_first is_space line 0 (omega (arith, place))
    ∙ ap (λ (p : ℕ). take p line ∷ words (drop (p + 1) line)) place
    ∙ ap (λ (rest : List ℕ). take n line ∷ words rest) (sym (take_rest line (n + 1)))

-- where there is none
pub cut_none : (line : List ℕ) → IsFirstByte (is_byte 32) line None → words line ≡ line ∷ []
cut_none line h =
    slice_split_none is_space line
    (λ k d l. false_from_ne_true _ (λ p. h k (omega arith) l (subst (λ (c : ℕ). is_space c ≡ true) (sym (get_or_default line k 0 d l)) p)))
