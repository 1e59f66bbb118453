-- Texts that need no memory.
use Rattle.std.proofs.Common.{◌≡◌, ◌⊎◌, ◌≤◌, ◌<◌, ℕ, zero, suc, ◌+◌, ◌*◌, ◌/◌, ◌%◌, ◌^◌, List, [], ◌∷◌, ◌++◌, length, inl, inr, ap, arith, length-append, codes}
use Rattle.std.proofs.lemmas.Bool.{cases_lt}
use Rattle.std.proofs.lemmas.Fmt.{length-decimal-le}
use Rattle.std.specs.Fmt.{decimal}
use Rattle.std.proofs.Math.Nat.{pow-suc}
use Rattle.fs_model.specs.declared.reply.Reply.{Reply}
use Rattle.fs_model.specs.declared.reply.Reply.TheVariants.{Done, Rows, Info, Target, Content, Error}
use Rattle.script_text.specs.Texts.{numeral, line, text_of}
use Rattle.script_text.proofs.Numerals.{numeral_last, numeral_step}
use Rattle.script_text.proofs.Shorts.{length-text_of-Done, length-text_of-Error-le}
use Rattle.answers.specs.Hosts.{IsLongReply}
use Rattle.answers.specs.Summaries.{Counts, IsSmall, labelled, text_of_summary}

-- a text that doesn't fit tells something, or there was less room than for 256 bytes
pub reply_wants : (reply : Reply) (room len : ℕ) → room < len + length (text_of reply) → IsLongReply reply ⊎ (room < len + 256)
reply_wants Done room len h = inr (omega (arith, length-text_of-Done))
reply_wants (Rows rows) room len h = inl tt
reply_wants (Info attr size) room len h = inl tt
reply_wants (Target target) room len h = inl tt
reply_wants (Content bytes) room len h = inl tt
reply_wants (Error error) room len h = inr (omega (arith, length-text_of-Error-le error))

-- a number of 64 bits has at most 20 digits
pub decimal_short : (n : ℕ) → n < 2 ^ 64 → length (decimal n) ≤ 20
decimal_short n fits = length-decimal-le 20 n (omega arith) (omega arith) fits

length-numeral-le : (k n : ℕ) → n < 10 ^ suc k → length (numeral 10 n) ≤ suc k
length-numeral-le zero n fits =
    let e = numeral_last 10 n (omega arith) fits in
    let l = ap length e in
    omega arith
length-numeral-le (suc k) n fits = elim (cases_lt n 10) [
  | inl low ↦
      let l = ap length (numeral_last 10 n (omega arith) low) in
      omega arith
  | inr high ↦
      let power : 10 ^ suc (suc k) ≡ 10 ^ suc k * 10 = pow-suc 10 (suc k) in
      let rest : length (numeral 10 (n / 10)) ≤ suc k = length-numeral-le k (n / 10) (omega arith) in
      let l = ap length (numeral_step 10 n (omega arith) high) in
      omega (arith, length-append (numeral 10 (n / 10)) ((48 + n % 10) ∷ []))
]

length-labelled-le : (label : List ℕ) (k n : ℕ) → n < 10 ^ suc k → length (labelled label n) ≤ length label + (suc k + 1)
length-labelled-le label k n fits = omega (arith, length-append label (32 ∷ numeral 10 n), length-numeral-le k n fits)

-- the line of a summary has at most 256 bytes
pub short_summary : (c : Counts) → c.lines ≤ 1000000 → IsSmall c → length (text_of_summary c) ≤ 256
unfolding text_of_summary
short_summary c few small =
    let replies = small.replies in
    let errors = small.errors in
    let other = small.other in
    let read = small.read in
    let a = length-labelled-le (codes "lines") 6 c.lines (omega arith) in
    let b = length-labelled-le (codes " replies") 6 c.replies (omega arith) in
    let d = length-labelled-le (codes " errors") 6 c.errors (omega arith) in
    let e = length-labelled-le (codes " other") 6 c.other (omega arith) in
    let f = length-labelled-le (codes " read") 29 c.read (omega arith) in
    sums (labelled (codes "lines") c.lines) (labelled (codes " replies") c.replies) (labelled (codes " errors") c.errors) (labelled (codes " other") c.other) (labelled (codes " read") c.read) a b d e f
  where
    sums : (a b d e f : List ℕ) → length a ≤ 13 → length b ≤ 16 → length d ≤ 15 → length e ≤ 14 → length f ≤ 36 → length (line ((a ++ b ++ d) ++ (e ++ f))) ≤ 256
    sums a b d e f la lb ld le lf = simp length-append (omega arith)
