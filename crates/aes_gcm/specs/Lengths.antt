-- Lengths: a ciphertext is as long as its plaintext, and a sealed text has an IV and a tag besides.
use Rattle.std.proofs.Common.{◌≡◌, ℕ, ◌+◌, ◌-◌, ◌<◌, ◌≤◌, Bool, true, false, cond, List, length, take, drop, Some, None, sym, ap, ◌∙◌, inl, inr, arith, length-drop}
use Rattle.std.proofs.lemmas.Bool.{cases_lt, le-ltb, lt-ltb}
use Rattle.std.proofs.lemmas.List.{length-take-le}
use Rattle.std.proofs.lemmas.List.FromFn.{length-map-range_with_len}
use Rattle.std.specs.List.{slice_range}
use Rattle.std.specs.Str.{bytes_eq}
use Rattle.aes_block.specs.KeyExpansion.{aes256}
use Rattle.aes_gcm.specs.Gcm.{crypt, first_counter, opened, opened_of, tag_of}
use Rattle.aes_gcm.specs.Gctr.{gctr, inc32}

pub length-gctr : (cipher : List ℕ → List ℕ) (initial text : List ℕ) → length (gctr cipher initial text) ≡ length text
unfolding gctr
length-gctr cipher initial text = length-map-range_with_len _ 0 (length text)

pub length-crypt : (cipher : List ℕ → List ℕ) (iv text : List ℕ) → length (crypt cipher iv text) ≡ length text
unfolding crypt
length-crypt cipher iv text = length-gctr cipher (inc32 (first_counter cipher iv)) text

chosen : (b : Bool) (x plain : List ℕ) → cond b (Some x) None ≡ Some plain → x ≡ plain
chosen true x plain h = cc
chosen false x plain h = absurd (cc h)

pub length-opened : (cipher : List ℕ → List ℕ) (iv extra text tag plain : List ℕ)
    → opened cipher iv extra text tag ≡ Some plain → length plain ≡ length text
length-opened cipher iv extra text tag plain h =
    sym (ap length (chosen (bytes_eq (tag_of cipher iv extra text) tag) (crypt cipher iv text) plain h)) ∙ length-crypt cipher iv text

pub opened_of_short : (key extra sealed : List ℕ) → length sealed < 32 → opened_of key extra sealed ≡ None
unfolding opened_of
opened_of_short key extra sealed short =
    ap (λ (b : Bool). cond b None (opened (aes256 key) (take 16 sealed) extra (slice_range sealed 16 (length sealed - 16)) (drop (length sealed - 16) sealed)))
    (lt-ltb (length sealed) 32 short)

pub opened_of_long : (key extra sealed : List ℕ) → 32 ≤ length sealed
    → opened_of key extra sealed ≡ opened (aes256 key) (take 16 sealed) extra (slice_range sealed 16 (length sealed - 16)) (drop (length sealed - 16) sealed)
unfolding opened_of
opened_of_long key extra sealed long =
    ap (λ (b : Bool). cond b None (opened (aes256 key) (take 16 sealed) extra (slice_range sealed 16 (length sealed - 16)) (drop (length sealed - 16) sealed)))
    (le-ltb (length sealed) 32 long)

pub length-opened_of : (key extra sealed plain : List ℕ) → opened_of key extra sealed ≡ Some plain → length sealed ≡ 16 + length plain + 16
length-opened_of key extra sealed plain h = elim (cases_lt (length sealed) 32) [
  | inl short ↦ absurd (cc (opened_of_short key extra sealed short))
  | inr long ↦
      let n : ℕ = length sealed in
      let text : List ℕ = slice_range sealed 16 (n - 16) in
      let same = length-opened (aes256 key) (take 16 sealed) extra text (drop (n - 16) sealed) plain (sym (opened_of_long key extra sealed long) ∙ h) in
      let size : length text ≡ n - 16 - 16 = length-take-le (n - 16 - 16) (drop 16 sealed) (omega (arith, length-drop 16 sealed)) in
      omega (arith, same, size)
]

-- a text that opens with two extras gives one plaintext
pub opened_of-agrees : (key extra other sealed plain again : List ℕ) → opened_of key extra sealed ≡ Some plain → opened_of key other sealed ≡ Some again → plain ≡ again
opened_of-agrees key extra other sealed plain again h k = elim (cases_lt (length sealed) 32) [
  | inl short ↦ absurd (cc (opened_of_short key extra sealed short))
  | inr long ↦
      let n : ℕ = length sealed in
      let text : List ℕ = slice_range sealed 16 (n - 16) in
      let tag : List ℕ = drop (n - 16) sealed in
      let iv : List ℕ = take 16 sealed in
      let x = crypt (aes256 key) iv text in
      sym (chosen (bytes_eq (tag_of (aes256 key) iv extra text) tag) x plain (sym (opened_of_long key extra sealed long) ∙ h))
      ∙ chosen (bytes_eq (tag_of (aes256 key) iv other text) tag) x again (sym (opened_of_long key other sealed long) ∙ k)
]
