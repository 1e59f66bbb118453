-- What is sealed opens: counter mode undoes itself, and a sealed text has the tag of its ciphertext.
use Rattle.std.proofs.Common.{◌≡◌, ℕ, ◌+◌, ◌-◌, ◌<◌, Bool, cond, List, ◌++◌, length, take, drop, slice_index, bit_xor, Some, None, refl, sym, ap, ◌∙◌, arith, append_assoc, length-append}
use Rattle.std.proofs.lemmas.List.{drop_at, take_at}
use Rattle.std.proofs.lemmas.List.FromFn.{fill_by_all, get_or-map-range_with_len}
use Rattle.std.proofs.lemmas.Nat.Bits.{bit_at_xor, same_from_bits}
use Rattle.std.proofs.lemmas.Slice.Eq.{bytes_eq-Decides}
use Rattle.std.specs.List.{slice_range}
use Rattle.aes_block.specs.KeyExpansion.{aes256}
use Rattle.seal_api.specs.Sealing.{IsSealed}
use Rattle.aes_gcm.specs.Gcm.{crypt, first_counter, opened, opened_of, sealed_of, tag_of}
use Rattle.aes_gcm.specs.Gctr.{gctr, inc32, key_byte}
use Rattle.aes_gcm.specs.Ghash.{ghash}
use Rattle.aes_gcm.specs.Lengths.{length-crypt, length-gctr, opened_of_long}

-- all bytes are done
pub gctr_all : (cipher : List ℕ → List ℕ) (initial old text : List ℕ) → length text ≡ length old
    → ((k : ℕ) → k < length old → slice_index text k ≡ bit_xor (slice_index old k) (key_byte cipher initial k))
    → text ≡ gctr cipher initial old
unfolding gctr
gctr_all cipher initial old text long done =
    fill_by_all (λ k. bit_xor (slice_index old k) (key_byte cipher initial k)) text (length old) 0 long done

xor_twice : (a b : ℕ) → bit_xor (bit_xor a b) b ≡ a
xor_twice a b = same_from_bits _ _ (λ i. simp bit_at_xor (omega arith))

-- counter mode undoes itself
pub gctr-gctr : (cipher : List ℕ → List ℕ) (initial text : List ℕ) → gctr cipher initial (gctr cipher initial text) ≡ text
unfolding gctr
gctr-gctr cipher initial text =
    let once : List ℕ = gctr cipher initial text in
    let byte : (k : ℕ) → k < length text → slice_index text k ≡ bit_xor (slice_index once k) (key_byte cipher initial k) =
    λ k lt. sym (
    ap (λ (b : ℕ). bit_xor b (key_byte cipher initial k)) (get_or-map-range_with_len (λ n. bit_xor (slice_index text n) (key_byte cipher initial n)) 0 (length text) k k 0 lt (omega arith))
    ∙ xor_twice (slice_index text k) (key_byte cipher initial k)) in
    sym (gctr_all cipher initial once text (sym (length-gctr cipher initial text)) (λ k lt. byte k (omega (arith, length-gctr cipher initial text))))

-- ---- a ciphertext and its tag

length-ghash : (h : ℕ) (bytes : List ℕ) → length (ghash h bytes) ≡ 16
unfolding ghash
length-ghash h bytes = refl

pub length-tag_of : (cipher : List ℕ → List ℕ) (iv extra text : List ℕ) → length (tag_of cipher iv extra text) ≡ 16
unfolding tag_of
length-tag_of cipher iv extra text = length-gctr cipher (first_counter cipher iv) _ ∙ length-ghash _ _

pub crypt-crypt : (cipher : List ℕ → List ℕ) (iv text : List ℕ) → crypt cipher iv (crypt cipher iv text) ≡ text
unfolding crypt
crypt-crypt cipher iv text = gctr-gctr cipher (inc32 (first_counter cipher iv)) text

pub opened_right : (cipher : List ℕ → List ℕ) (iv extra text tag : List ℕ) → tag_of cipher iv extra text ≡ tag
    → opened cipher iv extra text tag ≡ Some (crypt cipher iv text)
opened_right cipher iv extra text tag same =
    ap (λ (b : Bool). cond b (Some (crypt cipher iv text)) None) ((bytes_eq-Decides (tag_of cipher iv extra text) tag).1 same)

-- ---- a sealed text

-- a sealed text in its parts
opened_of_parts : (key extra iv text tag : List ℕ) → length iv ≡ 16 → length tag ≡ 16
    → opened_of key extra (iv ++ text ++ tag) ≡ opened (aes256 key) iv extra text tag
opened_of_parts key extra iv text tag len_iv len_tag =
    let sealed : List ℕ = iv ++ text ++ tag in
    let n : ℕ = length sealed in
    let front : length (iv ++ text) ≡ 16 + length text = omega (arith, length-append iv text, len_iv) in
    let whole : n ≡ 32 + length text = omega (arith, length-append (iv ++ text) tag, front, len_tag) in
    let is_iv : take 16 sealed ≡ iv = ap (take 16) (append_assoc iv text tag) ∙ take_at iv (text ++ tag) 16 len_iv in
    let is_text : slice_range sealed 16 (n - 16) ≡ text =
    ap (λ (l : List ℕ). take (n - 16 - 16) (drop 16 l)) (append_assoc iv text tag)
    ∙ ap (take (n - 16 - 16)) (drop_at iv (text ++ tag) 16 len_iv) ∙ take_at text tag (n - 16 - 16) (omega (arith, whole)) in
    let is_tag : drop (n - 16) sealed ≡ tag = drop_at (iv ++ text) tag (n - 16) (omega (arith, whole, front)) in
    opened_of_long key extra sealed (omega (arith, whole)) ∙ (λ i. opened (aes256 key) (is_iv i) extra (is_text i) (is_tag i))

-- what is sealed opens to its plaintext
pub opened_of-sealed_of : (key iv extra plain : List ℕ) → length iv ≡ 16 → opened_of key extra (sealed_of key iv extra plain) ≡ Some plain
opened_of-sealed_of key iv extra plain len =
    let text : List ℕ = crypt (aes256 key) iv plain in
    let tag : List ℕ = tag_of (aes256 key) iv extra text in
    opened_of_parts key extra iv text tag len (length-tag_of (aes256 key) iv extra text)
    ∙ opened_right (aes256 key) iv extra text tag refl ∙ ap Some (crypt-crypt (aes256 key) iv plain)

pub length-sealed_of : (key iv extra plain : List ℕ) → length (sealed_of key iv extra plain) ≡ length iv + length plain + 16
length-sealed_of key iv extra plain =
    let text : List ℕ = crypt (aes256 key) iv plain in
    omega (arith, length-append (iv ++ text) (tag_of (aes256 key) iv extra text), length-append iv text, length-crypt (aes256 key) iv plain, length-tag_of (aes256 key) iv extra text)

-- a sealed text begins with its IV
pub take-sealed_of : (key iv extra plain : List ℕ) → take (length iv) (sealed_of key iv extra plain) ≡ iv
take-sealed_of key iv extra plain =
    let text : List ℕ = crypt (aes256 key) iv plain in
    let tag : List ℕ = tag_of (aes256 key) iv extra text in
    ap (take (length iv)) (append_assoc iv text tag) ∙ take_at iv (text ++ tag) (length iv) refl

pub seals-sealed_of : (key iv extra plain : List ℕ) → length iv ≡ 16 → IsSealed (opened_of key extra) iv plain (sealed_of key iv extra plain)
seals-sealed_of key iv extra plain len = record {
  begins = take-sealed_of key iv extra plain;
  size = length-sealed_of key iv extra plain;
  opened = opened_of-sealed_of key iv extra plain len;
}
