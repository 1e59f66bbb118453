-- The front of a plaintext: counter mode of a front is the front of counter mode.
use Rattle.std.proofs.Common.{◌≡◌, ℕ, ◌<◌, ◌≤◌, min, List, [], ◌++◌, length, take, drop, slice_index, bit_xor, Option, None, Some, inl, inr, refl, sym, ap, ◌∙◌, arith, append-nil, length-take}
use Rattle.std.proofs.lemmas.Bool.{cases_lt}
use Rattle.std.proofs.lemmas.List.{drop_all, get_or-take, take_all, take_at}
use Rattle.std.proofs.lemmas.List.FromFn.{get_or-map-range_with_len}
use Rattle.std.specs.Option.{option_map}
use Rattle.aes_gcm.specs.Gcm.{crypt, first_counter, opened, opened_of}
use Rattle.aes_gcm.specs.Gctr.{gctr, inc32, key_byte}
use Rattle.aes_gcm.specs.Lengths.{length-crypt, length-gctr, length-opened, length-opened_of}
use Rattle.aes_gcm.specs.Opening.{gctr_all}

take-gctr : (cipher : List ℕ → List ℕ) (initial text : List ℕ) (n : ℕ) → take n (gctr cipher initial text) ≡ gctr cipher initial (take n text)
unfolding gctr
take-gctr cipher initial text n =
    let whole : List ℕ = gctr cipher initial text in
    let size = length-gctr cipher initial text in
    gctr_all cipher initial (take n text) (take n whole) (omega (arith, length-take n whole, length-take n text, size)) (λ k lt.
    let below : k < n = omega (arith, lt, length-take n text) in
    let within : k < length text = omega (arith, lt, length-take n text) in
    get_or-take n whole k 0 below
    ∙ get_or-map-range_with_len (λ m. bit_xor (slice_index text m) (key_byte cipher initial m)) 0 (length text) k k 0 within (omega arith)
    ∙ ap (λ (b : ℕ). bit_xor b (key_byte cipher initial k)) (sym (get_or-take n text k 0 below)))

pub take-crypt : (cipher : List ℕ → List ℕ) (iv text : List ℕ) (n : ℕ) → take n (crypt cipher iv text) ≡ crypt cipher iv (take n text)
unfolding crypt
take-crypt cipher iv text n = take-gctr cipher (inc32 (first_counter cipher iv)) text n

-- a front before what stood behind it
taken_before : (n m : ℕ) (whole old : List ℕ) → length whole ≡ length old → m ≡ min n (length old) → take n (take n whole ++ drop m old) ≡ take n whole
taken_before n m whole old size is = elim (cases_lt (length old) n) [
  | inl less ↦
      let none : drop m old ≡ [] = drop_all m old (omega (arith, less, is)) in
      ap (λ (l : List ℕ). take n (take n whole ++ l)) none ∙ ap (take n) (append-nil (take n whole)) ∙ take_all n (take n whole) (omega (arith, length-take n whole))
  | inr long ↦ take_at (take n whole) (drop m old) n (omega (arith, length-take n whole, size, long))
]

-- where no more than the front was decrypted
pub front_in_place : (cipher : List ℕ → List ℕ) (iv text : List ℕ) (n m : ℕ) → m ≡ min n (length text)
    → take n (crypt cipher iv (take n text) ++ drop m text) ≡ take n (crypt cipher iv text)
front_in_place cipher iv text n m is =
    ap (λ (l : List ℕ). take n (l ++ drop m text)) (sym (take-crypt cipher iv text n)) ∙ taken_before n m (crypt cipher iv text) text (length-crypt cipher iv text) is

-- ---- a front that is all

all_taken : (o : Option (List ℕ)) (n : ℕ) → ((plain : List ℕ) → o ≡ Some plain → length plain ≤ n) → option_map (take n) o ≡ o
all_taken None n short = refl
all_taken (Some plain) n short = ap Some (take_all n plain (short plain refl))

-- no plaintext is longer than its ciphertext
pub opened_whole : (cipher : List ℕ → List ℕ) (iv extra text tag : List ℕ)
    → option_map (take (length text)) (opened cipher iv extra text tag) ≡ opened cipher iv extra text tag
opened_whole cipher iv extra text tag =
    all_taken _ (length text) (λ plain opens. omega (arith, length-opened cipher iv extra text tag plain opens))

-- nor than its sealed text
pub opened_of_whole : (key extra sealed : List ℕ) → option_map (take (length sealed)) (opened_of key extra sealed) ≡ opened_of key extra sealed
opened_of_whole key extra sealed =
    all_taken _ (length sealed) (λ plain opens. omega (arith, length-opened_of key extra sealed plain opens))
