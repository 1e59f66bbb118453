-- The key schedule, four bytes at a time.
use Rattle.std.proofs.Common.{◌≡◌, ℕ, zero, suc, ◌+◌, ◌-◌, ◌*◌, ◌/◌, ◌%◌, ◌<◌, ◌≤◌, List, [], ◌∷◌, ◌++◌, length, drop, take, map, slice_index, refl, sym, ap, ◌∙◌, add-one, arith, length-drop, length-append}
use Rattle.std.proofs.lemmas.List.{get_or-take, get_or-drop, take_all, length-take-le, take-append-le}
use Rattle.std.proofs.lemmas.List.FromFn.{fill_by_all}
use Rattle.std.proofs.lemmas.Slice.{take-put_mid}
use Rattle.std.specs.List.{range_with_len}
use Rattle.aes_block.specs.KeyExpansion.{add_word, key_step, key_words, word, x_power}
use borrow.Rule.Slice.PartMut.{put_mid, post_of}

-- word i of the first m bytes of k
pub word_bytes : (k : List ℕ) (m i : ℕ) → 4 * i + 4 ≤ m → m ≤ length k
    → word (take m k) i ≡ slice_index k (4 * i) ∷ slice_index k (4 * i + 1) ∷ slice_index k (4 * i + 2) ∷ slice_index k (4 * i + 3) ∷ []
word_bytes k m i fits le =
    let e : 4 * i + 4 - 4 * i ≡ 4 = omega arith in
    let inner : List ℕ = drop (4 * i) (take m k) in
    let len : length (take 4 inner) ≡ 4 = length-take-le 4 inner (omega (arith, length-drop (4 * i) (take m k), length-take-le m k le)) in
    let byte : (j : ℕ) → j < 4 → slice_index (take 4 inner) j ≡ slice_index k (4 * i + j) =
    λ j lt. get_or-take 4 inner j 0 lt ∙ get_or-drop (4 * i) (take m k) j 0 ∙ get_or-take m k (4 * i + j) 0 (omega arith) in
    let listed : take 4 inner ≡ map (λ j. slice_index k (4 * i + j)) (range_with_len 0 4) =
    fill_by_all (λ j. slice_index k (4 * i + j)) (take 4 inner) 4 0 len byte in
    let zero_at : 4 * i + 0 ≡ 4 * i = omega arith in
    rw e (listed ∙ ap (λ (a : ℕ). slice_index k a ∷ slice_index k (4 * i + 1) ∷ slice_index k (4 * i + 2) ∷ slice_index k (4 * i + 3) ∷ []) zero_at)

pub key_words_next : (key : List ℕ) (n : ℕ) → key_words key (n + 1)
    ≡ key_words key n ++ add_word (word (key_words key n) n) (key_step (n + 8) (word (key_words key n) (n + 7)))
unfolding key_words
key_words_next key n = rw add-one refl

-- one more word
pub word_written : (key k first last step new : List ℕ) (n j : ℕ) → length k ≡ 240 → n < 52
    → take (4 * (n + 8)) k ≡ key_words key n
    → first ≡ slice_index k (4 * n) ∷ slice_index k (4 * n + 1) ∷ slice_index k (4 * n + 2) ∷ slice_index k (4 * n + 3) ∷ []
    → last ≡ slice_index k (4 * n + 28) ∷ slice_index k (4 * n + 29) ∷ slice_index k (4 * n + 30) ∷ slice_index k (4 * n + 31) ∷ []
    → step ≡ key_step (n + 8) last → new ≡ add_word first step
    → take (4 * (n + 1 + 8)) (put_mid (4 * n + 32) j k new) ≡ key_words key (n + 1)
word_written key k first last step new n j len lt held ef el es en =
    let m : ℕ = 4 * (n + 8) in
    let at : 4 * n + 32 ≡ m = omega arith in
    let long : length new ≡ 4 = ap length en in
    let w0 : word (key_words key n) n ≡ first = ap (λ (l : List ℕ). word l n) (sym held) ∙ word_bytes k m n (omega arith) (omega arith) ∙ sym ef in
    let e28 : 4 * (n + 7) ≡ 4 * n + 28 = omega arith in
    let e29 : 4 * (n + 7) + 1 ≡ 4 * n + 29 = omega arith in
    let e30 : 4 * (n + 7) + 2 ≡ 4 * n + 30 = omega arith in
    let e31 : 4 * (n + 7) + 3 ≡ 4 * n + 31 = omega arith in
    let w7 : word (key_words key n) (n + 7) ≡ last =
    ap (λ (l : List ℕ). word l (n + 7)) (sym held) ∙ word_bytes k m (n + 7) (omega arith) (omega arith)
    ∙ (λ i. slice_index k (e28 i) ∷ slice_index k (e29 i) ∷ slice_index k (e30 i) ∷ slice_index k (e31 i) ∷ []) ∙ sym el in
    let front : take (4 * (n + 1 + 8)) (put_mid (4 * n + 32) j k new) ≡ take (4 * n + 32) k ++ new =
    take-put_mid (4 * n + 32) j k new (4 * (n + 1 + 8)) (omega arith) (omega arith) in
    front ∙ ap (λ (a : ℕ). take a k ++ new) at ∙ ap (λ (l : List ℕ). l ++ new) held
    ∙ ap (λ (l : List ℕ). key_words key n ++ l) (en ∙ ap (add_word first) es ∙ sym (λ i. add_word (w0 i) (key_step (n + 8) (w7 i))))
    ∙ sym (key_words_next key n)

-- the power of x after n words
pub power_next : (n p q : ℕ) → p ≡ x_power ((n + 7) / 8) → n % 8 ≡ 0 → q ≡ x_power (suc ((n + 7) / 8)) → q ≡ x_power ((n + 1 + 7) / 8)
power_next n p q hp h hq =
    let e : (n + 1 + 7) / 8 ≡ suc ((n + 7) / 8) = omega arith in
    rw e hq

pub power_kept : (n p : ℕ) → p ≡ x_power ((n + 7) / 8) → 0 < n % 8 → p ≡ x_power ((n + 1 + 7) / 8)
power_kept n p hp h =
    let e : (n + 1 + 7) / 8 ≡ (n + 7) / 8 = omega arith in
    rw e hp

pub length_put_mid : (a j : ℕ) (xs ys : List ℕ) → a + j ≤ length xs → length ys ≡ j → length (put_mid a j xs ys) ≡ length xs
length_put_mid a j xs ys le e =
    omega (arith, length-append (take a xs) (ys ++ post_of a j xs), length-append ys (post_of a j xs), length-take-le a xs (omega arith), length-drop j (drop a xs), length-drop a xs)

-- no word less than the key
length_key_words : (key : List ℕ) (n : ℕ) → length key ≡ 32 → 32 ≤ length (key_words key n)
unfolding key_words
length_key_words key zero len = omega (arith, len)
length_key_words key (suc n) len =
    let more : List ℕ = add_word (word (key_words key n) n) (key_step (n + 8) (word (key_words key n) (n + 7))) in
    omega (arith, length-append (key_words key n) more, length_key_words key n len)

-- the key is the first eight words
pub take-key_words : (key : List ℕ) (n : ℕ) → length key ≡ 32 → take 32 (key_words key n) ≡ key
unfolding key_words
take-key_words key zero len = take_all 32 key (omega (arith, len))
take-key_words key (suc n) len =
    let more : List ℕ = add_word (word (key_words key n) n) (key_step (n + 8) (word (key_words key n) (n + 7))) in
    take-append-le 32 (key_words key n) more (length_key_words key n len) ∙ take-key_words key n len
