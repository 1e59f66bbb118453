-- GHASH of one piece after another, each padded to whole blocks.
use Rattle.std.proofs.Common.{◌≡◌, ℕ, zero, suc, ◌+◌, ◌-◌, ◌*◌, ◌/◌, ◌%◌, ◌<◌, ◌≤◌, List, [], ◌∷◌, ◌++◌, length, take, drop, map, replicate, slice_index, bit_xor, refl, sym, ap, ◌∙◌, add-one, arith, append-nil, length-append, length-drop}
use Rattle.std.proofs.Math.Seq.{drop-append-add}
use Rattle.std.proofs.lemmas.List.{get_or-drop, get_or-take, length-replicate, length-take-le, take-append-le}
use Rattle.std.proofs.lemmas.List.FromFn.{fill_by_all}
use Rattle.std.proofs.lemmas.Slice.{between_is}
use Rattle.std.specs.Int.{w128, div_ceil, from_be_bytes, to_be_bytes}
use Rattle.std.specs.List.{range_with_len, slice_range}
use Rattle.aes_gcm.specs.Gcm.{padded}
use Rattle.aes_gcm.specs.Ghash.{block_at, ghash, hashed, times}

pub hashed_next : (h y : ℕ) (bytes : List ℕ) (n : ℕ)
    → hashed h y bytes (n + 1) ≡ times (bit_xor (hashed h y bytes n) (block_at bytes n)) h
unfolding hashed
hashed_next h y bytes n = rw add-one refl

-- a block of the front
block_at-front : (a b : List ℕ) (i : ℕ) → 16 * i + 16 ≤ length a → block_at (a ++ b) i ≡ block_at a i
unfolding block_at
block_at-front a b i le =
    ap (from_be_bytes w128) (
    between_is (a ++ b) (16 * i) (16 * i + 16)
    ∙ ap (drop (16 * i)) (take-append-le (16 * i + 16) a b le)
    ∙ sym (between_is a (16 * i) (16 * i + 16)))

-- a block of what follows
block_at-rest : (a b : List ℕ) (p i : ℕ) → length a ≡ 16 * p → block_at (a ++ b) (p + i) ≡ block_at b i
unfolding block_at
block_at-rest a b p i len =
    let start : 16 * (p + i) ≡ length a + 16 * i = omega (arith, len) in
    let size : 16 * (p + i) + 16 - 16 * (p + i) ≡ 16 * i + 16 - 16 * i = omega arith in
    ap (from_be_bytes w128) (
    ap (λ (n : ℕ). take n (drop (16 * (p + i)) (a ++ b))) size
    ∙ ap (take (16 * i + 16 - 16 * i)) (ap (λ (n : ℕ). drop n (a ++ b)) start ∙ drop-append-add a b (16 * i)))

hashed-front : (h y : ℕ) (a b : List ℕ) (p n : ℕ) → length a ≡ 16 * p → n ≤ p → hashed h y (a ++ b) n ≡ hashed h y a n
unfolding hashed
hashed-front h y a b p zero len le = refl
hashed-front h y a b p (suc n) len le =
    let before = hashed-front h y a b p n len (omega arith) in
    let block = block_at-front a b n (omega (arith, len)) in
    λ t. times (bit_xor (before t) (block t)) h

-- the hash of a whole number of blocks, and of what follows
pub hashed-append : (h y : ℕ) (a b : List ℕ) (p q : ℕ) → length a ≡ 16 * p
    → hashed h y (a ++ b) (p + q) ≡ hashed h (hashed h y a p) b q
unfolding hashed
hashed-append h y a b p zero len =
    let end : p + 0 ≡ p = omega arith in
    ap (hashed h y (a ++ b)) end ∙ hashed-front h y a b p p len (omega arith)
hashed-append h y a b p (suc q) len =
    let next : p + suc q ≡ p + q + 1 = omega arith in
    let before = hashed-append h y a b p q len in
    let block = block_at-rest a b p q len in
    ap (hashed h y (a ++ b)) next ∙ hashed_next h y (a ++ b) (p + q) ∙ (λ t. times (bit_xor (before t) (block t)) h)

-- ---- padding

pub length-padded : (bytes : List ℕ) → length (padded bytes) ≡ 16 * div_ceil (length bytes) 16
unfolding padded
length-padded bytes =
    let n : ℕ = length bytes in
    let zeros : ℕ = (16 - n % 16) % 16 in
    omega (arith, length-append bytes (replicate zeros 0), length-replicate {A = ℕ} zeros 0)

pub padded_whole : (bytes : List ℕ) → length bytes ≡ 16 → padded bytes ≡ bytes
unfolding padded
padded_whole bytes len =
    let none : (16 - length bytes % 16) % 16 ≡ 0 = omega (arith, len) in
    rw none (append-nil bytes)

-- how many blocks
pub block_count : (bytes : List ℕ) → length (padded bytes) / 16 ≡ div_ceil (length bytes) 16
block_count bytes = omega (arith, length-padded bytes)

zeros_at : (n k : ℕ) → slice_index (replicate n 0) k ≡ 0
zeros_at zero k = refl
zeros_at (suc n) zero = refl
zeros_at (suc n) (suc k) = zeros_at n k

appended_zeros : (bytes : List ℕ) (n k : ℕ) → slice_index (bytes ++ replicate n 0) k ≡ slice_index bytes k
appended_zeros [] n k = zeros_at n k
appended_zeros (b ∷ bytes) n zero = refl
appended_zeros (b ∷ bytes) n (suc k) = appended_zeros bytes n k

-- a padded block, byte by byte
pub padded_block : (bytes : List ℕ) (i : ℕ) → 16 * i < length bytes
    → slice_range (padded bytes) (16 * i) (16 * i + 16) ≡ map (λ j. slice_index bytes (16 * i + j)) (range_with_len 0 16)
unfolding padded
padded_block bytes i lt =
    let whole : List ℕ = padded bytes in
    let size : 16 * i + 16 - 16 * i ≡ 16 = omega arith in
    let rest : List ℕ = drop (16 * i) whole in
    let len : length (take 16 rest) ≡ 16 = length-take-le 16 rest (omega (arith, length-drop (16 * i) whole, length-padded bytes)) in
    ap (λ (n : ℕ). take n rest) size
    ∙ fill_by_all (λ j. slice_index bytes (16 * i + j)) (take 16 rest) 16 0 len
    (λ j small. get_or-take 16 rest j 0 small ∙ get_or-drop (16 * i) whole j 0 ∙ appended_zeros bytes ((16 - length bytes % 16) % 16) (16 * i + j))

-- a block that was read is the padded one
pub block_read : (bytes block : List ℕ) (i : ℕ) → 16 * i < length bytes → length block ≡ 16
    → ((j : ℕ) → j < 16 → slice_index block j ≡ slice_index bytes (16 * i + j))
    → from_be_bytes w128 block ≡ block_at (padded bytes) i
unfolding block_at
block_read bytes block i lt len at =
    ap (from_be_bytes w128) (fill_by_all (λ j. slice_index bytes (16 * i + j)) block 16 0 len at ∙ sym (padded_block bytes i lt))

-- ---- GHASH of pieces

-- the hash after a piece
abbrev pub absorbed : ℕ → ℕ → List ℕ → ℕ
absorbed h y bytes = hashed h y (padded bytes) (length (padded bytes) / 16)

-- one piece after some blocks
absorbed-append : (h y : ℕ) (a bytes : List ℕ) (p : ℕ) → length a ≡ 16 * p
    → hashed h y (a ++ padded bytes) (length (a ++ padded bytes) / 16) ≡ absorbed h (hashed h y a p) bytes
absorbed-append h y a bytes p len =
    let q : ℕ = length (padded bytes) / 16 in
    let count : length (a ++ padded bytes) / 16 ≡ p + q = omega (arith, length-append a (padded bytes), len) in
    ap (hashed h y (a ++ padded bytes)) count ∙ hashed-append h y a (padded bytes) p q len

-- the hash of a piece and a last block
pub ghash_two : (h : ℕ) (a last : List ℕ) → length last ≡ 16
    → ghash h (padded a ++ last) ≡ to_be_bytes w128 (absorbed h (absorbed h 0 a) last)
unfolding ghash
ghash_two h a last len =
    let whole = padded_whole last len in
    let p : ℕ = length (padded a) / 16 in
    ap (to_be_bytes w128) (
    ap (λ (l : List ℕ). hashed h 0 (padded a ++ l) (length (padded a ++ l) / 16)) (sym whole)
    ∙ absorbed-append h 0 (padded a) last p (omega (arith, length-padded a)))

-- the hash of two pieces and a last block
pub ghash_three : (h : ℕ) (a b last : List ℕ) → length last ≡ 16
    → ghash h (padded a ++ padded b ++ last) ≡ to_be_bytes w128 (absorbed h (absorbed h (absorbed h 0 a) b) last)
unfolding ghash
ghash_three h a b last len =
    let whole = padded_whole last len in
    let front : List ℕ = padded a ++ padded b in
    let p : ℕ = length front / 16 in
    let blocks : length front ≡ 16 * p = omega (arith, length-append (padded a) (padded b), length-padded a, length-padded b) in
    ap (to_be_bytes w128) (
    ap (λ (l : List ℕ). hashed h 0 (front ++ l) (length (front ++ l) / 16)) (sym whole)
    ∙ absorbed-append h 0 front last p blocks
    ∙ ap (λ (y : ℕ). absorbed h y last) (absorbed-append h 0 (padded a) b (length (padded a) / 16) (omega (arith, length-padded a))))
