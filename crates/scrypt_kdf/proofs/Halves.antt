-- The two halves of BlockMix's output, one block further.
use Rattle.std.proofs.Common.{◌≡◌, ℕ, ◌+◌, ◌-◌, ◌*◌, ◌<◌, ◌≤◌, List, ◌++◌, length, take, drop, sym, ap, ◌∙◌, arith}
use Rattle.std.proofs.lemmas.List.{drop-append-le, drop-take, length-append, length-drop, length-take, length-take-le}
use Rattle.std.proofs.lemmas.Slice.{drop-put_mid, take-put_mid, take-put_mid_below}
use Rattle.scrypt_kdf.specs.Scrypt.{joined}
use Rattle.scrypt_kdf.proofs.Parts.{joined_more}
use borrow.Rule.Slice.PartMut.{put_mid}

pub length-put_mid : (a k : ℕ) (xs ys : List ℕ) → length ys ≡ k → a + k ≤ length xs → length (put_mid a k xs ys) ≡ length xs
length-put_mid a k xs ys long room = simp (length-append, length-take, length-drop) (omega arith)

pub evens_more : (r i : ℕ) (f : ℕ → List ℕ) (y even odd : List ℕ) → i < r → length y ≡ 128 * r
    → length even ≡ 64 → length odd ≡ 64 → even ≡ f i → take (64 * i) y ≡ joined f i
    → take (64 * (i + 1)) (put_mid (64 * r + 64 * i) (64 * r + 64 * i + 64 - (64 * r + 64 * i)) (put_mid (64 * i) (64 * i + 64 - 64 * i) y even) odd)
    ≡ joined f (i + 1)
evens_more r i f y even odd lt long even_long odd_long now before =
    let whole : length (put_mid (64 * i) (64 * i + 64 - 64 * i) y even) ≡ length y =
    length-put_mid (64 * i) (64 * i + 64 - 64 * i) y even (omega arith) (omega arith) in
    take-put_mid_below (64 * r + 64 * i) (64 * r + 64 * i + 64 - (64 * r + 64 * i)) (put_mid (64 * i) (64 * i + 64 - 64 * i) y even) odd (64 * (i + 1)) (omega arith) (omega arith)
    ∙ take-put_mid (64 * i) (64 * i + 64 - 64 * i) y even (64 * (i + 1)) (omega arith) (omega arith)
    ∙ (λ t. before t ++ now t)
    ∙ sym (joined_more f i)

pub odds_more : (r i : ℕ) (f : ℕ → List ℕ) (y even odd : List ℕ) → i < r → length y ≡ 128 * r
    → length even ≡ 64 → length odd ≡ 64 → odd ≡ f i → take (64 * i) (drop (64 * r) y) ≡ joined f i
    → take (64 * (i + 1)) (drop (64 * r) (put_mid (64 * r + 64 * i) (64 * r + 64 * i + 64 - (64 * r + 64 * i)) (put_mid (64 * i) (64 * i + 64 - 64 * i) y even) odd))
    ≡ joined f (i + 1)
odds_more r i f y even odd lt long even_long odd_long now before =
    let y1 : List ℕ = put_mid (64 * i) (64 * i + 64 - 64 * i) y even in
    let y2 : List ℕ = put_mid (64 * r + 64 * i) (64 * r + 64 * i + 64 - (64 * r + 64 * i)) y1 odd in
    let whole : length y1 ≡ length y = length-put_mid (64 * i) (64 * i + 64 - 64 * i) y even (omega arith) (omega arith) in
    let front : length (take (64 * r + 64 * i) y1) ≡ 64 * r + 64 * i = length-take-le (64 * r + 64 * i) y1 (omega arith) in
    sym (drop-take (64 * r) (64 * (i + 1)) y2)
    ∙ ap (drop (64 * r)) (take-put_mid (64 * r + 64 * i) (64 * r + 64 * i + 64 - (64 * r + 64 * i)) y1 odd (64 * r + 64 * (i + 1)) (omega arith) (omega arith))
    ∙ drop-append-le (64 * r) (take (64 * r + 64 * i) y1) odd (omega arith)
    ∙ ap (λ (xs : List ℕ). xs ++ odd) (drop-take (64 * r) (64 * i) y1)
    ∙ ap (λ (xs : List ℕ). take (64 * i) xs ++ odd) (drop-put_mid (64 * i) (64 * i + 64 - 64 * i) y even (64 * r) (omega arith) (omega arith) (omega arith))
    ∙ (λ t. before t ++ now t)
    ∙ sym (joined_more f i)
