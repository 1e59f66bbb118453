-- Lists that are parts of one length, joined.
use Rattle.std.proofs.Common.{◌≡◌, ℕ, zero, suc, ◌+◌, ◌-◌, ◌*◌, ◌<◌, ◌≤◌, List, [], ◌∷◌, ◌++◌, length, take, drop, sym, ap, ◌∙◌, arith, add-one, inl, inr}
use Rattle.std.proofs.lemmas.Bool.{cases_lt}
use Rattle.std.proofs.lemmas.List.{append-nil, length-append, length-drop, map-id, take-append-le, take_all, drop-append-le, drop_at}
use Rattle.std.proofs.lemmas.List.Concat.{flat_map-append}
use Rattle.std.proofs.lemmas.List.FromFn.{map-range_with_len_more}
use Rattle.std.proofs.Math.Nat.{mul-le-mul_left}
use Rattle.std.specs.List.{flat_map, range_with_len}
use Rattle.scrypt_kdf.specs.Scrypt.{joined, part}

range_more : (n : ℕ) → range_with_len 0 (n + 1) ≡ range_with_len 0 n ++ n ∷ []
range_more n =
    sym (map-id (range_with_len 0 (n + 1))) ∙ map-range_with_len_more (λ (k : ℕ). k) 0 n n (omega arith)
    ∙ ap (λ (ks : List ℕ). ks ++ n ∷ []) (map-id (range_with_len 0 n))

pub joined_more : (f : ℕ → List ℕ) (n : ℕ) → joined f (n + 1) ≡ joined f n ++ f n
joined_more f n =
    ap (flat_map f) (range_more n) ∙ flat_map-append f (range_with_len 0 n) (n ∷ [])
    ∙ ap (λ (ys : List ℕ). joined f n ++ ys) (append-nil (f n))

pub length-joined : (len : ℕ) (f : ℕ → List ℕ) (n : ℕ) → ((k : ℕ) → k < n → length (f k) ≡ len)
    → length (joined f n) ≡ len * n
length-joined len f zero each = omega arith
length-joined len f (suc n) each =
    let e : n + 1 ≡ suc n = omega arith in
    let more = joined_more f n in
    let before = length-joined len f n (λ k lt. each k (omega arith)) in
    let last = each n (omega arith) in
    let sum = length-append (joined f n) (f n) in
    let whole : length (joined f (n + 1)) ≡ len * n + len = ap length more ∙ sum ∙ (omega arith) in
    ap (λ (m : ℕ). length (joined f m)) (sym e) ∙ whole ∙ omega arith

-- part j of n parts ends within them
pub part_room : (len j n : ℕ) → j < n → len * j + len ≤ len * n
part_room len j n lt = let e : len * (j + 1) ≤ len * n = mul-le-mul_left len (omega arith) in omega arith

part-append_left : (len : ℕ) (xs ys : List ℕ) (j : ℕ) → len * j + len ≤ length xs
    → part len (xs ++ ys) j ≡ part len xs j
part-append_left len xs ys j room =
    let long = length-drop (len * j) xs in
    ap (take (len * j + len - len * j)) (drop-append-le (len * j) xs ys (omega arith))
    ∙ take-append-le (len * j + len - len * j) (drop (len * j) xs) ys (omega arith)

part-append_right : (len : ℕ) (xs ys : List ℕ) (j : ℕ) → length xs ≡ len * j → length ys ≡ len
    → part len (xs ++ ys) j ≡ ys
part-append_right len xs ys j before long =
    ap (take (len * j + len - len * j)) (drop_at xs ys (len * j) before)
    ∙ take_all (len * j + len - len * j) ys (omega arith)

-- part j of parts that are joined
pub part_of_joined : (len : ℕ) (f : ℕ → List ℕ) (n j : ℕ) → ((k : ℕ) → k < n → length (f k) ≡ len) → j < n
    → part len (joined f n) j ≡ f j
part_of_joined len f zero j each lt = absurd (omega arith)
part_of_joined len f (suc n) j each lt =
    let more : joined f (suc n) ≡ joined f n ++ f n = ap (joined f) (sym (add-one n)) ∙ joined_more f n in
    let before : length (joined f n) ≡ len * n = length-joined len f n (λ k h. each k (omega arith)) in
    elim (cases_lt j n) [
      | inl below ↦
          ap (λ (xs : List ℕ). part len xs j) more
          ∙ part-append_left len (joined f n) (f n) j (rw before (part_room len j n below))
          ∙ part_of_joined len f n j (λ k h. each k (omega arith)) below
      | inr last ↦
          let same : j ≡ n = omega arith in
          ap (λ (xs : List ℕ). part len xs j) more
          ∙ part-append_right len (joined f n) (f n) j (before ∙ ap (λ (i : ℕ). len * i) (sym same)) (each n (omega arith))
          ∙ ap f (sym same)
    ]
