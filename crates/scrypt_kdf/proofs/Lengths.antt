-- The lengths of what Salsa20/8, BlockMix and ROMix give.
use Rattle.std.proofs.Common.{◌≡◌, ℕ, zero, suc, ◌+◌, ◌*◌, List, [], ◌∷◌, length, refl, ◌∙◌, arith, add-one, bit_xor, ◌≤◌, ◌-◌, sym}
use Rattle.std.proofs.lemmas.List.Edits.{length-between}
use Rattle.std.proofs.lemmas.List.{length-append, length-set}
use Rattle.std.proofs.lemmas.Simd.{length-zip2}
use Rattle.scrypt_kdf.specs.Salsa.{add32, bytes_of, core, double_round, double_rounds, salsa20_8, words}
use Rattle.scrypt_kdf.specs.Scrypt.{block_mix, chained, iterate, joined, mix_output, ro_mix, turned, iterates, xor_bytes, part}
use Rattle.scrypt_kdf.proofs.Parts.{length-joined}

pub length-double_round : (x : List ℕ) → length (double_round x) ≡ length x
unfolding double_round
length-double_round x = simp length-set

length-double_rounds : (x : List ℕ) (n : ℕ) → length (double_rounds x n) ≡ length x
unfolding double_rounds
length-double_rounds x zero = refl
length-double_rounds x (suc n) = length-double_round (double_rounds x n) ∙ length-double_rounds x n

length-bytes_of : (x : List ℕ) → length (bytes_of x) ≡ 4 * length x
length-bytes_of [] = refl
length-bytes_of (w ∷ x) = let h = length-bytes_of x in omega arith

pub length-core : (x : List ℕ) → length (core x) ≡ length x
length-core x =
    let long = length-double_rounds x 4 in
    length-zip2 add32 (double_rounds x 4) x long ∙ long

pub length-salsa20_8 : (block : List ℕ) → length (salsa20_8 block) ≡ 64
unfolding salsa20_8
length-salsa20_8 block =
    let sixteen : length (core (words block)) ≡ 16 = length-core (words block) in
    length-bytes_of (core (words block)) ∙ omega arith

pub length-xor : (x y : List ℕ) (n : ℕ) → length x ≡ n → length y ≡ n → length (xor_bytes x y) ≡ n
length-xor x y n long long' = length-zip2 bit_xor x y (long ∙ sym long') ∙ long

pub length-chained : (r : ℕ) (b : List ℕ) (n : ℕ) → 1 ≤ r → length b ≡ 128 * r → length (chained r b n) ≡ 64
unfolding chained
length-chained r b zero some long =
    length-between b (64 * (2 * r - 1)) (64 * (2 * r - 1) + 64) (omega arith) ∙ omega arith
length-chained r b (suc n) some long = length-salsa20_8 (xor_bytes (chained r b n) (part 64 b n))

pub length-mix_output : (r : ℕ) (b : List ℕ) (i : ℕ) → length (mix_output r b i) ≡ 64
unfolding chained
length-mix_output r b i = rw add-one (length-salsa20_8 _)

pub length-block_mix : (r : ℕ) (b : List ℕ) → length (block_mix r b) ≡ 128 * r
unfolding block_mix
length-block_mix r b =
    let even : ℕ → List ℕ = λ i. mix_output r b (2 * i) in
    let odd : ℕ → List ℕ = λ i. mix_output r b (2 * i + 1) in
    let evens = length-joined 64 even r (λ i lt. length-mix_output r b (2 * i)) in
    let odds = length-joined 64 odd r (λ i lt. length-mix_output r b (2 * i + 1)) in
    length-append (joined even r) (joined odd r) ∙ omega (arith, evens, odds)

pub length-iterate : (r : ℕ) (b : List ℕ) (i : ℕ) → length b ≡ 128 * r → length (iterate r b i) ≡ 128 * r
unfolding iterate
length-iterate r b zero h = h
length-iterate r b (suc i) h = length-block_mix r (iterate r b i)

pub length-turned : (r n : ℕ) (v : List (List ℕ)) (x : List ℕ) (i : ℕ) → length x ≡ 128 * r → length (turned r n v x i) ≡ 128 * r
unfolding turned
length-turned r n v x zero h = h
length-turned r n v x (suc i) h = length-block_mix r _

pub length-ro_mix : (r : ℕ) (b : List ℕ) (n : ℕ) → length b ≡ 128 * r → length (ro_mix r b n) ≡ 128 * r
unfolding ro_mix
length-ro_mix r b n h = length-turned r n (iterates r n b) (iterate r b n) n (length-iterate r b n h)
