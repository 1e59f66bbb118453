-- The first counter and the tag, from hashes of pieces.
use Rattle.std.proofs.Common.{◌≡◌, ℕ, ◌*◌, ◌%◌, ◌^◌, Bool, cond, List, [], ◌∷◌, ◌++◌, length, replicate, sym, ap, ◌∙◌, append_assoc, eq-eqb}
use Rattle.std.proofs.lemmas.Bool.{ne_eqb}
use Rattle.std.specs.Int.{w64, w128, to_be_bytes}
use Rattle.aes_gcm.specs.Gcm.{bit_length, crypt, first_counter, hash_subkey, padded, tag_of}
use Rattle.aes_gcm.specs.Gctr.{gctr, inc32}
use Rattle.aes_gcm.specs.Ghash.{ghash}
use Rattle.aes_gcm.proofs.Hashing.{absorbed, ghash_three, ghash_two}

pub first_counter_short : (cipher : List ℕ → List ℕ) (iv : List ℕ) → length iv ≡ 12
    → iv ++ (0 ∷ 0 ∷ 0 ∷ 1 ∷ []) ≡ first_counter cipher iv
unfolding first_counter
first_counter_short cipher iv len =
    sym (ap (λ (b : Bool). cond b (iv ++ (0 ∷ 0 ∷ 0 ∷ 1 ∷ [])) (ghash (hash_subkey cipher) (padded iv ++ replicate 8 0 ++ bit_length iv))) (eq-eqb (length iv) 12 len))

pub first_counter_long : (cipher : List ℕ → List ℕ) (iv : List ℕ) (h : ℕ) → h ≡ hash_subkey cipher → (length iv ≡ 12 → ⊥)
    → ghash h (padded iv ++ replicate 8 0 ++ bit_length iv) ≡ first_counter cipher iv
unfolding first_counter
first_counter_long cipher iv h key other =
    let blocks : List ℕ = padded iv ++ replicate 8 0 ++ bit_length iv in
    ap (λ (k : ℕ). ghash k blocks) key
    ∙ sym (ap (λ (b : Bool). cond b (iv ++ (0 ∷ 0 ∷ 0 ∷ 1 ∷ [])) (ghash (hash_subkey cipher) blocks)) (ne_eqb (length iv) 12 other))

pub first_counter_hashed : (cipher : List ℕ → List ℕ) (iv last : List ℕ) (h : ℕ) → h ≡ hash_subkey cipher → (length iv ≡ 12 → ⊥)
    → last ≡ to_be_bytes w64 (0 * 8 % 2 ^ 64) ++ to_be_bytes w64 (length iv * 8 % 2 ^ 64)
    → to_be_bytes w128 (absorbed h (absorbed h 0 iv) last) ≡ first_counter cipher iv
unfolding bit_length
first_counter_hashed cipher iv last h key other lengths =
    sym (ghash_two h iv last (ap length lengths))
    ∙ ap (λ (l : List ℕ). ghash h (padded iv ++ l)) lengths
    ∙ ap (ghash h) (sym (append_assoc (padded iv) (replicate 8 0) (bit_length iv)))
    ∙ first_counter_long cipher iv h key other

pub tag_hash : (h : ℕ) (a b last : List ℕ)
    → last ≡ to_be_bytes w64 (length a * 8 % 2 ^ 64) ++ to_be_bytes w64 (length b * 8 % 2 ^ 64)
    → to_be_bytes w128 (absorbed h (absorbed h (absorbed h 0 a) b) last) ≡ ghash h (padded a ++ padded b ++ bit_length a ++ bit_length b)
unfolding bit_length
tag_hash h a b last lengths =
    sym (ghash_three h a b last (ap length lengths))
    ∙ ap (λ (l : List ℕ). ghash h (padded a ++ padded b ++ l)) lengths
    ∙ ap (ghash h) (sym (append_assoc (padded a ++ padded b) (bit_length a) (bit_length b)))

pub crypt_from : (cipher : List ℕ → List ℕ) (iv counter text : List ℕ) → counter ≡ first_counter cipher iv
    → gctr cipher (inc32 counter) text ≡ crypt cipher iv text
unfolding crypt
crypt_from cipher iv counter text first = ap (λ (block : List ℕ). gctr cipher (inc32 block) text) first

pub tag_from : (cipher : List ℕ → List ℕ) (iv extra text counter : List ℕ) → counter ≡ first_counter cipher iv
    → gctr cipher counter (ghash (hash_subkey cipher) (padded extra ++ padded text ++ bit_length extra ++ bit_length text)) ≡ tag_of cipher iv extra text
unfolding tag_of
tag_from cipher iv extra text counter first =
    ap (λ (block : List ℕ). gctr cipher block (ghash (hash_subkey cipher) (padded extra ++ padded text ++ bit_length extra ++ bit_length text))) first
