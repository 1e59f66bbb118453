-- States and blocks by their bytes.
use Rattle.std.proofs.Common.{◌≡◌, ℕ, ◌+◌, ◌*◌, ◌/◌, ◌%◌, ◌<◌, List, [], ◌∷◌, ◌++◌, length, map, replicate, slice_index, slice_index_or, take, sym, ap, ◌∙◌, arith}
use Rattle.std.proofs.lemmas.List.FromFn.{get_or-map-range_with_len}
use Rattle.std.proofs.lemmas.List.{drop_at, take_all, take_at}
use Rattle.std.proofs.lemmas.Nat.Bits.{bit_at-lt}
use Rattle.std.proofs.lemmas.Simd.{get_or-chunk, length-chunk}
use Rattle.std.specs.Int.{bit_at}
use Rattle.std.specs.List.{range_with_len}
use Rattle.aes_block.specs.Cipher.{state_of}
use Rattle.aes_block.proofs.States.{state_filled}
use Rattle.aes_block.specs.Planes.{AreVectors, IsVector, bit_of, blocks_of, byte_of, half}
use Rattle.aes_block.proofs.Bytes.{of_bits-lt, of_bits_bits, of_bits_same}

pub state_same : (f g : ℕ → ℕ) → ((p : ℕ) → p < 16 → f p ≡ g p) → state_of f ≡ state_of g
state_same f g h =
    let e0 = h 0 (omega arith) in let e1 = h 1 (omega arith) in let e2 = h 2 (omega arith) in let e3 = h 3 (omega arith) in
    let e4 = h 4 (omega arith) in let e5 = h 5 (omega arith) in let e6 = h 6 (omega arith) in let e7 = h 7 (omega arith) in
    let e8 = h 8 (omega arith) in let e9 = h 9 (omega arith) in let e10 = h 10 (omega arith) in let e11 = h 11 (omega arith) in
    let e12 = h 12 (omega arith) in let e13 = h 13 (omega arith) in let e14 = h 14 (omega arith) in let e15 = h 15 (omega arith) in
    λ i. e0 i ∷ e1 i ∷ e2 i ∷ e3 i ∷ e4 i ∷ e5 i ∷ e6 i ∷ e7 i ∷ e8 i ∷ e9 i ∷ e10 i ∷ e11 i ∷ e12 i ∷ e13 i ∷ e14 i ∷ e15 i ∷ []

pub state_byte : (f : ℕ → ℕ) (p : ℕ) → p < 16 → slice_index (state_of f) p ≡ f p
state_byte f p lt = get_or-map-range_with_len f 0 16 p p 0 lt (omega arith)

pub byte_below : (planes : List (List ℕ)) (p j : ℕ) → byte_of planes p j < 256
byte_below planes p j = of_bits-lt (bit_of planes p j) (λ k. bit_at-lt (slice_index (slice_index_or planes k []) p) j)

-- the same function on each block
pub blocks_mapped : (f : List ℕ → List ℕ) (out planes : List (List ℕ))
    → ((h j : ℕ) → h < 2 → j < 8 → state_of (λ p. byte_of out (16 * h + p) j) ≡ f (state_of (λ p. byte_of planes (16 * h + p) j))) → blocks_of out ≡ map f (blocks_of planes)
blocks_mapped f out planes h =
    let e0 = h 0 0 (omega arith) (omega arith) in let e1 = h 1 0 (omega arith) (omega arith) in
    let e2 = h 0 1 (omega arith) (omega arith) in let e3 = h 1 1 (omega arith) (omega arith) in
    let e4 = h 0 2 (omega arith) (omega arith) in let e5 = h 1 2 (omega arith) (omega arith) in
    let e6 = h 0 3 (omega arith) (omega arith) in let e7 = h 1 3 (omega arith) (omega arith) in
    let e8 = h 0 4 (omega arith) (omega arith) in let e9 = h 1 4 (omega arith) (omega arith) in
    let e10 = h 0 5 (omega arith) (omega arith) in let e11 = h 1 5 (omega arith) (omega arith) in
    let e12 = h 0 6 (omega arith) (omega arith) in let e13 = h 1 6 (omega arith) (omega arith) in
    let e14 = h 0 7 (omega arith) (omega arith) in let e15 = h 1 7 (omega arith) (omega arith) in
    λ i. e0 i ∷ e1 i ∷ e2 i ∷ e3 i ∷ e4 i ∷ e5 i ∷ e6 i ∷ e7 i ∷ e8 i ∷ e9 i ∷ e10 i ∷ e11 i ∷ e12 i ∷ e13 i ∷ e14 i ∷ e15 i ∷ []

-- ---- halves of a vector

pub half_lane : (h p : ℕ) (v : List ℕ) → p < 16 → slice_index (half h v) p ≡ slice_index v (16 * h + p)
half_lane h p v lt = get_or-chunk (16 * h) 16 v p 0 lt

pub length-half : (h : ℕ) (v : List ℕ) → h < 2 → length v ≡ 32 → length (half h v) ≡ 16
length-half h v lt len = length-chunk (16 * h) 16 v (omega (arith, len))

pub low_half : (a b : List ℕ) → length a ≡ 16 → half 0 (a ++ b) ≡ a
low_half a b len = take_at a b 16 len

pub high_half : (a b : List ℕ) → length a ≡ 16 → length b ≡ 16 → half 1 (a ++ b) ≡ b
high_half a b la lb = ap (take 16) (drop_at a b 16 la) ∙ take_all 16 b (omega (arith, lb))

-- a block is half of v, where the planes have the bits of v there
block_is : (planes : List (List ℕ)) (v : List ℕ) (h j : ℕ) → h < 2 → IsVector v → ((p k : ℕ) → p < 32 → k < 8 → bit_of planes p j k ≡ bit_at (slice_index v p) k)
    → state_of (λ p. byte_of planes (16 * h + p) j) ≡ half h v
block_is planes v h j lh hv same =
    sym (state_filled (λ p. byte_of planes (16 * h + p) j) (half h v) (length-half h v lh hv.0) (λ p lp.
    half_lane h p v lp
    ∙ sym (of_bits_same (bit_of planes (16 * h + p) j) (bit_at (slice_index v (16 * h + p))) (λ k lk. same (16 * h + p) k (omega arith) lk)
    ∙ of_bits_bits (slice_index v (16 * h + p)) (hv.1 (16 * h + p) (omega arith)))))

-- the blocks are the halves of the vectors that planes were transposed from
abbrev pub halves : List (List ℕ) → List (List ℕ)
halves vs = map (λ b. half (b % 2) (slice_index_or vs (b / 2) [])) (range_with_len 0 16)

pub transposed_blocks : (planes vs : List (List ℕ)) → AreVectors vs → ((p j k : ℕ) → p < 32 → j < 8 → k < 8 → bit_of planes p j k ≡ bit_of vs p k j)
    → blocks_of planes ≡ halves vs
transposed_blocks planes vs h same =
    let e : (h j : ℕ) → h < 2 → j < 8 → state_of (λ p. byte_of planes (16 * h + p) j) ≡ half h (slice_index_or vs j []) =
    λ a j la lj. block_is planes (slice_index_or vs j []) a j la (h j lj) (λ p k lp lk. same p j k lp lj lk) in
    let e0 = e 0 0 (omega arith) (omega arith) in let e1 = e 1 0 (omega arith) (omega arith) in
    let e2 = e 0 1 (omega arith) (omega arith) in let e3 = e 1 1 (omega arith) (omega arith) in
    let e4 = e 0 2 (omega arith) (omega arith) in let e5 = e 1 2 (omega arith) (omega arith) in
    let e6 = e 0 3 (omega arith) (omega arith) in let e7 = e 1 3 (omega arith) (omega arith) in
    let e8 = e 0 4 (omega arith) (omega arith) in let e9 = e 1 4 (omega arith) (omega arith) in
    let e10 = e 0 5 (omega arith) (omega arith) in let e11 = e 1 5 (omega arith) (omega arith) in
    let e12 = e 0 6 (omega arith) (omega arith) in let e13 = e 1 6 (omega arith) (omega arith) in
    let e14 = e 0 7 (omega arith) (omega arith) in let e15 = e 1 7 (omega arith) (omega arith) in
    λ i. e0 i ∷ e1 i ∷ e2 i ∷ e3 i ∷ e4 i ∷ e5 i ∷ e6 i ∷ e7 i ∷ e8 i ∷ e9 i ∷ e10 i ∷ e11 i ∷ e12 i ∷ e13 i ∷ e14 i ∷ e15 i ∷ []

-- one block, sixteen times
pub repeated_blocks : (planes : List (List ℕ)) (v block : List ℕ) → IsVector v → half 0 v ≡ block → half 1 v ≡ block
    → ((p j k : ℕ) → p < 32 → j < 8 → k < 8 → bit_of planes p j k ≡ bit_at (slice_index v p) k)
    → blocks_of planes ≡ replicate 16 block
repeated_blocks planes v block h low high same =
    let e : (a j : ℕ) → a < 2 → j < 8 → state_of (λ p. byte_of planes (16 * a + p) j) ≡ half a v = λ a j la lj. block_is planes v a j la h (λ p k lp lk. same p j k lp lj lk) in
    let e0 = e 0 0 (omega arith) (omega arith) ∙ low in let e1 = e 1 0 (omega arith) (omega arith) ∙ high in
    let e2 = e 0 1 (omega arith) (omega arith) ∙ low in let e3 = e 1 1 (omega arith) (omega arith) ∙ high in
    let e4 = e 0 2 (omega arith) (omega arith) ∙ low in let e5 = e 1 2 (omega arith) (omega arith) ∙ high in
    let e6 = e 0 3 (omega arith) (omega arith) ∙ low in let e7 = e 1 3 (omega arith) (omega arith) ∙ high in
    let e8 = e 0 4 (omega arith) (omega arith) ∙ low in let e9 = e 1 4 (omega arith) (omega arith) ∙ high in
    let e10 = e 0 5 (omega arith) (omega arith) ∙ low in let e11 = e 1 5 (omega arith) (omega arith) ∙ high in
    let e12 = e 0 6 (omega arith) (omega arith) ∙ low in let e13 = e 1 6 (omega arith) (omega arith) ∙ high in
    let e14 = e 0 7 (omega arith) (omega arith) ∙ low in let e15 = e 1 7 (omega arith) (omega arith) ∙ high in
    λ i. e0 i ∷ e1 i ∷ e2 i ∷ e3 i ∷ e4 i ∷ e5 i ∷ e6 i ∷ e7 i ∷ e8 i ∷ e9 i ∷ e10 i ∷ e11 i ∷ e12 i ∷ e13 i ∷ e14 i ∷ e15 i ∷ []
