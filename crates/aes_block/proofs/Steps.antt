-- SubBytes, ShiftRows and AddRoundKey on planes, block by block, and sums.
use Rattle.std.proofs.Common.{◌≡◌, ℕ, suc, ◌+◌, ◌*◌, ◌/◌, ◌%◌, ◌<◌, List, [], bit_xor, get_or, map, replicate, slice_index, slice_index_or, sym, ap, ◌∙◌, arith}
use Rattle.std.proofs.lemmas.List.{get_or-map, get_or-replicate}
use Rattle.std.proofs.lemmas.List.FromFn.{get_or-map-range_with_len}
use Rattle.std.proofs.lemmas.Nat.Bits.{bit_at-lt}
use Rattle.std.specs.Int.{bit_at}
use Rattle.std.specs.Simd.Lanes.{zip2}
use Rattle.aes_block.specs.Cipher.{add_round_key, mix_columns, round_key, rounds, shift_rows, state_of, sub_byte, sub_bytes}
use Rattle.aes_block.specs.Circuit.{vectors}
use Rattle.aes_block.specs.Planes.{AreVectors, bit_of, blocks_of, byte_of, first, repeated_keys, shifted_row, shuffled, sums}
use Rattle.aes_block.proofs.Bytes.{of_bits-sum, of_bits_same}
use Rattle.aes_block.proofs.BitsSBox.{s_box, s_box_bytes}
use Rattle.aes_block.proofs.Lanes.{first_at, lane_bit, shuffled_lane, shuffled_vector, sum_bit, xor_below, zip_vector}
use Rattle.aes_block.proofs.Blocks.{blocks_mapped, state_byte, state_same}

-- ---- SubBytes

pub sub_blocks : (planes : List (List ℕ)) → AreVectors planes → blocks_of (s_box vectors (first 8 planes)) ≡ map sub_bytes (blocks_of planes)
sub_blocks planes h = blocks_mapped sub_bytes (s_box vectors (first 8 planes)) planes
    (λ a j la lj. state_same _ (λ p. sub_byte (byte_of planes (16 * a + p) j)) (λ p lp. s_box_bytes planes (16 * a + p) j (omega arith) lj h))

-- ---- shuffles of each plane

abbrev pub all_shuffled : (ℕ → ℕ) → List (List ℕ) → List (List ℕ)
all_shuffled f planes = map (shuffled f) (first 8 planes)

plane_shuffled : (f : ℕ → ℕ) (planes : List (List ℕ)) (k : ℕ) → k < 8 → slice_index_or (all_shuffled f planes) k [] ≡ shuffled f (slice_index_or planes k [])
plane_shuffled f planes k lt = get_or-map (shuffled f) (first 8 planes) k [] [] (omega arith) ∙ ap (shuffled f) (first_at 8 planes k lt)

pub shuffled_vectors : (f : ℕ → ℕ) (planes : List (List ℕ)) → ((p : ℕ) → p < 32 → f p < 32) → AreVectors planes → AreVectors (all_shuffled f planes)
shuffled_vectors f planes within h k lt = rw (plane_shuffled f planes k lt) (shuffled_vector f within (slice_index_or planes k []) (h k lt))

pub shuffled_bytes : (f : ℕ → ℕ) (planes : List (List ℕ)) (p j : ℕ) → p < 32 → byte_of (all_shuffled f planes) p j ≡ byte_of planes (f p) j
shuffled_bytes f planes p j lp = of_bits_same (bit_of (all_shuffled f planes) p j) (bit_of planes (f p) j)
    (λ k lk. ap (lane_bit p j) (plane_shuffled f planes k lk) ∙ ap (λ n. bit_at n j) (shuffled_lane f (slice_index_or planes k []) p lp))

-- ---- ShiftRows

pub shift_blocks : (planes : List (List ℕ)) → blocks_of (all_shuffled shifted_row planes) ≡ map shift_rows (blocks_of planes)
shift_blocks planes = blocks_mapped shift_rows (all_shuffled shifted_row planes) planes
    (λ a j la lj. state_same _ (λ p. byte_of planes (16 * a + 5 * p % 16) j) (λ p lp.
    let place : shifted_row (16 * a + p) ≡ 16 * a + 5 * p % 16 = omega arith in
    shuffled_bytes shifted_row planes (16 * a + p) j (omega arith) ∙ ap (λ q. byte_of planes q j) place))

-- ---- sums

plane_sum : (vs ws : List (List ℕ)) (k : ℕ) → k < 8 → slice_index_or (sums vs ws) k [] ≡ zip2 bit_xor (slice_index_or vs k []) (slice_index_or ws k [])
plane_sum vs ws k lt = get_or-map-range_with_len (λ k. zip2 bit_xor (slice_index_or vs k []) (slice_index_or ws k [])) 0 8 k k [] lt (omega arith)

pub sum_vectors : (vs ws : List (List ℕ)) → AreVectors vs → AreVectors ws → AreVectors (sums vs ws)
sum_vectors vs ws hv hw k lt = rw (plane_sum vs ws k lt) (zip_vector bit_xor xor_below _ _ (hv k lt) (hw k lt))

pub sum_bytes : (vs ws : List (List ℕ)) (p j : ℕ) → p < 32 → AreVectors vs → AreVectors ws → byte_of (sums vs ws) p j ≡ bit_xor (byte_of vs p j) (byte_of ws p j)
sum_bytes vs ws p j lp hv hw =
    of_bits_same (bit_of (sums vs ws) p j) (λ k. (bit_of vs p j k + bit_of ws p j k) % 2)
    (λ k lk. ap (lane_bit p j) (plane_sum vs ws k lk) ∙ sum_bit _ _ p j (hv k lk) (hw k lk) lp)
    ∙ of_bits-sum (bit_of vs p j) (bit_of ws p j) (λ k. bit_at-lt (slice_index (slice_index_or vs k []) p) j)
    (λ k. bit_at-lt (slice_index (slice_index_or ws k []) p) j)

-- ---- AddRoundKey

key_byte : (keys : List (List ℕ)) (key : List ℕ) (p a j : ℕ) → p < 16 → a < 2 → j < 8 → blocks_of keys ≡ replicate 16 key → byte_of keys (16 * a + p) j ≡ slice_index key p
key_byte keys key p a j lp la lj e =
    let b : ℕ = 2 * j + a in
    let lb : b < 16 = omega arith in
    let parity : b % 2 ≡ a = omega arith in
    let place : b / 2 ≡ j = omega arith in
    sym ((λ i. byte_of keys (16 * parity i + p) (place i)))
    ∙ sym (state_byte (λ p. byte_of keys (16 * (b % 2) + p) (b / 2)) p lp)
    ∙ ap (λ s. slice_index s p) (sym (get_or-map-range_with_len (λ b. state_of (λ p. byte_of keys (16 * (b % 2) + p) (b / 2))) 0 16 b b [] lb (omega arith))
    ∙ ap (λ l. slice_index_or l b []) e ∙ get_or-replicate 16 b key [] lb)

pub add_blocks : (planes keys : List (List ℕ)) (w : List ℕ) (r : ℕ) → AreVectors planes → AreVectors keys → blocks_of keys ≡ replicate 16 (round_key w r)
    → blocks_of (sums planes keys) ≡ map (add_round_key w r) (blocks_of planes)
add_blocks planes keys w r hp hk e = blocks_mapped (add_round_key w r) (sums planes keys) planes
    (λ a j la lj. state_same _ (λ p. bit_xor (byte_of planes (16 * a + p) j) (slice_index (round_key w r) p))
    (λ p lp. sum_bytes planes keys (16 * a + p) j (omega arith) hp hk ∙ ap (bit_xor (byte_of planes (16 * a + p) j)) (key_byte keys (round_key w r) p a j lp la lj e)))

-- ---- rounds

pub key_at : (w : List ℕ) (keys : List (List (List ℕ))) (r : ℕ) (d : List (List ℕ)) → keys ≡ repeated_keys w → r < 15 → get_or keys r d ≡ replicate 16 (round_key w r)
key_at w keys r d e lt = ap (λ l. get_or l r d) e ∙ get_or-map-range_with_len (λ r. replicate 16 (round_key w r)) 0 15 r r d lt (omega arith)

pub rounds_next : (w block : List ℕ) (n : ℕ) → rounds w block (n + 1) ≡ add_round_key w (n + 1) (mix_columns (shift_rows (sub_bytes (rounds w block n))))
unfolding rounds
rounds_next w block n =
    let e : n + 1 ≡ suc n = omega arith in
    ap (rounds w block) e
