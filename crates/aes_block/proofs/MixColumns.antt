-- MixColumns on planes, block by block.
use Rattle.std.proofs.Common.{◌≡◌, ℕ, ◌+◌, ◌*◌, ◌<◌, List, bit_xor, map, sym, ap, ◌∙◌, arith}
use lib.Bits.{xor_assoc}
use Rattle.aes_block.specs.Cipher.{mix_columns}
use Rattle.aes_block.specs.Field.{times, xtime}
use Rattle.aes_block.proofs.Xor.{mixed_short}
use Rattle.aes_block.specs.Circuit.{through, vectors}
use Rattle.aes_block.specs.Planes.{AreVectors, blocks_of, byte_of, first, next_row, opposite_row, sums}
use Rattle.aes_block.specs.SBox.{doubling}
use Rattle.aes_block.proofs.Circuits.{through_vectors}
use Rattle.aes_block.proofs.BitsSBox.{doubling_bytes}
use Rattle.aes_block.proofs.Lanes.{are_vectors, first_vectors}
use Rattle.aes_block.proofs.Blocks.{blocks_mapped, byte_below, state_same}
use Rattle.aes_block.proofs.Steps.{all_shuffled, shuffled_bytes, shuffled_vectors, sum_bytes, sum_vectors}

abbrev both : List (List ℕ) → List (List ℕ)
both planes = sums planes (all_shuffled next_row planes)

abbrev twice : List (List ℕ) → List (List ℕ)
twice planes = through vectors doubling (first 8 planes)

abbrev pub mixed_planes : List (List ℕ) → List (List ℕ)
mixed_planes planes = sums (sums (twice (both planes)) (all_shuffled next_row planes)) (all_shuffled opposite_row (both planes))

next_within : (p : ℕ) → p < 32 → next_row p < 32
next_within p lt = omega arith

opposite_within : (p : ℕ) → p < 32 → opposite_row p < 32
opposite_within p lt = omega arith

both_vectors : (planes : List (List ℕ)) → AreVectors planes → AreVectors (both planes)
both_vectors planes h = sum_vectors planes (all_shuffled next_row planes) h (shuffled_vectors next_row planes next_within h)

twice_vectors : (planes : List (List ℕ)) → AreVectors planes → AreVectors (twice planes)
twice_vectors planes h = are_vectors (twice planes) (omega arith) (through_vectors doubling (first 8 planes) (first_vectors planes h))

first_sum_vectors : (planes : List (List ℕ)) → AreVectors planes → AreVectors (sums (twice (both planes)) (all_shuffled next_row planes))
first_sum_vectors planes h =
    sum_vectors (twice (both planes)) (all_shuffled next_row planes) (twice_vectors (both planes) (both_vectors planes h)) (shuffled_vectors next_row planes next_within h)

opposite_vectors : (planes : List (List ℕ)) → AreVectors planes → AreVectors (all_shuffled opposite_row (both planes))
opposite_vectors planes h = shuffled_vectors opposite_row (both planes) opposite_within (both_vectors planes h)

pub mixed_vectors : (planes : List (List ℕ)) → AreVectors planes → AreVectors (mixed_planes planes)
mixed_vectors planes h =
    sum_vectors (sums (twice (both planes)) (all_shuffled next_row planes)) (all_shuffled opposite_row (both planes)) (first_sum_vectors planes h) (opposite_vectors planes h)

both_bytes : (planes : List (List ℕ)) (p j : ℕ) → p < 32 → AreVectors planes → byte_of (both planes) p j ≡ bit_xor (byte_of planes p j) (byte_of planes (next_row p) j)
both_bytes planes p j lp h =
    sum_bytes planes (all_shuffled next_row planes) p j lp h (shuffled_vectors next_row planes next_within h)
    ∙ ap (bit_xor (byte_of planes p j)) (shuffled_bytes next_row planes p j lp)

mixed_bytes : (planes : List (List ℕ)) (p j : ℕ) → p < 32 → j < 8 → AreVectors planes
    → byte_of (mixed_planes planes) p j
    ≡ bit_xor (bit_xor (bit_xor (times 2 (byte_of planes p j)) (times 3 (byte_of planes (next_row p) j))) (byte_of planes (opposite_row p) j)) (byte_of planes (next_row (opposite_row p)) j)
mixed_bytes planes p j lp lj h =
    let a : ℕ = byte_of planes p j in
    let b : ℕ = byte_of planes (next_row p) j in
    let c : ℕ = byte_of planes (opposite_row p) j in
    let d : ℕ = byte_of planes (next_row (opposite_row p)) j in
    let doubled : byte_of (twice (both planes)) p j ≡ xtime (bit_xor a b) =
    doubling_bytes (both planes) p j lp lj (both_vectors planes h) ∙ ap xtime (both_bytes planes p j lp h) in
    let low : byte_of (sums (twice (both planes)) (all_shuffled next_row planes)) p j ≡ bit_xor (xtime (bit_xor a b)) b =
    sum_bytes (twice (both planes)) (all_shuffled next_row planes) p j lp (twice_vectors (both planes) (both_vectors planes h)) (shuffled_vectors next_row planes next_within h)
    ∙ (λ i. bit_xor (doubled i) (shuffled_bytes next_row planes p j lp i)) in
    let high : byte_of (all_shuffled opposite_row (both planes)) p j ≡ bit_xor c d =
    shuffled_bytes opposite_row (both planes) p j lp ∙ both_bytes planes (opposite_row p) j (opposite_within p lp) h in
    sum_bytes (sums (twice (both planes)) (all_shuffled next_row planes)) (all_shuffled opposite_row (both planes)) p j lp (first_sum_vectors planes h) (opposite_vectors planes h)
    ∙ (λ i. bit_xor (low i) (high i)) ∙ sym (xor_assoc (bit_xor (xtime (bit_xor a b)) b) c d)
    ∙ mixed_short a b c d (byte_below planes p j) (byte_below planes (next_row p) j)

pub mix_blocks : (planes : List (List ℕ)) → AreVectors planes → blocks_of (mixed_planes planes) ≡ map mix_columns (blocks_of planes)
mix_blocks planes h = blocks_mapped mix_columns (mixed_planes planes) planes
    (λ a j la lj. state_same _
    (λ p. bit_xor (bit_xor (bit_xor (times 2 (byte_of planes (16 * a + p) j)) (times 3 (byte_of planes (16 * a + next_row p) j))) (byte_of planes (16 * a + opposite_row p) j)) (byte_of planes (16 * a + next_row (opposite_row p)) j))
    (λ p lp.
    let q : ℕ = 16 * a + p in
    let next : next_row q ≡ 16 * a + next_row p = omega arith in
    let opposite : opposite_row q ≡ 16 * a + opposite_row p = omega arith in
    let last : next_row (opposite_row q) ≡ 16 * a + next_row (opposite_row p) = omega arith in
    mixed_bytes planes q j (omega arith) lj h
    ∙ (λ i. bit_xor (bit_xor (bit_xor (times 2 (byte_of planes q j)) (times 3 (byte_of planes (next i) j))) (byte_of planes (opposite i) j)) (byte_of planes (last i) j))))

-- from the parts of the code
pub mix_joined : (planes next added doubled low opposite out : List (List ℕ)) → next ≡ all_shuffled next_row planes → added ≡ sums planes next → doubled ≡ twice added
    → low ≡ sums doubled next → opposite ≡ all_shuffled opposite_row added → out ≡ sums low opposite → out ≡ mixed_planes planes
mix_joined planes next added doubled low opposite out en ea ed el eo ew =
    let fa : added ≡ both planes = ea ∙ ap (sums planes) en in
    let fl : low ≡ sums (twice (both planes)) (all_shuffled next_row planes) = el ∙ (λ i. sums ((ed ∙ ap twice fa) i) (en i)) in
    ew ∙ (λ i. sums (fl i) ((eo ∙ ap (all_shuffled opposite_row) fa) i))
