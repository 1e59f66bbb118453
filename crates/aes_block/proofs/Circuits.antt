-- A circuit on vectors, bit by bit.
use Rattle.std.proofs.Common.{◌≡◌, ℕ, zero, suc, ◌+◌, ◌%◌, ◌<◌, min, List, [], ◌∷◌, ◌++◌, get_or, map, refl, ap, ◌∙◌, arith}
use Rattle.std.proofs.lemmas.List.{map-append}
use Rattle.std.proofs.lemmas.Nat.Bits.{bit_at-zero}
use Rattle.std.specs.Simd.Lanes.{Each1}
use Rattle.aes_block.specs.Circuit.{Circuit, Flip, Gate, Product, Sum, bits, chosen, made, run, through, vectors}
use Rattle.aes_block.specs.Planes.{IsVector}
use Rattle.aes_block.proofs.Lanes.{and_below, flip_bit, lane_bit, product_bit, splat_bit, splat_vector, sum_bit, xor_below, zip_vector}

pub each_append : {X : Type 0} (P : X → Type 0) (xs ys : List X) → Each1 P xs → Each1 P ys → Each1 P (xs ++ ys)
each_append P [] ys hx hy = hy
each_append P (x ∷ xs) ys hx hy = (hx.0, each_append P xs ys hx.1 hy)

-- ---- wires that hold vectors

wire_vector : (ws : List (List ℕ)) (a : ℕ) → Each1 IsVector ws → IsVector (get_or ws a vectors.none)
wire_vector [] a h = splat_vector 0 (omega arith)
wire_vector (w ∷ ws) zero h = h.0
wire_vector (w ∷ ws) (suc a) h = wire_vector ws a h.1

made_vector : (g : Gate) (ws : List (List ℕ)) → Each1 IsVector ws → IsVector (made vectors g ws)
made_vector (Sum a b) ws h = zip_vector _ xor_below _ _ (wire_vector ws a h) (wire_vector ws b h)
made_vector (Product a b) ws h = zip_vector _ and_below _ _ (wire_vector ws a h) (wire_vector ws b h)
made_vector (Flip a) ws h = zip_vector _ xor_below _ _ (wire_vector ws a h) (splat_vector 255 (omega arith))

more_vectors : (g : Gate) (ws : List (List ℕ)) → Each1 IsVector ws → Each1 IsVector (ws ++ made vectors g ws ∷ [])
more_vectors g ws h = each_append IsVector ws _ h (made_vector g ws h, tt)

run_vectors : (gs : List Gate) (ws : List (List ℕ)) → Each1 IsVector ws → Each1 IsVector (run vectors gs ws)
run_vectors [] ws h = h
run_vectors (g ∷ gs) ws h = run_vectors gs (ws ++ made vectors g ws ∷ []) (more_vectors g ws h)

chosen_vectors : (ws : List (List ℕ)) (ks : List ℕ) → Each1 IsVector ws → Each1 IsVector (chosen vectors ws ks)
chosen_vectors ws [] h = tt
chosen_vectors ws (k ∷ ks) h = (wire_vector ws k h, chosen_vectors ws ks h)

pub through_vectors : (c : Circuit) (ws : List (List ℕ)) → Each1 IsVector ws → Each1 IsVector (through vectors c ws)
through_vectors c ws h = chosen_vectors (run vectors c.gates ws) c.outputs (run_vectors c.gates ws h)

-- ---- bit j of lane p of each wire

wire_bit : (ws : List (List ℕ)) (a p j : ℕ) → p < 32 → lane_bit p j (get_or ws a vectors.none) ≡ get_or (map (lane_bit p j) ws) a 0
wire_bit [] a p j lt = splat_bit 0 p j lt ∙ bit_at-zero j
wire_bit (w ∷ ws) zero p j lt = refl
wire_bit (w ∷ ws) (suc a) p j lt = wire_bit ws a p j lt

made_bit : (g : Gate) (ws : List (List ℕ)) (p j : ℕ) → p < 32 → j < 8 → Each1 IsVector ws → lane_bit p j (made vectors g ws) ≡ made bits g (map (lane_bit p j) ws)
made_bit (Sum a b) ws p j lt lj h =
    sum_bit _ _ p j (wire_vector ws a h) (wire_vector ws b h) lt ∙ (λ i. (wire_bit ws a p j lt i + wire_bit ws b p j lt i) % 2)
made_bit (Product a b) ws p j lt lj h =
    product_bit _ _ p j (wire_vector ws a h) (wire_vector ws b h) lt ∙ (λ i. min (wire_bit ws a p j lt i) (wire_bit ws b p j lt i))
made_bit (Flip a) ws p j lt lj h =
    flip_bit _ p j (wire_vector ws a h) lt lj ∙ (λ i. (wire_bit ws a p j lt i + 1) % 2)

run_bits : (gs : List Gate) (ws : List (List ℕ)) (p j : ℕ) → p < 32 → j < 8 → Each1 IsVector ws
    → map (lane_bit p j) (run vectors gs ws) ≡ run bits gs (map (lane_bit p j) ws)
run_bits [] ws p j lt lj h = refl
run_bits (g ∷ gs) ws p j lt lj h =
    run_bits gs (ws ++ made vectors g ws ∷ []) p j lt lj (more_vectors g ws h)
    ∙ ap (run bits gs) (map-append (lane_bit p j) ws _ ∙ ap (λ b. map (lane_bit p j) ws ++ b ∷ []) (made_bit g ws p j lt lj h))

chosen_bits : (ws : List (List ℕ)) (ks : List ℕ) (p j : ℕ) → p < 32 → map (lane_bit p j) (chosen vectors ws ks) ≡ chosen bits (map (lane_bit p j) ws) ks
chosen_bits ws [] p j lt = refl
chosen_bits ws (k ∷ ks) p j lt = λ i. wire_bit ws k p j lt i ∷ chosen_bits ws ks p j lt i

pub through_bits : (c : Circuit) (ws : List (List ℕ)) (p j : ℕ) → p < 32 → j < 8 → Each1 IsVector ws
    → map (lane_bit p j) (through vectors c ws) ≡ through bits c (map (lane_bit p j) ws)
through_bits c ws p j lt lj h =
    chosen_bits (run vectors c.gates ws) c.outputs p j lt ∙ ap (λ bs. chosen bits bs c.outputs) (run_bits c.gates ws p j lt lj h)
