-- SubBytes and xtime as circuits: right on all bytes, and so on planes.
use Rattle.std.proofs.Common.{◌≡◌, ℕ, ◌<◌, ◌==◌, Bool, true, List, [], ◌∷◌, ◌++◌, get_or, length, map, slice_index, slice_index_or, refl, sym, ap, ◌∙◌, arith}
use Rattle.std.proofs.lemmas.Bool.{eqb-true}
use Rattle.std.proofs.lemmas.List.{get_or-map, length-map, map-append}
use Rattle.std.proofs.lemmas.Nat.Bits.{bit_at-lt}
use Rattle.std.specs.Int.{bit_at}
use Rattle.std.specs.List.{range_with_len}
use Rattle.std.specs.Simd.Lanes.{Each1}
use Rattle.aes_block.specs.Cipher.{of_bits, sub_byte}
use Rattle.aes_block.specs.Field.{inverse, times, xtime}
use Rattle.aes_block.proofs.SubByte.{all_below, all_below_at}
use Rattle.aes_block.specs.Circuit.{Circuit, Wires, bits, run, through, vectors}
use Rattle.aes_block.specs.Planes.{AreVectors, IsVector, bit_of, byte_of, first}
use Rattle.aes_block.specs.SBox.{doubling, input_sums, norm, norm_inverse, output_sums, products}
use Rattle.aes_block.proofs.Bytes.{bit_at-of_bits, of_bits-lt, of_bits_same}
use Rattle.aes_block.proofs.Circuits.{each_append, through_bits, through_vectors}
use Rattle.aes_block.proofs.Lanes.{first_all, first_vectors, lane_bit}

-- what the sums of the input become
abbrev from_sums : {A : Type 0} → Wires A → List A → List A
from_sums on y = through on output_sums (through on products (y ++ through on norm_inverse (through on norm y)))

-- the S-box
abbrev pub s_box : {A : Type 0} → Wires A → List A → List A
s_box on x = from_sums on (through on input_sums x)

-- ---- on the bits of a byte

abbrev pub byte_bits : ℕ → List ℕ
byte_bits b = map (bit_at b) (range_with_len 0 8)

abbrev gates_are_right : ℕ → Bool
gates_are_right b = of_bits (slice_index (s_box bits (byte_bits b))) == sub_byte b

s_box_right : all_below gates_are_right 256 ≡ true
unfolding times inverse sub_byte
s_box_right = refl

abbrev is_doubled : ℕ → Bool
is_doubled b = of_bits (slice_index (through bits doubling (byte_bits b))) == xtime b

doubling_right : all_below is_doubled 256 ≡ true
doubling_right = refl

-- ---- on planes

-- what makes out of eight planes, and of the bits of a byte in the same way, a function of bytes
plane_bytes : (vs : List (List ℕ)) (on_bits : List ℕ → List ℕ) (f : ℕ → ℕ) (planes : List (List ℕ)) (p j : ℕ) → length vs ≡ 8
    → map (lane_bit p j) vs ≡ on_bits (map (lane_bit p j) (first 8 planes))
    → ((b : ℕ) → b < 256 → of_bits (slice_index (on_bits (byte_bits b))) ≡ f b) → byte_of vs p j ≡ f (byte_of planes p j)
plane_bytes vs on_bits f planes p j len same right =
    let b : ℕ = byte_of planes p j in
    let small : (k : ℕ) → bit_of planes p j k < 2 = λ k. bit_at-lt (slice_index (slice_index_or planes k []) p) j in
    let at : (k : ℕ) → k < 8 → bit_at b k ≡ bit_of planes p j k = bit_at-of_bits (bit_of planes p j) small in
    let e0 = at 0 (omega arith) in let e1 = at 1 (omega arith) in let e2 = at 2 (omega arith) in let e3 = at 3 (omega arith) in
    let e4 = at 4 (omega arith) in let e5 = at 5 (omega arith) in let e6 = at 6 (omega arith) in let e7 = at 7 (omega arith) in
    let given : byte_bits b ≡ map (lane_bit p j) (first 8 planes) = λ i. e0 i ∷ e1 i ∷ e2 i ∷ e3 i ∷ e4 i ∷ e5 i ∷ e6 i ∷ e7 i ∷ [] in
    of_bits_same (bit_of vs p j) (slice_index (on_bits (byte_bits b)))
    (λ k lt. sym (get_or-map (lane_bit p j) vs k [] 0 (omega (arith, len)))
    ∙ (λ i. slice_index (same i) k) ∙ sym (λ i. slice_index (on_bits (given i)) k))
    ∙ right b (of_bits-lt (bit_of planes p j) small)

from_sums_bits : (y : List (List ℕ)) (p j : ℕ) → p < 32 → j < 8 → Each1 IsVector y
    → map (lane_bit p j) (from_sums vectors y) ≡ from_sums bits (map (lane_bit p j) y)
from_sums_bits y p j lp lj h =
    let bits_of : List (List ℕ) → List ℕ = map (lane_bit p j) in
    let n : List (List ℕ) = through vectors norm y in
    let t : List (List ℕ) = through vectors norm_inverse n in
    let hn = through_vectors norm y h in
    let ht = through_vectors norm_inverse n hn in
    let hyt = each_append IsVector y t h ht in
    let et : bits_of t ≡ through bits norm_inverse (through bits norm (bits_of y)) =
    through_bits norm_inverse n p j lp lj hn ∙ ap (through bits norm_inverse) (through_bits norm y p j lp lj h) in
    through_bits output_sums (through vectors products (y ++ t)) p j lp lj (through_vectors products (y ++ t) hyt)
    ∙ ap (through bits output_sums) (through_bits products (y ++ t) p j lp lj hyt
    ∙ ap (through bits products) (map-append (lane_bit p j) y t ∙ ap (λ bs. bits_of y ++ bs) et))

from_sums_vectors : (y : List (List ℕ)) → Each1 IsVector y → Each1 IsVector (from_sums vectors y)
from_sums_vectors y h =
    let n : List (List ℕ) = through vectors norm y in
    let t : List (List ℕ) = through vectors norm_inverse n in
    through_vectors output_sums (through vectors products (y ++ t))
    (through_vectors products (y ++ t) (each_append IsVector y t h (through_vectors norm_inverse n (through_vectors norm y h))))

pub s_box_vectors : (planes : List (List ℕ)) → AreVectors planes → Each1 IsVector (s_box vectors (first 8 planes))
s_box_vectors planes h =
    from_sums_vectors (through vectors input_sums (first 8 planes)) (through_vectors input_sums (first 8 planes) (first_vectors planes h))

pub s_box_bytes : (planes : List (List ℕ)) (p j : ℕ) → p < 32 → j < 8 → AreVectors planes
    → byte_of (s_box vectors (first 8 planes)) p j ≡ sub_byte (byte_of planes p j)
s_box_bytes planes p j lp lj h =
    let x : List (List ℕ) = first 8 planes in
    let hx = first_vectors planes h in
    plane_bytes (s_box vectors x) (s_box bits) sub_byte planes p j refl
    (from_sums_bits (through vectors input_sums x) p j lp lj (through_vectors input_sums x hx)
    ∙ ap (from_sums bits) (through_bits input_sums x p j lp lj hx))
    (λ b lt. eqb-true _ _ (all_below_at gates_are_right 256 b s_box_right lt))

pub doubling_bytes : (planes : List (List ℕ)) (p j : ℕ) → p < 32 → j < 8 → AreVectors planes
    → byte_of (through vectors doubling (first 8 planes)) p j ≡ xtime (byte_of planes p j)
doubling_bytes planes p j lp lj h =
    plane_bytes (through vectors doubling (first 8 planes)) (through bits doubling) xtime planes p j refl
    (through_bits doubling (first 8 planes) p j lp lj (first_vectors planes h))
    (λ b lt. eqb-true _ _ (all_below_at is_doubled 256 b doubling_right lt))

-- ---- from the parts of the circuit

first_through : (c : Circuit) (n : ℕ) (ws vs : List (List ℕ)) → length c.outputs ≡ n → vs ≡ through vectors c ws → first n vs ≡ through vectors c ws
first_through c n ws vs len e = ap (first n) e ∙ first_all n (through vectors c ws) (length-map c.outputs (λ k. get_or (run vectors c.gates ws) k vectors.none) ∙ len)

pub joined : (x y n t z out : List (List ℕ)) → y ≡ through vectors input_sums x → n ≡ through vectors norm (first 22 y)
    → t ≡ through vectors norm_inverse (first 4 n) → z ≡ through vectors products (first 22 y ++ first 9 t)
    → out ≡ through vectors output_sums (first 18 z) → out ≡ s_box vectors x
joined x y n t z out ey en et ez eo =
    let sums : List (List ℕ) = through vectors input_sums x in
    let fy = first_through input_sums 22 x y refl ey in
    let fn = first_through norm 4 sums n refl (en ∙ ap (through vectors norm) fy) in
    let ft = first_through norm_inverse 9 (through vectors norm sums) t refl (et ∙ ap (through vectors norm_inverse) fn) in
    let both : first 22 y ++ first 9 t ≡ sums ++ through vectors norm_inverse (through vectors norm sums) = λ i. fy i ++ ft i in
    let fz = first_through products 18 (sums ++ through vectors norm_inverse (through vectors norm sums)) z refl (ez ∙ ap (through vectors products) both) in
    eo ∙ ap (through vectors output_sums) fz
