-- Bits that change places between two lanes.
use Rattle.std.specs.Prelude.{ℕ, ◌+◌, ◌-◌, ◌/◌, ◌%◌, ◌==◌, Bool, List, map, slice_index, if◌then◌else◌}
use Rattle.std.specs.Int.{bit_at}
use Rattle.std.specs.List.{range_with_len}

-- the bits of lane p of a vector
abbrev pub lane_bits : List ℕ → ℕ → List ℕ
lane_bits v p = map (bit_at (slice_index v p)) (range_with_len 0 8)

-- whether place i is in the lower of two groups of s places
abbrev pub is_low : ℕ → ℕ → Bool
is_low s i = i / s % 2 == 0

-- the bits of a mask, and those of the masks of low and of high places
abbrev pub mask_bits : ℕ → List ℕ
mask_bits m = map (bit_at m) (range_with_len 0 8)

abbrev pub low_places : ℕ → List ℕ
low_places s = map (λ i. if is_low s i then 1 else 0) (range_with_len 0 8)

abbrev pub high_places : ℕ → List ℕ
high_places s = map (λ i. if is_low s i then 0 else 1) (range_with_len 0 8)

-- the bits of x at low places, and those of y from the low places at the high ones
abbrev pub low_swapped : ℕ → List ℕ → List ℕ → List ℕ
low_swapped s x y = map (λ i. if is_low s i then slice_index x i else slice_index y (i - s)) (range_with_len 0 8)

-- the bits of x from the high places at the low ones, and those of y at high places
abbrev pub high_swapped : ℕ → List ℕ → List ℕ → List ℕ
high_swapped s x y = map (λ i. if is_low s i then slice_index x (i + s) else slice_index y i) (range_with_len 0 8)
