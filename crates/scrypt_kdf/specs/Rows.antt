-- A block as four vectors, and the steps of Salsa20/8 on them, lane by lane.
use Rattle.std.specs.Prelude.{ℕ, ◌+◌, ◌*◌, ◌%◌, List, [], ◌∷◌, drop, slice_index, take}
use Rattle.scrypt_kdf.specs.Salsa.{add32, mixed}

-- four lanes, by their places
abbrev pub lanes : (ℕ → ℕ) → List ℕ
lanes f = f 0 ∷ f 1 ∷ f 2 ∷ f 3 ∷ []

-- the four vectors of sixteen bytes of a block
abbrev pub quarter : List ℕ → ℕ → List ℕ
quarter b i = take 16 (drop (16 * i) b)

abbrev pub quarters : List ℕ → List (List ℕ)
quarters b = quarter b 0 ∷ quarter b 1 ∷ quarter b 2 ∷ quarter b 3 ∷ []

-- the four diagonals of sixteen words: 0, 5, 10, 15; 4, 9, 14, 3; 8, 13, 2, 7; 12, 1, 6, 11
abbrev pub diagonal : List ℕ → ℕ → List ℕ
diagonal x i = lanes (λ k. slice_index x (5 * (4 * i + k) % 16))

abbrev pub diagonals : List ℕ → List (List ℕ)
diagonals x = diagonal x 0 ∷ diagonal x 1 ∷ diagonal x 2 ∷ diagonal x 3 ∷ []

-- b ^ R(a + d, n) in each lane
abbrev pub mixed_lanes : ℕ → List ℕ → List ℕ → List ℕ → List ℕ
mixed_lanes n b a d = lanes (λ k. mixed n (slice_index b k) (slice_index a k) (slice_index d k))

abbrev pub lane_sums : List ℕ → List ℕ → List ℕ
lane_sums x y = lanes (λ k. add32 (slice_index x k) (slice_index y k))

-- the lanes, turned by n places
abbrev pub turned_lanes : ℕ → List ℕ → List ℕ
turned_lanes n x = lanes (λ k. slice_index x ((n + k) % 4))
