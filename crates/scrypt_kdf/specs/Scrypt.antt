-- scryptBlockMix, scryptROMix and scrypt (RFC 7914, sections 4 to 6), on lists of bytes.
use Rattle.std.specs.Prelude.{ℕ, zero, suc, ◌+◌, ◌-◌, ◌*◌, ◌%◌, List, [], ◌∷◌, ◌++◌, map, bit_xor, slice_range, slice_index_or}
use Rattle.std.specs.List.{flat_map, range_with_len}
use Rattle.std.specs.Simd.Lanes.{zip2}
use Rattle.scrypt_kdf.specs.Cost.{Cost}
use Rattle.scrypt_kdf.specs.Pbkdf2.{pbkdf2}
use Rattle.scrypt_kdf.specs.Salsa.{salsa20_8}

-- X XOR Y, byte by byte
abbrev pub xor_bytes : List ℕ → List ℕ → List ℕ
xor_bytes x y = zip2 bit_xor x y

-- part i of a list, in parts of len bytes
abbrev pub part : ℕ → List ℕ → ℕ → List ℕ
part len b i = slice_range b (len * i) (len * i + len)

-- f 0 || .. || f (n - 1)
abbrev pub joined : (ℕ → List ℕ) → ℕ → List ℕ
joined f n = flat_map f (range_with_len 0 n)

-- ---- scryptBlockMix (section 4), on B = B[0] || .. || B[2 * r - 1], 64 bytes each

-- B[2 * r - 1]
abbrev pub last_block : ℕ → List ℕ → List ℕ
last_block r b = part 64 b (2 * r - 1)

-- X after n turns: it begins as B[2 * r - 1], and turn i makes it Salsa (X xor B[i]) (steps 1 and 2)
unfoldable pub chained : ℕ → List ℕ → ℕ → List ℕ
chained r b zero = last_block r b
chained r b (suc n) = salsa20_8 (xor_bytes (chained r b n) (part 64 b n))

-- Y[i], which is X after turn i (step 2)
abbrev pub mix_output : ℕ → List ℕ → ℕ → List ℕ
mix_output r b i = chained r b (i + 1)

-- B' = (Y[0], Y[2], .., Y[2 * r - 2], Y[1], Y[3], .., Y[2 * r - 1]) (step 3)
unfoldable pub block_mix : ℕ → List ℕ → List ℕ
block_mix r b = joined (λ i. mix_output r b (2 * i)) r ++ joined (λ i. mix_output r b (2 * i + 1)) r

-- ---- scryptROMix (section 5)

-- X after n turns of the first loop, which is V[n] (step 2)
unfoldable pub iterate : ℕ → List ℕ → ℕ → List ℕ
iterate r b zero = b
iterate r b (suc i) = block_mix r (iterate r b i)

-- V[0], .., V[N - 1] (step 2)
abbrev pub iterates : ℕ → ℕ → List ℕ → List (List ℕ)
iterates r n b = map (iterate r b) (range_with_len 0 n)

-- the number that bytes are, low byte first
abbrev pub little_endian : List ℕ → ℕ
little_endian [] = 0
little_endian (b ∷ bs) = b + 256 * little_endian bs

-- Integerify: the last block as a number (step 3)
abbrev pub integerify : ℕ → List ℕ → ℕ
integerify r x = little_endian (last_block r x)

-- one turn of the second loop: X = scryptBlockMix (X xor V[j]), where j = Integerify (X) mod N (step 3)
abbrev pub looked_up : ℕ → ℕ → List (List ℕ) → List ℕ → List ℕ
looked_up r n v x = block_mix r (xor_bytes x (slice_index_or v (integerify r x % n) []))

-- X after n of these turns
unfoldable pub turned : ℕ → ℕ → List (List ℕ) → List ℕ → ℕ → List ℕ
turned r n v x zero = x
turned r n v x (suc i) = looked_up r n v (turned r n v x i)

-- scryptROMix (r, B, N)
unfoldable pub ro_mix : ℕ → List ℕ → ℕ → List ℕ
ro_mix r b n = turned r n (iterates r n b) (iterate r b n) n

-- ---- scrypt (section 6)

-- each B[i] of 128 * r bytes becomes scryptROMix (r, B[i], N) (step 2)
abbrev pub mixed_parts : Cost → List ℕ → List ℕ
mixed_parts cost b = joined (λ i. ro_mix cost.r (part (128 * cost.r) b i) cost.n) cost.p

-- scrypt (P, S, N, r, p, dkLen) (steps 1 to 3)
unfoldable pub scrypt : List ℕ → List ℕ → Cost → ℕ → List ℕ
scrypt password salt cost len =
    pbkdf2 password (mixed_parts cost (pbkdf2 password salt (128 * cost.r * cost.p))) len
