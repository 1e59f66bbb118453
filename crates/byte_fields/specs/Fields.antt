-- Fields at the front of bytes: numbers, the lowest byte first, and bytes of a fixed number.
use Rattle.std.specs.Prelude.{◌≡◌, ◌<◌, ℕ, List, ◌++◌, length, take, drop, slice_index, Option, Some, None, nat_lt, if◌then◌else◌}
use Rattle.std.specs.Int.{Width, byte_len, to_le_bytes, from_le_bytes}

-- ---- a field, and the bytes behind it; nothing where there are too few

-- so many bytes
unfoldable pub front_at : ℕ → List ℕ → Option (List ℕ × List ℕ)
front_at n bytes = if nat_lt (length bytes) n then None else Some (take n bytes, drop n bytes)

-- a number of this width
unfoldable pub number_at : Width → List ℕ → Option (ℕ × List ℕ)
number_at w bytes = if nat_lt (length bytes) (byte_len w) then None else Some (from_le_bytes w (take (byte_len w) bytes), drop (byte_len w) bytes)

-- ---- their laws

abbrev pub IsBytes : List ℕ → Type 0
IsBytes bytes = (i : ℕ) → slice_index bytes i < 256

-- the numbers of this width are those below the limit
pub record AreNumbers (w : Width) (limit : ℕ) : Type 0 where
  -- each is written as so many bytes
  pub len : (n : ℕ) → length (to_le_bytes w n) ≡ byte_len w
  -- what is written is read, whatever follows it
  pub again : (n : ℕ) (rest : List ℕ) → n < limit → number_at w (to_le_bytes w n ++ rest) ≡ Some (n, rest)
  -- what is read was written so
  pub took : (bytes : List ℕ) (n : ℕ) (rest : List ℕ) → IsBytes bytes → number_at w bytes ≡ Some (n, rest) → (n < limit) × (bytes ≡ to_le_bytes w n ++ rest)
  -- no two are written alike
  pub one : (n m : ℕ) → n < limit → m < limit → to_le_bytes w n ≡ to_le_bytes w m → n ≡ m

-- the same of so many bytes
pub record AreFronts (n : ℕ) : Type 0 where
  pub again : (front rest : List ℕ) → length front ≡ n → front_at n (front ++ rest) ≡ Some (front, rest)
  pub took : (bytes front rest : List ℕ) → front_at n bytes ≡ Some (front, rest) → (length front ≡ n) × (bytes ≡ front ++ rest)
