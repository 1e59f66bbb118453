-- Words with escapes, and the bytes that a word in hexadecimal stands for.
use Rattle.std.specs.Prelude.{ℕ, ◌+◌, ◌*◌, true, false, ◌&&◌, ◌==◌, cond, List, [], ◌∷◌, Option, Some, None}
use Rattle.std.specs.Result.{result_ok}
use Rattle.std.specs.Str.{bytes_eq}
use Rattle.std.specs.Char.{is_digit, digit_value}
use Rattle.hex.specs.Hex.{decode_of}

-- the byte that an escape's digits, of either case, stand for
abbrev pub byte_of : ℕ → ℕ → Option ℕ
byte_of high low = cond (is_digit high 16 && is_digit low 16) (Some (16 * digit_value high + digit_value low)) None

-- the byte in front of the bytes
abbrev pub with_byte : Option ℕ → Option (List ℕ) → Option (List ℕ)
with_byte (Some b) (Some bytes) = Some (b ∷ bytes)
with_byte _ _ = None

-- the byte of a backslash that `x` and two digits follow
abbrev pub escape_of : ℕ → ℕ → ℕ → Option ℕ
escape_of x high low = cond (x == 120) (byte_of high low) None

-- A backslash, `x` and two digits stand for a byte, each other byte for itself. A backslash that isn't
-- followed so stands for nothing.
unfoldable pub unescaped : List ℕ → Option (List ℕ)
unescaped [] = Some []
unescaped (c ∷ x ∷ high ∷ low ∷ rest) = elim (c == 92) [
  | true ↦ with_byte (escape_of x high low) (unescaped rest)
  | false ↦ with_byte (Some c) (unescaped (x ∷ high ∷ low ∷ rest))
]
unescaped (c ∷ rest) = elim (c == 92) [
  | true ↦ None
  | false ↦ with_byte (Some c) (unescaped rest)
]

-- `-` for no bytes, or two hexadecimal digits of either case for each
unfoldable pub bytes_of : List ℕ → Option (List ℕ)
bytes_of word = cond (bytes_eq word (45 ∷ [])) (Some []) (result_ok (decode_of word))
