-- HMAC over SHA-256 (RFC 2104), on lists of bytes.
use Rattle.std.specs.Prelude.{ℕ, ◌-◌, List, ◌++◌, length, map, replicate, bit_xor, nat_lt, if◌then◌else◌}
use Rattle.sha2.specs.Sha256.{sha256}

-- a key of more than a block is hashed first (section 2)
abbrev pub short_key : List ℕ → List ℕ
short_key k = if nat_lt 64 (length k) then sha256 k else k

-- K, the key padded with zeros to a block of B = 64 bytes (section 2, step 1)
unfoldable pub key_block : List ℕ → List ℕ
key_block k = short_key k ++ replicate (64 - length (short_key k)) 0

-- K XOR the byte b, repeated (steps 2 and 5)
abbrev pub key_pad : List ℕ → ℕ → List ℕ
key_pad k b = map (λ x. bit_xor x b) (key_block k)

-- H(K XOR opad, H(K XOR ipad, text)), where ipad is the byte 36 and opad the byte 5C (section 2)
unfoldable pub hmac_sha256 : List ℕ → List ℕ → List ℕ
hmac_sha256 k text = sha256 (key_pad k 0x5c ++ sha256 (key_pad k 0x36 ++ text))
