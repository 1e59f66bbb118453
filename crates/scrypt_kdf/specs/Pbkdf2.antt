-- PBKDF2 over HMAC-SHA-256 with one iteration (RFC 8018, section 5.2), on lists of bytes.
use Rattle.std.specs.Prelude.{ℕ, zero, suc, ◌+◌, List, [], ◌++◌, take}
use Rattle.std.specs.Int.{w32, div_ceil, to_be_bytes}
use Rattle.scrypt_kdf.specs.Hmac.{hmac_sha256}

-- F (P, S, 1, i): the HMAC under the password of the salt and INT (i), four bytes, high first (step 3)
abbrev pub block : List ℕ → List ℕ → ℕ → List ℕ
block password salt i = hmac_sha256 password (salt ++ to_be_bytes w32 i)

-- T_1 || .. || T_n (step 4)
unfoldable pub blocks : List ℕ → List ℕ → ℕ → List ℕ
blocks password salt zero = []
blocks password salt (suc n) = blocks password salt n ++ block password salt (n + 1)

-- DK: the first dkLen bytes of T_1 || .. || T_l, where l is dkLen / hLen, rounded up (steps 2 and 4)
unfoldable pub pbkdf2 : List ℕ → List ℕ → ℕ → List ℕ
pbkdf2 password salt len = take len (blocks password salt (div_ceil len 32))
