-- The parts of the file, by the places of their bytes.
use Rattle.std.specs.Prelude.{ℕ, ◌≡◌, ◌<◌, ◌^◌, ◌+◌, List, [], ◌∷◌, ◌++◌, Bool, length, take, drop, codes, nat_lt, nat_eq, if◌then◌else◌, IsTrue, Option, Some, None}
use Rattle.std.specs.Int.{w32, w64, from_le_bytes}
use Rattle.std.specs.List.{slice_range, starts_with}
use Rattle.block_id.specs.Formats.{magic}
use Rattle.aes_gcm.specs.Gcm.{opened_of}
use Rattle.scrypt_kdf.specs.Cost.{Cost, IsAllowed}
use Rattle.scrypt_kdf.specs.Scrypt.{scrypt}
use Rattle.config_file.specs.declared.format.TheConstants.{FILE_LEN}

abbrev pub begins_with : List ℕ → List ℕ → Bool
begins_with bytes front = starts_with nat_eq bytes front

-- ---- the outer part: 22 bytes, N, r, p, the salt, and the inner part, sealed

abbrev pub outer_front : List ℕ
outer_front = codes "cryfs.config;1;scrypt" ++ 0 ∷ []

unfoldable pub cost_in : List ℕ → Cost
cost_in bytes = record {
  n = from_le_bytes w64 (slice_range bytes 22 30);
  r = from_le_bytes w32 (slice_range bytes 30 34);
  p = from_le_bytes w32 (slice_range bytes 34 38);
}

-- the outer form is right
pub record HasForm (bytes : List ℕ) : Type 0 where
  pub size : length bytes ≡ FILE_LEN
  pub front : IsTrue (begins_with bytes outer_front)
  pub cost : IsAllowed (cost_in bytes)

-- bytes that may wait to be the configuration's file: short enough for a record, and not begun as a block's file is
abbrev pub MayWait : List ℕ → Type 0
MayWait bytes = (length bytes < 2 ^ 32) × (take 14 bytes ≡ magic → ⊥)

-- the 64 bytes that are the keys of the outer and of the inner seal
abbrev pub derived : List ℕ → List ℕ → Cost → List ℕ
derived password salt cost = scrypt password salt cost 64

unfoldable pub outer_key : List ℕ → List ℕ → Cost → List ℕ
outer_key password salt cost = take 32 (derived password salt cost)

unfoldable pub inner_key : List ℕ → List ℕ → Cost → List ℕ
inner_key password salt cost = drop 32 (derived password salt cost)

abbrev pub salt_in : List ℕ → List ℕ
salt_in bytes = slice_range bytes 38 70

-- the inner part, where it opens
abbrev pub inner_in : List ℕ → List ℕ → Option (List ℕ)
inner_in password bytes = opened_of (outer_key password (salt_in bytes) (cost_in bytes)) [] (drop 70 bytes)

-- ---- the inner part: 21 bytes, the cipher's name and a zero, the innermost part, sealed, and fill

abbrev pub inner_front : List ℕ
inner_front = codes "cryfs.config.inner;0" ++ 0 ∷ []

abbrev pub cipher_field : List ℕ
cipher_field = codes "aes-256-gcm" ++ 0 ∷ []

-- the innermost part, sealed
unfoldable pub sealed_in : List ℕ → Option (List ℕ)
sealed_in inner =
    if begins_with inner inner_front then (if begins_with (drop 21 inner) cipher_field then Some (slice_range inner 33 965) else None)
    else None

-- ---- the innermost part: a length, so many bytes of JSON, and fill

unfoldable pub text_in : List ℕ → Option (List ℕ)
text_in innermost =
    if nat_lt 896 (from_le_bytes w32 (slice_range innermost 0 4)) then None
    else Some (slice_range innermost 4 (4 + from_le_bytes w32 (slice_range innermost 0 4)))
