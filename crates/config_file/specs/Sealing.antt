-- The text of a configuration's file.
use Rattle.std.specs.Prelude.{[], ℕ, ◌≡◌, ◌+◌, List, ◌++◌, length}
use Rattle.std.specs.Int.{w32, w64, to_le_bytes}
use Rattle.std.specs.List.{slice_range}
use Rattle.aes_gcm.specs.Gcm.{sealed_of}
use Rattle.scrypt_kdf.specs.Cost.{Cost, IsAllowed}
use Rattle.config_file.specs.Format.{cipher_field, inner_front, inner_key, outer_front, outer_key}
use Rattle.config_file.specs.declared.seal.SealDraws.{SealDraws}
use Rattle.config_file.specs.Json.{json_text}
use Rattle.config_file.specs.Settings.{Settings}

-- 900 bytes, where the JSON has 896 or fewer; the byte at place i of the fill is byte i of `fill`
unfoldable pub innermost_text : List ℕ → List ℕ → List ℕ
innermost_text json fill = to_le_bytes w32 (length json) ++ json ++ slice_range fill (4 + length json) 900

-- 1,024 bytes; its fill is bytes 900 to 958 of `fill`
unfoldable pub inner_text : List ℕ → List ℕ → List ℕ → List ℕ → List ℕ
inner_text key iv innermost fill = inner_front ++ cipher_field ++ sealed_of key iv [] innermost ++ slice_range fill 900 959

-- what stands before the sealed inner part
unfoldable pub outer_text : Cost → List ℕ → List ℕ
outer_text cost salt = outer_front ++ to_le_bytes w64 cost.n ++ to_le_bytes w32 cost.r ++ to_le_bytes w32 cost.p ++ salt

-- what a configuration is sealed with
pub record Inputs : Type 0 where
  pub password : List ℕ
  pub cost : Cost
  pub salt : List ℕ
  pub fill : List ℕ
  pub inner_iv : List ℕ
  pub outer_iv : List ℕ

-- parameters that scrypt allows, and texts of their sizes
pub record AreFit (i : Inputs) : Type 0 where
  pub cost : IsAllowed i.cost
  pub salt : length i.salt ≡ 32
  pub fill : length i.fill ≡ 960
  pub inner_iv : length i.inner_iv ≡ 16
  pub outer_iv : length i.outer_iv ≡ 16

-- the file, 1,126 bytes
unfoldable pub config_text : Inputs → Settings → List ℕ
config_text i s =
    outer_text i.cost i.salt
    ++ sealed_of (outer_key i.password i.salt i.cost) i.outer_iv []
    (inner_text (inner_key i.password i.salt i.cost) i.inner_iv (innermost_text (json_text s) i.fill) i.fill)

-- a configuration's file under the password, sealed by what was drawn
abbrev pub sealed_file : List ℕ → Cost → SealDraws → Settings → List ℕ
sealed_file password cost draws s = config_text (record {
  password = password;
  cost = cost;
  salt = draws.scrypt_salt;
  fill = draws.fill;
  inner_iv = draws.inner_iv;
  outer_iv = draws.outer_iv;
}) s
