-- What a file is under a password.
use Rattle.std.specs.Prelude.{[], ℕ, ◌≡◌, ◌↔◌, List, Option, Some, None, option_and_then}
use Rattle.aes_gcm.specs.Gcm.{opened_of}
use Rattle.scrypt_kdf.specs.Cost.{Cost}
use Rattle.config_file.specs.Format.{HasForm, cost_in, inner_in, inner_key, salt_in, sealed_in, text_in}
use Rattle.config_file.specs.Json.{ReadsAs}
use Rattle.config_file.specs.Settings.{Settings}

-- the JSON of an inner part, where it has the format and its innermost part opens under the key
unfoldable pub json_in : List ℕ → List ℕ → Option (List ℕ)
json_in key inner = option_and_then text_in (option_and_then (opened_of key []) (sealed_in inner))

-- an inner part holds these settings under the key
abbrev pub HoldsSettings : List ℕ → List ℕ → Settings → Type 0
HoldsSettings key inner s = (text : List ℕ) × (json_in key inner ≡ Some text) × ReadsAs text s

-- the key of the innermost part
abbrev pub key_in : List ℕ → List ℕ → List ℕ
key_in password bytes = inner_key password (salt_in bytes) (cost_in bytes)

-- a configuration with its parameters, or why there is none
pub data ConfigFound : Type 0 where
  opened : Settings → Cost → ConfigFound
  form : ConfigFound
  locked : ConfigFound
  inner : ConfigFound

abbrev pub ConfigOf : List ℕ → List ℕ → ConfigFound → Type 0
ConfigOf password bytes (opened s cost) =
    HasForm bytes × (cost ≡ cost_in bytes) × ((part : List ℕ) × (inner_in password bytes ≡ Some part) × HoldsSettings (key_in password bytes) part s)
ConfigOf password bytes form = ¬ HasForm bytes
ConfigOf password bytes locked = HasForm bytes × (inner_in password bytes ≡ None)
ConfigOf password bytes inner =
    HasForm bytes × ((part : List ℕ) × (inner_in password bytes ≡ Some part) × ((s : Settings) → ¬ HoldsSettings (key_in password bytes) part s))

-- under the password the file is this, and nothing else
abbrev pub IsOnly : List ℕ → List ℕ → ConfigFound → Type 0
IsOnly password bytes found = (f : ConfigFound) → ConfigOf password bytes f ↔ (f ≡ found)
