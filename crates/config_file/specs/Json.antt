-- The settings as JSON.
use Rattle.std.specs.Prelude.{ℕ, ◌≡◌, List, ◌||◌, nat_lt, codes, if◌then◌else◌, Option, Some, None, option_and_then, IsUtf8}
use Rattle.std.specs.Option.{option_map}
use Rattle.std.specs.Result.{result_ok}
use Rattle.std.specs.Str.{bytes_eq}
use Rattle.hex.specs.Hex.{decode_sized, encode_upper}
use Rattle.serde_json.specs.Data.{Data, number, unsigned, string, object, member, no_members}
use Rattle.serde_json.specs.Find.{get, as_str, as_number, as_u64}
use Rattle.serde_json.specs.Read.{read}
use Rattle.serde_json.specs.Written.{compact_text}
use Rattle.block_id.specs.declared.sizes.TheConstants.{MIN_BLOCK, MAX_BLOCK}
use Rattle.config_file.specs.declared.config.Cipher.{Cipher}
use Rattle.config_file.specs.declared.config.Cipher.TheVariants.{Aes256Gcm}
use Rattle.config_file.specs.Settings.{Settings, cipher_name}

-- ---- reading

-- a member's text
unfoldable pub text_at : List ℕ → Data → Option (List ℕ)
text_at name d = option_and_then as_str (get name d)

-- a member of so many bytes, as hexadecimal digits
unfoldable pub bytes_at : ℕ → List ℕ → Data → Option (List ℕ)
bytes_at len name d = option_and_then (λ text. result_ok (decode_sized text len)) (text_at name d)

unfoldable pub cipher_at : Data → Option Cipher
cipher_at d = option_and_then (λ text. if bytes_eq text (cipher_name Aes256Gcm) then Some Aes256Gcm else None) (text_at (codes "cipher") d)

unfoldable pub block_size_at : Data → Option ℕ
block_size_at d =
    option_and_then (λ n. if nat_lt n MIN_BLOCK || nat_lt MAX_BLOCK n then None else Some n)
    (option_and_then (λ n. option_and_then as_u64 (as_number n)) (get (codes "blocksizeBytes") d))

-- what the members of a value say; other members are ignored
unfoldable pub settings_in : Data → Option Settings
settings_in d =
    option_and_then (λ block_size. option_and_then (λ cipher. option_and_then (λ fs_id. option_and_then (λ key.
    option_map (λ root. record { root = root; key = key; cipher = cipher; block_size = block_size; fs_id = fs_id })
    (bytes_at 16 (codes "rootblob") d))
    (bytes_at 32 (codes "key") d))
    (bytes_at 16 (codes "filesystemId") d))
    (cipher_at d))
    (block_size_at d)

-- this JSON text says these settings
abbrev pub ReadsAs : List ℕ → Settings → Type 0
ReadsAs text s = IsUtf8 text × (option_and_then settings_in (read text) ≡ Some s)

-- ---- writing

unfoldable pub data_of : Settings → Data
data_of s =
    object (member (codes "blocksizeBytes") (number (unsigned s.block_size))
    (member (codes "cipher") (string (cipher_name s.cipher))
    (member (codes "filesystemId") (string (encode_upper s.fs_id))
    (member (codes "key") (string (encode_upper s.key))
    (member (codes "rootblob") (string (encode_upper s.root)) no_members)))))

-- compact, the members in this order
abbrev pub json_text : Settings → List ℕ
json_text s = compact_text (data_of s)
