-- The JSON of a configuration has at most 896 bytes.
use Rattle.std.proofs.Common.{◌≡◌, ℕ, ◌+◌, ◌*◌, ◌≤◌, ◌/◌, ◌%◌, Bool, true, false, cond, List, [], ◌∷◌, ◌++◌, length, codes, decimal, refl, ap, ◌∙◌, arith, length-append}
use Rattle.std.proofs.lemmas.Fmt.{length-decimal-le}
use Rattle.std.specs.Char.{digit_char}
use Rattle.hex.proofs.HexLemmas.{length-encode_with}
use Rattle.hex.specs.Hex.{encode_upper, upper_digits}
use Rattle.json.specs.Print.{escape, escape_byte, escape_letter, quoted}
use Rattle.serde_json.specs.Written.{has_float}
use Rattle.config_file.specs.declared.config.Cipher.{Cipher}
use Rattle.config_file.specs.declared.config.Cipher.TheVariants.{Aes256Gcm}
use Rattle.config_file.specs.Json.{data_of, json_text}
use Rattle.config_file.specs.Settings.{AreInLimits, Settings, cipher_name}

one_of_three : (a b : Bool) (x y z w : ℕ) → length (cond a (92 ∷ x ∷ []) (cond b (92 ∷ 117 ∷ 48 ∷ 48 ∷ y ∷ z ∷ []) (w ∷ []))) ≤ 6
one_of_three true b x y z w = omega arith
one_of_three false true x y z w = omega arith
one_of_three false false x y z w = omega arith

length_escape_byte : (x : ℕ) → length (escape_byte x) ≤ 6
unfolding escape_byte
length_escape_byte x = one_of_three _ _ (escape_letter x) (digit_char (x / 16)) (digit_char (x % 16)) x

-- a byte takes six bytes or fewer
length_escape : (s : List ℕ) → length (escape s) ≤ 6 * length s
length_escape [] = omega arith
length_escape (x ∷ s) = omega (arith, length-append (escape_byte x) (escape s), length_escape_byte x, length_escape s)

length_quoted : (s : List ℕ) → length (quoted s) ≡ 2 + length (escape s)
length_quoted s = omega (arith, length-append (escape s) (34 ∷ []))

-- a text of hexadecimal digits
length_digits : (bytes : List ℕ) → length (quoted (encode_upper bytes)) ≤ 2 + 12 * length bytes
length_digits bytes = omega (arith, length_quoted (encode_upper bytes), length_escape (encode_upper bytes), length-encode_with upper_digits bytes)

-- the members after a comma, and the first
length_next : (k text rest : List ℕ) → length (44 ∷ (quoted k ++ 58 ∷ (text ++ rest))) ≡ 4 + length (escape k) + length text + length rest
length_next k text rest =
    omega (arith, length-append (quoted k) (58 ∷ (text ++ rest)), length_quoted k, length-append text rest)

key_lengths : (length (escape (codes "blocksizeBytes")) ≡ 14) × (length (escape (codes "cipher")) ≡ 6) × (length (escape (codes "filesystemId")) ≡ 12)
    × (length (escape (codes "key")) ≡ 3) × (length (escape (codes "rootblob")) ≡ 8) × (length (escape (codes "aes-256-gcm")) ≡ 11)
unfolding escape_byte
key_lengths = (refl, refl, refl, refl, refl, refl)

abbrev written : List ℕ → List ℕ → List ℕ → List ℕ → List ℕ → List ℕ
written size cipher fs_id key root =
    123 ∷ (quoted (codes "blocksizeBytes") ++ 58 ∷ (size ++ 44 ∷ (quoted (codes "cipher") ++ 58 ∷ (cipher
    ++ 44 ∷ (quoted (codes "filesystemId") ++ 58 ∷ (fs_id ++ 44 ∷ (quoted (codes "key") ++ 58 ∷ (key
    ++ 44 ∷ (quoted (codes "rootblob") ++ 58 ∷ (root ++ 125 ∷ []))))))))))

length_written : (size cipher fs_id key root : List ℕ) → length (written size cipher fs_id key root) ≡ 64 + length size + length cipher + length fs_id + length key + length root
length_written size cipher fs_id key root =
    let last : List ℕ = 125 ∷ [] in
    let five : List ℕ = 44 ∷ (quoted (codes "rootblob") ++ 58 ∷ (root ++ last)) in
    let four : List ℕ = 44 ∷ (quoted (codes "key") ++ 58 ∷ (key ++ five)) in
    let three : List ℕ = 44 ∷ (quoted (codes "filesystemId") ++ 58 ∷ (fs_id ++ four)) in
    let two : List ℕ = 44 ∷ (quoted (codes "cipher") ++ 58 ∷ (cipher ++ three)) in
    omega (
      arith,
      length_next (codes "blocksizeBytes") size two,
      length_next (codes "cipher") cipher three,
      length_next (codes "filesystemId") fs_id four,
      length_next (codes "key") key five,
      length_next (codes "rootblob") root last,
      key_lengths.0,
      key_lengths.1,
      key_lengths.2,
      key_lengths.3,
      key_lengths.4,
    )

only_cipher : (c : Cipher) → c ≡ Aes256Gcm
only_cipher Aes256Gcm = refl

pub length_json_text : (s : Settings) → AreInLimits s → length (json_text s) ≤ 896
unfolding data_of
length_json_text s limits =
    let name : length (quoted (cipher_name s.cipher)) ≡ 13 = ap (λ c. length (quoted (cipher_name c))) (only_cipher s.cipher) ∙ length_quoted (codes "aes-256-gcm") ∙ ap (λ n. 2 + n) key_lengths.5 in
    let digits : length (decimal s.block_size) ≤ 7 = length-decimal-le 7 s.block_size (omega arith) (omega (arith, limits.block_size.high)) (omega (arith, limits.block_size.high)) in
    let whole = length_written (decimal s.block_size) (quoted (cipher_name s.cipher)) (quoted (encode_upper s.fs_id)) (quoted (encode_upper s.key)) (quoted (encode_upper s.root)) in
    omega (arith, whole, name, digits, length_digits s.fs_id, length_digits s.key, length_digits s.root, limits.fs_id.size, limits.key.size, limits.root.size)

pub no_float : (s : Settings) → has_float (data_of s) ≡ false
unfolding data_of
no_float s = refl
