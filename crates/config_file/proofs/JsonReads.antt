-- The JSON of a configuration reads as that configuration.
use Rattle.std.proofs.Common.{◌≡◌, ℕ, ◌*◌, ◌≤◌, ◌||◌, true, cond, List, [], ◌∷◌, ◌++◌, codes, decimal, IsUtf8, Option, Some, None, option_and_then, option_map, refl, sym, subst, ap, ◌∙◌, arith, append-nil, le-ltb, ltb-true, nat_lt}
use Rattle.std.proofs.lemmas.Bool.{and_parts}
use Rattle.std.proofs.lemmas.Fmt.{IsAscii-decimal}
use Rattle.std.proofs.lemmas.Str.{IsUtf8-append, IsUtf8-from_ascii}
use Rattle.std.proofs.lemmas.Str.Ascii.{IsAscii-cons, IsAscii-nil}
use Rattle.std.specs.Result.{result_ok}
use Rattle.std.specs.Str.{IsAscii, bytes_eq}
use Rattle.hex.proofs.HexLemmas.{IsAscii-encode_with, decode_of-encode_upper, decode_sized-twice, length-encode_with}
use Rattle.hex.specs.Hex.{decode_sized, encode_upper, upper_digits}
use Rattle.block_id.specs.declared.sizes.TheConstants.{MIN_BLOCK, MAX_BLOCK}
use Rattle.json.proofs.Printed.Decimals.{IsNumber-decimal}
use Rattle.json.proofs.Printed.Tokens.{tokens-print}
use Rattle.json.proofs.Printed.Trees.{ArePrintable-json_tokens, value-json_tokens}
use Rattle.json.proofs.Printed.Utf8.{IsUtf8-are_ascii, IsUtf8-quoted, are_ascii}
use Rattle.json.specs.Json as json
use Rattle.json.specs.Lex.{tokens}
use Rattle.json.specs.Print.{escape_byte, quoted}
use Rattle.json.specs.Token.{Token}
use Rattle.json.specs.Tree.{HasNumbers, depth, json_tokens}
use Rattle.serde_json.proofs.Numbers.{number_of-decimal}
use Rattle.serde_json.proofs.Texts.{print-outline}
use Rattle.serde_json.specs.Data.{Num, Members, member, no_members, number, object, put, string}
use Rattle.serde_json.specs.Read.{max_depth, of_json, of_members, read}
use Rattle.serde_json.specs.Written.{members_outline, outline}
use Rattle.config_file.specs.declared.config.Cipher.{Cipher}
use Rattle.config_file.specs.declared.config.Cipher.TheVariants.{Aes256Gcm}
use Rattle.config_file.specs.Json.{ReadsAs, block_size_at, bytes_at, cipher_at, data_of, json_text, settings_in, text_at}
use Rattle.config_file.specs.Settings.{AreBytes, AreInLimits, IsBlockSize, Settings, cipher_name}

-- ---- the text is UTF-8

ascii_digits : (xs : List ℕ) → are_ascii xs ≡ true → IsAscii xs
ascii_digits [] e = IsAscii-nil
ascii_digits (x ∷ xs) e = let p = and_parts _ _ e in IsAscii-cons x xs (ltb-true x 128 p.0) (ascii_digits xs p.1)

utf8_digits : (bytes : List ℕ) → IsUtf8 (quoted (encode_upper bytes))
utf8_digits bytes = IsUtf8-quoted (encode_upper bytes) (IsUtf8-from_ascii (encode_upper bytes) (IsAscii-encode_with upper_digits bytes (ascii_digits upper_digits refl)))

-- what stands between the values
abbrev before_size : List ℕ
before_size = 123 ∷ (quoted (codes "blocksizeBytes") ++ 58 ∷ [])

abbrev before_cipher : List ℕ
before_cipher = 44 ∷ (quoted (codes "cipher") ++ 58 ∷ [])

abbrev before_id : List ℕ
before_id = 44 ∷ (quoted (codes "filesystemId") ++ 58 ∷ [])

abbrev before_key : List ℕ
before_key = 44 ∷ (quoted (codes "key") ++ 58 ∷ [])

abbrev before_root : List ℕ
before_root = 44 ∷ (quoted (codes "rootblob") ++ 58 ∷ [])

name_is : (c : Cipher) → cipher_name c ≡ codes "aes-256-gcm"
name_is Aes256Gcm = refl

literals : (are_ascii before_size ≡ true) × (are_ascii before_cipher ≡ true) × (are_ascii before_id ≡ true) × (are_ascii before_key ≡ true)
    × (are_ascii before_root ≡ true) × (are_ascii (quoted (codes "aes-256-gcm")) ≡ true)
unfolding escape_byte
literals = (refl, refl, refl, refl, refl, refl)

-- a name, a value and the rest
member_utf8 : (front text rest : List ℕ) → are_ascii front ≡ true → IsUtf8 text → IsUtf8 rest → IsUtf8 (front ++ (text ++ rest))
member_utf8 front text rest ascii utf8 more = IsUtf8-append front (text ++ rest) (IsUtf8-are_ascii front ascii) (IsUtf8-append text rest utf8 more)

utf8_text : (s : Settings) → IsBlockSize s.block_size → IsUtf8 (json_text s)
unfolding data_of escape_byte
utf8_text s size =
    let number : IsUtf8 (decimal s.block_size) = IsUtf8-from_ascii (decimal s.block_size) (IsAscii-decimal s.block_size (omega (arith, size.high))) in
    let name : IsUtf8 (quoted (cipher_name s.cipher)) = subst (λ (n : List ℕ). IsUtf8 (quoted n)) (sym (name_is s.cipher)) (IsUtf8-are_ascii (quoted (codes "aes-256-gcm")) literals.5) in
    member_utf8 before_size (decimal s.block_size) _ literals.0 number
    (member_utf8 before_cipher (quoted (cipher_name s.cipher)) _ literals.1 name
    (member_utf8 before_id (quoted (encode_upper s.fs_id)) _ literals.2 (utf8_digits s.fs_id)
    (member_utf8 before_key (quoted (encode_upper s.key)) _ literals.3 (utf8_digits s.key)
    (member_utf8 before_root (quoted (encode_upper s.root)) _ literals.4 (utf8_digits s.root) (IsUtf8-are_ascii (125 ∷ []) refl)))))

-- ---- the text reads as the value

abbrev after_size : Settings → Members
after_size s =
    member (codes "cipher") (string (cipher_name s.cipher)) (member (codes "filesystemId") (string (encode_upper s.fs_id))
    (member (codes "key") (string (encode_upper s.key)) (member (codes "rootblob") (string (encode_upper s.root)) no_members)))

abbrev value_of : Settings → json.Json
value_of s = outline (data_of s)

numbers_of : (s : Settings) → IsBlockSize s.block_size → HasNumbers (value_of s)
unfolding data_of
numbers_of s size = (IsNumber-decimal s.block_size (omega (arith, size.high)), (tt, (tt, (tt, (tt, tt)))))

of_json-outline : (s : Settings) → IsBlockSize s.block_size → of_json (value_of s) ≡ Some (data_of s)
unfolding data_of
of_json-outline s size =
    ap (λ (o : Option Num). option_map object (option_and_then (λ d. of_members (members_outline (after_size s)) (put (codes "blocksizeBytes") d no_members)) (option_map number o)))
    (number_of-decimal s.block_size (omega (arith, size.high)))

pub read_text : (s : Settings) → IsBlockSize s.block_size → read (json_text s) ≡ Some (data_of s)
unfolding data_of
read_text s size =
    let is : tokens (json_text s) ≡ json_tokens (value_of s) ++ [] =
    ap tokens (sym (print-outline (data_of s))) ∙ tokens-print (json_tokens (value_of s)) (ArePrintable-json_tokens (value_of s) (numbers_of s size)) ∙ sym (append-nil (json_tokens (value_of s))) in
    let shallow : depth (value_of s) ≤ max_depth = omega arith in
    ap (λ (o : Option (json.Json × List Token)). option_and_then of_json (option_and_then (λ p. json.if_last p.0 p.1) o))
    (ap (json.value max_depth) is ∙ value-json_tokens (value_of s) max_depth [] shallow)
    ∙ of_json-outline s size

-- ---- the value says the configuration

size_in : (n : ℕ) → IsBlockSize n → (cond (nat_lt n MIN_BLOCK || nat_lt MAX_BLOCK n) None (Some n)) ≡ Some n
size_in n size = λ i. cond {A = Option ℕ} (le-ltb n MIN_BLOCK size.low i || le-ltb MAX_BLOCK n size.high i) None (Some n)

bytes_in : (len : ℕ) (bytes : List ℕ) → AreBytes len bytes → result_ok (decode_sized (encode_upper bytes) len) ≡ Some bytes
bytes_in len bytes h =
    ap result_ok (decode_sized-twice (encode_upper bytes) len (length-encode_with upper_digits bytes ∙ ap (λ n. 2 * n) h.size) ∙ decode_of-encode_upper bytes h.fit)

cipher_in : (c : Cipher) → cond (bytes_eq (cipher_name c) (cipher_name Aes256Gcm)) (Some Aes256Gcm) None ≡ Some c
cipher_in Aes256Gcm = refl

abbrev joined : Option ℕ → Option Cipher → Option (List ℕ) → Option (List ℕ) → Option (List ℕ) → Option Settings
joined size cipher fs_id key root =
    option_and_then (λ b. option_and_then (λ c. option_and_then (λ f. option_and_then (λ k.
    option_map (λ r. record { root = r; key = k; cipher = c; block_size = b; fs_id = f }) root) key) fs_id) cipher) size

pub settings_in-data_of : (s : Settings) → AreInLimits s → settings_in (data_of s) ≡ Some s
unfolding settings_in block_size_at cipher_at bytes_at text_at data_of
settings_in-data_of s h =
    λ i. joined (size_in s.block_size h.block_size i) (cipher_in s.cipher i) (bytes_in 16 s.fs_id h.fs_id i) (bytes_in 32 s.key h.key i) (bytes_in 16 s.root h.root i)

pub text_reads : (s : Settings) → AreInLimits s → ReadsAs (json_text s) s
text_reads s h = (utf8_text s h.block_size, ap (option_and_then settings_in) (read_text s h.block_size) ∙ settings_in-data_of s h)
