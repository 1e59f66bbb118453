-- Texts can be read in one way only.
use Rattle.std.proofs.Common.{◌≡◌, ◌≢◌, ℕ, zero, suc, ◌+◌, ◌-◌, ◌*◌, ◌/◌, ◌%◌, ◌^◌, ◌<◌, ◌≤◌, Bool, true, false, cond, not, ◌==◌, ◌&&◌, List, [], ◌∷◌, ◌++◌, length, map, get_or, drop, refl, sym, ap, ◌∙◌, subst, arith, inl, inr, nat_lt, append_assoc}
use Rattle.std.specs.Prelude.{nat_le, codes}
use Rattle.std.specs.List.{AllByRecursion, flat_map}
use Rattle.std.specs.Fmt.{decimal, digit_glyph}
use Rattle.std.specs.Str.{bytes_eq}
use Rattle.std.specs.Str.Parse.{AllDigits}
use Rattle.std.specs.Int.Digits.{digits_of, number_from_digits}
use Rattle.std.proofs.lemmas.Bool.{cases_eq, cases_lt, cond-true, cond-false, lt-ltb, le-ltb, leb-true, and_parts, not-true, eqb-false, ne_eqb}
use Rattle.std.proofs.lemmas.Fmt.{decimal_is_IsNumeral, decimal_injective}
use Rattle.std.proofs.lemmas.Int.Digits.{number_digits_of}
use Rattle.std.proofs.lemmas.List.{same_from_push}
use Rattle.std.proofs.lemmas.Str.Parse.{digit_from_value}
use Rattle.fs_model.specs.Instant.{Instant}
use Rattle.fs_model.specs.declared.attr.Attr.{Attr}
use Rattle.fs_model.specs.declared.attr.Kind.{Kind}
use Rattle.fs_model.specs.declared.attr.Kind.TheVariants.{Directory, File, Link}
use Rattle.fs_model.specs.declared.error.FsError.{FsError}
use Rattle.fs_model.specs.declared.error.FsError.TheVariants.{NoEntry, Exists, NotDirectory, IsDirectory, NotEmpty, Invalid, Busy, NameTooLong, TooLarge, NotLink, BadLine}
use Rattle.fs_model.specs.declared.reply.ListRow.{ListRow}
use Rattle.fs_model.specs.declared.reply.Reply.{Reply}
use Rattle.fs_model.specs.declared.reply.Reply.TheVariants.{Done, Rows, Info, Target, Content, Error}
use Rattle.script_text.specs.Texts.{numeral, octal, hex_byte, is_plain, escape, escaped, hex_text, last_digits, moment_text, kind_letter, row_text, rows_text, info_text, error_name, text_of, line, word}
use Rattle.script_text.specs.Shown.{AreBytes, IsMoment, IsInfoShown, AreRowsShown, IsShown, texts_of, HasOneReading}
use Rattle.script_text.proofs.Numerals.{numeral_some, numeral-zero}

-- no byte of the text is this one
abbrev pub Free : ℕ → List ℕ → Type 0
Free t [] = Unit {0}
Free t (x ∷ xs) = (x ≢ t) × Free t xs

pub Free-append : (t : ℕ) (a b : List ℕ) → Free t a → Free t b → Free t (a ++ b)
Free-append t [] b fa fb = fb
Free-append t (x ∷ a) b fa fb = (fa.0, Free-append t a b fa.1 fb)

-- a text ends before the first such byte
pub ends : (t : ℕ) (a b r s : List ℕ) → Free t a → Free t b → a ++ t ∷ r ≡ b ++ t ∷ s → (a ≡ b) × (r ≡ s)
ends t [] [] r s fa fb e = (refl, ap (drop 1) e)
ends t [] (y ∷ b) r s fa fb e = absurd (fb.0 (sym (ap (λ z. get_or z 0 0) e)))
ends t (x ∷ a) [] r s fa fb e = absurd (fa.0 (ap (λ z. get_or z 0 0) e))
ends t (x ∷ a) (y ∷ b) r s fa fb e =
    let head : x ≡ y = ap (λ z. get_or z 0 0) e in
    let rest = ends t a b r s fa.1 fb.1 (ap (drop 1) e) in
    ((λ i. head i ∷ rest.0 i), rest.1)

-- numbers

free_digits : (t : ℕ) (ds : List ℕ) → t < 48 → AllDigits 10 ds → Free t ds
free_digits t [] low h = tt
free_digits t (c ∷ ds) low h =
    let range = digit_from_value c h.0 in
    ((λ e. omega arith), free_digits t ds low h.1)

pub free_decimal : (t n : ℕ) → t < 48 → n < 2 ^ 64 → Free t (decimal n)
free_decimal t n low fits = free_digits t (decimal n) low (decimal_is_IsNumeral n fits).0.1

free_shifted : (t : ℕ) (ds : List ℕ) → t < 48 → Free t (map (λ d. 48 + d) ds)
free_shifted t [] low = tt
free_shifted t (d ∷ ds) low = ((λ e. omega arith), free_shifted t ds low)

free_numeral : (t base n : ℕ) → t < 48 → Free t (numeral base n)
free_numeral t base n low = elim (cases_eq n 0) [
  | inl none ↦ subst (λ z. Free t z) (sym (ap (numeral base) none ∙ numeral-zero base)) ((λ e. omega arith), tt)
  | inr some ↦ subst (λ z. Free t z) (sym (numeral_some base n (omega arith))) (free_shifted t (digits_of base n) low)
]

unshifted : (ds : List ℕ) → map (λ c. c - 48) (map (λ d. 48 + d) ds) ≡ ds
unshifted [] = refl
unshifted (d ∷ ds) =
    let head : 48 + d - 48 ≡ d = omega arith in
    let rest = unshifted ds in
    λ i. head i ∷ rest i

abbrev number_at : ℕ → List ℕ → ℕ
number_at base text = number_from_digits base (map (λ c. c - 48) text)

number_at-numeral : (base n : ℕ) → 2 ≤ base → number_at base (numeral base n) ≡ n
number_at-numeral base n low = elim (cases_eq n 0) [
  | inl none ↦ ap (number_at base) (ap (numeral base) none ∙ numeral-zero base) ∙ (let z : 0 * base + 0 ≡ n = omega arith in z)
  | inr some ↦ ap (number_at base) (numeral_some base n (omega arith)) ∙ ap (number_from_digits base) (unshifted (digits_of base n)) ∙ number_digits_of base n low
]

octal_same : (m n : ℕ) → octal m ≡ octal n → m ≡ n
octal_same m n e = sym (number_at-numeral 8 m (omega arith)) ∙ ap (number_at 8) e ∙ number_at-numeral 8 n (omega arith)

free_last : (t k n : ℕ) → t < 48 → Free t (last_digits k n)
free_last t zero n low = tt
free_last t (suc k) n low = Free-append t (last_digits k (n / 10)) ((48 + n % 10) ∷ []) (free_last t k (n / 10) low) ((λ e. omega arith), tt)

abbrev times_ten : ℕ → ℕ
times_ten zero = 1
times_ten (suc k) = 10 * times_ten k

last_same : (k m n : ℕ) → m < times_ten k → n < times_ten k → last_digits k m ≡ last_digits k n → m ≡ n
last_same zero m n small below e = omega arith
last_same (suc k) m n small below e =
    let parts = same_from_push (last_digits k (m / 10)) (last_digits k (n / 10)) (48 + m % 10) (48 + n % 10) e in
    let last = parts.1 in
    let high = last_same k (m / 10) (n / 10) (omega arith) (omega arith) parts.0 in
    omega arith

-- bytes

glyph_low : (d : ℕ) → 48 ≤ digit_glyph false d
glyph_low d = elim (nat_lt d 10) as (λ b. 48 ≤ cond b (48 + d) (87 + d)) [ true ↦ omega arith | false ↦ omega arith ]

abbrev unglyph : ℕ → ℕ
unglyph c = cond (nat_lt c 58) (c - 48) (c - 87)

unglyph-glyph : (d : ℕ) → d < 16 → unglyph (digit_glyph false d) ≡ d
unglyph-glyph d small = elim (cases_lt d 10) [
  | inl low ↦
      let e : digit_glyph false d ≡ 48 + d = cond-true _ _ _ (lt-ltb d 10 low) in
      ap unglyph e ∙ cond-true _ _ _ (lt-ltb (48 + d) 58 (omega arith)) ∙ (let z : 48 + d - 48 ≡ d = omega arith in z)
  | inr high ↦
      let e : digit_glyph false d ≡ 87 + d = cond-false _ _ _ (le-ltb d 10 high) in
      ap unglyph e ∙ cond-false _ _ _ (le-ltb (87 + d) 58 (omega arith)) ∙ (let z : 87 + d - 87 ≡ d = omega arith in z)
]

abbrev unhex : List ℕ → ℕ
unhex text = 16 * unglyph (get_or text 0 0) + unglyph (get_or text 1 0)

unhex-hex_byte : (b : ℕ) (r : List ℕ) → b < 256 → unhex (hex_byte b ++ r) ≡ b
unhex-hex_byte b r small =
    let high = unglyph-glyph (b / 16) (omega arith) in
    let low = unglyph-glyph (b % 16) (omega arith) in
    omega arith

hex_same : (a b : List ℕ) → AreBytes a → AreBytes b → flat_map hex_byte a ≡ flat_map hex_byte b → a ≡ b
hex_same [] [] fa fb e = refl
hex_same [] (y ∷ b) fa fb e = absurd (let l = ap length e in omega arith)
hex_same (x ∷ a) [] fa fb e = absurd (let l = ap length e in omega arith)
hex_same (x ∷ a) (y ∷ b) fa fb e =
    let head = sym (unhex-hex_byte x (flat_map hex_byte a) fa.0) ∙ ap unhex e ∙ unhex-hex_byte y (flat_map hex_byte b) fb.0 in
    let rest = hex_same a b fa.1 fb.1 (ap (drop 2) e) in
    λ i. head i ∷ rest i

hex_text_same : (a b : List ℕ) → AreBytes a → AreBytes b → hex_text a ≡ hex_text b → a ≡ b
hex_text_same [] [] fa fb e = refl
hex_text_same [] (y ∷ b) fa fb e = absurd (let c : 45 ≡ digit_glyph false (y / 16) = ap (λ z. get_or z 0 0) e in let l = glyph_low (y / 16) in omega arith)
hex_text_same (x ∷ a) [] fa fb e = absurd (let c : digit_glyph false (x / 16) ≡ 45 = ap (λ z. get_or z 0 0) e in let l = glyph_low (x / 16) in omega arith)
hex_text_same (x ∷ a) (y ∷ b) fa fb e = hex_same (x ∷ a) (y ∷ b) fa fb e

free_hex_byte : (t b : ℕ) → t < 48 → Free t (hex_byte b)
free_hex_byte t b low = ((λ e. let l = glyph_low (b / 16) in omega arith), ((λ e. let l = glyph_low (b % 16) in omega arith), tt))

free_hex : (t : ℕ) (a : List ℕ) → t < 48 → Free t (flat_map hex_byte a)
free_hex t [] low = tt
free_hex t (x ∷ a) low = Free-append t (hex_byte x) (flat_map hex_byte a) (free_hex_byte t x low) (free_hex t a low)

free_hex_text : (t : ℕ) (a : List ℕ) → t < 45 → Free t (hex_text a)
free_hex_text t [] low = ((λ e. omega arith), tt)
free_hex_text t (x ∷ a) low = free_hex t (x ∷ a) (omega arith)

plain_parts : (b : ℕ) → is_plain b ≡ true → (33 ≤ b) × (b ≢ 92)
plain_parts b h =
    let parts = and_parts (nat_le 0x21 b) (nat_le b 0x7E && not (b == 92)) h in
    let more = and_parts (nat_le b 0x7E) (not (b == 92)) parts.1 in
    (leb-true 33 b parts.0, eqb-false b 92 (not-true (b == 92) more.1))

abbrev shown : Bool → ℕ → List ℕ
shown plain b = cond plain (b ∷ []) (92 ∷ 120 ∷ hex_byte b)

free_escape : (t b : ℕ) → t < 33 → Free t (escape b)
free_escape t b low = by (is_plain b) refl
  where
    by : (plain : Bool) → is_plain b ≡ plain → Free t (shown plain b)
    by true h = let parts = plain_parts b h in ((λ e. omega arith), tt)
    by false h = ((λ e. omega arith), ((λ e. omega arith), free_hex_byte t b (omega arith)))

free_escaped : (t : ℕ) (a : List ℕ) → t < 33 → Free t (escaped a)
free_escaped t [] low = tt
free_escaped t (x ∷ a) low = Free-append t (escape x) (escaped a) (free_escape t x low) (free_escaped t a low)

abbrev unescape : List ℕ → ℕ
unescape text = cond (get_or text 0 0 == 92) (unhex (drop 2 text)) (get_or text 0 0)

abbrev after_escape : List ℕ → List ℕ
after_escape text = cond (get_or text 0 0 == 92) (drop 4 text) (drop 1 text)

unescape-escape : (b : ℕ) (r : List ℕ) → b < 256 → unescape (escape b ++ r) ≡ b
unescape-escape b r small = by (is_plain b) refl
  where
    by : (plain : Bool) → is_plain b ≡ plain → unescape (shown plain b ++ r) ≡ b
    by true h = let parts = plain_parts b h in cond-false (b == 92) _ _ (ne_eqb b 92 parts.1)
    by false h = unhex-hex_byte b r small

after_escape-escape : (b : ℕ) (r : List ℕ) → after_escape (escape b ++ r) ≡ r
after_escape-escape b r = by (is_plain b) refl
  where
    by : (plain : Bool) → is_plain b ≡ plain → after_escape (shown plain b ++ r) ≡ r
    by true h = let parts = plain_parts b h in cond-false (b == 92) _ _ (ne_eqb b 92 parts.1)
    by false h = refl

escape_some : (b : ℕ) (r : List ℕ) → 0 < length (escape b ++ r)
escape_some b r = by (is_plain b)
  where
    by : (plain : Bool) → 0 < length (shown plain b ++ r)
    by true = omega arith
    by false = omega arith

escaped_same : (a b : List ℕ) → AreBytes a → AreBytes b → escaped a ≡ escaped b → a ≡ b
escaped_same [] [] fa fb e = refl
escaped_same [] (y ∷ b) fa fb e = absurd (let l : 0 ≡ length (escape y ++ escaped b) = ap length e in let some = escape_some y (escaped b) in omega arith)
escaped_same (x ∷ a) [] fa fb e = absurd (let l : length (escape x ++ escaped a) ≡ 0 = ap length e in let some = escape_some x (escaped a) in omega arith)
escaped_same (x ∷ a) (y ∷ b) fa fb e =
    let head = sym (unescape-escape x (escaped a) fa.0) ∙ ap unescape e ∙ unescape-escape y (escaped b) fb.0 in
    let tails : escaped a ≡ escaped b = sym (after_escape-escape x (escaped a)) ∙ ap after_escape e ∙ after_escape-escape y (escaped b) in
    let rest = escaped_same a b fa.1 fb.1 tails in
    λ i. head i ∷ rest i

-- moments

moment_same : (m n : Instant) → IsMoment m → IsMoment n → moment_text m ≡ moment_text n → m ≡ n
moment_same m n fm fn e =
    let parts = ends 46 (decimal m.secs) (decimal n.secs) (last_digits 9 m.nanos) (last_digits 9 n.nanos) (free_decimal 46 m.secs (omega arith) fm.secs) (free_decimal 46 n.secs (omega arith) fn.secs) e in
    let secs = decimal_injective m.secs n.secs fm.secs fn.secs parts.0 in
    let nanos = last_same 9 m.nanos n.nanos fm.nanos fn.nanos parts.1 in
    λ i. record { secs = secs i; nanos = nanos i }

free_moment : (t : ℕ) (m : Instant) → t < 46 → IsMoment m → Free t (moment_text m)
free_moment t m low fits = Free-append t (decimal m.secs) (46 ∷ last_digits 9 m.nanos) (free_decimal t m.secs (omega arith) fits.secs) ((λ e. omega arith), free_last t 9 m.nanos (omega arith))

-- kinds and errors

abbrev kind_at : ℕ → Kind
kind_at c = cond (c == 100) Directory (cond (c == 102) File Link)

kind_at-letter : (k : Kind) → kind_at (kind_letter k) ≡ k
kind_at-letter Directory = refl
kind_at-letter File = refl
kind_at-letter Link = refl

kind_same : (j k : Kind) → kind_letter j ≡ kind_letter k → j ≡ k
kind_same j k e = sym (kind_at-letter j) ∙ ap kind_at e ∙ kind_at-letter k

abbrev error_at : List ℕ → FsError
error_at text =
    cond (bytes_eq text (error_name NoEntry)) NoEntry
    (cond (bytes_eq text (error_name Exists)) Exists
    (cond (bytes_eq text (error_name NotDirectory)) NotDirectory
    (cond (bytes_eq text (error_name IsDirectory)) IsDirectory
    (cond (bytes_eq text (error_name NotEmpty)) NotEmpty
    (cond (bytes_eq text (error_name Invalid)) Invalid
    (cond (bytes_eq text (error_name Busy)) Busy
    (cond (bytes_eq text (error_name NameTooLong)) NameTooLong
    (cond (bytes_eq text (error_name TooLarge)) TooLarge
    (cond (bytes_eq text (error_name NotLink)) NotLink BadLine)))))))))

error_at-name : (e : FsError) → error_at (error_name e) ≡ e
error_at-name NoEntry = refl
error_at-name Exists = refl
error_at-name NotDirectory = refl
error_at-name IsDirectory = refl
error_at-name NotEmpty = refl
error_at-name Invalid = refl
error_at-name Busy = refl
error_at-name NameTooLong = refl
error_at-name TooLarge = refl
error_at-name NotLink = refl
error_at-name BadLine = refl

error_same : (d e : FsError) → error_name d ≡ error_name e → d ≡ e
error_same d e h = sym (error_at-name d) ∙ ap error_at h ∙ error_at-name e

-- whether no byte is t, as a test
abbrev is_free : ℕ → List ℕ → Bool
is_free t [] = true
is_free t (x ∷ xs) = not (x == t) && is_free t xs

free_from_test : (t : ℕ) (xs : List ℕ) → is_free t xs ≡ true → Free t xs
free_from_test t [] h = tt
free_from_test t (x ∷ xs) h =
    let parts = and_parts (not (x == t)) (is_free t xs) h in
    (eqb-false x t (not-true (x == t) parts.0), free_from_test t xs parts.1)

free_error : (e : FsError) → is_free 10 (error_name e) ≡ true
free_error NoEntry = refl
free_error Exists = refl
free_error NotDirectory = refl
free_error IsDirectory = refl
free_error NotEmpty = refl
free_error Invalid = refl
free_error Busy = refl
free_error NameTooLong = refl
free_error TooLarge = refl
free_error NotLink = refl
free_error BadLine = refl

-- rows

row_shape : (x : ListRow) (r : List ℕ) → row_text x ++ r ≡ kind_letter x.kind ∷ 32 ∷ (escaped x.name ++ 10 ∷ r)
row_shape x r = ap (λ z. kind_letter x.kind ∷ 32 ∷ z) (append_assoc (escaped x.name) (10 ∷ []) r)

row_same : (x y : ListRow) (r s : List ℕ) → AreBytes x.name → AreBytes y.name → row_text x ++ r ≡ row_text y ++ s → (x ≡ y) × (r ≡ s)
row_same x y r s fx fy e =
    let whole = sym (row_shape x r) ∙ e ∙ row_shape y s in
    let kind = kind_same x.kind y.kind (ap (λ z. get_or z 0 0) whole) in
    let parts = ends 10 (escaped x.name) (escaped y.name) r s (free_escaped 10 x.name (omega arith)) (free_escaped 10 y.name (omega arith)) (ap (drop 2) whole) in
    let name = escaped_same x.name y.name fx fy parts.0 in
    ((λ i. record { kind = kind i; name = name i }), parts.1)

rows_same : (xs ys : List ListRow) (r s : List ℕ) → length xs ≡ length ys → AllByRecursion (λ row. AreBytes row.name) xs → AllByRecursion (λ row. AreBytes row.name) ys
    → flat_map row_text xs ++ r ≡ flat_map row_text ys ++ s → (xs ≡ ys) × (r ≡ s)
rows_same [] [] r s l fx fy e = (refl, e)
rows_same [] (y ∷ ys) r s l fx fy e = absurd (omega arith)
rows_same (x ∷ xs) [] r s l fx fy e = absurd (omega arith)
rows_same (x ∷ xs) (y ∷ ys) r s l fx fy e =
    let whole = sym (append_assoc (row_text x) (flat_map row_text xs) r) ∙ e ∙ append_assoc (row_text y) (flat_map row_text ys) s in
    let first = row_same x y (flat_map row_text xs ++ r) (flat_map row_text ys ++ s) fx.0 fy.0 whole in
    let rest = rows_same xs ys r s (omega arith) fx.1 fy.1 first.1 in
    ((λ i. first.0 i ∷ rest.0 i), rest.1)

rows_shape : (xs : List ListRow) (r : List ℕ) → rows_text xs ++ r ≡ 108 ∷ 105 ∷ 115 ∷ 116 ∷ 32 ∷ (decimal (length xs) ++ 10 ∷ (flat_map row_text xs ++ r))
rows_shape xs r = simp append_assoc

all_rows_same : (xs ys : List ListRow) (r s : List ℕ) → AreRowsShown xs → AreRowsShown ys → rows_text xs ++ r ≡ rows_text ys ++ s → (xs ≡ ys) × (r ≡ s)
all_rows_same xs ys r s fx fy e =
    let whole = sym (rows_shape xs r) ∙ e ∙ rows_shape ys s in
    let parts = ends 10 (decimal (length xs)) (decimal (length ys)) (flat_map row_text xs ++ r) (flat_map row_text ys ++ s) (free_decimal 10 (length xs) (omega arith) fx.count) (free_decimal 10 (length ys) (omega arith) fy.count) (ap (drop 5) whole) in
    rows_same xs ys r s (decimal_injective (length xs) (length ys) fx.count fy.count parts.0) fx.names fy.names parts.1

-- attributes

regroup : (h m u g n a t c r : List ℕ) → (h ++ (m ++ u ++ g ++ n) ++ (a ++ t ++ c)) ++ r ≡ h ++ (m ++ (u ++ (g ++ (n ++ (a ++ (t ++ (c ++ r)))))))
regroup h m u g n a t c r = simp append_assoc

shape : (k : ℕ) (m u g n a t c r : List ℕ) → line (codes "stat" ++ word (k ∷ []) ++ (word m ++ word u ++ word g ++ word n) ++ (word a ++ word t ++ word c)) ++ r
    ≡ 115 ∷ 116 ∷ 97 ∷ 116 ∷ 32 ∷ k ∷ 32 ∷ (m ++ 32 ∷ (u ++ 32 ∷ (g ++ 32 ∷ (n ++ 32 ∷ (a ++ 32 ∷ (t ++ 32 ∷ (c ++ 10 ∷ r)))))))
shape k m u g n a t c r =
    append_assoc (codes "stat" ++ word (k ∷ []) ++ (word m ++ word u ++ word g ++ word n) ++ (word a ++ word t ++ word c)) (10 ∷ []) r
    ∙ regroup (codes "stat" ++ word (k ∷ [])) (word m) (word u) (word g) (word n) (word a) (word t) (word c) (10 ∷ r)

info_shape : (a : Attr) (size : ℕ) (r : List ℕ) → info_text a size ++ r
    ≡ 115 ∷ 116 ∷ 97 ∷ 116 ∷ 32 ∷ kind_letter a.kind ∷ 32 ∷ (octal a.mode ++ 32 ∷ (decimal a.uid ++ 32 ∷ (decimal a.gid ++ 32 ∷ (decimal size ++ 32 ∷ (moment_text a.atime ++ 32 ∷ (moment_text a.mtime ++ 32 ∷ (moment_text a.ctime ++ 10 ∷ r)))))))
info_shape a size r = shape (kind_letter a.kind) (octal a.mode) (decimal a.uid) (decimal a.gid) (decimal size) (moment_text a.atime) (moment_text a.mtime) (moment_text a.ctime) r

abbrev SameInfo : Attr → ℕ → Attr → ℕ → List ℕ → List ℕ → Type 0
SameInfo a m b n r s = (Info a m ≡ Info b n) × (r ≡ s)

info_same : (a b : Attr) (m n : ℕ) (r s : List ℕ) → IsInfoShown a m → IsInfoShown b n → info_text a m ++ r ≡ info_text b n ++ s → SameInfo a m b n r s
info_same a b m n r s fa fb e =
    let whole = sym (info_shape a m r) ∙ e ∙ info_shape b n s in
    let kind = kind_same a.kind b.kind (ap (λ z. get_or z 5 0) whole) in
    let modes = ends 32 (octal a.mode) (octal b.mode) _ _ (free_numeral 32 8 a.mode (omega arith)) (free_numeral 32 8 b.mode (omega arith)) (ap (drop 7) whole) in
    let uids = ends 32 (decimal a.uid) (decimal b.uid) _ _ (free_decimal 32 a.uid (omega arith) fa.uid) (free_decimal 32 b.uid (omega arith) fb.uid) modes.1 in
    let gids = ends 32 (decimal a.gid) (decimal b.gid) _ _ (free_decimal 32 a.gid (omega arith) fa.gid) (free_decimal 32 b.gid (omega arith) fb.gid) uids.1 in
    let sizes = ends 32 (decimal m) (decimal n) _ _ (free_decimal 32 m (omega arith) fa.size) (free_decimal 32 n (omega arith) fb.size) gids.1 in
    let atimes = ends 32 (moment_text a.atime) (moment_text b.atime) _ _ (free_moment 32 a.atime (omega arith) fa.atime) (free_moment 32 b.atime (omega arith) fb.atime) sizes.1 in
    let mtimes = ends 32 (moment_text a.mtime) (moment_text b.mtime) _ _ (free_moment 32 a.mtime (omega arith) fa.mtime) (free_moment 32 b.mtime (omega arith) fb.mtime) atimes.1 in
    let ctimes = ends 10 (moment_text a.ctime) (moment_text b.ctime) _ _ (free_moment 10 a.ctime (omega arith) fa.ctime) (free_moment 10 b.ctime (omega arith) fb.ctime) mtimes.1 in
    let mode = octal_same a.mode b.mode modes.0 in
    let uid = decimal_injective a.uid b.uid fa.uid fb.uid uids.0 in
    let gid = decimal_injective a.gid b.gid fa.gid fb.gid gids.0 in
    let size = decimal_injective m n fa.size fb.size sizes.0 in
    let atime = moment_same a.atime b.atime fa.atime fb.atime atimes.0 in
    let mtime = moment_same a.mtime b.mtime fa.mtime fb.mtime mtimes.0 in
    let ctime = moment_same a.ctime b.ctime fa.ctime fb.ctime ctimes.0 in
    ((λ i. Info (record { kind = kind i; mode = mode i; uid = uid i; gid = gid i; atime = atime i; mtime = mtime i; ctime = ctime i }) (size i)), ctimes.1)

-- one reply, and then more

-- the third byte tells which reply it is
abbrev pub third : Reply → ℕ
third Done = 10
third (Rows rows) = 115
third (Info attr size) = 97
third (Target target) = 110
third (Content bytes) = 116
third (Error e) = 114

pub third_is : (x : Reply) (r : List ℕ) → get_or (text_of x ++ r) 2 0 ≡ third x
unfolding text_of
third_is Done r = refl
third_is (Rows rows) r = refl
third_is (Info attr size) r = refl
third_is (Target target) r = refl
third_is (Content bytes) r = refl
third_is (Error e) r = refl

third_same : (x y : Reply) (r s : List ℕ) → text_of x ++ r ≡ text_of y ++ s → third x ≡ third y
third_same x y r s e = sym (third_is x r) ∙ ap (λ z. get_or z 2 0) e ∙ third_is y s

pub reply_same : (x y : Reply) (r s : List ℕ) → IsShown x → IsShown y → text_of x ++ r ≡ text_of y ++ s → (x ≡ y) × (r ≡ s)
unfolding text_of
reply_same Done Done r s fx fy e = (refl, ap (drop 3) e)
reply_same (Rows xs) (Rows ys) r s fx fy e =
    let same = all_rows_same xs ys r s fx fy e in
    (ap Rows same.0, same.1)
reply_same (Info a m) (Info b n) r s fx fy e = info_same a b m n r s fx fy e
reply_same (Target a) (Target b) r s fx fy e =
    let whole = sym (append_assoc (escaped a) (10 ∷ []) r) ∙ ap (drop 5) e ∙ append_assoc (escaped b) (10 ∷ []) s in
    let parts = ends 10 (escaped a) (escaped b) r s (free_escaped 10 a (omega arith)) (free_escaped 10 b (omega arith)) whole in
    (ap Target (escaped_same a b fx fy parts.0), parts.1)
reply_same (Content a) (Content b) r s fx fy e =
    let whole = sym (append_assoc (hex_text a) (10 ∷ []) r) ∙ ap (drop 5) e ∙ append_assoc (hex_text b) (10 ∷ []) s in
    let parts = ends 10 (hex_text a) (hex_text b) r s (free_hex_text 10 a (omega arith)) (free_hex_text 10 b (omega arith)) whole in
    (ap Content (hex_text_same a b fx fy parts.0), parts.1)
reply_same (Error a) (Error b) r s fx fy e =
    let whole = sym (append_assoc (error_name a) (10 ∷ []) r) ∙ ap (drop 6) e ∙ append_assoc (error_name b) (10 ∷ []) s in
    let parts = ends 10 (error_name a) (error_name b) r s (free_from_test 10 (error_name a) (free_error a)) (free_from_test 10 (error_name b) (free_error b)) whole in
    (ap Error (error_same a b parts.0), parts.1)
reply_same x y r s fx fy e = absurd (let t : third x ≡ third y = third_same x y r s e in omega arith)

reply_some : (x : Reply) (r : List ℕ) → text_of x ++ r ≡ [] → ⊥
reply_some x r e = some x (sym (third_is x r) ∙ ap (λ z. get_or z 2 0) e)
  where
    some : (y : Reply) → third y ≡ 0 → ⊥
    some Done h = omega arith
    some (Rows rows) h = omega arith
    some (Info attr size) h = omega arith
    some (Target target) h = omega arith
    some (Content bytes) h = omega arith
    some (Error f) h = omega arith

-- the texts of a list of replies tell the replies
pub one_reading : HasOneReading
one_reading [] [] fx fy e = refl
one_reading [] (y ∷ ys) fx fy e = absurd (reply_some y (texts_of ys) (sym e))
one_reading (x ∷ xs) [] fx fy e = absurd (reply_some x (texts_of xs) e)
one_reading (x ∷ xs) (y ∷ ys) fx fy e =
    let first = reply_same x y (texts_of xs) (texts_of ys) fx.0 fy.0 e in
    let rest = one_reading xs ys fx.1 fy.1 first.1 in
    λ i. first.0 i ∷ rest i
