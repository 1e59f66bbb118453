-- The text of a reply.
use Rattle.std.specs.Prelude.{ℕ, zero, suc, ◌+◌, ◌/◌, ◌%◌, Bool, false, not, ◌&&◌, ◌==◌, nat_le, cond, codes, List, [], ◌∷◌, ◌++◌, length, map}
use Rattle.std.specs.List.{flat_map}
use Rattle.std.specs.Int.Digits.{digits_of}
use Rattle.std.specs.Fmt.{decimal, digit_glyph}
use Rattle.fs_model.specs.Instant.{Instant}
use Rattle.fs_model.specs.declared.attr.Attr.{Attr}
use Rattle.fs_model.specs.declared.attr.Kind.{Kind}
use Rattle.fs_model.specs.declared.attr.Kind.TheVariants.{Directory, File, Link}
use Rattle.fs_model.specs.declared.error.FsError.{FsError}
use Rattle.fs_model.specs.declared.error.FsError.TheVariants.{NoEntry, Exists, NotDirectory, IsDirectory, NotEmpty, Invalid, Busy, NameTooLong, TooLarge, NotLink, BadLine}
use Rattle.fs_model.specs.declared.reply.ListRow.{ListRow}
use Rattle.fs_model.specs.declared.reply.Reply.{Reply}
use Rattle.fs_model.specs.declared.reply.Reply.TheVariants.{Done, Rows, Info, Target, Content, Error}

-- a line of an answer ends with a newline
abbrev pub line : List ℕ → List ℕ
line text = text ++ (10 ∷ [])

-- a further word of a line
abbrev pub word : List ℕ → List ℕ
word text = 32 ∷ text

-- a byte as two hexadecimal digits, in lower case
abbrev pub hex_byte : ℕ → List ℕ
hex_byte b = digit_glyph false (b / 16) ∷ digit_glyph false (b % 16) ∷ []

-- the bytes that print as themselves: 0x21 to 0x7e, but for the backslash
abbrev pub is_plain : ℕ → Bool
is_plain b = nat_le 0x21 b && (nat_le b 0x7E && not (b == 92))

-- a byte of a name or a target
abbrev pub escape : ℕ → List ℕ
escape b = cond (is_plain b) (b ∷ []) (92 ∷ 120 ∷ hex_byte b)

abbrev pub escaped : List ℕ → List ℕ
escaped bytes = flat_map escape bytes

-- the bytes of a content; `-` stands for none
abbrev pub hex_text : List ℕ → List ℕ
hex_text [] = 45 ∷ []
hex_text (b ∷ bytes) = flat_map hex_byte (b ∷ bytes)

-- a number in a base up to ten, without zeros first, and 0 as `0`
unfoldable pub numeral : ℕ → ℕ → List ℕ
numeral base n = cond (n == 0) (48 ∷ []) (map (λ d. 48 + d) (digits_of base n))

abbrev pub octal : ℕ → List ℕ
octal n = numeral 8 n

-- the last k decimal digits of a number, zeros too
abbrev pub last_digits : ℕ → ℕ → List ℕ
last_digits zero n = []
last_digits (suc k) n = last_digits k (n / 10) ++ ((48 + n % 10) ∷ [])

-- seconds, a point and nine digits
abbrev pub moment_text : Instant → List ℕ
moment_text m = decimal m.secs ++ 46 ∷ last_digits 9 m.nanos

abbrev pub kind_letter : Kind → ℕ
kind_letter Directory = 100
kind_letter File = 102
kind_letter Link = 108

-- a kind, a space and a name
abbrev pub row_text : ListRow → List ℕ
row_text row = line (kind_letter row.kind ∷ word (escaped row.name))

abbrev pub rows_text : List ListRow → List ℕ
rows_text rows = line (codes "list" ++ word (decimal (length rows))) ++ flat_map row_text rows

abbrev pub numbers_text : Attr → ℕ → List ℕ
numbers_text attr size = word (octal attr.mode) ++ word (decimal attr.uid) ++ word (decimal attr.gid) ++ word (decimal size)

abbrev pub moments_text : Attr → List ℕ
moments_text attr = word (moment_text attr.atime) ++ word (moment_text attr.mtime) ++ word (moment_text attr.ctime)

-- kind, mode, uid, gid, size, atime, mtime and ctime
abbrev pub info_text : Attr → ℕ → List ℕ
info_text attr size = line (codes "stat" ++ word (kind_letter attr.kind ∷ []) ++ numbers_text attr size ++ moments_text attr)

abbrev pub error_name : FsError → List ℕ
error_name NoEntry = codes "no-entry"
error_name Exists = codes "exists"
error_name NotDirectory = codes "not-directory"
error_name IsDirectory = codes "is-directory"
error_name NotEmpty = codes "not-empty"
error_name Invalid = codes "invalid"
error_name Busy = codes "busy"
error_name NameTooLong = codes "name-too-long"
error_name TooLarge = codes "too-large"
error_name NotLink = codes "not-link"
error_name BadLine = codes "bad-line"

-- the lines of a reply, each with its newline
unfoldable pub text_of : Reply → List ℕ
text_of Done = line (codes "ok")
text_of (Rows rows) = rows_text rows
text_of (Info attr size) = info_text attr size
text_of (Target target) = line (codes "link" ++ word (escaped target))
text_of (Content bytes) = line (codes "data" ++ word (hex_text bytes))
text_of (Error e) = line (codes "error" ++ word (error_name e))
