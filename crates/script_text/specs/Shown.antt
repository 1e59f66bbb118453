-- The replies that a program has: each part is within its type.
use Rattle.std.specs.Prelude.{◌≡◌, ℕ, ◌^◌, ◌<◌, List, length}
use Rattle.std.specs.List.{AllByRecursion, flat_map}
use Rattle.fs_model.specs.Instant.{Instant}
use Rattle.fs_model.specs.declared.attr.Attr.{Attr}
use Rattle.fs_model.specs.declared.reply.ListRow.{ListRow}
use Rattle.fs_model.specs.declared.reply.Reply.{Reply}
use Rattle.fs_model.specs.declared.reply.Reply.TheVariants.{Done, Rows, Info, Target, Content, Error}
use Rattle.script_text.specs.Texts.{text_of}

abbrev pub AreBytes : List ℕ → Type 0
AreBytes bytes = AllByRecursion (λ b. b < 256) bytes

pub record IsMoment (m : Instant) : Type 0 where
  pub secs : m.secs < 2 ^ 64
  pub nanos : m.nanos < 1_000_000_000

pub record IsInfoShown (attr : Attr) (count : ℕ) : Type 0 where
  pub uid : attr.uid < 2 ^ 64
  pub gid : attr.gid < 2 ^ 64
  pub size : count < 2 ^ 64
  pub atime : IsMoment attr.atime
  pub mtime : IsMoment attr.mtime
  pub ctime : IsMoment attr.ctime

pub record AreRowsShown (rows : List ListRow) : Type 0 where
  pub count : length rows < 2 ^ 64
  pub names : AllByRecursion (λ row. AreBytes row.name) rows

abbrev pub IsShown : Reply → Type 0
IsShown Done = Unit {0}
IsShown (Rows rows) = AreRowsShown rows
IsShown (Info attr size) = IsInfoShown attr size
IsShown (Target target) = AreBytes target
IsShown (Content bytes) = AreBytes bytes
IsShown (Error e) = Unit {0}

-- the texts of replies, one after another
abbrev pub texts_of : List Reply → List ℕ
texts_of replies = flat_map text_of replies

-- two lists of replies that print alike are the same
abbrev pub HasOneReading : Type 0
HasOneReading = (xs ys : List Reply) → AllByRecursion IsShown xs → AllByRecursion IsShown ys → texts_of xs ≡ texts_of ys → xs ≡ ys
