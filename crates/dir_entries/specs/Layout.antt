-- The entries of a directory, and the body that they are written as.
use Rattle.std.specs.Prelude.{◌≡◌, ◌<◌, ◌≤◌, ◌^◌, ℕ, List, ◌∷◌, ◌++◌, length, map, All, IsTrue}
use Rattle.std.specs.List.{flat_map}
use Rattle.std.specs.Int.{w32, w64, to_le_bytes}
use Rattle.std.specs.FinMap.{is_sorted}
use Rattle.block_id.specs.declared.id.BlockId.{BlockId}
use Rattle.fs_model.specs.declared.attr.Attr.{Attr}
use Rattle.fs_model.specs.declared.limits.TheConstants.{MAX_MODE, NANOS_PER_SEC}
use Rattle.fs_model.specs.Instant.{Instant}
use Rattle.fs_model.specs.Names.{IsName}
use Rattle.fs_model.specs.Tree.{name_cmp}
use Rattle.fs_model.specs.Kinds.{byte_of}
use Rattle.dir_entries.specs.declared.entry.Entry.{Entry}

-- what stands under a name: the attributes, and the id of the blob
pub record EntryTarget : Type 0 where
  pub attr : Attr
  pub blob : List ℕ

-- the entries of a directory: names with their targets
abbrev pub Listing : Type 0
Listing = List (List ℕ × EntryTarget)

abbrev pub named : List ℕ → Attr → BlockId → List ℕ × EntryTarget
named name attr blob = (name, record { attr = attr; blob = blob.0 })

abbrev pub entry_of : Entry → List ℕ × EntryTarget
entry_of e = named e.name e.attr e.blob

abbrev pub listing_of : List Entry → Listing
listing_of entries = map entry_of entries

-- ---- the text

-- seconds as a u64, nanoseconds as a u32
unfoldable pub moment_text : Instant → List ℕ
moment_text m = to_le_bytes w64 m.secs ++ to_le_bytes w32 m.nanos

-- kind, mode, uid, gid, last use, last change of the content, last change
unfoldable pub attr_text : Attr → List ℕ
attr_text a =
    byte_of a.kind ∷ (to_le_bytes w32 a.mode ++ to_le_bytes w32 a.uid ++ to_le_bytes w32 a.gid ++ moment_text a.atime ++ moment_text a.mtime ++ moment_text a.ctime)

-- attributes, the name and a zero byte, the blob's id
unfoldable pub entry_text : List ℕ × EntryTarget → List ℕ
entry_text e = attr_text e.1.attr ++ e.0 ++ 0 ∷ e.1.blob

abbrev pub body_of : Listing → List ℕ
body_of listing = flat_map entry_text listing

-- ---- what may be written

pub record IsMoment (m : Instant) : Type 0 where
  pub secs : m.secs < 2 ^ 64
  pub nanos : m.nanos < NANOS_PER_SEC

pub record IsAttr (a : Attr) : Type 0 where
  pub mode : a.mode ≤ MAX_MODE
  pub uid : a.uid < 2 ^ 32
  pub gid : a.gid < 2 ^ 32
  pub atime : IsMoment a.atime
  pub mtime : IsMoment a.mtime
  pub ctime : IsMoment a.ctime

pub record IsEntry (e : List ℕ × EntryTarget) : Type 0 where
  pub name : IsName e.0
  pub attr : IsAttr e.1.attr
  pub blob : length e.1.blob ≡ 16

-- the names strictly rise
abbrev pub IsInOrder : Listing → Type 0
IsInOrder listing = IsTrue (is_sorted name_cmp listing)

abbrev pub HasModes : Listing → Type 0
HasModes listing = All (λ e. e.1.attr.mode ≤ MAX_MODE) listing

-- the entries of a directory
pub record IsListing (listing : Listing) : Type 0 where
  pub entries : All IsEntry listing
  pub order : IsInOrder listing

-- the body of a directory with these entries
pub record IsBody (body : List ℕ) (listing : Listing) : Type 0 where
  pub entries : IsListing listing
  pub text : body ≡ body_of listing
