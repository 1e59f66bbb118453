-- The structures of <linux/fuse.h> as the bytes that they are, each field the lowest byte first.
use Rattle.std.specs.Prelude.{◌≡◌, ◌<◌, ◌+◌, ◌-◌, ◌*◌, ◌/◌, ◌%◌, ◌^◌, ℕ, List, [], ◌∷◌, ◌++◌, length, replicate}
use Rattle.std.specs.Int.{w16, w32, w64, to_le_bytes}
use Rattle.fuse_messages.specs.declared.structures.RequestHeader.{RequestHeader}
use Rattle.fuse_messages.specs.declared.structures.Span.{Span}
use Rattle.fuse_messages.specs.declared.structures.RenameHead.{RenameHead}
use Rattle.fuse_messages.specs.declared.structures.Times.{Times}
use Rattle.fuse_messages.specs.declared.structures.SetAttributes.{SetAttributes}
use Rattle.fuse_messages.specs.declared.structures.NodeAttributes.{NodeAttributes}
use Rattle.fuse_messages.specs.declared.structures.Entry.{Entry}

abbrev pub u16 : ℕ → List ℕ
u16 n = to_le_bytes w16 n

abbrev pub u32 : ℕ → List ℕ
u32 n = to_le_bytes w32 n

abbrev pub u64 : ℕ → List ℕ
u64 n = to_le_bytes w64 n

-- ---- what the kernel writes

unfoldable pub header_text : RequestHeader → List ℕ
header_text h = u32 h.len ++ u32 h.opcode ++ u64 h.unique ++ u64 h.node ++ u32 h.uid ++ u32 h.gid ++ u32 h.pid ++ u16 h.extensions ++ u16 h.padding

unfoldable pub span_text : Span → List ℕ
span_text s = u64 s.handle ++ u64 s.offset ++ u32 s.size ++ u32 s.io_flags ++ u64 s.lock_owner ++ u32 s.flags ++ u32 s.padding

unfoldable pub rename_text : RenameHead → List ℕ
rename_text r = u64 r.directory ++ u32 r.flags ++ u32 r.padding

unfoldable pub times_text : Times → List ℕ
times_text t = u64 t.atime ++ u64 t.mtime ++ u64 t.ctime ++ u32 t.atime_nanos ++ u32 t.mtime_nanos ++ u32 t.ctime_nanos

unfoldable pub set_attributes_text : SetAttributes → List ℕ
set_attributes_text s = u32 s.valid ++ u32 s.padding ++ u64 s.handle ++ u64 s.size ++ u64 s.lock_owner ++ times_text s.times ++ u32 s.mode ++ u32 s.unused ++ u32 s.uid ++ u32 s.gid ++ u32 s.reserved

-- what may stand in them
pub record IsHeader (h : RequestHeader) : Type 0 where
  pub len : h.len < 2 ^ 32
  pub opcode : h.opcode < 2 ^ 32
  pub unique : h.unique < 2 ^ 64
  pub node : h.node < 2 ^ 64
  pub uid : h.uid < 2 ^ 32
  pub gid : h.gid < 2 ^ 32
  pub pid : h.pid < 2 ^ 32
  pub extensions : h.extensions < 2 ^ 16
  pub padding : h.padding < 2 ^ 16

pub record IsSpan (s : Span) : Type 0 where
  pub handle : s.handle < 2 ^ 64
  pub offset : s.offset < 2 ^ 64
  pub size : s.size < 2 ^ 32
  pub io_flags : s.io_flags < 2 ^ 32
  pub lock_owner : s.lock_owner < 2 ^ 64
  pub flags : s.flags < 2 ^ 32
  pub padding : s.padding < 2 ^ 32

pub record IsRename (r : RenameHead) : Type 0 where
  pub directory : r.directory < 2 ^ 64
  pub flags : r.flags < 2 ^ 32
  pub padding : r.padding < 2 ^ 32

pub record AreTimes (t : Times) : Type 0 where
  pub atime : t.atime < 2 ^ 64
  pub mtime : t.mtime < 2 ^ 64
  pub ctime : t.ctime < 2 ^ 64
  pub atime_nanos : t.atime_nanos < 2 ^ 32
  pub mtime_nanos : t.mtime_nanos < 2 ^ 32
  pub ctime_nanos : t.ctime_nanos < 2 ^ 32

pub record IsSetAttributes (s : SetAttributes) : Type 0 where
  pub valid : s.valid < 2 ^ 32
  pub padding : s.padding < 2 ^ 32
  pub handle : s.handle < 2 ^ 64
  pub size : s.size < 2 ^ 64
  pub lock_owner : s.lock_owner < 2 ^ 64
  pub times : AreTimes s.times
  pub mode : s.mode < 2 ^ 32
  pub unused : s.unused < 2 ^ 32
  pub uid : s.uid < 2 ^ 32
  pub gid : s.gid < 2 ^ 32
  pub reserved : s.reserved < 2 ^ 32

-- ---- what the kernel reads

unfoldable pub attributes_text : NodeAttributes → List ℕ
attributes_text a = u64 a.node ++ u64 a.size ++ u64 a.blocks ++ times_text a.times ++ u32 a.mode ++ u32 a.links ++ u32 a.uid ++ u32 a.gid ++ u32 a.device ++ u32 a.block_size ++ u32 a.flags

unfoldable pub entry_text : Entry → List ℕ
entry_text e = u64 e.node ++ u64 e.generation ++ u64 e.entry_valid ++ u64 e.attributes_valid ++ u32 e.entry_valid_nanos ++ u32 e.attributes_valid_nanos ++ attributes_text e.attributes

-- fuse_out_header: the length of all, the error with its sign turned as a number of 32 bits, the number of the request
unfoldable pub reply_header_text : ℕ → ℕ → ℕ → List ℕ
reply_header_text len code unique = u32 len ++ u32 code ++ u64 unique

-- it stands before the body
abbrev pub reply_text : ℕ → ℕ → List ℕ → List ℕ
reply_text unique code body = reply_header_text (16 + length body) code unique ++ body

-- zeros up to the next multiple of 8
abbrev pub fill : ℕ → List ℕ
fill len = replicate ((8 - len % 8) % 8) 0

-- fuse_dirent
unfoldable pub row_text : ℕ → ℕ → ℕ → List ℕ → List ℕ
row_text node place kind name = u64 node ++ u64 place ++ u32 (length name) ++ u32 kind ++ name ++ fill (length name)
