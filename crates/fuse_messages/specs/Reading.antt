-- The structures of <linux/fuse.h> read from left to right: a value, and the bytes after it.
use Rattle.std.specs.Prelude.{ℕ, suc, List, take, drop, ◌==◌}
use Rattle.std.specs.Option.{option_map}
use Rattle.std.specs.List.{position}
use Rattle.std.specs.Int.{w16, w32, w64}
use Rattle.byte_fields.specs.Fields.{number_at}
use Rattle.dir_entries.specs.Reading.{Reader, then_at, map_at}
use Rattle.fuse_messages.specs.declared.structures.RequestHeader.{RequestHeader}
use Rattle.fuse_messages.specs.declared.structures.Span.{Span}
use Rattle.fuse_messages.specs.declared.structures.RenameHead.{RenameHead}
use Rattle.fuse_messages.specs.declared.structures.Times.{Times}
use Rattle.fuse_messages.specs.declared.structures.SetAttributes.{SetAttributes}

-- a name: what stands before the first zero, and after it
unfoldable pub name_text_at : Reader (List ℕ)
name_text_at bytes = option_map (λ end. (take end bytes, drop (suc end) bytes)) (position (λ byte. byte == 0) bytes)

-- ---- two and more numbers of a width

unfoldable pub two16_at : Reader (ℕ × ℕ)
two16_at bytes = then_at (number_at w16) (number_at w16) bytes

unfoldable pub two32_at : Reader (ℕ × ℕ)
two32_at bytes = then_at (number_at w32) (number_at w32) bytes

unfoldable pub two64_at : Reader (ℕ × ℕ)
two64_at bytes = then_at (number_at w64) (number_at w64) bytes

unfoldable pub three32_at : Reader (ℕ × (ℕ × ℕ))
three32_at bytes = then_at (number_at w32) two32_at bytes

unfoldable pub three64_at : Reader (ℕ × (ℕ × ℕ))
three64_at bytes = then_at (number_at w64) two64_at bytes

-- ---- the structures

-- len, opcode; unique, node; uid, gid, pid; extensions, padding
abbrev pub HeaderParts : Type 0
HeaderParts = ((ℕ × ℕ) × (ℕ × ℕ)) × ((ℕ × (ℕ × ℕ)) × (ℕ × ℕ))

abbrev pub header_of : HeaderParts → RequestHeader
header_of p = record {
  len = p.0.0.0;
  opcode = p.0.0.1;
  unique = p.0.1.0;
  node = p.0.1.1;
  uid = p.1.0.0;
  gid = p.1.0.1.0;
  pid = p.1.0.1.1;
  extensions = p.1.1.0;
  padding = p.1.1.1;
}

unfoldable pub asked_at : Reader ((ℕ × ℕ) × (ℕ × ℕ))
asked_at bytes = then_at two32_at two64_at bytes

unfoldable pub whose_at : Reader ((ℕ × (ℕ × ℕ)) × (ℕ × ℕ))
whose_at bytes = then_at three32_at two16_at bytes

unfoldable pub header_at : Reader RequestHeader
header_at bytes = map_at header_of (then_at asked_at whose_at) bytes

-- handle, offset; size, flags of the call; lock_owner; flags, padding
abbrev pub SpanParts : Type 0
SpanParts = ((ℕ × ℕ) × (ℕ × ℕ)) × (ℕ × (ℕ × ℕ))

abbrev pub span_of : SpanParts → Span
span_of p = record {
  handle = p.0.0.0;
  offset = p.0.0.1;
  size = p.0.1.0;
  io_flags = p.0.1.1;
  lock_owner = p.1.0;
  flags = p.1.1.0;
  padding = p.1.1.1;
}

unfoldable pub place_at : Reader ((ℕ × ℕ) × (ℕ × ℕ))
place_at bytes = then_at two64_at two32_at bytes

unfoldable pub owner_at : Reader (ℕ × (ℕ × ℕ))
owner_at bytes = then_at (number_at w64) two32_at bytes

unfoldable pub span_at : Reader Span
span_at bytes = map_at span_of (then_at place_at owner_at) bytes

-- directory; flags, padding
abbrev pub rename_of : ℕ × (ℕ × ℕ) → RenameHead
rename_of p = record { directory = p.0; flags = p.1.0; padding = p.1.1 }

unfoldable pub rename_at : Reader RenameHead
rename_at bytes = map_at rename_of (then_at (number_at w64) two32_at) bytes

-- the seconds, then the nanoseconds
abbrev pub times_of : (ℕ × (ℕ × ℕ)) × (ℕ × (ℕ × ℕ)) → Times
times_of p = record { atime = p.0.0; mtime = p.0.1.0; ctime = p.0.1.1; atime_nanos = p.1.0; mtime_nanos = p.1.1.0; ctime_nanos = p.1.1.1 }

unfoldable pub times_at : Reader Times
times_at bytes = map_at times_of (then_at three64_at three32_at) bytes

-- valid, padding; handle, size, lock_owner; the moments; mode, unused; uid, gid, reserved
abbrev pub SetAttributesParts : Type 0
SetAttributesParts = ((ℕ × ℕ) × (ℕ × (ℕ × ℕ))) × (Times × ((ℕ × ℕ) × (ℕ × (ℕ × ℕ))))

abbrev pub set_attributes_of : SetAttributesParts → SetAttributes
set_attributes_of p = record {
  valid = p.0.0.0;
  padding = p.0.0.1;
  handle = p.0.1.0;
  size = p.0.1.1.0;
  lock_owner = p.0.1.1.1;
  times = p.1.0;
  mode = p.1.1.0.0;
  unused = p.1.1.0.1;
  uid = p.1.1.1.0;
  gid = p.1.1.1.1.0;
  reserved = p.1.1.1.1.1;
}

unfoldable pub what_at : Reader ((ℕ × ℕ) × (ℕ × (ℕ × ℕ)))
what_at bytes = then_at two32_at three64_at bytes

unfoldable pub mode_at : Reader ((ℕ × ℕ) × (ℕ × (ℕ × ℕ)))
mode_at bytes = then_at two32_at three32_at bytes

unfoldable pub set_attributes_at : Reader SetAttributes
set_attributes_at bytes = map_at set_attributes_of (then_at what_at (then_at times_at mode_at)) bytes
