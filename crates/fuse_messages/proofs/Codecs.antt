-- Each structure is read as it is written.
use Rattle.std.proofs.Common.{◌≡◌, ℕ, ◌^◌, ◌<◌, List, ◌++◌, refl, append_assoc, arith}
use Rattle.std.specs.Prelude.{Some}
use Rattle.std.specs.Int.{w16, w32, w64, to_le_bytes}
use Rattle.byte_fields.specs.Fields.{IsBytes, number_at}
use Rattle.byte_fields.proofs.Fields.{Takes, wide16, number_takes, number_again}
use Rattle.dir_entries.specs.Reading.{Reader, then_at, map_at}
use Rattle.dir_entries.proofs.Fields.{IsCodec, then_codec, map_codec, u32_codec, u64_codec}
use Rattle.fuse_messages.specs.declared.structures.Times.{Times}
use Rattle.fuse_messages.specs.Reading.{two16_at, two32_at, two64_at, three32_at, three64_at, HeaderParts, header_of, asked_at, whose_at, header_at, SpanParts, span_of, place_at, owner_at, span_at, rename_of, rename_at, times_of, times_at, SetAttributesParts, set_attributes_of, what_at, mode_at, set_attributes_at}
use Rattle.fuse_messages.specs.Layout.{header_text, span_text, rename_text, times_text, set_attributes_text, IsHeader, IsSpan, IsRename, AreTimes, IsSetAttributes}
use Rattle.fuse_messages.specs.Laws.{HasOneReading, StructuresHaveOneReading}

u16_codec : IsCodec (number_at w16) (to_le_bytes w16) (λ n. n < 2 ^ 16)
u16_codec = record { takes = λ bytes n rest fits e. number_takes wide16 bytes (n, rest) fits e; again = number_again wide16 }

-- ---- two and three

abbrev text16 : ℕ × ℕ → List ℕ
text16 x = to_le_bytes w16 x.0 ++ to_le_bytes w16 x.1

abbrev text32 : ℕ × ℕ → List ℕ
text32 x = to_le_bytes w32 x.0 ++ to_le_bytes w32 x.1

abbrev text64 : ℕ × ℕ → List ℕ
text64 x = to_le_bytes w64 x.0 ++ to_le_bytes w64 x.1

abbrev Two : ℕ → ℕ × ℕ → Type 0
Two limit x = (x.0 < limit) × (x.1 < limit)

abbrev Three : ℕ → ℕ × (ℕ × ℕ) → Type 0
Three limit x = (x.0 < limit) × Two limit x.1

two16_codec : IsCodec two16_at text16 (Two (2 ^ 16))
unfolding two16_at
two16_codec = then_codec (number_at w16) (number_at w16) (to_le_bytes w16) (to_le_bytes w16) _ _ u16_codec u16_codec

two32_codec : IsCodec two32_at text32 (Two (2 ^ 32))
unfolding two32_at
two32_codec = then_codec (number_at w32) (number_at w32) (to_le_bytes w32) (to_le_bytes w32) _ _ u32_codec u32_codec

two64_codec : IsCodec two64_at text64 (Two (2 ^ 64))
unfolding two64_at
two64_codec = then_codec (number_at w64) (number_at w64) (to_le_bytes w64) (to_le_bytes w64) _ _ u64_codec u64_codec

three32_codec : IsCodec three32_at (λ x. to_le_bytes w32 x.0 ++ text32 x.1) (Three (2 ^ 32))
unfolding three32_at
three32_codec = then_codec (number_at w32) two32_at (to_le_bytes w32) text32 _ (Two (2 ^ 32)) u32_codec two32_codec

three64_codec : IsCodec three64_at (λ x. to_le_bytes w64 x.0 ++ text64 x.1) (Three (2 ^ 64))
unfolding three64_at
three64_codec = then_codec (number_at w64) two64_at (to_le_bytes w64) text64 _ (Two (2 ^ 64)) u64_codec two64_codec

abbrev third32 : ℕ × (ℕ × ℕ) → List ℕ
third32 x = to_le_bytes w32 x.0 ++ text32 x.1

abbrev third64 : ℕ × (ℕ × ℕ) → List ℕ
third64 x = to_le_bytes w64 x.0 ++ text64 x.1

-- ---- the header

asked_codec : IsCodec asked_at (λ x. text32 x.0 ++ text64 x.1) (λ x. Two (2 ^ 32) x.0 × Two (2 ^ 64) x.1)
unfolding asked_at
asked_codec = then_codec two32_at two64_at text32 text64 (Two (2 ^ 32)) (Two (2 ^ 64)) two32_codec two64_codec

whose_codec : IsCodec whose_at (λ x. third32 x.0 ++ text16 x.1) (λ x. Three (2 ^ 32) x.0 × Two (2 ^ 16) x.1)
unfolding whose_at
whose_codec = then_codec three32_at two16_at third32 text16 (Three (2 ^ 32)) (Two (2 ^ 16)) three32_codec two16_codec

abbrev header_parts_text : HeaderParts → List ℕ
header_parts_text p = (text32 p.0.0 ++ text64 p.0.1) ++ (third32 p.1.0 ++ text16 p.1.1)

same_header : (p : HeaderParts) → header_text (header_of p) ≡ header_parts_text p
unfolding header_text
same_header p = simp append_assoc

pub header_codec : IsCodec header_at header_text IsHeader
unfolding header_at
header_codec =
    map_codec header_of (λ h. (((h.len, h.opcode), (h.unique, h.node)), ((h.uid, (h.gid, h.pid)), (h.extensions, h.padding)))) _ header_parts_text header_text _ IsHeader
    (λ h. refl) same_header
    (λ p is. record {
      len = is.0.0.0;
      opcode = is.0.0.1;
      unique = is.0.1.0;
      node = is.0.1.1;
      uid = is.1.0.0;
      gid = is.1.0.1.0;
      pid = is.1.0.1.1;
      extensions = is.1.1.0;
      padding = is.1.1.1;
    })
    (λ h is. (((is.len, is.opcode), (is.unique, is.node)), ((is.uid, (is.gid, is.pid)), (is.extensions, is.padding))))
    (then_codec asked_at whose_at (λ x. text32 x.0 ++ text64 x.1) (λ x. third32 x.0 ++ text16 x.1) (λ x. Two (2 ^ 32) x.0 × Two (2 ^ 64) x.1) (λ x. Three (2 ^ 32) x.0 × Two (2 ^ 16) x.1) asked_codec whose_codec)

-- ---- reading and writing

place_codec : IsCodec place_at (λ x. text64 x.0 ++ text32 x.1) (λ x. Two (2 ^ 64) x.0 × Two (2 ^ 32) x.1)
unfolding place_at
place_codec = then_codec two64_at two32_at text64 text32 (Two (2 ^ 64)) (Two (2 ^ 32)) two64_codec two32_codec

owner_codec : IsCodec owner_at (λ x. to_le_bytes w64 x.0 ++ text32 x.1) (λ x. (x.0 < 2 ^ 64) × Two (2 ^ 32) x.1)
unfolding owner_at
owner_codec = then_codec (number_at w64) two32_at (to_le_bytes w64) text32 (λ n. n < 2 ^ 64) (Two (2 ^ 32)) u64_codec two32_codec

abbrev span_parts_text : SpanParts → List ℕ
span_parts_text p = (text64 p.0.0 ++ text32 p.0.1) ++ (to_le_bytes w64 p.1.0 ++ text32 p.1.1)

same_span : (p : SpanParts) → span_text (span_of p) ≡ span_parts_text p
unfolding span_text
same_span p = simp append_assoc

pub span_codec : IsCodec span_at span_text IsSpan
unfolding span_at
span_codec =
    map_codec span_of (λ s. (((s.handle, s.offset), (s.size, s.io_flags)), (s.lock_owner, (s.flags, s.padding)))) _ span_parts_text span_text _ IsSpan
    (λ s. refl) same_span
    (λ p is. record { handle = is.0.0.0; offset = is.0.0.1; size = is.0.1.0; io_flags = is.0.1.1; lock_owner = is.1.0; flags = is.1.1.0; padding = is.1.1.1 })
    (λ s is. (((is.handle, is.offset), (is.size, is.io_flags)), (is.lock_owner, (is.flags, is.padding))))
    (then_codec place_at owner_at (λ x. text64 x.0 ++ text32 x.1) (λ x. to_le_bytes w64 x.0 ++ text32 x.1) (λ x. Two (2 ^ 64) x.0 × Two (2 ^ 32) x.1) (λ x. (x.0 < 2 ^ 64) × Two (2 ^ 32) x.1) place_codec owner_codec)

-- ---- renaming

pub rename_codec : IsCodec rename_at rename_text IsRename
unfolding rename_at rename_text
rename_codec =
    map_codec rename_of (λ r. (r.directory, (r.flags, r.padding))) _ (λ x. to_le_bytes w64 x.0 ++ text32 x.1) rename_text _ IsRename
    (λ r. refl) (λ p. refl)
    (λ p is. record { directory = is.0; flags = is.1.0; padding = is.1.1 })
    (λ r is. (is.directory, (is.flags, is.padding)))
    (then_codec (number_at w64) two32_at (to_le_bytes w64) text32 (λ n. n < 2 ^ 64) (Two (2 ^ 32)) u64_codec two32_codec)

-- ---- attributes

abbrev times_parts_text : (ℕ × (ℕ × ℕ)) × (ℕ × (ℕ × ℕ)) → List ℕ
times_parts_text p = third64 p.0 ++ third32 p.1

same_times : (p : (ℕ × (ℕ × ℕ)) × (ℕ × (ℕ × ℕ))) → times_text (times_of p) ≡ times_parts_text p
unfolding times_text
same_times p = simp append_assoc

times_codec : IsCodec times_at times_text AreTimes
unfolding times_at
times_codec =
    map_codec times_of (λ t. ((t.atime, (t.mtime, t.ctime)), (t.atime_nanos, (t.mtime_nanos, t.ctime_nanos)))) _ times_parts_text times_text _ AreTimes
    (λ t. refl) same_times
    (λ p is. record { atime = is.0.0; mtime = is.0.1.0; ctime = is.0.1.1; atime_nanos = is.1.0; mtime_nanos = is.1.1.0; ctime_nanos = is.1.1.1 })
    (λ t is. ((is.atime, (is.mtime, is.ctime)), (is.atime_nanos, (is.mtime_nanos, is.ctime_nanos))))
    (then_codec three64_at three32_at third64 third32 (Three (2 ^ 64)) (Three (2 ^ 32)) three64_codec three32_codec)

what_codec : IsCodec what_at (λ x. text32 x.0 ++ third64 x.1) (λ x. Two (2 ^ 32) x.0 × Three (2 ^ 64) x.1)
unfolding what_at
what_codec = then_codec two32_at three64_at text32 third64 (Two (2 ^ 32)) (Three (2 ^ 64)) two32_codec three64_codec

mode_codec : IsCodec mode_at (λ x. text32 x.0 ++ third32 x.1) (λ x. Two (2 ^ 32) x.0 × Three (2 ^ 32) x.1)
unfolding mode_at
mode_codec = then_codec two32_at three32_at text32 third32 (Two (2 ^ 32)) (Three (2 ^ 32)) two32_codec three32_codec

abbrev set_parts_text : SetAttributesParts → List ℕ
set_parts_text p = (text32 p.0.0 ++ third64 p.0.1) ++ (times_text p.1.0 ++ (text32 p.1.1.0 ++ third32 p.1.1.1))

same_set : (p : SetAttributesParts) → set_attributes_text (set_attributes_of p) ≡ set_parts_text p
unfolding set_attributes_text
same_set p = simp append_assoc

pub set_attributes_codec : IsCodec set_attributes_at set_attributes_text IsSetAttributes
unfolding set_attributes_at
set_attributes_codec =
    map_codec set_attributes_of (λ s. (((s.valid, s.padding), (s.handle, (s.size, s.lock_owner))), (s.times, ((s.mode, s.unused), (s.uid, (s.gid, s.reserved)))))) _ set_parts_text set_attributes_text _ IsSetAttributes
    (λ s. refl) same_set
    (λ p is. record {
      valid = is.0.0.0;
      padding = is.0.0.1;
      handle = is.0.1.0;
      size = is.0.1.1.0;
      lock_owner = is.0.1.1.1;
      times = is.1.0;
      mode = is.1.1.0.0;
      unused = is.1.1.0.1;
      uid = is.1.1.1.0;
      gid = is.1.1.1.1.0;
      reserved = is.1.1.1.1.1;
    })
    (λ s is. (((is.valid, is.padding), (is.handle, (is.size, is.lock_owner))), (is.times, ((is.mode, is.unused), (is.uid, (is.gid, is.reserved))))))
    (then_codec what_at (then_at times_at mode_at) (λ x. text32 x.0 ++ third64 x.1) (λ x. times_text x.0 ++ (text32 x.1.0 ++ third32 x.1.1))
    (λ x. Two (2 ^ 32) x.0 × Three (2 ^ 64) x.1) (λ x. AreTimes x.0 × (Two (2 ^ 32) x.1.0 × Three (2 ^ 32) x.1.1)) what_codec
    (then_codec times_at mode_at times_text (λ x. text32 x.0 ++ third32 x.1) AreTimes (λ x. Two (2 ^ 32) x.0 × Three (2 ^ 32) x.1) times_codec mode_codec))

-- ---- all of them

one_reading : {A : Type 0} (reader : Reader A) (text : A → List ℕ) (Is : A → Type 0) → IsCodec reader text Is → HasOneReading reader text Is
one_reading reader text Is codec = record {
  took = λ bytes a rest fits e. let taken = codec.takes bytes a rest fits e in (taken.0.parts, taken.1);
  again = codec.again;
}

pub structures : StructuresHaveOneReading
structures = record {
  header = one_reading _ _ _ header_codec;
  span = one_reading _ _ _ span_codec;
  rename = one_reading _ _ _ rename_codec;
  set_attributes = one_reading _ _ _ set_attributes_codec;
}
