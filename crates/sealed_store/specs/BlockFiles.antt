-- Block files: the 16 bytes of a format, then a sealed record.
use Rattle.std.specs.Prelude.{◌≡◌, ℕ, ◌+◌, ◌==◌, List, nat_lt, length, take, drop, if◌then◌else◌}
use Rattle.std.specs.declared.option.Option.{Option}
use Rattle.std.specs.declared.option.Option.TheVariants.{None, Some}
use Rattle.block_id.specs.Formats.{extra_of, format_in, number_of}
use Rattle.block_id.specs.declared.format.Format.{Format}

-- what the rest of a file of this block opens to, by its format
abbrev pub opened_as : (List ℕ → List ℕ → Option (List ℕ)) → List ℕ → List ℕ → Option Format → Option (List ℕ)
opened_as opens id rest None = None
opened_as opens id rest (Some f) = opens (extra_of f id) rest

-- what a file of this block opens to, where a block has this size and `opens` says what a sealed text opens to with some extra bytes
abbrev pub opens_file : (List ℕ → List ℕ → Option (List ℕ)) → ℕ → List ℕ → List ℕ → Option (List ℕ)
opens_file opens size id bytes = if length bytes == size then opened_as opens id (drop 16 bytes) (format_in bytes) else None

-- how the answer for a block's file is seen
pub data SeenFile : Type 0 where
  absent : SeenFile
  bad_length : SeenFile
  bad_prefix : SeenFile
  old_format : SeenFile
  not_opened : SeenFile
  plain : List ℕ → SeenFile

abbrev pub seen_file_of_plain : Option (List ℕ) → SeenFile
seen_file_of_plain None = not_opened
seen_file_of_plain (Some bytes) = plain bytes

-- of a plaintext its first bytes, at most so many; whatever else was seen is the same
abbrev pub front_seen : ℕ → SeenFile → SeenFile
front_seen most absent = absent
front_seen most bad_length = bad_length
front_seen most bad_prefix = bad_prefix
front_seen most old_format = old_format
front_seen most not_opened = not_opened
front_seen most (plain bytes) = plain (take most bytes)

-- a plaintext is whole: with its prefix, IV and tag it is as long as a file
abbrev pub IsWhole : ℕ → SeenFile → Type 0
IsWhole size absent = Unit {0}
IsWhole size bad_length = Unit {0}
IsWhole size bad_prefix = Unit {0}
IsWhole size old_format = Unit {0}
IsWhole size not_opened = Unit {0}
IsWhole size (plain bytes) = length bytes + 48 ≡ size

-- how the rest of a file is seen, by its format and the least number of one that is taken
abbrev pub seen_as : (List ℕ → List ℕ → Option (List ℕ)) → ℕ → List ℕ → List ℕ → Option Format → SeenFile
seen_as opens least id rest None = bad_prefix
seen_as opens least id rest (Some f) = if nat_lt (number_of f) least then old_format else seen_file_of_plain (opens (extra_of f id) rest)

-- the first that holds: no file, another length, another prefix, an older format, a seal that doesn't open; else the plaintext
abbrev pub seen_file_in : (List ℕ → List ℕ → Option (List ℕ)) → ℕ → ℕ → List ℕ → Option (List ℕ) → SeenFile
seen_file_in opens size least id None = absent
seen_file_in opens size least id (Some bytes) = if length bytes == size then seen_as opens least id (drop 16 bytes) (format_in bytes) else bad_length

-- whatever extra bytes a sealed text opens with, it opens to one plaintext
abbrev pub OpensAlike : (List ℕ → List ℕ → Option (List ℕ)) → Type 0
OpensAlike opens = (extra other text plain again : List ℕ) → opens extra text ≡ Some plain → opens other text ≡ Some again → plain ≡ again
