-- Names of blocks: an id as hexadecimal digits. An id is a list of 16 bytes.
use Rattle.std.specs.Prelude.{ℕ, ◌+◌, ◌%◌, ◌^◌, List, Option}
use Rattle.std.specs.Int.{w128, from_be_bytes, to_be_bytes}
use Rattle.std.specs.Result.{result_ok}
use Rattle.hex.specs.Hex.{encode_upper, decode_sized}

-- the name of an id: 32 upper-case digits
abbrev pub name_of : List ℕ → List ℕ
name_of id = encode_upper id

-- the id that a text names: 32 digits of either case
abbrev pub id_in : List ℕ → Option (List ℕ)
id_in text = result_ok (decode_sized text 16)

-- the id after this one: one more, modulo 2 ^ 128, the first byte being the highest
abbrev pub next_id : List ℕ → List ℕ
next_id id = to_be_bytes w128 ((from_be_bytes w128 id + 1) % 2 ^ 128)
