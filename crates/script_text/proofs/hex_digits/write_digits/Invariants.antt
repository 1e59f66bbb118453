-- the bytes so far are written
use Rattle.std.proofs.Common.{◌≡◌, ◌*◌, take}
use Rattle.std.specs.List.{flat_map}
use Rattle.script_text.specs.Texts.{hex_byte}
use Rattle.script_text.proofs.hex_digits.write_digits.Given as goal

abbrev pub invariant-bytes : goal.invariant-bytes
invariant-bytes l = take (2 * l.i) l.text ≡ flat_map hex_byte (take l.i l.bytes)
