-- the bytes so far are digits, and write the value
use Rattle.std.proofs.Common.{◌≡◌, ◌<◌, ◌^◌, true, take}
use Rattle.std.specs.List.{list_all}
use Rattle.std.specs.Str.Parse.{digits_value}
use Rattle.script_text.specs.Numbers.{is_digit_in}
use Rattle.script_text.proofs.numbers.number_in.Given as goal

abbrev pub invariant-loop-byte : goal.invariant-loop-byte
invariant-loop-byte l = (list_all (is_digit_in l.base) (take l.byte-index l.word) ≡ true) × (l.value ≡ digits_value l.base (take l.byte-index l.word)) × (l.value < 10 ^ l.byte-index)
