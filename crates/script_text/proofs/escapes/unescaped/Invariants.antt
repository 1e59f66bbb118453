-- the bytes so far stand before those of the rest
use Rattle.std.proofs.Common.{◌≡◌, ◌++◌, length}
use Rattle.std.specs.Option.{option_map}
use Rattle.script_text.specs.Escapes.{unescaped}
use Rattle.script_text.proofs.escapes.unescaped.Given as goal

abbrev pub invariant-loop-rest : goal.invariant-loop-rest
invariant-loop-rest l = unescaped l.word ≡ option_map (λ after. l.bytes.items ++ after) (unescaped l.rest)

abbrev pub decreases-loop-rest : goal.decreases-loop-rest
decreases-loop-rest l = length l.rest
