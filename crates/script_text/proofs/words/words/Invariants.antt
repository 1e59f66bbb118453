-- the pieces so far stand before those of the rest
use Rattle.std.proofs.Common.{◌≡◌, ◌++◌, map, length}
use Rattle.script_text.specs.Words.{words}
use Rattle.script_text.proofs.words.words.Given as goal

abbrev pub invariant-pieces : goal.invariant-pieces
invariant-pieces l = words l.line ≡ map (λ w. w.now) l.pieces.items ++ words l.rest

abbrev pub decreases-pieces : goal.decreases-pieces
decreases-pieces l = length l.rest
