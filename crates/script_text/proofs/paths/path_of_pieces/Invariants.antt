use Rattle.std.proofs.Common.{◌≡◌, take, map}
use Rattle.script_text.proofs.paths.path_of_pieces.Given as goal

abbrev pub invariant-loop-piece : goal.invariant-loop-piece
invariant-loop-piece l = l.path ≡ map (λ piece. piece.now) (take l.piece-index l.pieces)
