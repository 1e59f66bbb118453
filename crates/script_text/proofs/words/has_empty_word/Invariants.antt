-- no word so far is empty
use Rattle.std.proofs.Common.{◌≡◌, length}
use Rattle.std.specs.List.{list_any}
use Rattle.script_text.specs.Words.{words, is_empty}
use Rattle.script_text.proofs.words.has_empty_word.Given as goal

abbrev pub invariant-pieces : goal.invariant-pieces
invariant-pieces l = list_any is_empty (words l.line) ≡ list_any is_empty (words l.rest)

abbrev pub decreases-pieces : goal.decreases-pieces
decreases-pieces l = length l.rest
