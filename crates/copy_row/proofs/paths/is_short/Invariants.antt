use Rattle.std.proofs.Common.{◌≡◌, ◌+◌, drop}
use Rattle.copy_laws.specs.Ends.{text_size}
use Rattle.copy_row.proofs.paths.is_short.Given as goal

abbrev pub invariant-loop-name : goal.invariant-loop-name
invariant-loop-name l = l.left + text_size l.path ≡ 4096 + text_size (drop l.name-index l.path)
