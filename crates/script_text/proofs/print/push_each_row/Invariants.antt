-- the texts so far were appended
use Rattle.script_text.specs.Texts.{row_text}
use Rattle.script_text.proofs.Appended.{Grown}
use Rattle.script_text.proofs.print.push_each_row.Given as goal

abbrev pub invariant-loop-row : goal.invariant-loop-row
invariant-loop-row l = Grown row_text l.rows l.row-index l.initial.out l.out
