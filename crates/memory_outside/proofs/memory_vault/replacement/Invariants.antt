use Rattle.std.proofs.Common.{◌≡◌, drop}
use Rattle.memory_outside.specs.Vaults.{answer_at}
use Rattle.memory_outside.specs.View.{answers_of}
use Rattle.memory_outside.proofs.memory_vault.replacement.Given as goal

abbrev pub invariant-loop-answer : goal.invariant-loop-answer
invariant-loop-answer l = answer_at (answers_of l.answers) l.number ≡ answer_at (answers_of (drop l.answer-index l.answers)) l.number
