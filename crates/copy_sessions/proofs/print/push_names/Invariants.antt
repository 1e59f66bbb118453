-- the texts so far were appended
use Rattle.copy_sessions.specs.Texts.{name_text}
use Rattle.session_lines.proofs.script_text_lemmas.Appended.{Grown}
use Rattle.copy_sessions.proofs.print.push_names.Given as goal

abbrev pub invariant-loop-name : goal.invariant-loop-name
invariant-loop-name l = Grown name_text l.names l.name-index l.initial.out l.out
