-- the texts so far were appended
use Rattle.session_lines.specs.script_text.Texts.{escape}
use Rattle.session_lines.proofs.script_text_lemmas.Appended.{Grown}
use Rattle.copy_sessions.proofs.escapes.push_escaped.Given as goal

abbrev pub invariant-loop-byte : goal.invariant-loop-byte
invariant-loop-byte l = Grown escape l.bytes l.byte-index l.initial.out l.out
