use Rattle.answers.specs.script_text.Grammar.{command_of}
use Rattle.session_lines.proofs.Telling.{told}
use Rattle.session_lines.proofs.tell.tell_line.Goals as goal

pub returns-clause-told : goal.returns-clause-told
returns-clause-told g c = λ whole e. (
  c.tell-told.result,
  told g.H.Host.hosting g.met.H.Host.lawful c.args.host.now c.answer_line-answer.new.host c.args.now (command_of whole) c.answer_line-answer.result c.tell-told.result
      (c.answer_line-answer.ensures.answered whole e) c.tell-told.ensures.told,
  c.tell-told.ensures.text,
)
