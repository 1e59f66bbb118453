use Rattle.std.proofs.Common.{◌∙◌}
use Rattle.program_words.proofs.Verbs.{named}
use Rattle.program_words.proofs.words.is_command.Goals as goal

pub returns : goal.returns
returns c = c.contains.ensures.value ∙ named c.args.word.now
