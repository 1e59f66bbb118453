use Rattle.std.proofs.Common.{Result, Ok, Err}
use Rattle.std.specs.Prelude.{IfOk}
use Rattle.std.proofs.lemmas.Result.{IfOk-at_ok}
use Rattle.fs_model.specs.Fitting.{IsFitting}
use Rattle.fs_model.specs.declared.command.Command.{Command}
use Rattle.fs_model.specs.declared.error.FsError.{FsError}
use Rattle.script_text.specs.declared.error.LineError.{LineError}
use Rattle.script_text.specs.Answers.{Gives}
use Rattle.script_text.proofs.Lines.{command_fits}
use Rattle.script_text.proofs.grammar.parse_line.Goals as goal

given : (r : Result Command LineError) (said : Result Command FsError) → Gives (λ command. command) r said → IfOk said IsFitting → IfOk r IsFitting
given (Ok command) said h fits = IfOk-at_ok IsFitting h fits
given (Err e) said h fits = tt

pub returns-clause-fits : goal.returns-clause-fits
returns-clause-fits c = given c.parse.result _ c.parse.ensures (command_fits c.args.line.now)
