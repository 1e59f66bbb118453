use Rattle.std.proofs.Common.{ap, ◌∙◌, codes}
use Rattle.std.proofs.lemmas.Result.{IfOk-weaker}
use Rattle.clap.specs.Words.{App, with_rule}
use Rattle.program_words.specs.CreateCommand.{create_app, option_rule}
use Rattle.program_words.proofs.create_command.create_command.Goals as goal

pub returns : goal.returns
unfolding create_app
returns c =
    let one = c.in_ok-command.ensures ∙ ap (λ (a : App). with_rule a (option_rule (codes "blocksize"))) c.bare_command.ensures in
    let two = c.in_ok-command-2.ensures ∙ ap (λ (a : App). with_rule a (option_rule (codes "scrypt-n"))) one in
    let three = c.in_ok-command-3.ensures ∙ ap (λ (a : App). with_rule a (option_rule (codes "scrypt-r"))) two in
    IfOk-weaker c.with_option-4.result _ _ (λ command added. added ∙ ap (λ (a : App). with_rule a (option_rule (codes "scrypt-p"))) three) c.with_option-4.ensures
