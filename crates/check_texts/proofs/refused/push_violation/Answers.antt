use Rattle.std.proofs.Common.{arith}
use Rattle.check_texts.specs.Texts.{violation_text}
use Rattle.check_texts.proofs.Violating.{appended}
use Rattle.check_texts.proofs.refused.push_violation.Goals as goal

pub returns-clause-text : goal.returns-clause-text
returns-clause-text c =
    let e = c.print_answer.ensures in
    appended c.args.out.now c.print_answer.new.out c.print_answer.result (violation_text c.args.why.now) e.ok e.err e.room e.full (omega (arith, c.args.out.now.ok))
