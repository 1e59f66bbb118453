use Rattle.std.proofs.lemmas.Result.{on_err_weaker}
use Rattle.answers.proofs.Short.{reply_wants}
use Rattle.answers.proofs.print.push_answer.Goals as goal

pub returns-in-Reply-clause-wants : goal.returns-in-Reply-clause-wants
returns-in-Reply-clause-wants c = rw c.in-Reply.is (on_err_weaker c.print_reply.result (reply_wants c.in-Reply.reply _ _) c.print_reply.ensures.full)
