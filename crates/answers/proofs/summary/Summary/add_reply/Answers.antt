use Rattle.std.proofs.Common.{◌+◌, ℕ, length, refl, ap}
use Rattle.fs_model.specs.declared.reply.Reply.TheVariants.{Done, Rows, Info, Target, Content, Error}
use Rattle.answers.specs.declared.answer.Answer.TheVariants.{Reply as Replied}
use Rattle.answers.specs.Summaries.{counts_of}
use Rattle.answers.proofs.Counting.{counted}
use Rattle.answers.proofs.summary.Summary.add_reply.Goals as goal

pub returns-in-Error-clause-counts : goal.returns-in-Error-clause-counts
returns-in-Error-clause-counts c = λ answers e. counted _ (Replied (Error c.in-Error.field-0)) (counts_of c.args.self.now) _ answers (ap Replied c.in-Error.is) refl e

pub returns-in-Done-clause-counts : goal.returns-in-Done-clause-counts
returns-in-Done-clause-counts c = λ answers e. counted _ (Replied Done) (counts_of c.args.self.now) _ answers (ap Replied c.in-Done.is) refl e

pub returns-in-Rows-clause-counts : goal.returns-in-Rows-clause-counts
returns-in-Rows-clause-counts c = λ answers e. counted _ (Replied (Rows c.in-Rows.field-0)) (counts_of c.args.self.now) _ answers (ap Replied c.in-Rows.is) refl e

pub returns-in-Target-clause-counts : goal.returns-in-Target-clause-counts
returns-in-Target-clause-counts c = λ answers e. counted _ (Replied (Target c.in-Target.field-0)) (counts_of c.args.self.now) _ answers (ap Replied c.in-Target.is) refl e

pub returns-in-Info-clause-counts : goal.returns-in-Info-clause-counts
returns-in-Info-clause-counts c = λ answers e. counted _ (Replied (Info c.in-Info.field-0 c.in-Info.field-1)) (counts_of c.args.self.now) _ answers (ap Replied c.in-Info.is) refl e

pub returns-in-Content-clause-counts : goal.returns-in-Content-clause-counts
returns-in-Content-clause-counts c = λ answers e.
    let old = counts_of c.args.self.now in
    counted _ (Replied (Content c.in-Content.bytes)) old _ answers (ap Replied c.in-Content.is)
    (ap (λ (n : ℕ). record old { lines = old.lines + 1; replies = old.replies + 1; read = old.read + n }) (ap length c.as_slice.ensures)) e
