use Rattle.answers.specs.Summaries.{counts_of}
use Rattle.answers.proofs.Counting.{counted_other}
use Rattle.answers.proofs.summary.Summary.add.Goals as goal

pub returns-in_default-clause-counts : goal.returns-in_default-clause-counts
returns-in_default-clause-counts c = λ answers e.
    counted_other c.args.answer.now (counts_of c.args.self.now) _ answers c.in_default.not-Reply c.add_other.ensures.counts e
