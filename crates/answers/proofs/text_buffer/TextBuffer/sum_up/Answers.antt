use Rattle.std.proofs.Common.{arith}
use Rattle.answers.specs.Summaries.{counts_of}
use Rattle.answers.proofs.Short.{short_summary}
use Rattle.answers.proofs.text_buffer.TextBuffer.sum_up.Goals as goal

pub unreachable-requires : goal.unreachable-requires
unreachable-requires c = omega (arith, short_summary (counts_of c.args.summary.now) c.requires.few c.requires.small, c.in-Err.ensures)
