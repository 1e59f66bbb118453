use Rattle.std.proofs.Common.{arith}
use Rattle.script_text.proofs.Numerals.{number_more, below_more_digits}
use Rattle.script_text.proofs.numbers.number_in.Goals as goal

pub loop-byte-preserved : goal.loop-byte-preserved
loop-byte-preserved c =
    rw (c.from.ensures, c.from-in-loop-byte.ensures)
    (number_more c.args.base c.args.word.now c.loop-byte.byte-index c.loop-byte.value c.requires.decimal c.loop-byte-test.true c.if-byte-lt48.false c.if-byte-base.false c.loop-byte.invariant)

pub returns-clause-bound : goal.returns-clause-bound
returns-clause-bound c = below_more_digits c.loop-byte.value c.loop-byte.byte-index c.args.most (omega arith) c.loop-byte.invariant.2
