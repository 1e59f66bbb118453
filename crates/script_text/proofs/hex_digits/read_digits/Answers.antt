use Rattle.std.proofs.Common.{arith}
use Rattle.std.proofs.lemmas.Bool.{ltb-true, ltb-false}
use Rattle.script_text.proofs.HexDigits.{read_more, read_all, joined}
use Rattle.script_text.proofs.hex_digits.read_digits.Goals as goal

pub pairs-preserved : goal.pairs-preserved
pairs-preserved c =
    let high = c.value_of-high.result in
    let low = c.value_of-low.result in
    read_more c.args.word.now c.pairs.bytes c.pairs.i c.pairs.most high low _ c.larger-most.result (omega arith) (omega arith) c.value_of-high.ensures c.value_of-low.ensures
    (joined high low) c.larger.result c.larger.ensures.one c.larger.ensures.bound c.larger-most.ensures.one c.larger-most.ensures.bound c.pairs.invariant

pub returns : goal.returns
returns c =
    read_all c.args.word.now c.pairs.bytes c.pairs.i c.pairs.most _ (omega arith) (omega arith) (ltb-true c.pairs.most 16) (ltb-false c.pairs.most 16) c.pairs.invariant
