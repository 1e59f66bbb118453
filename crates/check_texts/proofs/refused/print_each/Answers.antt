use Rattle.check_texts.proofs.Passing.{each_more, each_stops, more_in}
use Rattle.check_texts.specs.Refusals.{ungiven_line}
use Rattle.check_texts.proofs.refused.print_each.Goals as goal

pub returns-in_err-print_one-clause-printed : goal.returns-in_err-print_one-clause-printed
returns-in_err-print_one-clause-printed g c =
    let blocks = c.args.ungiven.now in
    let i = c.loop-block.block-index in
    let next = more_in ungiven_line blocks i c.block-item.result c.loop-block-test.true c.block-item.is in
    each_stops ungiven_line blocks i _ _ _ _ _ _ c.args.page.now c.loop-block.page _ c.print_one.new.page c.print_one.result next c.loop-block.invariant c.print_one.ensures.printed _ c.from_residual.result _ c.in_err-print_one.was c.from_residual.ensures.1

pub loop-block-preserved : goal.loop-block-preserved
loop-block-preserved g c =
    let blocks = c.args.ungiven.now in
    let i = c.loop-block.block-index in
    let next = more_in ungiven_line blocks i c.block-item.result c.loop-block-test.true c.block-item.is in
    each_more ungiven_line blocks i _ _ _ _ _ _ c.args.page.now c.loop-block.page _ c.print_one.new.page c.print_one.result next c.loop-block.invariant c.print_one.ensures.printed _ c.in_ok-print_one.was
