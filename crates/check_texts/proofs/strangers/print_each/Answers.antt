use Rattle.check_texts.proofs.Passing.{each_more, each_stops, more_in}
use Rattle.check_texts.specs.Strangers.{line_beside}
use Rattle.check_texts.proofs.strangers.print_each.Goals as goal

pub returns-in_err-print_name-clause-printed : goal.returns-in_err-print_name-clause-printed
returns-in_err-print_name-clause-printed g c =
    let text = line_beside c.args.files.now in
    let names = c.args.names.now in
    let i = c.loop-name.name-index in
    let next = more_in text names i c.name-item.result c.loop-name-test.true c.name-item.is in
    each_stops text names i _ _ _ _ _ _ c.args.page.now c.loop-name.page _ c.print_name.new.page c.print_name.result next c.loop-name.invariant c.print_name.ensures.printed _ c.from_residual.result _ c.in_err-print_name.was c.from_residual.ensures.1

pub loop-name-preserved : goal.loop-name-preserved
loop-name-preserved g c =
    let text = line_beside c.args.files.now in
    let names = c.args.names.now in
    let i = c.loop-name.name-index in
    let next = more_in text names i c.name-item.result c.loop-name-test.true c.name-item.is in
    each_more text names i _ _ _ _ _ _ c.args.page.now c.loop-name.page _ c.print_name.new.page c.print_name.result next c.loop-name.invariant c.print_name.ensures.printed _ c.in_ok-print_name.was
