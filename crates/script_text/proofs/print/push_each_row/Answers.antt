use Rattle.script_text.specs.Texts.{row_text}
use Rattle.script_text.proofs.Appended.{grown_stops, grown_more, grown_all}
use Rattle.script_text.proofs.print.push_each_row.Goals as goal

pub returns-in_err-push_row : goal.returns-in_err-push_row
returns-in_err-push_row c =
    grown_stops row_text c.args.rows.now c.loop-row.row-index c.row-item.result _ _ _ _ _ _ c.loop-row-test.true c.row-item.is c.in_err-push_row.was c.from_residual.ensures.0 c.loop-row.invariant c.push_row.ensures

pub loop-row-preserved : goal.loop-row-preserved
loop-row-preserved c =
    grown_more row_text c.args.rows.now c.loop-row.row-index c.row-item.result c.args.out.now _ _ _ _ c.loop-row-test.true c.row-item.is c.in_ok-push_row.was c.loop-row.invariant c.push_row.ensures

pub returns : goal.returns
returns c = grown_all row_text c.args.rows.now c.loop-row.row-index _ _ c.loop-row-test.false c.loop-row.invariant
