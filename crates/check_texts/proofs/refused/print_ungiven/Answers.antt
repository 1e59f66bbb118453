use Rattle.std.proofs.Common.{◌++◌, [], Ok, map}
use Rattle.std.specs.List.{flat_map}
use Rattle.check_refused.specs.Surveys.{ungiven_of}
use Rattle.copy_sessions.specs.line_io.Streams.{stream_of}
use Rattle.check_texts.proofs.Passing.{handed, printed_stop, printed_whole, stops, then_prints}
use Rattle.check_texts.specs.Refusals.{totals_text, ungiven_line}
use Rattle.check_texts.proofs.refused.print_ungiven.Goals as goal

pub returns-in_err-print_each-clause-printed : goal.returns-in_err-print_each-clause-printed
returns-in_err-print_each-clause-printed g c =
    let o = stream_of g.O.Sink.written g.O.Sink.faults c.args.output.now c.print_each.new.output in
    let page = c.print_each.new.page in
    let lines = flat_map ungiven_line c.args.ungiven.now in
    let totals = totals_text (map ungiven_of c.args.ungiven.now) c.args.end.now in
    let s = c.from_residual.result in
    printed_stop o c.args.page.now (lines ++ totals) page page s _ c.requires c.from_residual.ensures.1
    (stops o c.args.page.now lines totals page page c.print_each.result s _ c.in_err-print_each.was c.from_residual.ensures.1 c.print_each.ensures.printed)

pub returns-in_err-print_totals-clause-printed : goal.returns-in_err-print_totals-clause-printed
returns-in_err-print_totals-clause-printed g c =
    let o = stream_of g.O.Sink.written g.O.Sink.faults c.args.output.now c.print_totals.new.output in
    let page = c.print_totals.new.page in
    let lines = flat_map ungiven_line c.args.ungiven.now in
    let totals = totals_text (map ungiven_of c.args.ungiven.now) c.args.end.now in
    let s = c.from_residual-in_err-print_totals.result in
    let all = then_prints _ _ _ _ _ _ c.args.page.now lines c.print_each.new.page totals page c.in_ok-print_each.ensures.printed c.print_totals.result c.print_totals.ensures.printed in
    printed_stop o c.args.page.now (lines ++ totals) page page s _ c.requires c.from_residual-in_err-print_totals.ensures.1
    (handed o c.args.page.now (lines ++ totals) page page c.print_totals.result s _ c.in_err-print_totals.was c.from_residual-in_err-print_totals.ensures.1 all)

pub returns-clause-printed : goal.returns-clause-printed
returns-clause-printed g c =
    let o = stream_of g.O.Sink.written g.O.Sink.faults c.args.output.now c.write.new.output in
    let page = c.write.new.self in
    let lines = flat_map ungiven_line c.args.ungiven.now in
    let totals = totals_text (map ungiven_of c.args.ungiven.now) c.args.end.now in
    let all = then_prints _ _ _ _ _ _ c.args.page.now lines c.print_each.new.page totals c.print_totals.new.page c.in_ok-print_each.ensures.printed (Ok tt) c.in_ok-print_totals.ensures.printed in
    let last = then_prints _ _ _ _ _ _ c.args.page.now (lines ++ totals) c.print_totals.new.page [] page all c.write.result c.write.ensures.printed in
    printed_whole o c.args.page.now (lines ++ totals) page c.write.result c.requires c.write.ensures.empty last
