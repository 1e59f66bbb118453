use Rattle.std.proofs.Common.{◌++◌, [], Ok, subst}
use Rattle.std.specs.List.{flat_map}
use Rattle.copy_sessions.specs.line_io.Streams.{stream_of}
use Rattle.check_texts.proofs.Passing.{handed, printed_stop, printed_whole, stops, then_prints}
use Rattle.check_texts.specs.Printing.{IsPrinted}
use Rattle.check_texts.specs.Texts.{count_text, owner_text}
use Rattle.check_texts.proofs.owners.print_owners.Goals as goal

pub returns-in_err-print_count-clause-printed : goal.returns-in_err-print_count-clause-printed
returns-in_err-print_count-clause-printed g c =
    let o = stream_of g.O.Sink.written g.O.Sink.faults c.args.output.now c.print_count.new.output in
    let page = c.print_count.new.page in
    let count = count_text c.len.result in
    let lines = flat_map owner_text c.args.owners.now in
    let s = c.from_residual.result in
    subst (λ n. IsPrinted o (count_text n ++ lines) page s) c.len.ensures
    (printed_stop o c.args.page.now (count ++ lines) page page s _ c.requires c.from_residual.ensures.1
    (stops o c.args.page.now count lines page page c.print_count.result s _ c.in_err-print_count.was c.from_residual.ensures.1 c.print_count.ensures.printed))

pub returns-in_err-print_each-clause-printed : goal.returns-in_err-print_each-clause-printed
returns-in_err-print_each-clause-printed g c =
    let o = stream_of g.O.Sink.written g.O.Sink.faults c.args.output.now c.print_each.new.output in
    let page = c.print_each.new.page in
    let count = count_text c.len.result in
    let lines = flat_map owner_text c.args.owners.now in
    let s = c.from_residual-in_err-print_each.result in
    let both = then_prints _ _ _ _ _ _ c.args.page.now count c.print_count.new.page lines page c.in_ok-print_count.ensures.printed c.print_each.result c.print_each.ensures.printed in
    subst (λ n. IsPrinted o (count_text n ++ lines) page s) c.len.ensures
    (printed_stop o c.args.page.now (count ++ lines) page page s _ c.requires c.from_residual-in_err-print_each.ensures.1
    (handed o c.args.page.now (count ++ lines) page page c.print_each.result s _ c.in_err-print_each.was c.from_residual-in_err-print_each.ensures.1 both))

pub returns-clause-printed : goal.returns-clause-printed
returns-clause-printed g c =
    let o = stream_of g.O.Sink.written g.O.Sink.faults c.args.output.now c.write.new.output in
    let page = c.write.new.self in
    let count = count_text c.len.result in
    let lines = flat_map owner_text c.args.owners.now in
    let both = then_prints _ _ _ _ _ _ c.args.page.now count c.print_count.new.page lines c.print_each.new.page c.in_ok-print_count.ensures.printed (Ok tt) c.in_ok-print_each.ensures.printed in
    let all = then_prints _ _ _ _ _ _ c.args.page.now (count ++ lines) c.print_each.new.page [] page both c.write.result c.write.ensures.printed in
    subst (λ n. IsPrinted o (count_text n ++ lines) page c.write.result) c.len.ensures
    (printed_whole o c.args.page.now (count ++ lines) page c.write.result c.requires c.write.ensures.empty all)
