use Rattle.std.proofs.Common.{◌≡◌, [], List, ℕ, ap, subst, ◌∙◌}
use Rattle.std.specs.List.{flat_map}
use Rattle.copy_sessions.specs.line_io.Streams.{stream_of}
use Rattle.check_texts.proofs.Beside.{lines_alike}
use Rattle.check_texts.proofs.Passing.{handed, printed_stop, printed_whole, then_prints}
use Rattle.check_texts.specs.Printing.{IsPrinted}
use Rattle.check_texts.specs.Strangers.{file_names, line_beside, strangers_text}
use Rattle.check_texts.proofs.strangers.print_strangers.Goals as goal

pub returns-in_err-print_each-clause-printed : goal.returns-in_err-print_each-clause-printed
returns-in_err-print_each-clause-printed g c =
    let o = stream_of g.O.Sink.written g.O.Sink.faults c.args.output.now c.print_each.new.output in
    let page = c.print_each.new.page in
    let owners = c.args.owners.now in
    let sorted = c.sort_lines.new.lines.items in
    let files = c.in_ok-files.files.items in
    let s = c.from_residual-in_err-print_each.result in
    let text = flat_map (line_beside c.deref.result.now) c.deref-2.result.now in
    let is : text ≡ strangers_text owners sorted =
    ap (λ (fs : List (List ℕ)). flat_map (line_beside fs) c.deref-2.result.now) c.deref.ensures.value
    ∙ (ap (flat_map (line_beside files)) c.deref-2.ensures.value ∙ lines_alike (file_names owners) files c.in_ok-files.ensures.same sorted) in (
      sorted,
      c.sort_lines.ensures,
      subst (λ (u : List ℕ). IsPrinted o u page s) is
          (printed_stop o c.args.page.now text page page s _ c.requires c.from_residual-in_err-print_each.ensures.1
          (handed o c.args.page.now text page page c.print_each.result s _ c.in_err-print_each.was c.from_residual-in_err-print_each.ensures.1 c.print_each.ensures.printed)),
    )

pub returns-clause-printed : goal.returns-clause-printed
returns-clause-printed g c =
    let o = stream_of g.O.Sink.written g.O.Sink.faults c.args.output.now c.write.new.output in
    let page = c.write.new.self in
    let owners = c.args.owners.now in
    let sorted = c.sort_lines.new.lines.items in
    let files = c.in_ok-files.files.items in
    let text = flat_map (line_beside c.deref.result.now) c.deref-2.result.now in
    let is : text ≡ strangers_text owners sorted =
    ap (λ (fs : List (List ℕ)). flat_map (line_beside fs) c.deref-2.result.now) c.deref.ensures.value
    ∙ (ap (flat_map (line_beside files)) c.deref-2.ensures.value ∙ lines_alike (file_names owners) files c.in_ok-files.ensures.same sorted) in
    let all = then_prints _ _ _ _ _ _ c.args.page.now text c.print_each.new.page [] page c.in_ok-print_each.ensures.printed c.write.result c.write.ensures.printed in (
      sorted,
      c.sort_lines.ensures,
      subst (λ (u : List ℕ). IsPrinted o u page c.write.result) is (printed_whole o c.args.page.now text page c.write.result c.requires c.write.ensures.empty all),
    )
