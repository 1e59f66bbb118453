use Rattle.std.proofs.Common.{arith}
use Rattle.check_texts.proofs.Owned.{owner_more}
use Rattle.check_texts.proofs.Passing.{each_more, each_stops}
use Rattle.check_texts.specs.Texts.{owner_text}
use Rattle.check_texts.proofs.owners.print_each.Goals as goal

pub returns-in_err-print_at-clause-printed : goal.returns-in_err-print_at-clause-printed
returns-in_err-print_at-clause-printed g c =
    let owners = c.args.owners.now in
    let i = c.loop-i.i in
    let next = owner_more owners i (omega (arith, c.loop-i-test.true, c.len-i-end.ensures)) in
    each_stops owner_text owners i _ _ _ _ _ _ c.args.page.now c.loop-i.page _ c.print_at.new.page c.print_at.result next c.loop-i.invariant c.print_at.ensures.printed _ c.from_residual.result _ c.in_err-print_at.was c.from_residual.ensures.1

pub loop-i-preserved : goal.loop-i-preserved
loop-i-preserved g c =
    let owners = c.args.owners.now in
    let i = c.loop-i.i in
    let next = owner_more owners i (omega (arith, c.loop-i-test.true, c.len-i-end.ensures)) in
    each_more owner_text owners i _ _ _ _ _ _ c.args.page.now c.loop-i.page _ c.print_at.new.page c.print_at.result next c.loop-i.invariant c.print_at.ensures.printed _ c.in_ok-print_at.was
