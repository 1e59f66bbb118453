use Rattle.std.proofs.Common.{sym, ◌∙◌, arith}
use Rattle.local_state.proofs.Ahead.{at_start, goes_on}
use Rattle.local_state.proofs.lives.first_free.Goals as goal

pub candidates-init : goal.candidates-init
candidates-init c = at_start c.args.drawn c.args.lives.now.entries

pub candidates-preserved : goal.candidates-preserved
candidates-preserved c =
    goes_on c.args.drawn c.candidates.id c.next-id.result c.candidates.counter c.args.lives.now.entries (omega (arith, c.len-end.ensures.small, c.len-end.ensures.len)) c.next-id.ensures
    (sym c.is_free.ensures ∙ c.if-is_free.false) c.candidates.invariant
