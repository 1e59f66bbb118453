use Rattle.std.proofs.Common.{sym, ◌∙◌, arith}
use Rattle.std.specs.FinMap as fin
use Rattle.store_api.specs.Holdings.{is_free}
use Rattle.store_api.proofs.Crowds.{passed-none, passed-next}
use Rattle.memory_stores.proofs.Crowds.{ends_free, passed-smaller}
use Rattle.memory_stores.proofs.rows.first_free.Goals as goal

pub returns-then-is_unused : goal.returns-then-is_unused
returns-then-is_unused c = ends_free (fin.keys c.args.rows.now) c.args.drawn.0 c.loop-id.id.0 c.loop-id.invariant (sym c.is_unused.ensures ∙ c.if-is_unused.true)

pub loop-id-init : goal.loop-id-init
loop-id-init c = passed-none (is_free (fin.keys c.args.rows.now)) c.args.drawn.0

pub loop-id-smaller : goal.loop-id-smaller
loop-id-smaller c =
    passed-smaller (fin.keys c.args.rows.now) c.args.drawn.0 c.loop-id.id.0 c.next-id.result.0 (omega (arith, c.requires)) c.loop-id.invariant (sym c.is_unused.ensures ∙ c.if-is_unused.false) c.next-id.ensures

pub loop-id-preserved : goal.loop-id-preserved
loop-id-preserved c =
    passed-next (is_free (fin.keys c.args.rows.now)) c.args.drawn.0 c.loop-id.id.0 c.next-id.result.0 c.loop-id.invariant (sym c.is_unused.ensures ∙ c.if-is_unused.false) c.next-id.ensures
