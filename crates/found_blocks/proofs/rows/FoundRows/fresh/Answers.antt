use Rattle.std.proofs.Common.{sym, ◌∙◌, arith}
use Rattle.store_api.specs.Holdings.{is_free}
use Rattle.store_api.proofs.Crowds.{passed-none, passed-next}
use Rattle.found_blocks.specs.Rows.{ids_in}
use Rattle.found_blocks.proofs.Freeing.{ends_free, passed-smaller}
use Rattle.found_blocks.proofs.rows.FoundRows.fresh.Goals as goal

pub returns-then-is_free : goal.returns-then-is_free
returns-then-is_free c = ends_free (ids_in c.args.self.now) c.args.drawn.0 c.loop-id.id.0 c.loop-id.invariant (sym c.is_free.ensures ∙ c.if-is_free.true)

pub loop-id-init : goal.loop-id-init
loop-id-init c = passed-none (is_free (ids_in c.args.self.now)) c.args.drawn.0

pub loop-id-smaller : goal.loop-id-smaller
loop-id-smaller c =
    passed-smaller (ids_in c.args.self.now) c.args.drawn.0 c.loop-id.id.0 c.next-id.result.0 (omega (arith, c.requires)) c.loop-id.invariant (sym c.is_free.ensures ∙ c.if-is_free.false) c.next-id.ensures

pub loop-id-preserved : goal.loop-id-preserved
loop-id-preserved c =
    passed-next (is_free (ids_in c.args.self.now)) c.args.drawn.0 c.loop-id.id.0 c.next-id.result.0 c.loop-id.invariant (sym c.is_free.ensures ∙ c.if-is_free.false) c.next-id.ensures
