use Rattle.std.proofs.Common.{◌∙◌, ap}
use Rattle.std.specs.Ordering.{is_eq}
use Rattle.found_blocks.specs.Rows.{ids_in}
use Rattle.found_blocks.proofs.Freeing.{free_where, not_free_where}
use Rattle.found_blocks.proofs.rows.FoundRows.is_free.Goals as goal

pub returns-then-not-has : goal.returns-then-not-has
returns-then-not-has c =
    free_where (ids_in c.args.self.now) c.args.id.now.0 c.has.result c.is_eq.result c.has.ensures (c.is_eq.ensures ∙ ap is_eq c.cmp.ensures) c.if-not-has.true

pub returns-else-not-has : goal.returns-else-not-has
returns-else-not-has c = not_free_where (ids_in c.args.self.now) c.args.id.now.0 c.has.result c.has.ensures c.if-not-has.false
