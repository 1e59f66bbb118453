use Rattle.std.proofs.Common.{◌∙◌, ap}
use Rattle.std.specs.Ordering.{is_eq}
use Rattle.memory_stores.proofs.Put.{free_where_no_row, not_free_where_row}
use Rattle.memory_stores.proofs.rows.is_unused.Goals as goal

pub returns-then-not-has : goal.returns-then-not-has
returns-then-not-has c =
    free_where_no_row c.args.rows.now c.args.id.now.0 c.has.result c.is_eq.result c.has.ensures (c.is_eq.ensures ∙ ap is_eq c.cmp.ensures) c.if-not-has.true

pub returns-else-not-has : goal.returns-else-not-has
returns-else-not-has c = not_free_where_row c.args.rows.now c.args.id.now.0 c.has.result c.has.ensures c.if-not-has.false
