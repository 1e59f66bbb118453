use Rattle.std.proofs.Common.{◌≤◌, ◌*◌, sym, subst, arith}
use Rattle.data_tree.specs.data_nodes.Layout.{fan_out}
use Rattle.data_tree.proofs.Levels.{span-some}
use Rattle.data_growth.proofs.Rising.{not_deep, span-doubles}
use Rattle.data_growth.proofs.raising.above.Goals as goal

pub overflow_add-result : goal.overflow_add-result
overflow_add-result c = omega (arith, not_deep c.args.payload c.args.level.depth c.args.level.room c.requires.least c.requires.room c.requires.small)

pub returns-clause-more : goal.returns-clause-more
returns-clause-more c =
    let room = c.args.level.room in
    let doubled : 2 * room ≤ fan_out c.args.payload * room = subst (λ r. 2 * r ≤ fan_out c.args.payload * r) (sym c.requires.room) (span-doubles c.args.payload c.args.level.depth c.requires.least) in
    omega (arith, doubled, span-some c.args.payload c.args.level.depth c.requires.least, c.requires.room)
