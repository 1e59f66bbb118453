use Rattle.std.proofs.Common.{◌≡◌, ◌<◌, length, get_or, refl, ap, subst, arith}
use Rattle.tree_copy.proofs.Stack.{left_some}
use Rattle.tree_copy.proofs.levels.next_row.Goals as goal

pub returns : goal.returns
returns c =
    let row = c.index-rows-level.result in
    let long = ap length c.as_slice-rows.ensures in
    let less : c.args.level.now.next < length c.args.level.now.rows = omega (arith, c.if-level-rows.false, long) in
    record {
      name = c.index-rows-level.result.name;
      host = refl;
      tree = refl;
      left = left_some c.args.level.now.rows c.args.level.now.next c.index-rows-level.result less (subst (λ z. c.index-rows-level.result ≡ get_or z c.args.level.now.next c.index-rows-level.result) c.as_slice-rows.ensures c.index-rows-level.is);
      at_host = c.in_ok-host.ensures;
      at_tree = c.in_ok-tree.ensures;
    }
