use Rattle.std.proofs.Common.{arith}
use Rattle.memory_stores.proofs.Put.{copied, length-keys}
use Rattle.memory_stores.proofs.rows.changed.Goals as goal

pub returns-clause-with : goal.returns-clause-with
returns-clause-with c =
    copied c.args.rows.now c.args.changes.now c.new-new.result c.set_all.new.rows c.set_all-2.new.rows c.new-new.ensures c.in_ok-set_all.ensures c.in_ok-set_all-2.ensures

pub returns-clause-few : goal.returns-clause-few
returns-clause-few c = omega (arith, length-keys c.set_all-2.new.rows, c.len-count.ensures, c.len-count.type_inv)
