use Rattle.store_tests.proofs.Rows.{few_nothing}
use Rattle.store_tests.proofs.fronts.play_in_memory.Goals as goal

pub new-tx-requires-clause-few : goal.new-tx-requires-clause-few
new-tx-requires-clause-few c = few_nothing c.new.result.rows c.new.ensures.rows
