use Rattle.std.proofs.Common.{◌∙◌, ap}
use Rattle.store_tests.proofs.Rows.{few_nothing}
use Rattle.store_tests.proofs.fronts.empty.Goals as goal

pub returns-in-Ok-clause-few : goal.returns-in-Ok-clause-few
returns-in-Ok-clause-few c = few_nothing c.in-Ok.cache.store.store.rows (ap (λ s. s.store.rows) c.in-Ok.ensures.store ∙ c.new.ensures.rows)
