use Rattle.std.proofs.Common.{rules, length}
use Rattle.std.specs.Prelude.{vec_capacity, vec_len}
use Rattle.setup_runs.proofs.Short.{count_wants}
use Rattle.setup_runs.proofs.migrate_text.push_migrated.Goals as goal

pub returns-in-Ok-clause-wants : goal.returns-in-Ok-clause-wants
returns-in-Ok-clause-wants c = count_wants c.push_count.result (vec_capacity c.args.text.now) (vec_len c.args.text.now) (length c.args.text.now.items) c.in-Ok.count (search rules) (search rules) c.push_count.ensures.full
