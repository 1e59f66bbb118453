use Rattle.std.proofs.Common.{◌∙◌, sym, subst}
use Rattle.block_cache.specs.store_api.Holdings.{IsFew}
use Rattle.tower_tests.proofs.sessions.sync_twice.Goals as goal

pub returns-clause-few : goal.returns-clause-few
returns-clause-few g c = λ few. subst IsFew (sym (c.sync-second.ensures.moves.leaves.stays.used ∙ c.sync-first.ensures.moves.leaves.stays.used)) few
