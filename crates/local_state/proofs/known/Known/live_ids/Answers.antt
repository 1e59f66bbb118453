use Rattle.std.proofs.Common.{map, ap, ◌∙◌}
use Rattle.local_state.specs.Known.{plain_entry}
use Rattle.local_state.proofs.Living.{living_ok}
use Rattle.local_state.proofs.known.Known.live_ids.Goals as goal

pub returns : goal.returns
returns c = living_ok c.args.self.now.lives c.deref.result.now c.live_of.result (ap (map plain_entry) c.deref.ensures.value ∙ c.in_ok-entries.ensures.entries) c.live_of.ensures
