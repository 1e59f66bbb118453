use Rattle.mount_serving.proofs.Given.{kept_appends, kept_same}
use Rattle.mount_serving.proofs.channel.give.Goals as goal

pub tries-init : goal.tries-init
tries-init g c = kept_same _

pub returns-in-Ok-clause-given : goal.returns-in-Ok-clause-given
returns-in-Ok-clause-given g c = (c.in-Ok.field-0, kept_appends _ _ _ _ c.tries.invariant c.in-Ok.ensures.bytes)
