use Rattle.std.proofs.Common.{ap, ◌∙◌, arith}
use Rattle.aes_gcm.specs.Gctr.{counter_block, inc32}
use Rattle.aes_gcm.proofs.counter.sixteen_after.Goals as goal

pub returns : goal.returns
unfolding counter_block
returns c = c.inc32.ensures ∙ ap inc32 (c.sixteen_counters-counters.ensures 15 (omega arith))
