use Rattle.std.proofs.Common.{ap, ◌∙◌}
use Rattle.std.specs.Int.{w128, from_be_bytes}
use Rattle.aes_gcm.specs.Ghash.{block_at}
use Rattle.format_tests.proofs.plain.load.Goals as goal

pub returns : goal.returns
unfolding block_at
returns c = c.from_be_bytes.ensures ∙ ap (from_be_bytes w128) c.copy_from_slice.ensures.after
