use Rattle.std.proofs.Common.{ap, ◌∙◌, arith}
use Rattle.std.specs.Int.{w128, from_be_bytes}
use Rattle.aes_gcm.specs.Gcm.{hash_subkey}
use Rattle.aes_gcm.specs.Gctr.{HasStream, counter_block}
use Rattle.aes_gcm.proofs.gcm_key.subkey_of.Goals as goal

pub returns : goal.returns
unfolding hash_subkey HasStream counter_block
returns c = c.from_be_bytes.ensures ∙ ap (from_be_bytes w128) (c.first_turn-turn.ensures 0 (omega arith))
