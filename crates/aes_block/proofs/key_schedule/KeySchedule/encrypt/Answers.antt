use Rattle.std.proofs.Common.{ap, ◌∙◌}
use Rattle.aes_block.specs.Cipher.{cipher}
use Rattle.aes_block.specs.KeyExpansion.{aes256, key_expansion}
use Rattle.aes_block.proofs.key_schedule.KeySchedule.encrypt.Goals as goal

pub returns : goal.returns
unfolding aes256
returns c = c.encrypt_with.ensures ∙ ap (λ w. cipher w c.args.block) (c.self.invariant ∙ ap key_expansion c.self.view_is)
