use Rattle.std.proofs.Common.{◌≡◌}
use Rattle.aes_block.specs.Cipher.{rounds}
use Rattle.aes_block.proofs.cipher.encrypt_with.Given as goal

abbrev pub invariant-rounds : goal.invariant-rounds
invariant-rounds l = l.s ≡ rounds l.w l.fn.block l.r
