use Rattle.std.proofs.Common.{◌≡◌, ℕ, List, map}
use Rattle.aes_block.specs.Cipher.{rounds}
use Rattle.aes_block.specs.Planes.{repeated_keys}
use Rattle.aes_block.proofs.rounds.encrypt.Given as goal

abbrev pub invariant-rounds : goal.invariant-rounds
invariant-rounds l = (w : List ℕ) → l.keys ≡ repeated_keys w → l.state ≡ map (λ b. rounds w b l.r) l.blocks
