use Rattle.std.proofs.Common.{◌≡◌, ℕ, ◌<◌, bit_xor, get_or}
use Rattle.scrypt_kdf.proofs.mix.xor_to.Given as goal

abbrev pub invariant-loop-k : goal.invariant-loop-k
invariant-loop-k l = (i : ℕ) → i < l.k → get_or l.t i 0 ≡ bit_xor (get_or l.x i 0) (get_or l.y i 0)
