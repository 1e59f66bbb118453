use Rattle.std.proofs.Common.{◌≡◌, ℕ, ◌<◌, ◌+◌, ◌*◌, length, bit_xor, slice_index}
use Rattle.aes_block.proofs.cipher.add_round_key.Given as goal

abbrev pub invariant-loop-i : goal.invariant-loop-i
invariant-loop-i l = (length l.out ≡ 16) × ((k : ℕ) → k < l.i → slice_index l.out k ≡ bit_xor (slice_index l.s k) (slice_index l.w (16 * l.r + k)))
