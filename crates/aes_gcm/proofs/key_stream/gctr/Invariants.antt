use Rattle.std.proofs.Common.{◌≡◌, ℕ, ◌*◌, ◌<◌, ◌≤◌, length, slice_index, bit_xor}
use Rattle.aes_block.specs.KeyExpansion.{aes256}
use Rattle.aes_gcm.specs.Gctr.{counter_block, key_byte}
use Rattle.aes_gcm.proofs.key_stream.gctr.Given as goal

abbrev pub invariant-turns : goal.invariant-turns
invariant-turns l = record {
  counted : l.counter ≡ counter_block l.fn.initial (16 * l.i);
  done : (k : ℕ) → k < 256 * l.i → k < length l.fn.text → slice_index l.text k ≡ bit_xor (slice_index l.fn.text k) (key_byte (aes256 l.keys) l.fn.initial k);
  rest : (k : ℕ) → 256 * l.i ≤ k → slice_index l.text k ≡ slice_index l.fn.text k;
}
