use Rattle.std.proofs.Common.{◌≡◌, ℕ, ◌+◌, ◌-◌, ◌*◌, ◌/◌, ◌%◌, ◌<◌, ◌≤◌, [], length, slice_index, slice_index_or, bit_xor}
use Rattle.aes_gcm.proofs.key_stream.add_blocks.Given as goal

abbrev pub invariant-each : goal.invariant-each
invariant-each l = record {
  inside : (k : ℕ) → l.start ≤ k → k < l.start + 16 * l.j → k < length l.fn.text → slice_index l.text k ≡ bit_xor (slice_index l.fn.text k) (slice_index (slice_index_or l.blocks ((k - l.start) / 16) []) ((k - l.start) % 16));
  before : (k : ℕ) → k < l.start → slice_index l.text k ≡ slice_index l.fn.text k;
  rest : (k : ℕ) → l.start + 16 * l.j ≤ k → slice_index l.text k ≡ slice_index l.fn.text k;
}
