use Rattle.std.proofs.Common.{◌≡◌, ℕ, ◌+◌, ◌<◌, ◌≤◌, slice_index, bit_xor}
use Rattle.format_tests.proofs.plain_steps.add_block.Given as goal

abbrev pub invariant-bytes : goal.invariant-bytes
invariant-bytes l = record {
  inside : (i : ℕ) → i < l.j → slice_index l.text (l.start + i) ≡ bit_xor (slice_index l.fn.text (l.start + i)) (slice_index l.block i);
  before : (k : ℕ) → k < l.start → slice_index l.text k ≡ slice_index l.fn.text k;
  rest : (k : ℕ) → l.start + l.j ≤ k → slice_index l.text k ≡ slice_index l.fn.text k;
}
