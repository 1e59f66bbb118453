use Rattle.std.proofs.Common.{◌≡◌, ℕ, ◌+◌, ◌-◌, ◌*◌, ◌/◌, ◌%◌, ◌<◌, [], slice_index, slice_index_or, ◌∙◌, arith}
use Rattle.aes_gcm.proofs.Streams.{added_more}
use Rattle.aes_gcm.proofs.key_stream.add_blocks.Goals as goal

pub each-preserved : goal.each-preserved
each-preserved c =
    let inv = c.each.invariant in
    let added = c.add_block.ensures in
    let start = c.args.start in
    let j = c.each.j in
    let blocks = c.args.blocks.now in
    let mask : ℕ → ℕ = λ k. slice_index (slice_index_or blocks ((k - start) / 16) []) ((k - start) % 16) in
    let part : ℕ → ℕ = slice_index (slice_index_or blocks j []) in
    let place : (i : ℕ) → i < 16 → part i ≡ mask (start + 16 * j + i) = λ i lt.
    let quotient : j ≡ (start + 16 * j + i - start) / 16 = omega arith in
    let remainder : i ≡ (start + 16 * j + i - start) % 16 = omega arith in
    (λ t. slice_index (slice_index_or blocks (quotient t) []) (remainder t)) in
    record {
      inside = λ k from lt within. added_more c.args.text.now c.each.text c.add_block.new.text mask part start (start + 16 * j) 16 (omega arith)
          place inv.inside inv.rest added.inside added.before k from (omega arith) within;
      before = λ k lt. added.before k (omega arith) ∙ inv.before k lt;
      rest = λ k from. added.after k (omega arith) ∙ inv.rest k (omega arith);
    }
