use Rattle.std.proofs.Common.{◌≡◌, ℕ, ◌+◌, ◌*◌, ◌/◌, ◌%◌, ◌<◌, List, slice_index, ap, refl, sym, ◌∙◌, arith}
use Rattle.aes_block.specs.KeyExpansion.{aes256}
use Rattle.aes_gcm.specs.Gctr.{counter_block, inc32, key_byte}
use Rattle.aes_gcm.proofs.Counters.{counter_block_next}
use Rattle.aes_gcm.specs.Opening.{gctr_all}
use Rattle.aes_gcm.proofs.Streams.{added_more}
use Rattle.format_tests.proofs.plain.gctr.Goals as goal

pub turns-init : goal.turns-init
unfolding counter_block
turns-init c = record { counted = refl; done = λ k below. absurd (omega arith); rest = λ k from. refl }

pub turns-preserved : goal.turns-preserved
turns-preserved c =
    let inv = c.turns.invariant in
    let added = c.add_block.ensures in
    let cipher : List ℕ → List ℕ = aes256 c.args.keys.now in
    let initial : List ℕ = c.args.initial in
    let i : ℕ = c.turns.i in
    let mask : List ℕ = c.encrypt.result in
    let is_mask : mask ≡ cipher (counter_block initial i) = c.encrypt.ensures ∙ ap cipher inv.counted in
    let place : (j : ℕ) → j < 16 → slice_index mask j ≡ key_byte cipher initial (16 * i + j) = λ j lt.
    let quotient : i ≡ (16 * i + j) / 16 = omega arith in
    let remainder : j ≡ (16 * i + j) % 16 = omega arith in
    ap (λ (l : List ℕ). slice_index l j) is_mask
    ∙ (λ t. slice_index (cipher (counter_block initial (quotient t))) (remainder t)) in
    record {
      counted = c.inc32-next.ensures ∙ ap inc32 inv.counted ∙ sym (counter_block_next initial i);
      done = λ k below within. added_more c.args.text.now c.turns.text c.add_block.new.text (key_byte cipher initial) (slice_index mask) 0 (16 * i) 16 (omega arith)
          place (λ n _ lt in_text. inv.done n lt in_text) inv.rest added.inside added.before k (omega arith) (omega arith) within;
      rest = λ k from. added.after k (omega arith) ∙ inv.rest k (omega arith);
    }

pub returns : goal.returns
returns c =
    gctr_all (aes256 c.args.keys.now) c.args.initial c.args.text.now c.turns.text (omega arith)
    (λ k lt. c.turns.invariant.done k (omega (arith, c.turns.auto.i-end, c.div_ceil-count.ensures)) lt)
