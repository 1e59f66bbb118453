use Rattle.std.proofs.Common.{◌≡◌, ℕ, ◌+◌, ◌-◌, ◌*◌, ◌/◌, ◌%◌, ◌<◌, List, [], length, slice_index, slice_index_or, ap, refl, ◌∙◌, arith}
use Rattle.aes_block.specs.KeyExpansion.{aes256}
use Rattle.aes_gcm.specs.Gctr.{counter_block, key_byte}
use Rattle.aes_gcm.proofs.Counters.{counter_block_from}
use Rattle.aes_gcm.specs.Opening.{gctr_all}
use Rattle.aes_gcm.proofs.Streams.{added_more, stream_byte}
use Rattle.aes_gcm.proofs.key_stream.gctr.Goals as goal

pub turns-init : goal.turns-init
unfolding counter_block
turns-init c = record { counted = refl; done = λ k below. absurd (omega arith); rest = λ k from. refl }

pub turns-preserved : goal.turns-preserved
turns-preserved c =
    let inv = c.turns.invariant in
    let added = c.add_blocks.ensures in
    let cipher : List ℕ → List ℕ = aes256 c.args.keys.now in
    let initial : List ℕ = c.args.initial in
    let turn : List (List ℕ) = c.first_turn-turn.result in
    let i : ℕ = c.turns.i in
    let sixteen : length turn ≡ 16 = omega arith in
    let mask : ℕ → ℕ = key_byte cipher initial in
    let part : ℕ → ℕ = λ j. slice_index (slice_index_or turn ((256 * i + j - 256 * i) / 16) []) ((256 * i + j - 256 * i) % 16) in
    let place : (j : ℕ) → j < 256 → part j ≡ mask (256 * i + j) = λ j lt.
    let same : 256 * i + j - 256 * i ≡ j = omega arith in
    ap (λ (n : ℕ). slice_index (slice_index_or turn (n / 16) []) (n % 16)) same
    ∙ stream_byte cipher initial c.turns.counter turn (16 * i) (256 * i) j c.first_turn-turn.ensures inv.counted (omega arith) (omega (arith, sixteen)) in
    let next : 16 * i + 16 ≡ 16 * (i + 1) = omega arith in
    record {
      counted = c.sixteen_after-next.ensures ∙ ap (λ (b : List ℕ). counter_block b 16) inv.counted
          ∙ counter_block_from initial (16 * i) 16 ∙ ap (counter_block initial) next;
      done = λ k below within. added_more c.args.text.now c.turns.text c.add_blocks.new.text mask part 0 (256 * i) 256 (omega arith)
          place (λ n _ lt in_text. inv.done n lt in_text) inv.rest
          (λ j lt in_text. added.inside (256 * i + j) (omega arith) (omega (arith, sixteen)) in_text) added.before k (omega arith) (omega arith) within;
      rest = λ k from. added.after k (omega (arith, sixteen)) ∙ inv.rest k (omega arith);
    }

pub returns : goal.returns
returns c =
    gctr_all (aes256 c.args.keys.now) c.args.initial c.args.text.now c.turns.text (omega arith)
    (λ k lt. c.turns.invariant.done k (omega (arith, c.turns.auto.i-end, c.div_ceil-count.ensures)) lt)
