use Rattle.std.proofs.Common.{◌≡◌, ℕ, ◌+◌, ◌-◌, ◌/◌, ◌%◌, ◌<◌, List, [], length, take, drop, slice_index, slice_index_or, bit_xor, ap, refl, ◌∙◌, arith}
use Rattle.aes_block.specs.KeyExpansion.{aes256}
use Rattle.aes_gcm.specs.Gctr.{counter_block, inc32, key_byte}
use Rattle.aes_gcm.proofs.Streams.{gctr_joined, later_stream, stream_byte}
use Rattle.aes_gcm.proofs.key_stream.crypt.Goals as goal

pub returns : goal.returns
unfolding counter_block
returns c =
    let added = c.add_blocks.ensures in
    let cipher : List ℕ → List ℕ = aes256 c.args.keys.now in
    let first : List ℕ = c.args.first in
    let old : List ℕ = c.args.text.now in
    let text : List ℕ = c.add_blocks.new.text in
    let blocks : List (List ℕ) = take 15 (drop 1 c.args.turn.now) in
    let fifteen : length blocks ≡ 15 = omega arith in
    let byte : (k : ℕ) → k < 240 → slice_index (slice_index_or blocks ((k - 0) / 16) []) ((k - 0) % 16) ≡ key_byte cipher (inc32 first) k = λ k lt.
    let same : k - 0 ≡ k = omega arith in
    let place : 0 + k ≡ k = omega arith in
    ap (λ (n : ℕ). slice_index (slice_index_or blocks (n / 16) []) (n % 16)) same
    ∙ stream_byte cipher (inc32 first) (inc32 first) blocks 0 0 k (later_stream cipher first c.args.turn.now (omega arith) c.requires) refl refl (omega (arith, fifteen))
    ∙ ap (key_byte cipher (inc32 first)) place in
    gctr_joined cipher first c.sixteen_after.result old text c.gctr.new.text c.min-front.result (omega arith) c.min-front.ensures c.sixteen_after.ensures
    (λ k lt within. added.inside k (omega arith) (omega (arith, fifteen)) within ∙ ap (bit_xor (slice_index old k)) (byte k lt))
    (λ k le. added.after k (omega (arith, fifteen))) c.gctr.ensures
