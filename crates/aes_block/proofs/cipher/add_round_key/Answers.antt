use Rattle.std.proofs.Common.{bit_xor, slice_index, ap, sym, ◌∙◌, arith}
use Rattle.aes_block.specs.Cipher.{round_key}
use Rattle.aes_block.proofs.States.{round_key_byte, state_filled}
use Rattle.aes_block.proofs.cipher.add_round_key.Goals as goal

pub returns : goal.returns
returns c =
    let s = c.args.s in
    let w = c.args.w.now in
    let r = c.args.r in
    state_filled (λ k. bit_xor (slice_index s k) (slice_index (round_key w r) k)) c.loop-i.out c.loop-i.invariant.0
    (λ k lt. c.loop-i.invariant.1 k (omega arith) ∙ ap (bit_xor (slice_index s k)) (sym (round_key_byte w r k lt)))
