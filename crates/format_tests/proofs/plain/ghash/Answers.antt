use Rattle.std.proofs.Common.{◌≡◌, ℕ, List, ◌/◌, length, bit_xor, refl, sym, ap, ◌∙◌, arith}
use Rattle.std.specs.Int.{w128, to_be_bytes}
use Rattle.aes_gcm.specs.Ghash.{ghash, hashed, times}
use Rattle.aes_gcm.proofs.Hashing.{hashed_next}
use Rattle.format_tests.proofs.plain.ghash.Goals as goal

pub turns-init : goal.turns-init
unfolding hashed
turns-init c = refl

pub turns-preserved : goal.turns-preserved
turns-preserved c =
    let h : ℕ = c.args.subkey in
    let bytes : List ℕ = c.args.bytes.now in
    let held : c.turns.hash ≡ hashed h 0 bytes c.turns.i = c.turns.invariant in
    c.times-hash.ensures ∙ (λ t. times (bit_xor (held t) (c.load.ensures t)) h) ∙ sym (hashed_next h 0 bytes c.turns.i)

pub returns : goal.returns
unfolding ghash
returns c =
    let h : ℕ = c.args.subkey in
    let bytes : List ℕ = c.args.bytes.now in
    let held : c.turns.hash ≡ hashed h 0 bytes c.turns.i = c.turns.invariant in
    let done : c.turns.i ≡ length bytes / 16 = omega (arith, c.turns.auto.i-end) in
    c.to_be_bytes.ensures ∙ ap (to_be_bytes w128) (held ∙ ap (hashed h 0 bytes) done)
