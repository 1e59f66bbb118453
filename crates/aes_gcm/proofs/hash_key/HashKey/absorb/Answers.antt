use Rattle.std.proofs.Common.{◌≡◌, refl, ◌∙◌, ap, sym, arith}
use Rattle.std.proofs.Common.{bit_xor, length, ◌/◌}
use Rattle.aes_gcm.specs.Gcm.{padded}
use Rattle.aes_gcm.specs.Ghash.{hashed, times}
use Rattle.aes_gcm.proofs.Hashing.{block_count, hashed_next}
use Rattle.aes_gcm.proofs.hash_key.HashKey.absorb.Goals as goal

pub turns-init : goal.turns-init
unfolding hashed
turns-init c = refl

pub turns-preserved : goal.turns-preserved
turns-preserved c =
    let held : c.turns.hash ≡ hashed c.args.self.now c.args.y (padded c.args.bytes.now) c.turns.i = c.turns.invariant in
    c.times-hash.ensures ∙ (λ t. times (bit_xor (held t) (c.load.ensures t)) c.args.self.now)
    ∙ sym (hashed_next c.args.self.now c.args.y (padded c.args.bytes.now) c.turns.i)

pub returns : goal.returns
returns c =
    let held : c.turns.hash ≡ hashed c.args.self.now c.args.y (padded c.args.bytes.now) c.turns.i = c.turns.invariant in
    let done : c.turns.i ≡ length (padded c.args.bytes.now) / 16 =
    omega (arith, c.turns.auto.i-end, c.div_ceil-count.ensures, block_count c.args.bytes.now) in
    held ∙ ap (hashed c.args.self.now c.args.y (padded c.args.bytes.now)) done
