use Rattle.std.proofs.Common.{◌≡◌, ℕ, [], ◌∷◌, ◌++◌, List, ap, ◌∙◌}
use Rattle.std.specs.Int.{w128, to_be_bytes}
use Rattle.aes_block.specs.KeyExpansion.{aes256}
use Rattle.aes_gcm.specs.Gcm.{hash_subkey}
use Rattle.aes_gcm.proofs.Hashing.{absorbed}
use Rattle.aes_gcm.proofs.Tags.{first_counter_hashed, first_counter_short}
use Rattle.aes_gcm.proofs.gcm_key.GcmKey.first_counter.Goals as goal

pub returns-then-iv-eq12 : goal.returns-then-iv-eq12
returns-then-iv-eq12 c =
    ap (λ (l : List ℕ). l ++ (0 ∷ 0 ∷ 0 ∷ 1 ∷ [])) c.copy_from_slice.ensures.after
    ∙ first_counter_short (aes256 c.args.self.now) c.args.iv.now c.if-iv-eq12.true

pub returns-else-iv-eq12 : goal.returns-else-iv-eq12
returns-else-iv-eq12 c =
    let hash : ℕ = c.self.inside.hash in
    let key : hash ≡ hash_subkey (aes256 c.args.self.now) = c.self.invariant ∙ ap (λ (k : List ℕ). hash_subkey (aes256 k)) c.self.view_is in
    c.to_be_bytes.ensures
    ∙ ap (to_be_bytes w128) (c.absorb.ensures ∙ ap (λ (y : ℕ). absorbed hash y c.bit_lengths-lengths.result) c.absorb-sum.ensures)
    ∙ first_counter_hashed (aes256 c.args.self.now) c.args.iv.now c.bit_lengths-lengths.result hash key c.if-iv-eq12.false c.bit_lengths-lengths.ensures
