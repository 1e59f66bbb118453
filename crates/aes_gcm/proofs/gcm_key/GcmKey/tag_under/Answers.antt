use Rattle.std.proofs.Common.{◌≡◌, ℕ, ◌++◌, List, ap, ◌∙◌, arith}
use Rattle.std.specs.Int.{w128, to_be_bytes}
use Rattle.aes_block.specs.KeyExpansion.{aes256}
use Rattle.aes_gcm.specs.Gcm.{bit_length, hash_subkey, padded}
use Rattle.aes_gcm.specs.Gctr.{gctr}
use Rattle.aes_gcm.specs.Ghash.{ghash}
use Rattle.aes_gcm.proofs.Hashing.{absorbed}
use Rattle.aes_gcm.proofs.Streams.{gctr_block}
use Rattle.aes_gcm.proofs.Tags.{tag_hash}
use Rattle.aes_gcm.proofs.gcm_key.GcmKey.tag_under.Goals as goal

pub returns : goal.returns
returns c =
    let cipher : List ℕ → List ℕ = aes256 c.args.self.now in
    let hash : ℕ = c.self.inside.hash in
    let key : hash ≡ hash_subkey cipher = c.self.invariant ∙ ap (λ (k : List ℕ). hash_subkey (aes256 k)) c.self.view_is in
    let extra : List ℕ = c.args.extra.now in
    let text : List ℕ = c.args.text.now in
    let last : List ℕ = c.bit_lengths-lengths.result in
    let pieces = c.absorb-sum.ensures ∙ ap (λ (y : ℕ). absorbed hash y text) c.absorb.ensures in
    gctr_block cipher c.args.counter c.args.mask.now c.to_be_bytes-tag.result c.add_block.new.text c.requires (omega arith) (omega arith) c.add_block.ensures.inside
    ∙ ap (gctr cipher c.args.counter) (
    c.to_be_bytes-tag.ensures
    ∙ ap (to_be_bytes w128) (c.absorb-2.ensures ∙ ap (λ (y : ℕ). absorbed hash y last) pieces)
    ∙ tag_hash hash extra text last c.bit_lengths-lengths.ensures
    ∙ ap (λ (h : ℕ). ghash h (padded extra ++ padded text ++ bit_length extra ++ bit_length text)) key)
