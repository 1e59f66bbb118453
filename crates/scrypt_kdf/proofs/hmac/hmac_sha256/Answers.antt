use Rattle.std.proofs.Common.{List, ℕ, ◌++◌, ap, ◌∙◌, map, bit_xor}
use Rattle.sha2.specs.Sha256.{sha256}
use Rattle.scrypt_kdf.specs.Hmac.{hmac_sha256}
use Rattle.scrypt_kdf.proofs.hmac.hmac_sha256.Goals as goal

pub returns : goal.returns
unfolding hmac_sha256
returns c =
    let text : List ℕ = c.args.text.now in
    let pad : List ℕ → ℕ → List ℕ = λ b byte. map (λ x. bit_xor x byte) b in
    let block : List ℕ = c.key_block-block.result in
    let inner = c.finalize.ensures (pad block 0x36 ++ text) (c.update.ensures (pad block 0x36) c.padded-inner.ensures) in
    c.finalize-2.ensures (pad block 0x5c ++ c.finalize.result) (c.update-2.ensures (pad block 0x5c) c.padded-outer.ensures)
    ∙ ap (λ (d : List ℕ). sha256 (pad block 0x5c ++ d)) inner
    ∙ ap (λ (b : List ℕ). sha256 (pad b 0x5c ++ sha256 (pad b 0x36 ++ text))) c.key_block-block.ensures
