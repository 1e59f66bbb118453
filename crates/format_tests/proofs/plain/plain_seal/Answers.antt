use Rattle.std.proofs.Common.{◌≡◌, ℕ, ◌++◌, List, ap, ◌∙◌}
use Rattle.std.specs.Int.{w128, from_be_bytes}
use Rattle.aes_block.specs.KeyExpansion.{aes256}
use Rattle.aes_gcm.specs.Gcm.{bit_length, crypt, first_counter, hash_subkey, padded}
use Rattle.aes_gcm.specs.Gctr.{gctr, inc32}
use Rattle.aes_gcm.specs.Ghash.{ghash}
use Rattle.aes_gcm.proofs.Tags.{crypt_from, tag_from}
use Rattle.format_tests.proofs.plain.plain_seal.Goals as goal

pub returns-clause-text : goal.returns-clause-text
unfolding hash_subkey
returns-clause-text c =
    let cipher : List ℕ → List ℕ = aes256 c.args.keys.now in
    let iv : List ℕ = c.args.iv.now in
    let plain : List ℕ = c.args.plain.now in
    let key : c.from_be_bytes-subkey.result ≡ hash_subkey cipher = c.from_be_bytes-subkey.ensures ∙ ap (from_be_bytes w128) c.encrypt.ensures in
    c.in_ok-text.ensures ∙ ap (λ (b : List ℕ). gctr cipher b plain) c.inc32.ensures
    ∙ crypt_from cipher iv c.in_ok-counter.counter plain (c.in_ok-counter.ensures cipher key)

pub returns-clause-tag : goal.returns-clause-tag
unfolding hash_subkey
returns-clause-tag c =
    let cipher : List ℕ → List ℕ = aes256 c.args.keys.now in
    let iv : List ℕ = c.args.iv.now in
    let extra : List ℕ = c.args.extra.now in
    let plain : List ℕ = c.args.plain.now in
    let counter : List ℕ = c.in_ok-counter.counter in
    let key : c.from_be_bytes-subkey.result ≡ hash_subkey cipher = c.from_be_bytes-subkey.ensures ∙ ap (from_be_bytes w128) c.encrypt.ensures in
    let first : counter ≡ first_counter cipher iv = c.in_ok-counter.ensures cipher key in
    let text : c.deref.result.now ≡ crypt cipher iv plain =
    c.deref.ensures.value ∙ c.in_ok-text.ensures ∙ ap (λ (b : List ℕ). gctr cipher b plain) c.inc32.ensures ∙ crypt_from cipher iv counter plain first in
    c.gctr.ensures ∙ ap (gctr cipher counter) (
    c.in_ok-tag.ensures ∙ (λ i. ghash (key i) (padded extra ++ padded (text i) ++ bit_length extra ++ bit_length (text i))))
    ∙ tag_from cipher iv extra (crypt cipher iv plain) counter first
