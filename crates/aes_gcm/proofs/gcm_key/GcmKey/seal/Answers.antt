use Rattle.std.proofs.Common.{◌≡◌, ℕ, List, ◌++◌, ap, ◌∙◌, arith}
use Rattle.aes_block.specs.KeyExpansion.{aes256}
use Rattle.aes_gcm.specs.Gcm.{bit_length, crypt, hash_subkey, padded}
use Rattle.aes_gcm.specs.Gctr.{HasStream, counter_block, gctr, inc32}
use Rattle.aes_gcm.specs.Ghash.{ghash}
use Rattle.aes_gcm.proofs.Tags.{crypt_from, tag_from}
use Rattle.aes_gcm.proofs.gcm_key.GcmKey.seal.Goals as goal

pub tag_under-requires : goal.tag_under-requires
unfolding HasStream counter_block
tag_under-requires c =
    c.first_turn-turn.ensures 0 (omega arith) ∙ ap (λ (k : List ℕ). aes256 k c.first_counter-counter.result) c.self.view_is

pub returns-clause-text : goal.returns-clause-text
returns-clause-text c =
    let counter = c.first_counter-counter.result in
    c.crypt.ensures ∙ ap (λ (k : List ℕ). gctr (aes256 k) (inc32 counter) c.args.text.now) c.self.view_is
    ∙ crypt_from (aes256 c.args.self.now) c.args.iv.now counter c.args.text.now c.first_counter-counter.ensures

pub returns-clause-tag : goal.returns-clause-tag
returns-clause-tag c =
    let cipher = aes256 c.args.self.now in
    let iv = c.args.iv.now in
    let extra = c.args.extra.now in
    let counter = c.first_counter-counter.result in
    let text : c.crypt.new.text ≡ crypt cipher iv c.args.text.now =
    c.crypt.ensures ∙ ap (λ (k : List ℕ). gctr (aes256 k) (inc32 counter) c.args.text.now) c.self.view_is
    ∙ crypt_from cipher iv counter c.args.text.now c.first_counter-counter.ensures in
    c.tag_under.ensures
    ∙ ap (λ (l : List ℕ). gctr cipher counter (ghash (hash_subkey cipher) (padded extra ++ padded l ++ bit_length extra ++ bit_length l))) text
    ∙ tag_from cipher iv extra (crypt cipher iv c.args.text.now) counter c.first_counter-counter.ensures
