use Rattle.std.proofs.Common.{◌≡◌, ℕ, List, ◌++◌, take, drop, Some, sym, ap, ◌∙◌, arith}
use Rattle.std.proofs.lemmas.List.{take_min}
use Rattle.std.specs.Option.{option_map}
use Rattle.std.specs.Str.{bytes_eq}
use Rattle.aes_block.specs.KeyExpansion.{aes256}
use Rattle.aes_gcm.specs.Gcm.{crypt}
use Rattle.aes_gcm.specs.Gctr.{HasStream, counter_block, gctr, inc32}
use Rattle.aes_gcm.specs.Opening.{opened_right}
use Rattle.aes_gcm.proofs.Fronts.{front_in_place}
use Rattle.aes_gcm.proofs.Opening.{opened_wrong, tags_agree, tags_differ}
use Rattle.aes_gcm.proofs.Tags.{crypt_from, tag_from}
use Rattle.aes_gcm.proofs.gcm_key.GcmKey.unseal_in_place.Goals as goal

pub tag_under-expected-requires : goal.tag_under-expected-requires
unfolding HasStream counter_block
tag_under-expected-requires c =
    c.first_turn-turn.ensures 0 (omega arith) ∙ ap (λ (k : List ℕ). aes256 k c.first_counter-counter.result) c.self.view_is

pub returns-then-ne-clause-opened : goal.returns-then-ne-clause-opened
returns-then-ne-clause-opened c =
    let cipher = aes256 c.args.self.now in
    let iv = c.args.iv.now in
    let tag = c.args.tag.now in
    let expected = c.tag_under-expected.ensures ∙ tag_from cipher iv c.args.extra.now c.args.text.now c.first_counter-counter.result c.first_counter-counter.ensures in
    let differ = ap (λ (t : List ℕ). bytes_eq t tag) (sym expected) ∙ tags_differ c.tag_under-expected.result tag c.if-ne.ensures in
    sym (ap (option_map (take c.args.most)) (opened_wrong cipher iv c.args.extra.now c.args.text.now tag differ))

pub returns-clause-opened : goal.returns-clause-opened
returns-clause-opened c =
    let cipher = aes256 c.args.self.now in
    let iv = c.args.iv.now in
    let tag = c.args.tag.now in
    let text = c.args.text.now in
    let most = c.args.most in
    let counter = c.first_counter-counter.result in
    let expected = c.tag_under-expected.ensures ∙ tag_from cipher iv c.args.extra.now text counter c.first_counter-counter.ensures in
    let agree = sym expected ∙ tags_agree c.tag_under-expected.result tag c.if-ne.ensures in
    let front : take c.min-len.result text ≡ take most text = ap (λ (n : ℕ). take n text) c.min-len.ensures ∙ take_min most text in
    let plain : c.crypt.new.text ≡ crypt cipher iv (take most text) =
    c.crypt.ensures ∙ (λ i. gctr (aes256 (c.self.view_is i)) (inc32 counter) (front i))
    ∙ crypt_from cipher iv counter (take most text) c.first_counter-counter.ensures in
    ap Some (ap (λ (l : List ℕ). take most (l ++ drop c.min-len.result text)) plain ∙ front_in_place cipher iv text most c.min-len.result c.min-len.ensures)
    ∙ sym (ap (option_map (take most)) (opened_right cipher iv c.args.extra.now text tag agree))
