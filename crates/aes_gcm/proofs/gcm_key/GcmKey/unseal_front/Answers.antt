use Rattle.std.proofs.Common.{◌≡◌, ℕ, List, ◌++◌, take, Some, refl, sym, ap, ◌∙◌, arith}
use Rattle.std.proofs.lemmas.List.{take_min}
use Rattle.std.specs.Option.{option_map}
use Rattle.std.specs.Str.{bytes_eq}
use Rattle.aes_block.specs.KeyExpansion.{aes256}
use Rattle.aes_gcm.specs.Gcm.{crypt}
use Rattle.aes_gcm.specs.Gctr.{HasStream, counter_block, gctr, inc32}
use Rattle.aes_gcm.specs.Opening.{opened_right}
use Rattle.aes_gcm.proofs.Fronts.{take-crypt}
use Rattle.aes_gcm.proofs.Opening.{differ_not_same, opened_wrong, tags_agree, tags_differ}
use Rattle.aes_gcm.proofs.Tags.{crypt_from, tag_from}
use Rattle.aes_gcm.proofs.gcm_key.GcmKey.unseal_front.Goals as goal

pub tag_under-requires : goal.tag_under-requires
unfolding HasStream counter_block
tag_under-requires c =
    c.first_turn-turn.ensures 0 (omega arith) ∙ ap (λ (k : List ℕ). aes256 k c.first_counter-counter.result) c.self.view_is

pub returns-then-ne-clause-plain : goal.returns-then-ne-clause-plain
returns-then-ne-clause-plain c =
    let cipher = aes256 c.args.self.now in
    let iv = c.args.iv.now in
    let tag = c.args.tag.now in
    let expected = c.tag_under.ensures ∙ tag_from cipher iv c.args.extra.now c.args.text.now c.first_counter-counter.result c.first_counter-counter.ensures in
    let differ = ap (λ (t : List ℕ). bytes_eq t tag) (sym expected) ∙ tags_differ c.tag_under.result tag c.if-ne.ensures in
    sym (ap (option_map (take c.args.most)) (opened_wrong cipher iv c.args.extra.now c.args.text.now tag differ))

pub returns-then-ne-clause-refused : goal.returns-then-ne-clause-refused
returns-then-ne-clause-refused c =
    let cipher = aes256 c.args.self.now in
    let tag = c.args.tag.now in
    let expected = c.tag_under.ensures ∙ tag_from cipher c.args.iv.now c.args.extra.now c.args.text.now c.first_counter-counter.result c.first_counter-counter.ensures in
    let differ = tags_differ c.tag_under.result tag c.if-ne.ensures in
    (λ _ same. differ_not_same c.tag_under.result tag differ (same ∙ sym expected), λ _. refl)

pub returns-clause-plain : goal.returns-clause-plain
returns-clause-plain c =
    let cipher = aes256 c.args.self.now in
    let iv = c.args.iv.now in
    let tag = c.args.tag.now in
    let text = c.args.text.now in
    let most = c.args.most in
    let counter = c.first_counter-counter.result in
    let expected = c.tag_under.ensures ∙ tag_from cipher iv c.args.extra.now text counter c.first_counter-counter.ensures in
    let agree = sym expected ∙ tags_agree c.tag_under.result tag c.if-ne.ensures in
    let front : take c.min.result text ≡ take most text = ap (λ (n : ℕ). take n text) c.min.ensures ∙ take_min most text in
    let plain : c.append_crypted.new.out.items ≡ take most (crypt cipher iv text) =
    c.in_ok-append_crypted.ensures.ok ∙ (λ i. c.new-plain.ensures.items i ++ gctr (aes256 (c.self.view_is i)) (inc32 counter) (front i))
    ∙ crypt_from cipher iv counter (take most text) c.first_counter-counter.ensures ∙ sym (take-crypt cipher iv text most) in
    ap Some plain ∙ sym (ap (option_map (take most)) (opened_right cipher iv c.args.extra.now text tag agree))

pub returns-clause-refused : goal.returns-clause-refused
returns-clause-refused c =
    let cipher = aes256 c.args.self.now in
    let tag = c.args.tag.now in
    let expected = c.tag_under.ensures ∙ tag_from cipher c.args.iv.now c.args.extra.now c.args.text.now c.first_counter-counter.result c.first_counter-counter.ensures in
    let agree = sym expected ∙ tags_agree c.tag_under.result tag c.if-ne.ensures in
    (λ h. absurd (cc h), λ other. absurd (other (sym agree)))
