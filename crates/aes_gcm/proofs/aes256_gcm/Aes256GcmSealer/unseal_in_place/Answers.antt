use Rattle.std.proofs.Common.{◌≡◌, ℕ, ◌-◌, List, length, take, drop, sym, ap, ◌∙◌, arith, length-drop, length-take-le}
use Rattle.std.proofs.lemmas.List.{take_all}
use Rattle.std.specs.List.{slice_range}
use Rattle.std.specs.Option.{option_map}
use Rattle.aes_block.specs.KeyExpansion.{aes256}
use Rattle.seal_api.specs.Sealing.{shown}
use Rattle.aes_gcm.specs.Gcm.{opened}
use Rattle.aes_gcm.specs.Lengths.{opened_of_long, opened_of_short}
use Rattle.aes_gcm.proofs.Ends.{middle_put}
use Rattle.aes_gcm.proofs.aes256_gcm.Aes256GcmSealer.unseal_in_place.Goals as goal

pub returns-then-text-clause-opened : goal.returns-then-text-clause-opened
returns-then-text-clause-opened c = sym (ap (option_map (take c.args.most)) (opened_of_short c.args.key.now c.args.extra.now c.args.text.now c.if-text.true))

pub returns-clause-opened : goal.returns-clause-opened
returns-clause-opened c =
    let key = c.args.key.now in
    let extra = c.args.extra.now in
    let sealed : List ℕ = c.args.text.now in
    let n : ℕ = length sealed in
    let text : List ℕ = slice_range sealed 16 (n - 16) in
    let new : List ℕ = c.unseal_in_place.new.text in
    let len_text : length text ≡ n - 16 - 16 = length-take-le (n - 16 - 16) (drop 16 sealed) (omega (arith, length-drop 16 sealed)) in
    let len : length new ≡ n - 16 - 16 = c.unseal_in_place.auto.text ∙ len_text in
    let iv : c.copy_from_slice.new.self ≡ take 16 sealed = c.copy_from_slice.ensures.after in
    let tag : c.copy_from_slice-2.new.self ≡ drop (n - 16) sealed =
    c.copy_from_slice-2.ensures.after ∙ take_all (n - (n - 16)) (drop (n - 16) sealed) (omega (arith, length-drop (n - 16) sealed)) in
    ap (shown c.args.most c.unseal_in_place.result) (middle_put sealed new c.if-text.false len)
    ∙ c.unseal_in_place.ensures.opened
    ∙ ap (option_map (take c.args.most)) ((λ i. opened (aes256 (c.from_key-ready.ensures i)) (iv i) extra text (tag i)) ∙ sym (opened_of_long key extra sealed c.if-text.false))
