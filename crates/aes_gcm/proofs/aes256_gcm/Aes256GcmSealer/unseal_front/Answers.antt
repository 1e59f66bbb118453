use Rattle.std.proofs.Common.{◌≡◌, ℕ, ◌-◌, List, length, take, drop, sym, ap, ◌∙◌, Option, subst, arith, length-drop, Vec, Global}
use Rattle.std.proofs.lemmas.List.{take_all}
use Rattle.std.specs.List.{slice_range}
use Rattle.std.specs.Option.{option_map}
use Rattle.std.specs.Result.{IfOk}
use Rattle.aes_block.specs.KeyExpansion.{aes256}
use Rattle.aes_gcm.specs.Gcm.{opened}
use Rattle.aes_gcm.specs.Lengths.{opened_of_long, opened_of_short}
use Rattle.aes_gcm.proofs.aes256_gcm.Aes256GcmSealer.unseal_front.Goals as goal

pub returns-then-sealed : goal.returns-then-sealed
returns-then-sealed c = sym (ap (option_map (take c.args.most)) (opened_of_short c.args.key.now c.args.extra.now c.args.sealed.now c.if-sealed.true))

pub returns : goal.returns
returns c =
    let key = c.args.key.now in
    let sealed = c.args.sealed.now in
    let end : ℕ = length sealed - 16 in
    let P : Option (List ℕ) → Type 0 = λ o. IfOk c.unseal_front.result (λ answer. option_map {T = Vec ℕ Global} {U = List ℕ} (λ plain. plain.items) answer ≡ option_map (take c.args.most) o) in
    let tag : c.copy_from_slice.new.self ≡ drop end sealed =
    c.copy_from_slice.ensures.after ∙ take_all (length sealed - end) (drop end sealed) (omega (arith, length-drop end sealed)) in
    let parts : opened (aes256 c.from_key-ready.result) (take 16 sealed) c.args.extra.now (slice_range sealed 16 end) c.copy_from_slice.new.self
    ≡ opened (aes256 key) (take 16 sealed) c.args.extra.now (slice_range sealed 16 end) (drop end sealed) =
    λ i. opened (aes256 (c.from_key-ready.ensures i)) (take 16 sealed) c.args.extra.now (slice_range sealed 16 end) (tag i) in
    subst P (parts ∙ sym (opened_of_long key c.args.extra.now sealed c.if-sealed.false)) c.unseal_front.ensures.plain
