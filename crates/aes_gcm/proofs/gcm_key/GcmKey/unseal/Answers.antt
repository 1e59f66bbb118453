use Rattle.std.proofs.Common.{◌≡◌, ℕ, List, Option, subst, Vec, Global}
use Rattle.std.specs.Option.{option_map}
use Rattle.std.specs.Result.{IfOk}
use Rattle.aes_block.specs.KeyExpansion.{aes256}
use Rattle.aes_gcm.proofs.Fronts.{opened_whole}
use Rattle.aes_gcm.proofs.gcm_key.GcmKey.unseal.Goals as goal

pub returns-clause-plain : goal.returns-clause-plain
returns-clause-plain c =
    let P : Option (List ℕ) → Type 0 = λ o. IfOk c.unseal_front.result (λ answer. option_map {T = Vec ℕ Global} {U = List ℕ} (λ plain. plain.items) answer ≡ o) in
    subst P (opened_whole (aes256 c.args.self.now) c.args.iv.now c.args.extra.now c.args.text.now c.args.tag.now) c.unseal_front.ensures.plain
