use Rattle.std.proofs.Common.{◌≡◌, ℕ, List, Option, subst, Vec, Global}
use Rattle.std.specs.Option.{option_map}
use Rattle.std.specs.Result.{IfOk}
use Rattle.aes_gcm.proofs.Fronts.{opened_of_whole}
use Rattle.aes_gcm.proofs.aes256_gcm.Aes256GcmSealer.unseal_with.Goals as goal

pub returns : goal.returns
returns c =
    let P : Option (List ℕ) → Type 0 = λ o. IfOk c.unseal_front.result (λ answer. option_map {T = Vec ℕ Global} {U = List ℕ} (λ plain. plain.items) answer ≡ o) in
    subst P (opened_of_whole c.args.key.now c.args.extra.now c.args.sealed.now) c.unseal_front.ensures
