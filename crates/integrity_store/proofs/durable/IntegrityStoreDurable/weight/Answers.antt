use Rattle.std.proofs.Common.{◌≡◌, ◌+◌, ◌-◌, ◌^◌, min, [], ◌∷◌, length, refl, ◌∙◌, ap}
use Rattle.std.specs.Prelude.{sum_by}
use Rattle.std.specs.declared.option.Option.TheVariants.{None, Some}
use Rattle.std.proofs.lemmas.List.Sums.{sum_by-cons}
use Rattle.outside.specs.Changes.{FileChanges}
use Rattle.block_versions.specs.redo_vault.Redo.{len_with}
use Rattle.store_api.specs.Lists.{waiting_weight}
use Rattle.integrity_store.proofs.durable.IntegrityStoreDurable.weight.Goals as goal

same_weight : (list : FileChanges) → sum_by (λ change. len_with 64 change.1) list ≡ waiting_weight list
same_weight [] = refl
same_weight ((name, None) ∷ list) = sum_by-cons (λ change. len_with 64 change.1) (name, None) list ∙ ap (λ n. 64 + n) (same_weight list)
same_weight ((name, Some bytes) ∷ list) = sum_by-cons (λ change. len_with 64 change.1) (name, Some bytes) list ∙ ap (λ n. length bytes + n) (same_weight list)

pub returns : goal.returns
returns g c = c.weight.ensures ∙ ap (λ n. min n (2 ^ 64 - 1)) (same_weight c.args.self.now.sealed.vault.list)
