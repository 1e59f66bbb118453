use Rattle.std.proofs.Common.{◌≡◌, ◌+◌, ◌-◌, ◌^◌, min, [], ◌∷◌, length, refl, ◌∙◌, ap}
use Rattle.std.specs.Prelude.{sum_by}
use Rattle.std.specs.declared.option.Option.TheVariants.{None, Some}
use Rattle.std.proofs.lemmas.List.Sums.{sum_by-cons}
use Rattle.outside.specs.Changes.{FileChanges}
use Rattle.block_versions.specs.redo_vault.Redo.{bytes_len}
use Rattle.store_api.specs.Lists.{waiting_bytes}
use Rattle.integrity_store.proofs.durable.IntegrityStoreDurable.buffered.Goals as goal

same_sum : (list : FileChanges) → sum_by (λ change. bytes_len change.1) list ≡ waiting_bytes list
same_sum [] = refl
same_sum ((name, None) ∷ list) = same_sum list
same_sum ((name, Some bytes) ∷ list) = sum_by-cons (λ change. bytes_len change.1) (name, Some bytes) list ∙ ap (λ n. length bytes + n) (same_sum list)

pub returns : goal.returns
returns g c = c.buffered.ensures ∙ ap (λ n. min n (2 ^ 64 - 1)) (same_sum c.args.self.now.sealed.vault.list)
