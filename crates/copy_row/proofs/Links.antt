-- A link that is copied.
use Rattle.std.proofs.Common.{◌≡◌, ℕ, List, [], ◌∷◌}
use Rattle.std.specs.Prelude.{IfSome, Some, None}
use Rattle.std.specs.FinMap.{get}
use Rattle.std.specs.declared.option.Option.{Option}
use Rattle.std.specs.declared.result.Result.TheVariants.{Err}
use Rattle.fs_model.specs.declared.attr.Kind.TheVariants.{Link}
use Rattle.fs_model.specs.declared.command.Command.TheVariants as command
use Rattle.copy_laws.specs.host_folder.Folders.{HostPath, HostTree}
use Rattle.copy_laws.specs.declared.copied.Totals.{Totals}
use Rattle.copy_laws.specs.Questions.{Asking, LawfulAsker}
use Rattle.copy_row.specs.declared.stop.Stop.TheVariants as stop
use Rattle.copy_row.specs.Rows.{HasLink, LinkCopied}
use Rattle.copy_row.proofs.Chains.{none_memory, none_host}

held : (told : Option HostTree) (p : HostPath) → IfSome told (λ t. HasLink t p) → (bytes : List ℕ) × IfSome told (λ t. get t p ≡ Some (record { kind = Link; bytes = bytes }))
held None p h = ([], tt)
held (Some t) p h = (h.bytes, h.there)

module _ {A : Type 0} (M : Asking A) (lawful : LawfulAsker M) where
  pub link_memory : (a : A) (told : Option HostTree) (from to : HostPath) (totals : Totals) → IfSome told (λ t. HasLink t from) → LinkCopied M a a told from to totals totals {X = Unit {0}} (Err stop.Memory)
  link_memory a told from to totals h =
      let link = held told from h in
      record { bytes = link.0; there = link.1; asks = none_memory M lawful a to (command.Symlink link.0 to ∷ []); counts = tt }

  pub link_host : (a : A) (told : Option HostTree) (from to : HostPath) (totals : Totals) → IfSome told (λ t. HasLink t from) → LinkCopied M a a told from to totals totals {X = Unit {0}} (Err stop.Host)
  link_host a told from to totals h =
      let link = held told from h in
      record { bytes = link.0; there = link.1; asks = none_host M lawful a to (command.Symlink link.0 to ∷ []); counts = tt }
