use Rattle.std.proofs.Common.{◌≤◌, length, ap, arith}
use Rattle.std.proofs.lemmas.List.{length-map}
use Rattle.outside.specs.declared.directory_names.TheConstants.{MAX_NAMES}
use Rattle.outside.specs.View.{pending_of}
use Rattle.program_laws.proofs.Listing.{never_fails, honest_after}
use Rattle.program_laws.proofs.honest_vault.HonestVaultListing.list.Goals as goal

pub invariant_of-self : goal.invariant_of-self
invariant_of-self c =
    let few : length c.self.inside.vault.files ≤ MAX_NAMES =
    omega (arith, c.if-files-gt-MAX_NAMES.false, ap length c.files.ensures, length-map c.files.result.now pending_of) in
    honest_after c.self.inside.vault c.list.new.self c.list.result c.self.invariant c.list.ensures.as_set.after
    (λ failed. never_fails c.self.inside.vault MAX_NAMES c.self.invariant few (c.list.ensures.as_set.failed_where_listed_or_many failed))
    (λ memory. (c.list.ensures.as_set.memory memory).1)
