use Rattle.std.proofs.Common.{ap, subst, ◌∙◌}
use Rattle.outside.specs.Causes.{GetHasCause}
use Rattle.real_outside.specs.Adapters.{FolderKeeperState, counted}
use Rattle.real_outside.proofs.folder_keeper.FolderKeeperKeeper.load.Goals as goal

pub returns-clause-cause : goal.returns-clause-cause
returns-clause-cause g c =
    subst (λ before. GetHasCause before c.count.new.faults c.count.result) (ap (λ (k : FolderKeeperState). k.faults) c.self.view_is) c.count.ensures.cause

pub returns-clause-counts : goal.returns-clause-counts
returns-clause-counts g c =
    let faults = c.count.ensures.faults ∙ ap (λ (k : FolderKeeperState). counted c.count.result k.faults) c.self.view_is in
    λ i. record (c.self.view_is i) { faults = faults i }
