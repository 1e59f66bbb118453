use Rattle.std.proofs.Common.{ℕ, List, subst}
use Rattle.std.specs.Ordering.{nat_cmp}
use Rattle.std.specs.List.Sorted.{IsPermutation}
use Rattle.clients_core.specs.declared.others.Author.{Author}
use Rattle.clients_core.proofs.Sorted.{entries-sorted, AscendIn-from_sort}
use Rattle.clients_core.proofs.others.sorted_versions.Goals as goal

pub returns : goal.returns
returns c =
    let fs = c.sort_unstable.new.self.items in
    entries-sorted c.args.versions.now.entries fs c.entries_of.ensures.distinct
    (subst (λ (es : List (Author × ℕ)). IsPermutation es fs) c.in_ok-entries.ensures.entries c.sort_unstable.ensures.permutation)
    (AscendIn-from_sort fs (λ x y. nat_cmp x.1 y.1) c.sort_unstable.ensures.sorted)
