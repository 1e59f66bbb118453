use Rattle.std.proofs.Common.{List, subst}
use Rattle.std.specs.Ordering.{nat_cmp, bool_cmp, ordering_then}
use Rattle.std.specs.List.Sorted.{IsPermutation}
use Rattle.block_id.specs.declared.id.BlockId.{BlockId}
use Rattle.local_state.specs.declared.life.Life.{Life}
use Rattle.local_state.proofs.Sorted.{entries-sorted, AscendIn-from_sort}
use Rattle.local_state.proofs.lives.sorted_lives.Goals as goal

pub returns : goal.returns
returns c =
    let fs = c.sort_unstable.new.self.items in
    entries-sorted c.args.lives.now.entries fs c.entries_of.ensures.distinct
    (subst (λ (es : List (BlockId × Life)). IsPermutation es fs) c.in_ok-entries.ensures.entries c.sort_unstable.ensures.permutation)
    (AscendIn-from_sort fs (λ x y. ordering_then (nat_cmp x.1.version y.1.version) (bool_cmp x.1.live y.1.live)) c.sort_unstable.ensures.sorted)
