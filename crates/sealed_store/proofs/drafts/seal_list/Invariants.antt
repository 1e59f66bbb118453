use Rattle.std.proofs.Common.{◌≡◌, ◌++◌, map, take, drop}
use Rattle.outside.specs.View.{list_of}
use Rattle.sealed_store.specs.Drafts.{sealed_entry}
use Rattle.sealed_store.specs.Sums.{HaveRoom}
use Rattle.sealed_store.proofs.drafts.seal_list.Given as goal

abbrev pub invariant-loop-pending : goal.invariant-loop-pending
invariant-loop-pending g l = record {
  done : list_of l.pending-items ≡ map (sealed_entry (g.C.Sealer.sealed l.cipher l.key) l.block_size) (take l.pending-index (list_of l.fn.list.items)) ++ drop l.pending-index (list_of l.fn.list.items);
  room : HaveRoom l.block_size (drop l.pending-index l.pending-items);
}
