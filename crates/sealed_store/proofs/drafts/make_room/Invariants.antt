use Rattle.std.proofs.Common.{◌≡◌, take}
use Rattle.outside.specs.View.{list_of}
use Rattle.sealed_store.specs.Sums.{HaveRoom}
use Rattle.sealed_store.proofs.drafts.make_room.Given as goal

abbrev pub invariant-loop-pending : goal.invariant-loop-pending
invariant-loop-pending l = record {
  done : HaveRoom l.block_size (take l.pending-index l.pending-items);
  same : list_of l.pending-items ≡ list_of l.fn.list.items;
}
