use Rattle.std.proofs.Common.{sym}
use Rattle.shared_records.proofs.Bounds.{split_within}
use Rattle.shared_keeper.proofs.shared.split.Goals as goal

pub slice_bounds-from_slice-count : goal.slice_bounds-from_slice-count
slice_bounds-from_slice-count c = split_within c.args.bytes.now c.in-Some.end (sym c.in-Some.ensures)

pub slice_bounds-from_slice-start : goal.slice_bounds-from_slice-start
slice_bounds-from_slice-start c = split_within c.args.bytes.now c.in-Some.end (sym c.in-Some.ensures)
