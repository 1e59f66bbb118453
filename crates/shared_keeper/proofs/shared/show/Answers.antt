use Rattle.std.proofs.Common.{ap, sym, ◌∙◌, arith}
use Rattle.shared_records.specs.Scan.{split_at}
use Rattle.shared_records.proofs.Bounds.{split_long}
use Rattle.shared_keeper.proofs.shared.show.Goals as goal

pub index_mut-requires : goal.index_mut-requires
index_mut-requires c = omega (arith, split_long c.in_ok-bytes.bytes.items c.in-Some.end (ap split_at (sym c.deref.ensures.value) ∙ sym c.in-Some.ensures), c.in_ok-bytes.bytes.ok.0)
