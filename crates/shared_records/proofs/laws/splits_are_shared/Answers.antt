use Rattle.shared_records.proofs.Wholes.{split_takes}
use Rattle.shared_records.proofs.laws.splits_are_shared.Goals as goal

pub returns : goal.returns
returns c = λ bytes n small e. let t = split_takes bytes n small e in (t.s, t.list, t.vs, t.is, t.len)
