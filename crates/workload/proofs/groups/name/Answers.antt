use Rattle.std.proofs.Common.{List, ℕ, subst, sym}
use Rattle.fs_model.specs.Names.{IsName}
use Rattle.workload.proofs.Numbered.{IsName-numbered, some_since}
use Rattle.workload.proofs.groups.name.Goals as goal

pub unwrap-requires : goal.unwrap-requires
unwrap-requires c =
    some_since _ _ c.new.ensures (subst (λ (bytes : List ℕ). IsName bytes) (sym c.in_ok-bytes.ensures) (IsName-numbered c.args.letter c.args.n c.requires.low c.ranges.n.fits))
