-- What the derived comparisons of names compute.
use Rattle.std.proofs.Common.{◌≡◌, refl}
use Rattle.outside.specs.declared.change.FileName.{FileName}
use Rattle.outside.specs.declared.change.FileName.TheVariants.{Config, Block}
use Rattle.outside.specs.contracts.change.FileNamePartialEq.TheImpl as partial_eq
use Rattle.outside.specs.Names.{same_at}
use Rattle.outside.specs.View.{at_of}

pub same_names : (a b : FileName) → partial_eq.ghosts.eq a b ≡ same_at (at_of a) (at_of b)
same_names Config Config = refl
same_names Config (Block y) = refl
same_names (Block x) Config = refl
same_names (Block x) (Block y) = refl
