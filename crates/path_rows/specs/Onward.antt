-- What a move asks before anything changes.
use Rattle.std.specs.Prelude.{◌≡◌, ℕ, Bool, false, List, ◌∷◌}
use Rattle.std.specs.FinMap.{get}
use Rattle.std.specs.declared.option.Option.{Option}
use Rattle.std.specs.declared.option.Option.TheVariants.{None, Some}
use Rattle.path_walks.specs.blob_api.BlobMap.{Id, BlobHoldings}
use Rattle.fs_model.specs.declared.error.FsError.{FsError}
use Rattle.fs_model.specs.Tree.{Path, Tree, same_path, is_root}
use Rattle.fs_model.specs.Move.{is_above}
use Rattle.fs_model.specs.Step.{Stepped, refused, moved_onto}
use Rattle.path_walks.specs.declared.spots.Occupancy.{Occupancy}
use Rattle.path_walks.specs.Sights.{Finding}

-- a row was found, in the tree from this root on
pub record Leaving {S : Type 0} (H : BlobHoldings S) (a : S) (root : Id) (at : Occupancy) : Type 0 where
  pub finding : Finding H a at
  pub from : finding.root ≡ root

-- and it isn't at or above the path q, not the root, to which it is to move
pub record Onward {S : Type 0} (H : BlobHoldings S) (a : S) (root : Id) (at : Occupancy) (q : Path) : Type 0 where
  pub leaving : Leaving H a root at
  pub off : is_above (at.name.now ∷ leaving.finding.path) q ≡ false
  pub off_root : is_root q ≡ false
  pub differ : same_path (at.name.now ∷ leaving.finding.path) q ≡ false

-- nothing stands below q, and no kind is against the move
pub record Lets (t : Tree) (q : Path) (from onto : Bool) : Type 0 where
  pub bare : (m : List ℕ) → get t (m ∷ q) ≡ None
  pub on : (s : Stepped) → moved_onto t q from onto s ≡ s

-- the error of a move onto q, by whether a directory moves and whether one is replaced
abbrev pub RefusesOnto : Tree → Path → Bool → Bool → Option FsError → Type 0
RefusesOnto t q from onto None = Lets t q from onto
RefusesOnto t q from onto (Some e) = (s : Stepped) → moved_onto t q from onto s ≡ refused t e
