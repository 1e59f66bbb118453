-- What a copy leaves: the laws.
use Rattle.std.specs.Prelude.{◌≡◌, ℕ, List, ◌∷◌, ◌++◌, Option, None}
use Rattle.std.specs.FinMap.{get}
use Rattle.std.specs.declared.result.Result.TheVariants.{Ok}
use Rattle.fs_model.specs.Instant.{Instant}
use Rattle.fs_model.specs.Tree.{Tree, upward}
use Rattle.host_folder.specs.Folders.{HostPath, HostTree}
use Rattle.copy_laws.specs.declared.copied.Totals.{Totals}
use Rattle.copy_laws.specs.Ends.{IsImport}
use Rattle.copy_laws.specs.Importing.{plain_of, Merged}
use Rattle.copy_laws.specs.Questions.{Question, Followed}

-- the paths of the tree below q, with q taken off, are those of the folder without its root, with equal kinds and bytes
abbrev pub SameBelow : Tree → HostPath → HostTree → Type 0
SameBelow tree q t = (n : List ℕ) (r : HostPath) → plain_of (get tree (upward (q ++ n ∷ r))) ≡ get t (n ∷ r)

-- nothing stands below this path
abbrev pub IsFree : Tree → HostPath → Type 0
IsFree tree q = (n : List ℕ) (r : HostPath) → get tree (upward (q ++ n ∷ r)) ≡ None

-- an import that is Ok merges the folder's tree, whatever stood below the target
abbrev pub DoneImportMerges : Type 0
DoneImportMerges = (told : Option HostTree) (q : HostPath) (t : HostTree) (qs : List Question) (totals : Totals) (now : Instant) (old new : Tree) → IsImport told q t qs (Ok totals) → Followed old now qs new → Merged old new q t

-- where nothing stood there, it is the same below
abbrev pub ImportIsSame : Type 0
ImportIsSame = (told : Option HostTree) (q : HostPath) (t : HostTree) (qs : List Question) (totals : Totals) (now : Instant) (old new : Tree) → IsImport told q t qs (Ok totals) → Followed old now qs new → IsFree old q → SameBelow new q t

-- what is the same below one path of one tree and is imported again below a free path of another is the same below both
abbrev pub CopyIsSame : Type 0
CopyIsSame = (first : Tree) (p : HostPath) (told : Option HostTree) (q : HostPath) (t : HostTree) (qs : List Question) (totals : Totals) (now : Instant) (old new : Tree) → SameBelow first p t → IsImport told q t qs (Ok totals) → Followed old now qs new
    → IsFree old q → (n : List ℕ) (r : HostPath) → plain_of (get new (upward (q ++ n ∷ r))) ≡ plain_of (get first (upward (p ++ n ∷ r)))
