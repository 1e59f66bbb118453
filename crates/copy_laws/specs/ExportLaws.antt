-- What an export leaves: the laws.
use Rattle.std.specs.Prelude.{◌≡◌, List, ◌∷◌, ◌++◌, ℕ}
use Rattle.std.specs.FinMap.{get, entries}
use Rattle.std.specs.declared.option.Option.{Option}
use Rattle.std.specs.declared.option.Option.TheVariants.{Some}
use Rattle.std.specs.declared.result.Result.TheVariants.{Ok, Err}
use Rattle.fs_model.specs.Instant.{Instant}
use Rattle.fs_model.specs.Tree.{Tree, IsWellFormed, upward}
use Rattle.host_folder.specs.Folders.{HostRow, HostPath, HostTree, IsHostTree}
use Rattle.copy_laws.specs.declared.copied.Totals.{Totals}
use Rattle.copy_laws.specs.declared.copied.CopyFail.{CopyFail}
use Rattle.copy_laws.specs.Exporting.{IsExport, IsBegun, IsFrontRow, OnTold, totals_in}
use Rattle.copy_laws.specs.Importing.{plain_of}
use Rattle.copy_laws.specs.Laws.{SameBelow}
use Rattle.copy_laws.specs.Questions.{Question, Followed}

-- what the folder has by an export that is Ok: the same as the tree below the source, and the totals are its counts
pub record IsCopyOf (before after : Option HostTree) (tree : Tree) (q : HostPath) (totals : Totals) : Type 0 where
  pub u : HostTree
  pub folder : IsHostTree u
  pub same : SameBelow tree q u
  pub made : OnTold before after (λ v. v ≡ u)
  pub counts : totals ≡ totals_in (entries u)

-- an export that is Ok leaves the tree, and the folder is the same as what is below the source
abbrev pub ExportIsSame : Type 0
ExportIsSame = (before after : Option HostTree) (q : HostPath) (qs : List Question) (totals : Totals) (now : Instant) (old new : Tree) → IsExport before after q qs (Ok totals) → IsWellFormed old → Followed old now qs new
    → (new ≡ old) × IsCopyOf before after old q totals

-- each path of the folder but its root stands below q, with its kind, and with its bytes or more
abbrev pub IsPartBelow : HostTree → Tree → HostPath → Type 0
IsPartBelow v tree q = (n : List ℕ) (r : HostPath) (row : HostRow) → get v (n ∷ r) ≡ Some row → IsFrontRow row (plain_of (get tree (upward (q ++ n ∷ r))))

-- after an error the tree is left as well, and the folder, where it was copied into, is a part of it
abbrev pub ExportIsPart : Type 0
ExportIsPart = (before after : Option HostTree) (q : HostPath) (qs : List Question) (e : CopyFail) (now : Instant) (old new : Tree) → IsBegun before after q qs (Err e) → IsWellFormed old → Followed old now qs new
    → (new ≡ old) × OnTold before after (λ v. IsPartBelow v old q)
