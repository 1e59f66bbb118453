-- What copies with attributes leave: the laws.
use Rattle.std.specs.Prelude.{◌≡◌, ℕ, List, [], ◌∷◌, ◌++◌, IfSome}
use Rattle.std.specs.FinMap.{get}
use Rattle.std.specs.declared.option.Option.{Option}
use Rattle.std.specs.declared.option.Option.TheVariants.{Some}
use Rattle.std.specs.declared.result.Result.TheVariants.{Ok}
use Rattle.fs_model.specs.declared.attr.Attr.{Attr}
use Rattle.fs_model.specs.Instant.{Instant}
use Rattle.fs_model.specs.Tree.{Row, Tree, IsWellFormed, upward}
use Rattle.tree_copy.specs.host_folder.Folders.{HostPath, HostTree}
use Rattle.tree_copy.specs.copy_laws.declared.copied.Totals.{Totals}
use Rattle.tree_copy.specs.copy_laws.ExportLaws.{IsCopyOf}
use Rattle.tree_copy.specs.copy_laws.Importing.{plain_of, Merged}
use Rattle.tree_copy.specs.copy_laws.Laws.{IsFree, SameBelow}
use Rattle.tree_copy.specs.copy_laws.Questions.{Question, Followed}
use Rattle.copy_times.specs.Laws.{HasFolders}
use Rattle.copy_attributes.specs.Exports.{IsAttributedExport}
use Rattle.copy_attributes.specs.Imports.{IsAttributedImport}

-- the mode, the owner and the moments of access and change are equal
pub record AreAlike (a b : Attr) : Type 0 where
  pub mode : b.mode ≡ a.mode
  pub uid : b.uid ≡ a.uid
  pub gid : b.gid ≡ a.gid
  pub atime : b.atime ≡ a.atime
  pub mtime : b.mtime ≡ a.mtime

-- a row stands at this path with such attributes
abbrev pub StandsAlike : Tree → HostPath → Attr → Type 0
StandsAlike t p attr = (row : Row) × ((get t (upward p) ≡ Some row) × AreAlike attr row.attr)

-- each row of the one tree below p has its attributes at the same place below q of the other
abbrev pub AlikeBelow : Tree → HostPath → Tree → HostPath → Type 0
AlikeBelow t p u q = (n : List ℕ) (r : HostPath) (row : Row) → get t (upward (p ++ n ∷ r)) ≡ Some row → StandsAlike u (q ++ n ∷ r) row.attr

-- the folder's tree stands below q, and each row there has the attributes that are told of it; where nothing stood there, the same does
pub record IsImportedAlike (folder : Option HostTree) (attributes : Option Tree) (old new : Tree) (q : HostPath) : Type 0 where
  pub tree : HostTree
  pub same : IfSome folder (λ v. v ≡ tree)
  pub merged : Merged old new q tree
  pub free : IsFree old q → SameBelow new q tree
  pub alike : IfSome attributes (λ u. HasFolders u → AlikeBelow u [] new q)

abbrev pub AttributedImportLeaves : Type 0
AttributedImportLeaves = (folder : Option HostTree) (attributes : Option Tree) (q : HostPath) (qs : List Question) (totals : Totals) (now : Instant) (old new : Tree)
    → IsAttributedImport folder attributes q qs (Ok totals) → Followed old now qs new → IsImportedAlike folder attributes old new q

-- the folder has what stands below q, and each row there has the attributes of the tree's
pub record IsExportedAlike (before after : Option HostTree) (attributes : Option Tree) (tree : Tree) (q : HostPath) (totals : Totals) : Type 0 where
  pub copy : IsCopyOf before after tree q totals
  pub alike : IfSome attributes (λ u. AlikeBelow tree q u [])

abbrev pub AttributedExportLeaves : Type 0
AttributedExportLeaves = (before after : Option HostTree) (attributes : Option Tree) (q : HostPath) (qs : List Question) (totals : Totals) (now : Instant) (old new : Tree)
    → IsWellFormed old → IsAttributedExport before after attributes q qs (Ok totals) → Followed old now qs new → (new ≡ old) × IsExportedAlike before after attributes old q totals

-- each row below p has its kind, its bytes and its attributes at the same place below q, and no others stand there
pub record IsSameBelow (first : Tree) (p : HostPath) (last : Tree) (q : HostPath) : Type 0 where
  pub plain : (n : List ℕ) (r : HostPath) → plain_of (get last (upward (q ++ n ∷ r))) ≡ plain_of (get first (upward (p ++ n ∷ r)))
  pub alike : AlikeBelow first p last q

-- what an export left in a folder
pub record WasExported (before : Option HostTree) (folder : HostTree) (attributes : Tree) (first : Tree) (p : HostPath) : Type 0 where
  pub qs : List Question
  pub totals : Totals
  pub now : Instant
  pub left : Tree
  pub formed : IsWellFormed first
  pub asked : IsAttributedExport before (Some folder) (Some attributes) p qs (Ok totals)
  pub followed : Followed first now qs left

abbrev pub AttributedCopyIsSame : Type 0
AttributedCopyIsSame = (before : Option HostTree) (folder : HostTree) (attributes : Tree) (first : Tree) (p : HostPath) (q : HostPath) (qs : List Question) (totals : Totals) (now : Instant) (old new : Tree)
    → WasExported before folder attributes first p → HasFolders attributes → IsAttributedImport (Some folder) (Some attributes) q qs (Ok totals) → Followed old now qs new → IsFree old q → IsSameBelow first p new q
