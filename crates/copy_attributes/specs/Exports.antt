-- An export that sets attributes: what is asked, and what is set.
use Rattle.std.specs.Prelude.{◌≡◌, ◌⊎◌, List, [], ◌++◌, OnOk}
use Rattle.std.specs.declared.option.Option.{Option}
use Rattle.std.specs.declared.result.Result.{Result}
use Rattle.std.specs.declared.result.Result.TheVariants.{Ok, Err}
use Rattle.fs_model.specs.Tree.{Tree}
use Rattle.tree_copy.specs.host_folder.Folders.{HostPath, HostTree}
use Rattle.tree_copy.specs.copy_laws.declared.copied.CopyFail.{CopyFail}
use Rattle.tree_copy.specs.copy_laws.declared.copied.Totals.{Totals}
use Rattle.tree_copy.specs.copy_laws.Exporting.{IsExport}
use Rattle.tree_copy.specs.copy_laws.Questions.{Question}
use Rattle.copy_times.specs.declared.paths.TheConstants.{MOST_DEEP}
use Rattle.copy_times.specs.Asking.{EndsBy, IsSeen}
use Rattle.copy_times.specs.Taking.{AreSet, Tells, tree_kids}
use Rattle.copy_times.specs.Tours.{AreKids, Dressed, IsTour}
use Rattle.copy_attributes.specs.Passes.{end_of}

-- the folder's rows were set, from these attributes to those: as each tree has them below q that tells the replies, and all of them where it is Ok
pub record Takes (before after : Option Tree) (q : HostPath) (qs : List Question) (result : Result (Unit {0}) CopyFail) : Type 0 where
  pub rows : List Dressed
  pub ends : EndsBy IsSeen qs result
  pub set : AreSet before rows after
  pub kids : (t : Tree) → Tells t qs → AreKids (tree_kids t) rows
  pub whole : OnOk result ((t : Tree) → Tells t qs → IsTour MOST_DEEP (tree_kids t) [] q rows)

-- rows were copied until the copy failed so, and no attributes were set
pub record ExportFails (before after : Option HostTree) (q : HostPath) (qs : List Question) (result : Result Totals CopyFail) : Type 0 where
  pub fail : CopyFail
  pub export : IsExport before after q qs (Err fail)
  pub is : result ≡ Err fail

-- all rows were copied, which left these attributes, and then some were set
pub record ExportTakes (before after : Option HostTree) (attributes : Option Tree) (q : HostPath) (qs : List Question) (result : Result Totals CopyFail) : Type 0 where
  pub totals : Totals
  pub copied : List Question
  pub taken : List Question
  pub left : Option Tree
  pub passed : Result (Unit {0}) CopyFail
  pub are : qs ≡ copied ++ taken
  pub export : IsExport before after q copied (Ok totals)
  pub takes : Takes left attributes q taken passed
  pub is : result ≡ end_of totals passed

-- what was asked for a folder that was so and is so, and whose attributes are so behind the copy
abbrev pub IsAttributedExport : Option HostTree → Option HostTree → Option Tree → HostPath → List Question → Result Totals CopyFail → Type 0
IsAttributedExport before after attributes q qs result = ExportFails before after q qs result ⊎ ExportTakes before after attributes q qs result
