-- An import that gives attributes: what is asked.
use Rattle.std.specs.Prelude.{◌≡◌, ◌⊎◌, List, [], ◌++◌, IfSome, OnOk}
use Rattle.std.specs.declared.option.Option.{Option}
use Rattle.std.specs.declared.result.Result.{Result}
use Rattle.std.specs.declared.result.Result.TheVariants.{Ok, Err}
use Rattle.fs_model.specs.Tree.{Tree}
use Rattle.tree_copy.specs.host_folder.Folders.{HostPath, HostTree}
use Rattle.tree_copy.specs.copy_laws.declared.copied.CopyFail.{CopyFail}
use Rattle.tree_copy.specs.copy_laws.declared.copied.Totals.{Totals}
use Rattle.tree_copy.specs.copy_laws.Ends.{IsImport}
use Rattle.tree_copy.specs.copy_laws.Questions.{Question, commands_of}
use Rattle.copy_times.specs.declared.paths.TheConstants.{MOST_DEEP}
use Rattle.copy_times.specs.Asking.{EndsBy, IsGiven, gifts}
use Rattle.copy_times.specs.Giving.{AsksFor, told_kids}
use Rattle.copy_times.specs.Tours.{AreKids, Dressed, IsTour}
use Rattle.copy_attributes.specs.Passes.{end_of}

-- the rows below q were given attributes: those of the folder's rows, where it tells them, and all of them where it is Ok
pub record Gives (told : Option Tree) (q : HostPath) (qs : List Question) (result : Result (Unit {0}) CopyFail) : Type 0 where
  pub rows : List Dressed
  pub ends : EndsBy IsGiven qs result
  pub commands : AsksFor result (commands_of qs) (gifts rows)
  pub kids : IfSome told (λ t. AreKids (told_kids t) rows)
  pub whole : OnOk result (IfSome told (λ t. IsTour MOST_DEEP (told_kids t) [] q rows))

-- rows were copied until the copy failed so, and no attributes were given
pub record ImportFails (folder : Option HostTree) (q : HostPath) (qs : List Question) (result : Result Totals CopyFail) : Type 0 where
  pub fail : CopyFail
  pub tree : HostTree
  pub import : IsImport folder q tree qs (Err fail)
  pub is : result ≡ Err fail

-- all rows were copied, and then attributes were given
pub record ImportGives (folder : Option HostTree) (attributes : Option Tree) (q : HostPath) (qs : List Question) (result : Result Totals CopyFail) : Type 0 where
  pub tree : HostTree
  pub totals : Totals
  pub copied : List Question
  pub given : List Question
  pub passed : Result (Unit {0}) CopyFail
  pub are : qs ≡ copied ++ given
  pub import : IsImport folder q tree copied (Ok totals)
  pub gives : Gives attributes q given passed
  pub is : result ≡ end_of totals passed

-- what was asked of a folder that is so, and whose attributes are so behind the copy
abbrev pub IsAttributedImport : Option HostTree → Option Tree → HostPath → List Question → Result Totals CopyFail → Type 0
IsAttributedImport folder attributes q qs result = ImportFails folder q qs result ⊎ ImportGives folder attributes q qs result
