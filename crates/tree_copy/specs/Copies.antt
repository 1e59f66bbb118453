-- How far a copy into a tree got.
use Rattle.std.specs.Prelude.{◌≡◌, Bool, true, List, [], ◌∷◌, ◌++◌, is_some, IfSome}
use Rattle.std.specs.FinMap.{find}
use Rattle.std.specs.declared.option.Option.{Option}
use Rattle.std.specs.declared.result.Result.{Result}
use Rattle.std.specs.declared.result.Result.TheVariants.{Ok, Err}
use Rattle.fs_model.specs.Tree.{path_cmp}
use Rattle.copy_row.specs.host_folder.Folders.{HostPath, HostTree}
use Rattle.copy_row.specs.copy_laws.declared.copied.Totals.{Totals}
use Rattle.copy_row.specs.copy_laws.declared.copied.CopyFail.{CopyFail}
use Rattle.copy_row.specs.copy_laws.declared.copied.CopyFail.TheVariants as fail
use Rattle.copy_row.specs.copy_laws.Ends.{AreShort, FailsBy, IsImport, counted}
use Rattle.copy_row.specs.copy_laws.Importing.{commands_in, ArePlain}
use Rattle.copy_row.specs.copy_laws.Questions.{Question, Asking, Asked, AreDone, commands_of}
use Rattle.copy_row.specs.copy_laws.Walks.{Met, Todo, IsWalk}
use Rattle.copy_row.specs.declared.place.RowPlace.{RowPlace}
use Rattle.copy_row.specs.declared.stop.Stop.{Stop}
use Rattle.copy_row.specs.declared.stop.Stop.TheVariants as stop
use Rattle.copy_row.specs.Rows.{none_copied}
use Rattle.tree_copy.specs.declared.levels.Level.{Level}
use Rattle.tree_copy.specs.Levels.{todo_of, Goes, HasTargets}

abbrev pub fail_of : Stop → HostPath → CopyFail
fail_of stop.Memory p = fail.Memory
fail_of stop.Host p = fail.Host
fail_of stop.Stopped p = fail.Stopped
fail_of (stop.Refused e) p = fail.Refused p e

-- the rows that were met are copied, and these are still to be met
pub record IsAt {A : Type 0} (M : Asking A) (old new : A) (told : Option HostTree) (q : HostPath) (todo : Todo) (totals : Totals) : Type 0 where
  pub met : Met
  pub qs : List Question
  pub asked : Asked M old new qs
  pub done : AreDone qs
  pub commands : commands_of qs ≡ commands_in q met
  pub walk : IsWalk told met todo
  pub root : is_some (find path_cmp [] met) ≡ true
  pub short : AreShort q met
  pub counts : totals ≡ counted none_copied (commands_of qs)

-- the copy failed so
pub record Failed {A : Type 0} (M : Asking A) (old new : A) (told : Option HostTree) (q : HostPath) (e : CopyFail) : Type 0 where
  pub qs : List Question
  pub tree : HostTree
  pub asked : Asked M old new qs
  pub same : IfSome told (λ u. u ≡ tree)
  pub plain : ArePlain tree
  pub fails : FailsBy q tree qs e

abbrev pub StepEnds : {A : Type 0} → Asking A → {X : Type 0} → A → A → Option HostTree → HostPath → List Level → Totals → Result X CopyFail → Type 0
StepEnds M old new told q levels totals (Ok x) = IsAt M old new told q (todo_of levels) totals × HasTargets q levels
StepEnds M old new told q levels totals (Err e) = Failed M old new told q e

-- from wherever the copy began: the row at this place is the next, and then those of the levels
abbrev pub StepsAt : {A : Type 0} → Asking A → A → A → Option HostTree → RowPlace → List Level → List Level → Totals → Totals → Result (Unit {0}) CopyFail → Type 0
StepsAt {A} M old new told at levels now before after result =
    (first : A) (q : HostPath) → at.tree ≡ q ++ at.host → HasTargets q levels → IsAt M first old told q ((at.host, at.kind) ∷ todo_of levels) before → StepEnds M first new told q now after result

abbrev pub Steps : {A : Type 0} → Asking A → A → A → Option HostTree → List Level → List Level → Totals → Totals → Result Bool CopyFail → Type 0
Steps {A} M old new told levels now before after result =
    ((first : A) (q : HostPath) → HasTargets q levels → IsAt M first old told q (todo_of levels) before → StepEnds M first new told q now after result) × Goes result levels now

-- what an import asked, for which tree, and how it ends
pub record ImportRun {A : Type 0} (M : Asking A) (old new : A) (told : Option HostTree) (q : HostPath) (result : Result Totals CopyFail) : Type 0 where
  pub qs : List Question
  pub tree : HostTree
  pub asked : Asked M old new qs
  pub is : IsImport told q tree qs result
