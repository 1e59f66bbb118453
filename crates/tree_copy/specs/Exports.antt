-- How far a copy into a folder got.
use Rattle.std.specs.Prelude.{◌≡◌, ℕ, Bool, true, false, List, [], ◌∷◌, ◌++◌, T, is_some, OnOk}
use Rattle.std.specs.FinMap.{get, find, entries, is_sorted}
use Rattle.std.specs.declared.option.Option.{Option}
use Rattle.std.specs.declared.option.Option.TheVariants.{Some}
use Rattle.std.specs.declared.result.Result.{Result}
use Rattle.std.specs.declared.result.Result.TheVariants.{Ok, Err}
use Rattle.fs_model.specs.declared.attr.Kind.{Kind}
use Rattle.fs_model.specs.Tree.{name_cmp, path_cmp}
use Rattle.copy_row.specs.host_folder.Folders.{HostPath, HostTree, kind_in}
use Rattle.copy_row.specs.copy_laws.declared.copied.Totals.{Totals}
use Rattle.copy_row.specs.copy_laws.declared.copied.CopyFail.{CopyFail}
use Rattle.copy_row.specs.copy_laws.Ends.{AreShort}
use Rattle.copy_row.specs.copy_laws.Exporting.{AreServed, EndsOut, FailsOut, IsBare, HasRows, IsExport, IsPartOf, OfEach, OnTold, Tells, totals_in}
use Rattle.copy_row.specs.copy_laws.Questions.{Question, Asking, Asked}
use Rattle.copy_row.specs.copy_laws.Walks.{Met, Todo, IsWalk}
use Rattle.copy_row.specs.declared.place.RowPlace.{RowPlace}
use Rattle.copy_row.specs.declared.stop.Stop.{Stop}
use Rattle.copy_row.specs.Reads.{ReadEnds}
use Rattle.tree_copy.specs.declared.levels.Level.{Level}
use Rattle.tree_copy.specs.Copies.{fail_of}
use Rattle.tree_copy.specs.Levels.{left_of, todo_of, Goes, HasTargets}

-- the rows of a directory, by increasing names
pub record SaysKids (u : HostTree) (r : HostPath) (kids : List (List ℕ × Kind)) : Type 0 where
  pub rise : T (is_sorted name_cmp kids)
  pub each : (n : List ℕ) → find name_cmp n kids ≡ kind_in (get u (r ++ n ∷ []))

-- a directory more, with all its rows left
pub record IsOpened (qs : List Question) (host tree : HostPath) (levels now : List Level) : Type 0 where
  pub level : Level
  pub is : now ≡ levels ++ level ∷ []
  pub of_host : level.host ≡ host
  pub of_tree : level.tree ≡ tree
  pub rows : (u : HostTree) (q r : HostPath) → tree ≡ q ++ r → Tells u q qs → SaysKids u r (left_of level)

pub record TreeEntered {A : Type 0} (M : Asking A) (old new : A) (host tree : HostPath) (levels now : List Level) (result : Result (Unit {0}) Stop) : Type 0 where
  pub qs : List Question
  pub asked : Asked M old new qs
  pub ends : ReadEnds tree qs result
  pub opened : OnOk result (IsOpened qs host tree levels now)

-- the same, as the copy fails
abbrev pub TreeBegun : {A : Type 0} → Asking A → A → A → HostPath → HostPath → List Level → List Level → Result (Unit {0}) CopyFail → Type 0
TreeBegun M old new host tree levels now (Ok x) = TreeEntered M old new host tree levels now (Ok x)
TreeBegun M old new host tree levels now (Err e) = (stop : Stop) × ((e ≡ fail_of stop tree) × TreeEntered M old new host tree levels now (Err stop))

-- of this tree the rows that were met are in the folder, and these are still to be met
pub record IsFar (u : HostTree) (before after : Option HostTree) (todo : Todo) (totals : Totals) : Type 0 where
  pub met : Met
  pub walk : IsWalk (Some u) met todo
  pub root : is_some (find path_cmp [] met) ≡ true
  pub short : AreShort [] met
  pub made : OnTold before after (λ v. entries v ≡ met)
  pub counts : totals ≡ totals_in met

pub record IsOutAt {A : Type 0} (M : Asking A) (old new : A) (before after : Option HostTree) (q : HostPath) (todo : Todo) (totals : Totals) : Type 0 where
  pub qs : List Question
  pub asked : Asked M old new qs
  pub served : AreServed qs
  pub of : OfEach q qs (λ u. IsFar u before after todo totals)

-- the copy failed so
pub record FailedOut {A : Type 0} (M : Asking A) (old new : A) (before after : Option HostTree) (q : HostPath) (e : CopyFail) : Type 0 where
  pub qs : List Question
  pub asked : Asked M old new qs
  pub fails : FailsOut q qs e
  pub part : OfEach q qs (λ u. OnTold before after (λ v. IsPartOf v u))

abbrev pub StepEndsOut : {A : Type 0} → Asking A → {X : Type 0} → A → A → Option HostTree → Option HostTree → HostPath → List Level → Totals → Result X CopyFail → Type 0
StepEndsOut M old new before after q levels totals (Ok x) = IsOutAt M old new before after q (todo_of levels) totals × HasTargets q levels
StepEndsOut M old new before after q levels totals (Err e) = FailedOut M old new before after q e

-- from wherever the copy began: the row at this place is the next, and then those of the levels
abbrev pub StepsOutAt : {A : Type 0} → Asking A → A → A → Option HostTree → Option HostTree → RowPlace → List Level → List Level → Totals → Totals → Result (Unit {0}) CopyFail → Type 0
StepsOutAt {A} M old new mid after at levels now first totals result =
    (a : A) (before : Option HostTree) (q : HostPath) → at.tree ≡ q ++ at.host → HasTargets q levels → IsOutAt M a old before mid q ((at.host, at.kind) ∷ todo_of levels) first → StepEndsOut M a new before after q now totals result

abbrev pub StepsOut : {A : Type 0} → Asking A → A → A → Option HostTree → Option HostTree → List Level → List Level → Totals → Totals → Result Bool CopyFail → Type 0
StepsOut {A} M old new mid after levels now first totals result =
    ((a : A) (before : Option HostTree) (q : HostPath) → HasTargets q levels → IsOutAt M a old before mid q (todo_of levels) first → StepEndsOut M a new before after q now totals result) × Goes result levels now

-- whether nothing but its root stands in the folder
abbrev pub BareIs : Bool → HostTree → Type 0
BareIs true t = IsBare t
BareIs false t = HasRows t

-- a copy into a folder without rows
pub record OutRun {A : Type 0} (M : Asking A) (old new : A) (before after : Option HostTree) (q : HostPath) (result : Result Totals CopyFail) : Type 0 where
  pub qs : List Question
  pub asked : Asked M old new qs
  pub ends : EndsOut before after q qs result

-- what an export asked, and how it ends
pub record ExportRun {A : Type 0} (M : Asking A) (old new : A) (before after : Option HostTree) (q : HostPath) (result : Result Totals CopyFail) : Type 0 where
  pub qs : List Question
  pub asked : Asked M old new qs
  pub is : IsExport before after q qs result
