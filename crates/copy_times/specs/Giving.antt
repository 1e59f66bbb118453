-- Giving a tree's rows the attributes of a folder's.
use Rattle.std.specs.Prelude.{◌≡◌, ℕ, List, [], ◌∷◌, IfSome, OnOk}
use Rattle.std.specs.declared.option.Option.{Option}
use Rattle.std.specs.declared.result.Result.{Result}
use Rattle.std.specs.declared.result.Result.TheVariants.{Ok, Err}
use Rattle.fs_model.specs.declared.attr.Kind.{Kind}
use Rattle.fs_model.specs.declared.command.Command.{Command}
use Rattle.fs_model.specs.Tree.{Tree}
use Rattle.copy_row.specs.host_folder.Folders.{HostPath}
use Rattle.copy_row.specs.copy_laws.declared.copied.CopyFail.{CopyFail}
use Rattle.copy_row.specs.copy_laws.declared.copied.CopyFail.TheVariants as fail
use Rattle.copy_row.specs.copy_laws.Ends.{IsFront}
use Rattle.copy_row.specs.copy_laws.Questions.{Question, Asking, Asked, commands_of}
use Rattle.host_attributes.specs.declared.row.AttributedRow.{AttributedRow}
use Rattle.host_attributes.specs.Attributes.{rows_in}
use Rattle.copy_times.specs.Asking.{IsGiven, EndsBy, gifts}
use Rattle.copy_times.specs.Tours.{Dressed, Kids, BelowIs, IsTour, RowsTour, AreKids}

-- the rows that a folder tells
abbrev pub told_kids : Tree → Kids
told_kids t p q = rows_in t p

-- all of the commands were asked, or a front part of them
abbrev pub AsksFor : {X : Type 0} → Result X CopyFail → List Command → List Command → Type 0
AsksFor (Ok x) cs all = cs ≡ all
AsksFor (Err e) cs all = IsFront cs all

-- what was asked of these commands
pub record GaveAll {A : Type 0} (M : Asking A) (old new : A) (all : List Command) {X : Type 0} (result : Result X CopyFail) : Type 0 where
  pub qs : List Question
  pub asked : Asked M old new qs
  pub ends : EndsBy IsGiven qs result
  pub commands : AsksFor result (commands_of qs) all

-- the folder has no part in it
abbrev pub NeverHost : {X : Type 0} → Result X CopyFail → Type 0
NeverHost (Ok x) = Unit {0}
NeverHost (Err fail.Memory) = Unit {0}
NeverHost (Err fail.Stopped) = Unit {0}
NeverHost (Err (fail.Refused p e)) = Unit {0}
NeverHost (Err fail.Host) = ⊥
NeverHost (Err (fail.LongPath p)) = ⊥

-- what was asked, and of which rows: those of the folder, where it tells them, and all of them where it is Ok
pub record Gave {A : Type 0} (M : Asking A) (old new : A) (told : Option Tree) (Whole : Tree → List Dressed → Type 0) {X : Type 0} (result : Result X CopyFail) : Type 0 where
  pub qs : List Question
  pub rows : List Dressed
  pub asked : Asked M old new qs
  pub ends : EndsBy IsGiven qs result
  pub commands : AsksFor result (commands_of qs) (gifts rows)
  pub kids : IfSome told (λ t. AreKids (told_kids t) rows)
  pub whole : OnOk result (IfSome told (λ t. Whole t rows))

-- all that is below the directory at these paths, which goes on for less than so many directories
abbrev pub GaveBelow : {A : Type 0} → Asking A → A → A → Option Tree → HostPath → HostPath → ℕ → {X : Type 0} → Result X CopyFail → Type 0
GaveBelow M old new told p q depth result = Gave M old new told (λ t. IsTour depth (told_kids t) p q) result

-- what is below a row of this kind
abbrev pub GaveUnder : {A : Type 0} → Asking A → A → A → Option Tree → Kind → HostPath → HostPath → ℕ → {X : Type 0} → Result X CopyFail → Type 0
GaveUnder M old new told kind p q depth result = Gave M old new told (λ t. BelowIs kind (IsTour depth (told_kids t) p q)) result

-- what is below one row of it, and then the row
abbrev pub GaveRow : {A : Type 0} → Asking A → A → A → Option Tree → AttributedRow → HostPath → HostPath → ℕ → {X : Type 0} → Result X CopyFail → Type 0
GaveRow M old new told row p q depth result = Gave M old new told (λ t. RowsTour (IsTour depth (told_kids t)) p q (row ∷ [])) result

-- these rows of it
abbrev pub GaveRows : {A : Type 0} → Asking A → A → A → Option Tree → List AttributedRow → HostPath → HostPath → ℕ → {X : Type 0} → Result X CopyFail → Type 0
GaveRows M old new told rows p q depth result = Gave M old new told (λ t. RowsTour (IsTour depth (told_kids t)) p q rows) result

-- want of memory, or that the rows of this directory lie too deep
abbrev pub IsDeepOrMemory : HostPath → CopyFail → Type 0
IsDeepOrMemory p fail.Memory = Unit {0}
IsDeepOrMemory p fail.Host = ⊥
IsDeepOrMemory p fail.Stopped = ⊥
IsDeepOrMemory p (fail.LongPath q) = q ≡ p
IsDeepOrMemory p (fail.Refused q e) = ⊥
