-- Giving a folder's rows the attributes of a tree's.
use Rattle.std.specs.Prelude.{◌≡◌, ℕ, List, [], ◌∷◌, map, OnOk, IfOk}
use Rattle.std.specs.List.{Contains}
use Rattle.std.specs.FinMap.{get, entries}
use Rattle.std.specs.declared.option.Option.{Option}
use Rattle.std.specs.declared.option.Option.TheVariants.{None, Some}
use Rattle.std.specs.declared.result.Result.{Result}
use Rattle.std.specs.declared.result.Result.TheVariants.{Ok, Err}
use Rattle.fs_model.specs.declared.attr.Attr.{Attr}
use Rattle.fs_model.specs.declared.attr.Kind.{Kind}
use Rattle.fs_model.specs.declared.command.Command.{Command}
use Rattle.fs_model.specs.declared.reply.ListRow.{ListRow}
use Rattle.fs_model.specs.declared.reply.Reply.{Reply}
use Rattle.fs_model.specs.declared.reply.Reply.TheVariants.{Info}
use Rattle.fs_model.specs.Step.{step, list_row}
use Rattle.fs_model.specs.Tree.{Tree, beginning, children, upward}
use Rattle.copy_row.specs.host_folder.Folders.{HostPath}
use Rattle.copy_row.specs.copy_laws.declared.asker.Stopped.{Stopped}
use Rattle.copy_row.specs.copy_laws.declared.copied.CopyFail.{CopyFail}
use Rattle.copy_row.specs.copy_laws.declared.copied.CopyFail.TheVariants as fail
use Rattle.copy_row.specs.copy_laws.Exporting.{IsServed}
use Rattle.copy_row.specs.copy_laws.Questions.{Question, Asking, Asked, IsReplyTo}
use Rattle.host_attributes.specs.declared.row.AttributedRow.{AttributedRow}
use Rattle.host_attributes.specs.Attributes.{AreLookedUp, IsSet, attr_in, rows_in}
use Rattle.copy_times.specs.Asking.{IsSeen, EndsBy}
use Rattle.copy_times.specs.Tours.{Dressed, Kids, BelowIs, IsTour, RowsTour, AreKids}

-- the rows that a tree has
abbrev pub tree_kids : Tree → Kids
tree_kids t p q = rows_in t q

-- the reply is that of this tree: a command that looks has the same one at any moment
abbrev pub IsOutcomeOf : Tree → Command → Result Reply Stopped → Type 0
IsOutcomeOf t c (Ok reply) = (step t beginning c).reply ≡ reply
IsOutcomeOf t c (Err stopped) = Unit {0}

-- the replies are those of this tree
abbrev pub Tells : Tree → List Question → Type 0
Tells t [] = Unit {0}
Tells t (q ∷ qs) = IsOutcomeOf t q.command q.outcome × Tells t qs

-- the folder's rows were set, one after the other
abbrev pub AreSet : Option Tree → List Dressed → Option Tree → Type 0
AreSet before [] after = after ≡ before
AreSet before (d ∷ ds) after = (mid : Option Tree) × (IsSet before mid d.host d.attr × AreSet mid ds after)

-- what was asked, and which rows of the folder were set: those of each tree that tells the replies and of which this is known, and all of them where it is Ok
pub record Took {A : Type 0} (M : Asking A) (old new : A) (before after : Option Tree) (Known : Tree → Type 0) (Whole : Tree → List Dressed → Type 0) {X : Type 0} (result : Result X CopyFail) : Type 0 where
  pub qs : List Question
  pub rows : List Dressed
  pub asked : Asked M old new qs
  pub ends : EndsBy IsSeen qs result
  pub set : AreSet before rows after
  pub kids : (t : Tree) → Known t → Tells t qs → AreKids (tree_kids t) rows
  pub whole : OnOk result ((t : Tree) → Tells t qs → Whole t rows)

-- what was asked of a tree, and what it says where the result is Ok: of each tree that tells the replies
pub record Sees {A : Type 0} (M : Asking A) (old new : A) {X : Type 0} (Says : Tree → X → Type 0) (result : Result X CopyFail) : Type 0 where
  pub qs : List Question
  pub asked : Asked M old new qs
  pub ends : EndsBy IsSeen qs result
  pub says : (t : Tree) → Tells t qs → IfOk result (Says t)

-- one question: a reply of its form that is no error, or why there is none
abbrev pub Looked : {A : Type 0} → Asking A → A → A → Command → Result Reply CopyFail → Type 0
Looked M old new c (Ok reply) = Asked M old new (record { command = c; outcome = Ok reply } ∷ []) × (IsServed (Ok reply) × IsReplyTo c reply)
Looked M old new c (Err e) = Sees M old new {X = Reply} (λ t reply. Unit {0}) (Err e)

-- the attributes that a reply tells
abbrev pub info_in : Reply → Option Attr
info_in (Info attr size) = Some attr
info_in reply = None

-- kinds and names of a directory's rows, by increasing names
abbrev pub SaysNames : HostPath → Tree → List ListRow → Type 0
SaysNames p t rows = rows ≡ map list_row (entries (children t (upward p)))

-- the attributes of a row
abbrev pub SaysAttr : HostPath → Tree → Attr → Type 0
SaysAttr p t attr = attr_in (get t (upward p)) ≡ Some attr

-- a directory has these names, and those of the first ones were looked up
abbrev pub SaysLooked : HostPath → List ListRow → List ListRow → Tree → List AttributedRow → Type 0
SaysLooked p listed done t rows = SaysNames p t listed × AreLookedUp t p done rows

-- a call on the folder asks nothing
abbrev pub NeverAsked : {X : Type 0} → Result X CopyFail → Type 0
NeverAsked (Ok x) = Unit {0}
NeverAsked (Err fail.Memory) = Unit {0}
NeverAsked (Err fail.Host) = Unit {0}
NeverAsked (Err fail.Stopped) = ⊥
NeverAsked (Err (fail.LongPath p)) = ⊥
NeverAsked (Err (fail.Refused p e)) = ⊥

-- all that is below the directory at these paths, which goes on for less than so many directories
abbrev pub TookBelow : {A : Type 0} → Asking A → A → A → Option Tree → Option Tree → HostPath → HostPath → ℕ → {X : Type 0} → Result X CopyFail → Type 0
TookBelow M old new before after p q depth result = Took M old new before after (λ t. Unit {0}) (λ t. IsTour depth (tree_kids t) p q) result

-- what is below a row of this kind
abbrev pub TookUnder : {A : Type 0} → Asking A → A → A → Option Tree → Option Tree → Kind → HostPath → HostPath → ℕ → {X : Type 0} → Result X CopyFail → Type 0
TookUnder M old new before after kind p q depth result = Took M old new before after (λ t. Unit {0}) (λ t. BelowIs kind (IsTour depth (tree_kids t) p q)) result

-- what is below one row of it, and then the row, which the tree lists
abbrev pub TookRow : {A : Type 0} → Asking A → A → A → Option Tree → Option Tree → AttributedRow → HostPath → HostPath → ℕ → {X : Type 0} → Result X CopyFail → Type 0
TookRow M old new before after row p q depth result = Took M old new before after (λ t. Contains (rows_in t q) row) (λ t. RowsTour (IsTour depth (tree_kids t)) p q (row ∷ [])) result

-- some of the rows that the tree lists
abbrev pub TookRows : {A : Type 0} → Asking A → A → A → Option Tree → Option Tree → List AttributedRow → List AttributedRow → HostPath → HostPath → ℕ → {X : Type 0} → Result X CopyFail → Type 0
TookRows M old new before after all rows p q depth result = Took M old new before after (λ t. all ≡ rows_in t q) (λ t. RowsTour (IsTour depth (tree_kids t)) p q rows) result
