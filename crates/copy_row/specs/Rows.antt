-- How the copy of one row goes.
use Rattle.std.specs.Prelude.{◌≡◌, ℕ, ◌≤◌, List, [], ◌∷◌, ◌++◌, length, take, drop, IfSome, OnOk}
use Rattle.std.specs.FinMap.{get}
use Rattle.std.specs.declared.option.Option.{Option}
use Rattle.std.specs.declared.option.Option.TheVariants.{None, Some}
use Rattle.std.specs.declared.result.Result.{Result}
use Rattle.std.specs.declared.result.Result.TheVariants.{Ok, Err}
use Rattle.outside.specs.Causes.{RoseBy}
use Rattle.fs_model.specs.declared.attr.Kind.{Kind}
use Rattle.fs_model.specs.declared.attr.Kind.TheVariants.{File, Link}
use Rattle.fs_model.specs.declared.command.Command.{Command}
use Rattle.fs_model.specs.declared.command.Command.TheVariants as command
use Rattle.fs_model.specs.declared.reply.Reply.{Reply}
use Rattle.fs_model.specs.declared.reply.Reply.TheVariants.{Error}
use Rattle.fs_model.specs.declared.error.FsError.{FsError}
use Rattle.copy_laws.specs.host_folder.Folders.{HostRow, HostPath, HostTree, IsHostTree, kind_in}
use Rattle.copy_laws.specs.declared.asker.Stopped.{Stopped}
use Rattle.copy_laws.specs.declared.copied.Totals.{Totals}
use Rattle.copy_laws.specs.Ends.{LastWas, IsFront, counted}
use Rattle.copy_laws.specs.Importing.{writes, pieces_of, commands_for, joined, AreFull}
use Rattle.copy_laws.specs.Questions.{Question, Asking, Asked, AreDone, commands_of}
use Rattle.copy_laws.specs.Walks.{IsPlain}
use Rattle.copy_row.specs.declared.stop.Stop.{Stop}
use Rattle.copy_row.specs.declared.stop.Stop.TheVariants as stop

abbrev pub none_copied : Totals
none_copied = record { dirs = 0; files = 0; links = 0; bytes = 0 }

-- a command that answers Done or an error
abbrev pub IsChange : Command → Type 0
IsChange (command.Mkdir p) = Unit {0}
IsChange (command.Mkfile p) = Unit {0}
IsChange (command.Symlink target p) = Unit {0}
IsChange (command.Write p from bytes) = Unit {0}
IsChange c = ⊥

-- the error that a reply is
abbrev pub refusal : Reply → Option FsError
refusal (Error e) = Some e
refusal reply = None

-- how the questions of a row end: the last one was refused or wasn't answered where the result says so
abbrev pub RowEnds : {X : Type 0} → HostPath → List Question → Result X Stop → Type 0
RowEnds p qs (Ok x) = AreDone qs
RowEnds p qs (Err stop.Memory) = AreDone qs
RowEnds p qs (Err stop.Host) = AreDone qs
RowEnds p qs (Err stop.Stopped) = (stopped : Stopped) × LastWas qs p (Err stopped)
RowEnds p qs (Err (stop.Refused e)) = LastWas qs p (Ok (Error e))

-- all of the commands were asked, or a front part of them
abbrev pub AsksFor : {X : Type 0} → Result X Stop → List Command → List Command → Type 0
AsksFor (Ok x) cs all = cs ≡ all
AsksFor (Err e) cs all = IsFront cs all

-- what was asked of these commands on this path
pub record Asks {A : Type 0} (M : Asking A) (old new : A) (p : HostPath) (all : List Command) {X : Type 0} (result : Result X Stop) : Type 0 where
  pub qs : List Question
  pub asked : Asked M old new qs
  pub ends : RowEnds p qs result
  pub commands : AsksFor result (commands_of qs) all

abbrev pub StopsBy : {X : Type 0} → ℕ → ℕ → Result X Stop → Type 0
StopsBy before now (Ok x) = now ≡ before
StopsBy before now (Err stop.Memory) = now ≡ before
StopsBy before now (Err stop.Host) = now ≡ before
StopsBy before now (Err stop.Stopped) = (before ≤ now) × RoseBy 1 before now
StopsBy before now (Err (stop.Refused e)) = now ≡ before

abbrev pub FaultsBy : {X : Type 0} → ℕ → ℕ → Result X Stop → Type 0
FaultsBy before now (Ok x) = now ≡ before
FaultsBy before now (Err stop.Memory) = now ≡ before
FaultsBy before now (Err stop.Host) = (before ≤ now) × RoseBy 1 before now
FaultsBy before now (Err stop.Stopped) = now ≡ before
FaultsBy before now (Err (stop.Refused e)) = now ≡ before

-- the folder has no part in it
abbrev pub NeverHost : {X : Type 0} → Result X Stop → Type 0
NeverHost (Ok x) = Unit {0}
NeverHost (Err stop.Memory) = Unit {0}
NeverHost (Err stop.Host) = ⊥
NeverHost (Err stop.Stopped) = Unit {0}
NeverHost (Err (stop.Refused e)) = Unit {0}

-- there is a file at this path
pub record HasFile (t : HostTree) (p : HostPath) : Type 0 where
  pub bytes : List ℕ
  pub there : get t p ≡ Some (record { kind = File; bytes = bytes })

-- a piece of the file at this place, shorter than others only at its end
pub record IsPiece (t : HostTree) (p : HostPath) (from : ℕ) (piece : List ℕ) : Type 0 where
  pub bytes : List ℕ
  pub there : get t p ≡ Some (record { kind = File; bytes = bytes })
  pub is : piece ≡ take 1048576 (drop from bytes)

-- a file's bytes as the folder gave them, and the commands that write them
pub record FileCopied {A : Type 0} (M : Asking A) (old new : A) (told : Option HostTree) (from to : HostPath) (before after : Totals) {X : Type 0} (result : Result X Stop) : Type 0 where
  pub bytes : List ℕ
  pub there : IfSome told (λ t. get t from ≡ Some (record { kind = File; bytes = bytes }))
  pub asks : Asks M old new to (writes to 0 (pieces_of bytes)) result
  pub counts : OnOk result (after ≡ counted before (writes to 0 (pieces_of bytes)))

-- there is a link at this path
pub record HasLink (t : HostTree) (p : HostPath) : Type 0 where
  pub bytes : List ℕ
  pub there : get t p ≡ Some (record { kind = Link; bytes = bytes })

-- a link's target as the folder gave it, and the command that makes the link
pub record LinkCopied {A : Type 0} (M : Asking A) (old new : A) (told : Option HostTree) (from to : HostPath) (before after : Totals) {X : Type 0} (result : Result X Stop) : Type 0 where
  pub bytes : List ℕ
  pub there : IfSome told (λ t. get t from ≡ Some (record { kind = Link; bytes = bytes }))
  pub asks : Asks M old new to (command.Symlink bytes to ∷ []) result
  pub counts : OnOk result (after ≡ counted before (command.Symlink bytes to ∷ []))

-- a row of this kind is at this path of the folder
pub record IsPlaced (t : HostTree) (p : HostPath) (kind : Kind) : Type 0 where
  pub tree : IsHostTree t
  pub there : kind_in (get t p) ≡ Some kind

-- a row as the folder gave it, and the commands that make it
pub record RowCopied {A : Type 0} (M : Asking A) (old new : A) (told : Option HostTree) (kind : Kind) (from to : HostPath) (before after : Totals) {X : Type 0} (result : Result X Stop) : Type 0 where
  pub row : HostRow
  pub of_kind : row.kind ≡ kind
  pub plain : IsPlain row
  pub there : IfSome told (λ t. get t from ≡ Some row)
  pub asks : Asks M old new to (commands_for to row.kind row.bytes) result
  pub counts : OnOk result (after ≡ counted before (commands_for to row.kind row.bytes))

-- full pieces of a file were written, and nothing else
pub record IsWritten {A : Type 0} (M : Asking A) (old new : A) (told : Option HostTree) (from to : HostPath) (place : ℕ) (before after : Totals) : Type 0 where
  pub pieces : List (List ℕ)
  pub full : AreFull 1048576 pieces
  pub long : place ≡ length (joined pieces)
  pub file : IfSome told (λ t. (rest : List ℕ) × (get t from ≡ Some (record { kind = File; bytes = joined pieces ++ rest })))
  pub asks : Asks M old new to (writes to 0 pieces) {X = Unit {0}} (Ok tt)
  pub counts : after ≡ counted before (writes to 0 pieces)
