-- How questions of an export go, and the copy of one row into a folder.
use Rattle.std.specs.Prelude.{◌≡◌, ◌⊎◌, ℕ, ◌+◌, List, [], ◌∷◌, ◌++◌, length, IfOk}
use Rattle.std.specs.FinMap.{get}
use Rattle.std.specs.declared.option.Option.{Option}
use Rattle.std.specs.declared.option.Option.TheVariants.{Some}
use Rattle.std.specs.declared.result.Result.{Result}
use Rattle.std.specs.declared.result.Result.TheVariants.{Ok, Err}
use Rattle.fs_model.specs.declared.attr.Kind.{Kind}
use Rattle.fs_model.specs.declared.attr.Kind.TheVariants.{Directory, File, Link}
use Rattle.fs_model.specs.declared.command.Command.{Command}
use Rattle.fs_model.specs.declared.reply.ListRow.{ListRow}
use Rattle.fs_model.specs.declared.reply.Reply.{Reply}
use Rattle.fs_model.specs.Step.{by_kind}
use Rattle.copy_laws.specs.host_folder.Folders.{HostRow, HostPath, HostTree, IsHostTree, AreRowsOf, RowsRise, IsMade, kind_in}
use Rattle.copy_laws.specs.declared.asker.Stopped.{Stopped}
use Rattle.copy_laws.specs.declared.copied.Totals.{Totals}
use Rattle.copy_laws.specs.Ends.{path_of, up_to}
use Rattle.copy_laws.specs.Exporting.{AreServed, IsServed, LastRead, Refuses, IsRead, IsFrontRow, Tells}
use Rattle.copy_laws.specs.Questions.{Question, Asking, Asked, IsReplyTo}
use Rattle.copy_row.specs.declared.stop.Stop.{Stop}
use Rattle.copy_row.specs.declared.stop.Stop.TheVariants as stop

-- the totals with this row more; a file has so many bytes
abbrev pub with_row : Totals → Kind → ℕ → Totals
with_row t kind n = record {
  dirs = up_to (t.dirs + by_kind kind 1 0 0);
  files = up_to (t.files + by_kind kind 0 1 0);
  links = up_to (t.links + by_kind kind 0 0 1);
  bytes = up_to (t.bytes + by_kind kind 0 n 0);
}

-- how questions about this path end: the last one was refused or wasn't answered where the result says so
abbrev pub ReadEnds : {X : Type 0} → HostPath → List Question → Result X Stop → Type 0
ReadEnds p qs (Ok x) = AreServed qs
ReadEnds p qs (Err stop.Memory) = AreServed qs
ReadEnds p qs (Err stop.Host) = AreServed qs
ReadEnds p qs (Err stop.Stopped) = (stopped : Stopped) × LastRead qs p (Err stopped)
ReadEnds p qs (Err (stop.Refused e)) = (reply : Reply) × (Refuses e reply × LastRead qs p (Ok reply))

-- what was asked about this path, and what it says where the result is Ok: of each tree that tells the replies, and whose row at a path below q this is
pub record Reads {A : Type 0} (M : Asking A) (old new : A) (p : HostPath) {X : Type 0} (Says : HostTree → HostPath → X → Type 0) (result : Result X Stop) : Type 0 where
  pub qs : List Question
  pub asked : Asked M old new qs
  pub ends : ReadEnds p qs result
  pub says : (u : HostTree) (q r : HostPath) → p ≡ q ++ r → Tells u q qs → IfOk result (Says u r)

-- one question: a reply of its form that is no error, or why there is none
abbrev pub OneRead : {A : Type 0} → Asking A → A → A → Command → Result Reply Stop → Type 0
OneRead M old new c (Ok reply) = (Asked M old new (record { command = c; outcome = Ok reply } ∷ []) × IsServed (Ok reply)) × IsReplyTo c reply
OneRead M old new c (Err e) = Reads M old new (path_of c) {X = Reply} (λ u r reply. Unit {0}) (Err e)

-- the rows of a directory, by increasing names
abbrev pub SaysRows : HostTree → HostPath → List ListRow → Type 0
SaysRows u r rows = AreRowsOf u r rows × RowsRise rows

-- a piece of a file from this place on
abbrev pub SaysPiece : ℕ → HostTree → HostPath → List ℕ → Type 0
SaysPiece from u r bytes = (r ≡ [] → ⊥) → IsRead u r from 1048576 bytes

-- a link's target
abbrev pub SaysTarget : HostTree → HostPath → List ℕ → Type 0
SaysTarget u r target = (r ≡ [] → ⊥) → get u r ≡ Some (record { kind = Link; bytes = target })

-- a call on the folder isn't refused, and asks nothing
abbrev pub NeverAsked : {X : Type 0} → Result X Stop → Type 0
NeverAsked (Ok x) = Unit {0}
NeverAsked (Err stop.Memory) = Unit {0}
NeverAsked (Err stop.Host) = Unit {0}
NeverAsked (Err stop.Stopped) = ⊥
NeverAsked (Err (stop.Refused e)) = ⊥

-- the file has these bytes in the folder, and the tree has them and these
pub record IsSoFar (u : HostTree) (first now : Option HostTree) (host : HostPath) : Type 0 where
  pub bytes : List ℕ
  pub rest : List ℕ
  pub there : get u host ≡ Some (record { kind = File; bytes = bytes ++ rest })
  pub made : IsMade first now host File bytes

pub record IsAllOut (u : HostTree) (first now : Option HostTree) (host : HostPath) (count : ℕ) : Type 0 where
  pub bytes : List ℕ
  pub there : get u host ≡ Some (record { kind = File; bytes = bytes })
  pub made : IsMade first now host File bytes
  pub long : count ≡ length bytes

abbrev pub BytesEnd : HostTree → Option HostTree → Option HostTree → HostPath → Result ℕ Stop → Type 0
BytesEnd u first now host (Ok count) = IsAllOut u first now host count
BytesEnd u first now host (Err e) = IsSoFar u first now host

-- for each tree that tells the replies and has a file there: what was put into a file that was new and empty
abbrev pub OfFile : HostPath → HostPath → List Question → Option HostTree → (HostTree → Option HostTree → Type 0) → Type 0
OfFile tree host qs before P =
    (u : HostTree) (q : HostPath) (first : Option HostTree) → tree ≡ q ++ host → (host ≡ [] → ⊥) → Tells u q qs → kind_in (get u host) ≡ Some File → IsMade first before host File [] → P u first

-- a file's bytes in the folder
pub record BytesOut {A : Type 0} (M : Asking A) (old new : A) (before after : Option HostTree) (tree host : HostPath) (result : Result ℕ Stop) : Type 0 where
  pub qs : List Question
  pub asked : Asked M old new qs
  pub ends : ReadEnds tree qs result
  pub of : OfFile tree host qs before (λ u first. BytesEnd u first after host result)

-- so many bytes of the file were put into the folder
pub record IsOutTo {A : Type 0} (M : Asking A) (old new : A) (before now : Option HostTree) (tree host : HostPath) (place : ℕ) : Type 0 where
  pub qs : List Question
  pub asked : Asked M old new qs
  pub served : AreServed qs
  pub of : OfFile tree host qs before (λ u first. (x : IsSoFar u first now host) × (length x.bytes ≡ place))

-- the row was made as the tree has it, and counted
pub record IsRowOut (u : HostTree) (before after : Option HostTree) (host : HostPath) (first totals : Totals) : Type 0 where
  pub row : HostRow
  pub there : get u host ≡ Some row
  pub made : IsMade before after host row.kind row.bytes
  pub counts : totals ≡ with_row first row.kind (length row.bytes)

-- nothing was made, or a part of the row
abbrev pub IsRowPart : HostTree → Option HostTree → Option HostTree → HostPath → Type 0
IsRowPart u before after host = (after ≡ before) ⊎ ((row : HostRow) × (IsMade before after host row.kind row.bytes × IsFrontRow row (get u host)))

abbrev pub RowEndsOut : {X : Type 0} → HostTree → Option HostTree → Option HostTree → HostPath → Totals → Totals → Result X Stop → Type 0
RowEndsOut u before after host first totals (Ok x) = IsRowOut u before after host first totals
RowEndsOut u before after host first totals (Err e) = IsRowPart u before after host

-- a directory was made and counted, or perhaps made
abbrev pub DirectoryOut : {X : Type 0} → Option HostTree → Option HostTree → HostPath → Totals → Totals → Result X Stop → Type 0
DirectoryOut before after host first totals (Ok x) = IsMade before after host Directory [] × (totals ≡ with_row first Directory 0)
DirectoryOut before after host first totals (Err e) = (after ≡ before) ⊎ IsMade before after host Directory []

-- one row in the folder, for each tree that tells the replies and has a row of this kind there
pub record RowOut {A : Type 0} (M : Asking A) (old new : A) (before after : Option HostTree) (kind : Kind) (tree host : HostPath) (first totals : Totals) {X : Type 0} (result : Result X Stop) : Type 0 where
  pub qs : List Question
  pub asked : Asked M old new qs
  pub ends : ReadEnds tree qs result
  pub of : (u : HostTree) (q : HostPath) → tree ≡ q ++ host → (host ≡ [] → ⊥) → IsHostTree u → Tells u q qs → kind_in (get u host) ≡ Some kind → RowEndsOut u before after host first totals result
