-- What is asked to give rows attributes, and to look at them, and how that ends.
use Rattle.std.specs.Prelude.{◌≡◌, List, [], ◌∷◌, ◌++◌}
use Rattle.std.specs.declared.result.Result.{Result}
use Rattle.std.specs.declared.result.Result.TheVariants.{Ok, Err}
use Rattle.fs_model.specs.declared.attr.Attr.{Attr}
use Rattle.fs_model.specs.declared.attributes.AttrChange.{AttrChange}
use Rattle.fs_model.specs.declared.attributes.AttrChange.TheVariants as change
use Rattle.fs_model.specs.declared.command.Command.{Command}
use Rattle.fs_model.specs.declared.command.Command.TheVariants as command
use Rattle.fs_model.specs.declared.reply.Reply.{Reply}
use Rattle.fs_model.specs.declared.reply.Reply.TheVariants.{Done, Error}
use Rattle.copy_row.specs.host_folder.Folders.{HostPath}
use Rattle.copy_row.specs.copy_laws.declared.asker.Stopped.{Stopped}
use Rattle.copy_row.specs.copy_laws.declared.copied.CopyFail.{CopyFail}
use Rattle.copy_row.specs.copy_laws.declared.copied.CopyFail.TheVariants as fail
use Rattle.copy_row.specs.copy_laws.Exporting.{IsServed}
use Rattle.copy_row.specs.copy_laws.Questions.{Question}
use Rattle.copy_times.specs.Tours.{Dressed}

-- Chown, Chmod and Utime
abbrev pub IsGift : Command → Type 0
IsGift (command.Chown p uid gid) = Unit {0}
IsGift (command.Chmod p mode) = Unit {0}
IsGift (command.Utime p atime mtime) = Unit {0}
IsGift c = ⊥

-- List and Stat
abbrev pub IsLook : Command → Type 0
IsLook (command.List p) = Unit {0}
IsLook (command.Stat p) = Unit {0}
IsLook c = ⊥

-- it is one of these five
abbrev pub HasPath : Command → Type 0
HasPath (command.Chown p uid gid) = Unit {0}
HasPath (command.Chmod p mode) = Unit {0}
HasPath (command.Utime p atime mtime) = Unit {0}
HasPath (command.List p) = Unit {0}
HasPath (command.Stat p) = Unit {0}
HasPath c = ⊥

-- the path that it names
abbrev pub path_in : Command → HostPath
path_in (command.Chown p uid gid) = p
path_in (command.Chmod p mode) = p
path_in (command.Utime p atime mtime) = p
path_in (command.List p) = p
path_in (command.Stat p) = p
path_in c = []

-- the command that asks for a change of a row's attributes
abbrev pub gift_for : HostPath → AttrChange → Command
gift_for p (change.Mode mode) = command.Chmod p mode
gift_for p (change.Owner uid gid) = command.Chown p uid gid
gift_for p (change.Times atime mtime) = command.Utime p atime mtime

-- the commands that give a row its attributes: the owner, the mode, the moments of access and change
abbrev pub gifts_at : HostPath → Attr → List Command
gifts_at p attr = command.Chown p attr.uid attr.gid ∷ command.Chmod p attr.mode ∷ command.Utime p attr.atime attr.mtime ∷ []

-- those of each row, one row after the other
abbrev pub gifts : List Dressed → List Command
gifts [] = []
gifts (d ∷ ds) = gifts_at d.tree d.attr ++ gifts ds

-- a command that gives was done
abbrev pub IsGiven : Question → Type 0
IsGiven q = IsGift q.command × (q.outcome ≡ Ok Done)

-- a command that looks was answered by no error
abbrev pub IsSeen : Question → Type 0
IsSeen q = IsLook q.command × IsServed q.outcome

-- it holds of each question
abbrev pub Each : (Question → Type 0) → List Question → Type 0
Each P [] = Unit {0}
Each P (q ∷ qs) = P q × Each P qs

-- all went well but the last, which is for this path
pub record LastWas (Well : Question → Type 0) (qs : List Question) (p : HostPath) (outcome : Result Reply Stopped) : Type 0 where
  pub front : List Question
  pub last : Command
  pub are : qs ≡ front ++ record { command = last; outcome = outcome } ∷ []
  pub well : Each Well front
  pub at : path_in last ≡ p

abbrev pub FailsBy : (Question → Type 0) → List Question → CopyFail → Type 0
FailsBy Well qs fail.Memory = Each Well qs
FailsBy Well qs fail.Host = Each Well qs
FailsBy Well qs (fail.LongPath p) = Each Well qs
FailsBy Well qs fail.Stopped = (p : HostPath) × ((stopped : Stopped) × LastWas Well qs p (Err stopped))
FailsBy Well qs (fail.Refused p e) = LastWas Well qs p (Ok (Error e))

-- how such questions end: the last one was refused or wasn't answered where the result says so
abbrev pub EndsBy : {X : Type 0} → (Question → Type 0) → List Question → Result X CopyFail → Type 0
EndsBy Well qs (Ok x) = Each Well qs
EndsBy Well qs (Err e) = FailsBy Well qs e
