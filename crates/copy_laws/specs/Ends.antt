-- What a copy ends with.
use Rattle.std.specs.Prelude.{◌≡◌, ℕ, ◌+◌, ◌<◌, ◌≤◌, min, List, [], ◌∷◌, ◌++◌, length, IfSome}
use Rattle.std.specs.FinMap.{entries}
use Rattle.std.specs.declared.option.Option.{Option}
use Rattle.std.specs.declared.result.Result.{Result}
use Rattle.std.specs.declared.result.Result.TheVariants.{Ok, Err}
use Rattle.outside.specs.Causes.{RoseBy}
use Rattle.fs_model.specs.declared.command.Command.{Command}
use Rattle.fs_model.specs.declared.command.Command.TheVariants as command
use Rattle.fs_model.specs.declared.limits.TheConstants.{MAX_PATH_TEXT}
use Rattle.fs_model.specs.declared.reply.Reply.{Reply}
use Rattle.fs_model.specs.declared.reply.Reply.TheVariants.{Error}
use Rattle.host_folder.specs.Folders.{HostRow, HostPath, HostTree}
use Rattle.copy_laws.specs.declared.asker.Stopped.{Stopped}
use Rattle.copy_laws.specs.declared.copied.Totals.{Totals}
use Rattle.copy_laws.specs.declared.copied.CopyFail.{CopyFail}
use Rattle.copy_laws.specs.declared.copied.CopyFail.TheVariants as fail
use Rattle.copy_laws.specs.Importing.{import_commands, commands_in, ArePlain}
use Rattle.copy_laws.specs.Questions.{Question, commands_of, AreDone}

abbrev pub total : (Command → ℕ) → List Command → ℕ
total f [] = 0
total f (c ∷ cs) = f c + total f cs

abbrev pub dirs_by : Command → ℕ
dirs_by (command.Mkdir p) = 1
dirs_by c = 0

abbrev pub files_by : Command → ℕ
files_by (command.Mkfile p) = 1
files_by c = 0

abbrev pub links_by : Command → ℕ
links_by (command.Symlink target p) = 1
links_by c = 0

abbrev pub bytes_by : Command → ℕ
bytes_by (command.Write p from bytes) = length bytes
bytes_by c = 0

-- a count stays at its type's end
abbrev pub up_to : ℕ → ℕ
up_to n = min n 18446744073709551615

-- the totals with this command more
abbrev pub one_counted : Totals → Command → Totals
one_counted t c = record {
  dirs = up_to (t.dirs + dirs_by c);
  files = up_to (t.files + files_by c);
  links = up_to (t.links + links_by c);
  bytes = up_to (t.bytes + bytes_by c);
}

abbrev pub counted : Totals → List Command → Totals
counted t [] = t
counted t (c ∷ cs) = counted (one_counted t c) cs

-- the Mkdir, Mkfile and Symlink commands, and the bytes of the Write commands
abbrev pub totals_of : List Command → Totals
totals_of cs = record {
  dirs = up_to (total dirs_by cs);
  files = up_to (total files_by cs);
  links = up_to (total links_by cs);
  bytes = up_to (total bytes_by cs);
}

-- the path that a copy's command names
abbrev pub path_of : Command → HostPath
path_of (command.Mkdir p) = p
path_of (command.Mkfile p) = p
path_of (command.Symlink target p) = p
path_of (command.Write p from bytes) = p
path_of (command.List p) = p
path_of (command.Read p from count) = p
path_of (command.Readlink p) = p
path_of c = []

-- the bytes of the text of a path that isn't the root: a slash and the name, for each name
abbrev pub text_size : HostPath → ℕ
text_size [] = 0
text_size (n ∷ p) = length n + 1 + text_size p

-- all were done but the last, which is for this path
pub record LastWas (qs : List Question) (p : HostPath) (outcome : Result Reply Stopped) : Type 0 where
  pub front : List Question
  pub last : Command
  pub are : qs ≡ front ++ record { command = last; outcome = outcome } ∷ []
  pub done : AreDone front
  pub at : path_of last ≡ p

abbrev pub IsFront : List Command → List Command → Type 0
IsFront cs all = (rest : List Command) × (all ≡ cs ++ rest)

-- the text of each path is within its limit
abbrev pub AreShort : HostPath → List (HostPath × HostRow) → Type 0
AreShort q [] = Unit {0}
AreShort q (([], row) ∷ es) = AreShort q es
AreShort q ((n ∷ r, row) ∷ es) = (text_size (q ++ n ∷ r) ≤ MAX_PATH_TEXT) × AreShort q es

-- everything was asked and done
pub record IsWhole (q : HostPath) (t : HostTree) (qs : List Question) (totals : Totals) : Type 0 where
  pub done : AreDone qs
  pub asked : commands_of qs ≡ import_commands t q
  pub short : AreShort q (entries t)
  pub counts : totals ≡ totals_of (commands_of qs)

-- the first path whose text is too long is this, and what stands before it was done
pub record IsLong (q : HostPath) (t : HostTree) (qs : List Question) (p : HostPath) : Type 0 where
  pub front : List (HostPath × HostRow)
  pub rest : List (HostPath × HostRow)
  pub name : List ℕ
  pub below : HostPath
  pub row : HostRow
  pub are : entries t ≡ front ++ (name ∷ below, row) ∷ rest
  pub here : p ≡ q ++ name ∷ below
  pub long : MAX_PATH_TEXT < text_size p
  pub short : AreShort q front
  pub done : AreDone qs
  pub asked : commands_of qs ≡ commands_in q front

abbrev pub FailsBy : HostPath → HostTree → List Question → CopyFail → Type 0
FailsBy q t qs fail.Memory = AreDone qs × IsFront (commands_of qs) (import_commands t q)
FailsBy q t qs fail.Host = AreDone qs × IsFront (commands_of qs) (import_commands t q)
FailsBy q t qs fail.Stopped = ((p : HostPath) × (stopped : Stopped) × LastWas qs p (Err stopped)) × IsFront (commands_of qs) (import_commands t q)
FailsBy q t qs (fail.LongPath p) = IsLong q t qs p
FailsBy q t qs (fail.Refused p e) = LastWas qs p (Ok (Error e)) × IsFront (commands_of qs) (import_commands t q)

abbrev pub EndsBy : HostPath → HostTree → List Question → Result Totals CopyFail → Type 0
EndsBy q t qs (Ok totals) = IsWhole q t qs totals
EndsBy q t qs (Err e) = FailsBy q t qs e

-- what was asked is for this tree, which the folder gave; where the folder tells one, it is that
pub record IsImport (told : Option HostTree) (q : HostPath) (t : HostTree) (qs : List Question) (result : Result Totals CopyFail) : Type 0 where
  pub same : IfSome told (λ u. u ≡ t)
  pub plain : ArePlain t
  pub ends : EndsBy q t qs result

-- a copy fails by the folder just where its count of faults rises
abbrev pub HostCause : {X : Type 0} → ℕ → ℕ → Result X CopyFail → Type 0
HostCause before now (Ok x) = now ≡ before
HostCause before now (Err fail.Memory) = now ≡ before
HostCause before now (Err fail.Host) = (before ≤ now) × RoseBy 1 before now
HostCause before now (Err fail.Stopped) = now ≡ before
HostCause before now (Err (fail.LongPath p)) = now ≡ before
HostCause before now (Err (fail.Refused p e)) = now ≡ before

-- and stops just where the asker's count of stops rises
abbrev pub StopCause : {X : Type 0} → ℕ → ℕ → Result X CopyFail → Type 0
StopCause before now (Ok x) = now ≡ before
StopCause before now (Err fail.Memory) = now ≡ before
StopCause before now (Err fail.Host) = now ≡ before
StopCause before now (Err fail.Stopped) = (before ≤ now) × RoseBy 1 before now
StopCause before now (Err (fail.LongPath p)) = now ≡ before
StopCause before now (Err (fail.Refused p e)) = now ≡ before
