-- The command that a line says.
use Rattle.std.specs.Prelude.{ℕ, cond, codes, nat_lt, List, [], length, Option, Some, None, Result, Ok, Err}
use Rattle.std.specs.List.{list_any, find}
use Rattle.std.specs.Str.{bytes_eq}
use Rattle.fs_model.specs.declared.command.Command.{Command}
use Rattle.fs_model.specs.declared.command.Command.TheVariants as made
use Rattle.fs_model.specs.declared.error.FsError.{FsError}
use Rattle.fs_model.specs.declared.error.FsError.TheVariants.{Invalid, NameTooLong, BadLine}
use Rattle.script_text.specs.declared.error.PathError.{PathError}
use Rattle.script_text.specs.declared.error.PathError.TheVariants.{LongName, LongPath}
use Rattle.fs_model.specs.declared.limits.TheConstants.{MAX_TARGET}
use Rattle.fs_model.specs.Names.{is_zero}
use Rattle.script_text.specs.PathTexts.{path_of}
use Rattle.script_text.specs.declared.verb.Verb.{Verb}
use Rattle.script_text.specs.declared.verb.Verb.TheVariants as verb
use Rattle.script_text.specs.declared.verb.TheConstants.{VERBS}
use Rattle.script_text.specs.declared.grammar.TheConstants.{MAX_LINE}
use Rattle.script_text.specs.Words.{words, is_empty, front, one, two, three}
use Rattle.script_text.specs.Numbers.{number_of, id_of, mode_of, time_of}
use Rattle.script_text.specs.Escapes.{unescaped, bytes_of}

-- the first error decides
infixl 10 ◌>>=◌
abbrev pub ◌>>=◌ : {A B : Type 0} → Result A FsError → (A → Result B FsError) → Result B FsError
Ok x >>= f = f x
Err e >>= f = Err e

-- a word of another form makes the line bad
abbrev pub formed : {A : Type 0} → Option A → Result A FsError
formed (Some x) = Ok x
formed None = Err BadLine

-- no text is refused for want of memory
abbrev pub path_error : PathError → FsError
path_error LongName = NameTooLong
path_error LongPath = NameTooLong
path_error _ = Invalid

abbrev pub path_from : Result (List (List ℕ)) PathError → Result (List (List ℕ)) FsError
path_from (Ok path) = Ok path
path_from (Err e) = Err (path_error e)

-- the path of a text whose escapes are read
abbrev pub path : List ℕ → Result (List (List ℕ)) FsError
path text = path_from (path_of text)

-- such a text as a link's target
abbrev pub target : List ℕ → Result (List ℕ) FsError
target text = cond (list_any is_zero text) (Err Invalid) (cond (nat_lt MAX_TARGET (length text)) (Err NameTooLong) (Ok text))

-- the name that a command's line begins with
abbrev pub name_of : Verb → List ℕ
name_of verb.List = codes "ls"
name_of verb.Stat = codes "stat"
name_of verb.Mkdir = codes "mkdir"
name_of verb.Rmdir = codes "rmdir"
name_of verb.Mkfile = codes "mkfile"
name_of verb.Rm = codes "rm"
name_of verb.Mv = codes "mv"
name_of verb.Symlink = codes "symlink"
name_of verb.Readlink = codes "readlink"
name_of verb.Write = codes "write"
name_of verb.Read = codes "read"
name_of verb.Truncate = codes "truncate"
name_of verb.Chmod = codes "chmod"
name_of verb.Chown = codes "chown"
name_of verb.Utime = codes "utime"
name_of verb.Sync = codes "sync"

-- the command of a name
unfoldable pub verb_of : List ℕ → Option Verb
verb_of word = find (λ v. bytes_eq (name_of v) word) VERBS

-- The words after the name: PATH, or PATH NUMBER, and so on. All forms come before the first path.

-- PATH
unfoldable pub only_path : List (List ℕ) → Result (List (List ℕ)) FsError
only_path words = do
  word ← one words
  text ← formed (unescaped word)
  path text

-- PATH PATH
unfoldable pub mv : List (List ℕ) → Result Command FsError
mv words = do
  both ← two words
  from_text ← formed (unescaped both.0)
  to_text ← formed (unescaped both.1)
  from ← path from_text
  to ← path to_text
  Ok (made.Mv from to)

-- TARGET PATH
unfoldable pub symlink : List (List ℕ) → Result Command FsError
symlink words = do
  both ← two words
  target_text ← formed (unescaped both.0)
  path_text ← formed (unescaped both.1)
  to ← target target_text
  at ← path path_text
  Ok (made.Symlink to at)

-- PATH NUMBER HEX
unfoldable pub write : List (List ℕ) → Result Command FsError
write words = do
  all ← three words
  text ← formed (unescaped all.0)
  from ← formed (number_of all.1)
  bytes ← formed (bytes_of all.2)
  at ← path text
  Ok (made.Write at from bytes)

-- PATH NUMBER NUMBER
unfoldable pub read : List (List ℕ) → Result Command FsError
read words = do
  all ← three words
  text ← formed (unescaped all.0)
  from ← formed (number_of all.1)
  count ← formed (number_of all.2)
  at ← path text
  Ok (made.Read at from count)

-- PATH NUMBER
unfoldable pub truncate : List (List ℕ) → Result Command FsError
truncate words = do
  both ← two words
  text ← formed (unescaped both.0)
  n ← formed (number_of both.1)
  at ← path text
  Ok (made.Truncate at n)

-- PATH MODE
unfoldable pub chmod : List (List ℕ) → Result Command FsError
chmod words = do
  both ← two words
  text ← formed (unescaped both.0)
  mode ← formed (mode_of both.1)
  at ← path text
  Ok (made.Chmod at mode)

-- PATH ID ID
unfoldable pub chown : List (List ℕ) → Result Command FsError
chown words = do
  all ← three words
  text ← formed (unescaped all.0)
  uid ← formed (id_of all.1)
  gid ← formed (id_of all.2)
  at ← path text
  Ok (made.Chown at uid gid)

-- PATH TIME TIME
unfoldable pub utime : List (List ℕ) → Result Command FsError
utime words = do
  all ← three words
  text ← formed (unescaped all.0)
  atime ← formed (time_of all.1)
  mtime ← formed (time_of all.2)
  at ← path text
  Ok (made.Utime at atime mtime)

-- nothing
unfoldable pub sync : List (List ℕ) → Result Command FsError
sync [] = Ok made.Sync
sync _ = Err BadLine

abbrev pub with_path : (List (List ℕ) → Command) → List (List ℕ) → Result Command FsError
with_path make words = do
  at ← only_path words
  Ok (make at)

-- the command of a name and the words after it
unfoldable pub sentence : Verb → List (List ℕ) → Result Command FsError
sentence verb.List words = with_path made.List words
sentence verb.Stat words = with_path made.Stat words
sentence verb.Mkdir words = with_path made.Mkdir words
sentence verb.Rmdir words = with_path made.Rmdir words
sentence verb.Mkfile words = with_path made.Mkfile words
sentence verb.Rm words = with_path made.Rm words
sentence verb.Mv words = mv words
sentence verb.Symlink words = symlink words
sentence verb.Readlink words = with_path made.Readlink words
sentence verb.Write words = write words
sentence verb.Read words = read words
sentence verb.Truncate words = truncate words
sentence verb.Chmod words = chmod words
sentence verb.Chown words = chown words
sentence verb.Utime words = utime words
sentence verb.Sync words = sync words

-- the command of words
unfoldable pub command_in : List (List ℕ) → Result Command FsError
command_in all = do
  parts ← front all
  verb ← formed (verb_of parts.0)
  sentence verb parts.1

-- the command of a line, or why it is refused
unfoldable pub command_of : List ℕ → Result Command FsError
command_of line = cond (nat_lt MAX_LINE (length line)) (Err BadLine) (cond (list_any is_empty (words line)) (Err BadLine) (command_in (words line)))
