-- One command on the tree that a content shows.
use Rattle.std.specs.Prelude.{◌≡◌, ℕ, Bool, true, false, List}
use Rattle.fs_model.specs.declared.command.Command.{Command}
use Rattle.fs_model.specs.declared.command.Command.TheVariants.{List as Listed, Stat, Readlink, Read, Sync}
use Rattle.fs_model.specs.declared.reply.Reply.{Reply}
use Rattle.fs_model.specs.declared.reply.Reply.TheVariants.{Done, Rows, Info, Target, Content as Contents, Error}
use Rattle.fs_model.specs.Instant.{Instant}
use Rattle.fs_model.specs.Step.{step}
use Rattle.fs_model.specs.Tree.{Path, Tree}
use Rattle.blob_store.specs.store_api.Content.{Content}

-- how payloads of one length, from one root on, show a tree
abbrev pub Showing : Type 1
Showing = ℕ → List ℕ → Content → Tree → Type 0

-- the content shows some tree
pub record Shown (shows : Content → Tree → Type 0) (content : Content) : Type 0 where
  pub tree : Tree
  pub shown : shows content tree

-- the reply is the tree's, and the content shows the next tree
pub record Steps (shows : Content → Tree → Type 0) (now : Instant) (tree : Tree) (command : Command) (content : Content) (reply : Reply) : Type 0 where
  pub next : Tree
  pub stepped : step tree now command ≡ record { reply = reply; tree = next }
  pub shown : shows content next

-- a command that gives something back
abbrev pub is_reader : Command → Bool
is_reader (Listed p) = true
is_reader (Stat p) = true
is_reader (Readlink p) = true
is_reader (Read p from count) = true
is_reader _ = false

abbrev pub is_sync : Command → Bool
is_sync Sync = true
is_sync _ = false

-- an error, or a reply of the form that the command asks for
abbrev pub IsReplyTo : Command → Reply → Type 0
IsReplyTo command (Error e) = Unit {0}
IsReplyTo command Done = is_reader command ≡ false
IsReplyTo command (Rows rows) = (p : Path) × (command ≡ Listed p)
IsReplyTo command (Info attr size) = (p : Path) × (command ≡ Stat p)
IsReplyTo command (Target target) = (p : Path) × (command ≡ Readlink p)
IsReplyTo command (Contents bytes) = (p : Path) × (from : ℕ) × (count : ℕ) × (command ≡ Read p from count)
