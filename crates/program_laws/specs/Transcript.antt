-- What a session over an empty tree writes.
use Rattle.std.specs.Prelude.{◌≡◌, ℕ, List, [], ◌∷◌, map}
use Rattle.cryfs_shell.specs.answers.Sessions.{Exchange, AllAt, IsSession}
use Rattle.cryfs_shell.specs.answers.declared.answer.Answer.{Answer}
use Rattle.cryfs_shell.specs.answers.declared.answer.Answer.TheVariants.{Reply as Replied, Memory}
use Rattle.fs_model.specs.Instant.{Instant}
use Rattle.fs_model.specs.Tree.{Tree, empty_tree}
use Rattle.cryfs_shell.specs.line_io.Lines.{lines}
use Rattle.copy_file.specs.script_text.Grammar.{command_of}
use Rattle.cryfs_shell.specs.session_lines.Asking.{asked_in, said_in}

-- a reply, or memory was refused
abbrev pub IsReplyOrMemory : Answer → Type 0
IsReplyOrMemory (Replied reply) = Unit {0}
IsReplyOrMemory Memory = Unit {0}
IsReplyOrMemory answer = ⊥

abbrev pub AreRepliesOrMemory : List Exchange → Type 0
AreRepliesOrMemory [] = Unit {0}
AreRepliesOrMemory (e ∷ es) = IsReplyOrMemory e.answer × AreRepliesOrMemory es

-- The text holds, for each line of the script in order, the reply at this moment of a plain tree of files that was empty at first, or that memory was refused, which leaves the tree.
pub record IsTranscript (now : Instant) (script text : List ℕ) : Type 0 where
  pub es : List Exchange
  pub trees : List Tree
  pub asked : asked_in es ≡ map command_of (lines script)
  pub moments : AllAt now es
  pub replies : IsSession empty_tree es trees
  pub answered : AreRepliesOrMemory es
  pub said : text ≡ said_in es
