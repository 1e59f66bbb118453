-- The form of a reply, by its command.
use Rattle.fs_model.specs.declared.command.Command.{Command}
use Rattle.fs_model.specs.declared.command.Command.TheVariants as command
use Rattle.fs_model.specs.declared.reply.Reply.{Reply}
use Rattle.path_contents.specs.path_walks.Replies.{IsChangeReply}
use Rattle.path_contents.specs.Replies.{IsRows, IsStatReply, IsTarget, IsContent}

-- a reply that is no error has the form that its command asks for
abbrev pub IsReplyOf : Command → Reply → Type 0
IsReplyOf (command.List p) reply = IsRows reply
IsReplyOf (command.Stat p) reply = IsStatReply reply
IsReplyOf (command.Readlink p) reply = IsTarget reply
IsReplyOf (command.Read p from count) reply = IsContent reply
IsReplyOf _ reply = IsChangeReply reply
