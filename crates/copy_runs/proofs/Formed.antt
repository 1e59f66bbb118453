-- A mount's reply has a form that its command asks for.
use Rattle.std.proofs.Common.{◌≡◌, true, false, sym, subst}
use Rattle.fs_model.specs.declared.command.Command.{Command}
use Rattle.fs_model.specs.declared.command.Command.TheVariants as command
use Rattle.fs_model.specs.declared.reply.Reply.{Reply}
use Rattle.fs_model.specs.declared.reply.Reply.TheVariants.{Done, Rows, Info, Target, Content, Error}
use Rattle.copy_file.specs.answers.declared.answer.Answer.{Answer}
use Rattle.copy_file.specs.answers.declared.answer.Answer.TheVariants.{Reply as Replied}
use Rattle.shell_runs.specs.mount_core.Answers.{OnReply}
use Rattle.shell_runs.specs.mount_core.Showing.{is_reader, IsReplyTo as IsFormOf}
use Rattle.copy_attributes.specs.tree_copy.copy_laws.Questions.{IsReplyTo}

true_is_false : true ≡ false → ⊥
true_is_false e = cc

done : (c : Command) → is_reader c ≡ false → IsReplyTo c Done
done (command.List p) e = absurd (true_is_false e)
done (command.Stat p) e = absurd (true_is_false e)
done (command.Readlink p) e = absurd (true_is_false e)
done (command.Read p from count) e = absurd (true_is_false e)
done c e = tt

formed : (c : Command) (reply : Reply) → IsFormOf c reply → IsReplyTo c reply
formed c (Error e) f = tt
formed c Done f = done c f
formed c (Rows rows) f = subst (λ z. IsReplyTo z (Rows rows)) (sym f.1) tt
formed c (Info attr size) f = subst (λ z. IsReplyTo z (Info attr size)) (sym f.1) tt
formed c (Target target) f = subst (λ z. IsReplyTo z (Target target)) (sym f.1) tt
formed c (Content bytes) f = subst (λ z. IsReplyTo z (Content bytes)) (sym f.3) tt

pub of_reply : (c : Command) (answer : Answer) (reply : Reply) → OnReply answer (IsFormOf c) → answer ≡ Replied reply → IsReplyTo c reply
of_reply c answer reply f is = formed c reply (subst (λ z. OnReply z (IsFormOf c)) is f)
