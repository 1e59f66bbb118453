-- One question of a copy.
use Rattle.std.proofs.Common.{◌≡◌, true, [], ◌∷◌, refl, sym, ap}
use Rattle.std.specs.declared.option.Option.{Option}
use Rattle.std.specs.declared.option.Option.TheVariants.{Some}
use Rattle.std.specs.declared.result.Result.TheVariants.{Ok, Err}
use Rattle.fs_model.specs.declared.command.Command.{Command}
use Rattle.fs_model.specs.declared.reply.Reply.{Reply}
use Rattle.fs_model.specs.Instant.{Instant}
use Rattle.session_lines.specs.answers.declared.answer.Answer.{Answer}
use Rattle.session_lines.specs.answers.declared.answer.Answer.TheVariants.{Reply as Replied, Memory, Spent, FaultDirectory, FaultState, Violation, Refused}
use Rattle.session_lines.specs.answers.Hosts.{Hosting}
use Rattle.session_lines.specs.answers.Summaries.{is_other}
use Rattle.copy_laws.specs.declared.asker.Stopped.{Stopped}
use Rattle.copy_sessions.specs.Fitting.{kept_by, WentBy}
use Rattle.copy_sessions.proofs.Following.{true_is_false}

pub kept_other : (answer : Answer) (before : Option Answer) → is_other answer ≡ true → Some answer ≡ kept_by answer before
kept_other (Replied reply) before w = absurd (true_is_false (sym w))
kept_other Memory before w = refl
kept_other Spent before w = refl
kept_other FaultDirectory before w = refl
kept_other FaultState before w = refl
kept_other (Violation why) before w = refl
kept_other Refused before w = refl

module _ {H : Type 0} (M : Hosting H) (now : Instant) (old new : H) (before : Option Answer) (command : Command) (answer : Answer) (answered : M.answers old now (Ok command) answer new) where
  pub one_reply : (reply : Reply) → answer ≡ Replied reply → WentBy M now old before (record { command = command; outcome = Ok reply } ∷ []) new before
  one_reply reply is = record {
    es = record { at = now; asked = Ok command; answer = answer } ∷ [];
    ran = (old, refl, answered);
    moments = (refl, tt);
    fits = ([], record { command = command; outcome = Ok reply }, refl, record { asked = refl; outcome = is }, refl);
    kept = sym (ap (λ z. kept_by z before) is);
  }

  pub one_stop : (stopped : Stopped) → is_other answer ≡ true → WentBy M now old before (record { command = command; outcome = Err stopped } ∷ []) new (Some answer)
  one_stop stopped is = record {
    es = record { at = now; asked = Ok command; answer = answer } ∷ [];
    ran = (old, refl, answered);
    moments = (refl, tt);
    fits = ([], record { command = command; outcome = Err stopped }, refl, record { asked = refl; outcome = is }, refl);
    kept = kept_other answer before is;
  }
