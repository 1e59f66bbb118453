-- The questions of a copy as the exchanges of a session. The oldest question stands first, and the newest exchange.
use Rattle.std.specs.Prelude.{◌≡◌, true, List, [], ◌∷◌, ◌++◌}
use Rattle.std.specs.declared.option.Option.{Option}
use Rattle.std.specs.declared.option.Option.TheVariants.{Some}
use Rattle.std.specs.declared.result.Result.{Result}
use Rattle.std.specs.declared.result.Result.TheVariants.{Ok, Err}
use Rattle.fs_model.specs.declared.reply.Reply.{Reply}
use Rattle.fs_model.specs.Instant.{Instant}
use Rattle.session_lines.specs.answers.declared.answer.Answer.{Answer}
use Rattle.session_lines.specs.answers.declared.answer.Answer.TheVariants.{Reply as Replied}
use Rattle.session_lines.specs.answers.Hosts.{Hosting, Ran}
use Rattle.session_lines.specs.answers.Sessions.{Exchange, AllAt}
use Rattle.session_lines.specs.answers.Summaries.{is_other}
use Rattle.copy_laws.specs.declared.asker.Stopped.{Stopped}
use Rattle.copy_laws.specs.Questions.{Question}

-- the reply that an answer is, or the answer, which is none
abbrev pub ReplyOf : Answer → Result Reply Answer → Type 0
ReplyOf answer (Ok reply) = answer ≡ Replied reply
ReplyOf answer (Err other) = (other ≡ answer) × (is_other answer ≡ true)

-- a question went as it was answered: a reply is its outcome, and after any other answer it wasn't answered
abbrev pub WentAs : Answer → Result Reply Stopped → Type 0
WentAs answer (Ok reply) = answer ≡ Replied reply
WentAs answer (Err stopped) = is_other answer ≡ true

pub record IsExchange (q : Question) (e : Exchange) : Type 0 where
  pub asked : e.asked ≡ Ok q.command
  pub outcome : WentAs e.answer q.outcome

-- each question is an exchange, one after the other, and there are no more
abbrev pub Fits : List Question → List Exchange → Type 0
Fits qs [] = qs ≡ []
Fits qs (e ∷ es) = (before : List Question) × (last : Question) × (qs ≡ before ++ last ∷ []) × IsExchange last e × Fits before es

-- an answer that is no reply is kept
abbrev pub kept_by : Answer → Option Answer → Option Answer
kept_by (Replied reply) before = before
kept_by other before = Some other

-- the last answer that is no reply, or what was kept before
abbrev pub kept_after : Option Answer → List Exchange → Option Answer
kept_after before [] = before
kept_after before (e ∷ es) = kept_by e.answer (kept_after before es)

-- these questions, one answer after the other at this moment, led from the one to the other
pub record WentBy {H : Type 0} (M : Hosting H) (now : Instant) (old : H) (before : Option Answer) (qs : List Question) (new : H) (after : Option Answer) : Type 0 where
  pub es : List Exchange
  pub ran : Ran M old es new
  pub moments : AllAt now es
  pub fits : Fits qs es
  pub kept : after ≡ kept_after before es
