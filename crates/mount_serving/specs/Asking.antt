-- What was asked for requests.
use Rattle.std.specs.Prelude.{◌≡◌, ◌⊎◌, true, false, List, [], ◌∷◌}
use Rattle.std.specs.declared.option.Option.{Option}
use Rattle.std.specs.declared.option.Option.TheVariants.{Some, None}
use Rattle.std.specs.declared.result.Result.{Result}
use Rattle.std.specs.declared.result.Result.TheVariants.{Ok, Err}
use Rattle.fs_model.specs.declared.command.Command.{Command}
use Rattle.fs_model.specs.declared.reply.Reply.{Reply}
use Rattle.fs_model.specs.Fitting.{IsFitting}
use Rattle.fs_model.specs.Instant.{Instant}
use Rattle.answers.specs.Hosts.{Hosting, Ran}
use Rattle.answers.specs.Sessions.{Exchange, is_refused}
use Rattle.answers.specs.declared.answer.Answer.{Answer}
use Rattle.fuse_messages.specs.declared.error_number.ErrorNumber.{ErrorNumber}
use Rattle.fuse_messages.specs.declared.error_number.ErrorNumber.TheVariants.{Invalid, BadMessage}
use Rattle.mount_serving.specs.Errors.{told_of}

-- each was asked of what didn't refuse
abbrev pub AreServed : List Exchange → Type 0
AreServed [] = Unit {0}
AreServed (e ∷ es) = (is_refused e.answer ≡ false) × AreServed es

-- exchanges led from the one to the other; after a violation there is none
pub record Went {H : Type 0} (M : Hosting H) (old new : H) : Type 0 where
  pub es : List Exchange
  pub ran : Ran M old es new
  pub served : AreServed es
  pub chance : M.chance new ≡ M.chance old

-- the same from there on, where it is told from where
abbrev pub WentSince : {H : Type 0} → Hosting H → Option H → H → Type 0
WentSince M None new = Unit {0}
WentSince M (Some old) new = Went M old new

-- nothing was asked, since the host refuses
abbrev pub WasRefused : {H : Type 0} → Hosting H → H → Result Reply ErrorNumber → H → Type 0
WasRefused M old result new = (M.refuses old ≡ true) × (result ≡ Err BadMessage) × (new ≡ old)

-- nothing was asked, since no tree takes the command
abbrev pub WasUnfit : {H : Type 0} → H → Command → Result Reply ErrorNumber → H → Type 0
WasUnfit old command result new = (IsFitting command → ⊥) × (result ≡ Err Invalid) × (new ≡ old)

-- this one command was asked at this moment, and the result is what its answer tells
abbrev pub WasAnswered : {H : Type 0} → Hosting H → H → Instant → Command → Result Reply ErrorNumber → H → Type 0
WasAnswered M old now command result new = (answer : Answer) × M.answers old now (Ok command) answer new × (result ≡ told_of answer)

abbrev pub AskedOne : {H : Type 0} → Hosting H → H → Instant → Command → Result Reply ErrorNumber → H → Type 0
AskedOne M old now command result new = WasRefused M old result new ⊎ (WasUnfit old command result new ⊎ WasAnswered M old now command result new)
