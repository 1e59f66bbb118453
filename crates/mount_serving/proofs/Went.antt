-- One exchange more.
use Rattle.std.proofs.Common.{◌≡◌, ◌∙◌, false, ◌∷◌}
use Rattle.std.specs.declared.option.Option.{Option}
use Rattle.std.specs.declared.option.Option.TheVariants.{Some, None}
use Rattle.std.specs.declared.result.Result.TheVariants.{Ok}
use Rattle.fs_model.specs.Instant.{Instant}
use Rattle.fs_model.specs.declared.command.Command.{Command}
use Rattle.answers.specs.Hosts.{Hosting}
use Rattle.answers.specs.Sessions.{is_refused}
use Rattle.answers.specs.declared.answer.Answer.{Answer}
use Rattle.mount_serving.specs.Asking.{WentSince}

pub went_on : {H : Type 0} (M : Hosting H) (start : Option H) (old new : H) (now : Instant) (command : Command) (answer : Answer) → WentSince M start old → M.answers old now (Ok command) answer new
    → is_refused answer ≡ false → M.chance new ≡ M.chance old → WentSince M start new
went_on M None old new now command answer went answered served chance = tt
went_on M (Some start) old new now command answer went answered served chance =
    record { es = (record { at = now; asked = Ok command; answer = answer }) ∷ went.es; ran = (old, went.ran, answered); served = (served, went.served); chance = chance ∙ went.chance }
