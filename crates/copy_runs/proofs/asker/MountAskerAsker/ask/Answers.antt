use Rattle.std.proofs.Common.{refl, sym, subst, ◌∷◌, []}
use Rattle.std.specs.declared.option.Option.TheVariants.{Some}
use Rattle.std.specs.declared.result.Result.TheVariants.{Err}
use Rattle.copy_attributes.specs.tree_copy.copy_laws.declared.asker.Stopped.{Stopped}
use Rattle.copy_file.specs.copy_sessions.Fitting.{WentBy}
use Rattle.copy_file.proofs.copy_sessions_lemmas.Asked.{one_reply, one_stop}
use Rattle.shell_runs.specs.Mounting.{mounted_hosting}
use Rattle.copy_runs.proofs.Formed.{of_reply}
use Rattle.copy_runs.proofs.asker.MountAskerAsker.ask.Goals as goal

pub returns-in-Ok-clause-went : goal.returns-in-Ok-clause-went
returns-in-Ok-clause-went g c = (
  refl,
  c.ask_host.ensures.chance,
  one_reply (mounted_hosting g.R.Rng.stream g.V.Vault.trace g.V.Vault.faults g.K.Keeper) c.args.self.now.now c.args.self.now.mounted c.ask_host.new.host c.args.self.now.kept c.args.command.now c.ask_host.result
      c.ask_host.ensures.answered c.in-Ok.reply c.in-Ok.ensures,
)

pub returns-in-Ok-clause-variant : goal.returns-in-Ok-clause-variant
returns-in-Ok-clause-variant g c = of_reply c.args.command.now c.ask_host.result c.in-Ok.reply c.ask_host.ensures.answered.0.line.form.variant c.in-Ok.ensures

pub returns-in-Ok-clause-stands : goal.returns-in-Ok-clause-stands
returns-in-Ok-clause-stands g c = λ t none few. absurd none

pub returns-in-Err-clause-went : goal.returns-in-Err-clause-went
returns-in-Err-clause-went g c =
    let M = mounted_hosting g.R.Rng.stream g.V.Vault.trace g.V.Vault.faults g.K.Keeper in
    let stopped : Stopped = record {} in
    let one = one_stop M c.args.self.now.now c.args.self.now.mounted c.ask_host.new.host c.args.self.now.kept c.args.command.now c.ask_host.result c.ask_host.ensures.answered stopped c.in-Err.ensures.1 in (
      refl,
      c.ask_host.ensures.chance,
      subst (λ z. WentBy M c.args.self.now.now c.args.self.now.mounted c.args.self.now.kept (record { command = c.args.command.now; outcome = Err stopped } ∷ []) c.ask_host.new.host (Some z)) (sym c.in-Err.ensures.0) one,
    )

pub returns-in-Err-clause-stands : goal.returns-in-Err-clause-stands
returns-in-Err-clause-stands g c = λ t none few. absurd none
