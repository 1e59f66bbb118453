use Rattle.std.proofs.Common.{◌≡◌, refl, sym, ◌∙◌, ap}
use Rattle.fs_model.specs.declared.command.Command.{Command}
use Rattle.fs_model.specs.declared.reply.Reply.{Reply}
use Rattle.fs_model.specs.Instant.{Instant}
use Rattle.fs_model.specs.Step.{Stepped, step}
use Rattle.fs_model.specs.Tree.{Tree}
use Rattle.copy_tests.proofs.plain_asker.PlainAskerAsker.ask.Goals as goal

both : (s : Stepped) (reply : Reply) (next : Tree) → reply ≡ s.reply → next ≡ s.tree → s ≡ record { reply = reply; tree = next }
both s reply next r n =
    let first : Stepped → Stepped = λ z. z in
    sym (ap (λ z. first (record { reply = z; tree = next })) r ∙ ap (λ z. first (record { reply = s.reply; tree = z })) n)

stepped : (t u : Tree) (now : Instant) (c : Command) (reply : Reply) (next : Tree) → t ≡ u → reply ≡ (step u now c).reply → next ≡ (step u now c).tree
    → (x : Tree) × ((step t now c ≡ record { reply = reply; tree = x }) × (x ≡ next))
stepped t u now c reply next e r n = (next, (ap (λ z. step z now c) e ∙ both (step u now c) reply next r n, refl))

pub returns-clause-stands : goal.returns-clause-stands
returns-clause-stands c = λ t e le. stepped t c.args.self.now.tree c.args.self.now.now c.args.command.now c.in-Ok.reply c.step.new.self e c.in-Ok.ensures.reply c.in-Ok.ensures.tree
