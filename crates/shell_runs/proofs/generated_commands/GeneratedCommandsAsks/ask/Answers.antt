use Rattle.std.proofs.Common.{refl}
use Rattle.session_laws.specs.session_lines.Asking.{generated}
use Rattle.shell_runs.proofs.generated_commands.GeneratedCommandsAsks.ask.Goals as goal

pub returns-clause-asked : goal.returns-clause-asked
returns-clause-asked g c =
    let lines = c.answer_generated-end in
    let s = lines.ensures.generated in
    (generated c.args.self.now s.0, s.1.ran, λ old faults e. (((s.0, refl, s.1.all, s.1.written), e.quiet), refl))
