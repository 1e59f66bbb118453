use Rattle.std.proofs.Common.{ℕ, List, ap, refl}
use Rattle.session_laws.specs.session_lines.Asking.{single}
use Rattle.shell_runs.proofs.single_line.SingleLineAsks.ask.Goals as goal

pub returns-clause-asked : goal.returns-clause-asked
returns-clause-asked g c =
    let lines = c.answer_single-end in
    let s = lines.ensures.answered in
    (single c.args.self.now c.deref.result.now s.0, s.1.ran, λ old faults e. (((s.0, ap (λ (line : List ℕ). single c.args.self.now line s.0) c.deref.ensures.value, s.1.written), e.quiet), refl))
