use Rattle.std.proofs.Common.{◌++◌, take, ap, ◌∙◌}
use Rattle.memory_outside.specs.MemoryStreams.{Drain}
use Rattle.outside.specs.Causes.{one_more}
use Rattle.memory_outside.proofs.memory_sink.MemorySinkSink.write.Goals as goal

pub returns-then-contains-clause-after : goal.returns-then-contains-clause-after
returns-then-contains-clause-after c =
    let calls = c.saturating_add-self-inside.ensures ∙ ap (λ (s : Drain). one_more s.calls) c.self.view_is in
    let faults = c.saturating_add-self-inside-then-contains.ensures ∙ ap (λ (s : Drain). one_more s.faults) c.self.view_is in
    record { goes_on = tt; faulty = λ k. record (c.self.view_is k) { calls = calls k; faults = faults k } }

pub returns-clause-ok : goal.returns-clause-ok
returns-clause-ok c = c.in-Ok.ensures.items ∙ ap (λ (s : Drain). s.written ++ take c.min-n.result c.args.piece.now) c.self.view_is

pub returns-clause-after : goal.returns-clause-after
returns-clause-after c =
    let written = returns-clause-ok c in
    let calls = c.saturating_add-self-inside.ensures ∙ ap (λ (s : Drain). one_more s.calls) c.self.view_is in
    record { goes_on = λ k. record (c.self.view_is k) { written = written k; calls = calls k }; faulty = tt }
