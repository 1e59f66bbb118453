use Rattle.std.proofs.Common.{◌≡◌}
use Rattle.answers.specs.Summaries.{counts_of, IsSmall}
use Rattle.session_lines.specs.Driven.{Summed}
use Rattle.session_lines.proofs.generate.summarize.Given as goal

abbrev pub invariant-loop-i : goal.invariant-loop-i
invariant-loop-i g l = record {
  ready : g.H.Host.hosting.ready l.host;
  summed : Summed g.H.Host.hosting l.now l.initial.host l.host l.i (counts_of l.summary);
  small : IsSmall (counts_of l.summary);
  lines : l.summary.lines ≡ l.i;
  chance : g.H.Host.hosting.chance l.host ≡ g.H.Host.hosting.chance l.initial.host;
}
