use Rattle.std.proofs.Common.{ℕ, [], ◌∷◌, refl, sym, subst, ◌∙◌, arith}
use Rattle.std.specs.Prelude.{Ok}
use Rattle.workload.specs.Generated.{generated_of}
use Rattle.session_lines.proofs.generate.summarize.Goals as goal

pub loop-i-init : goal.loop-i-init
loop-i-init g c = record {
  ready = c.requires.ready;
  summed = ([], refl, refl, c.new-summary.ensures.counts);
  small = c.new-summary.ensures.small;
  lines = c.new-summary.ensures.lines;
  chance = refl;
}

pub loop-i-preserved : goal.loop-i-preserved
loop-i-preserved g c =
    let i = c.loop-i.invariant in
    let a = i.summed in
    let n = c.answer_numbered-answer in
    record {
      ready = n.ensures.ready;
      summed = (
        n.result ∷ a.0,
        (c.loop-i.host, a.1, subst (λ (k : ℕ). g.H.Host.hosting.answers c.loop-i.host c.args.now (Ok (generated_of k)) n.result n.new.host) (sym a.2) n.ensures.answered),
        omega (arith, a.2),
        c.add.ensures.counts a.0 a.3,
      );
      small = c.add.ensures.small;
      lines = omega (arith, c.add.ensures.lines, i.lines);
      chance = n.ensures.chance ∙ i.chance;
    }
