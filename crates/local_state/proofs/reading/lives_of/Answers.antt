use Rattle.std.proofs.Common.{◌-◌, ◌+◌, sym, ap, ◌∙◌}
use Rattle.std.specs.FinMap as fin
use Rattle.local_state.specs.declared.state.StateError.TheVariants as errors
use Rattle.local_state.specs.Known.{Lives, zero_id}
use Rattle.local_state.specs.Reading.{lives_at}
use Rattle.local_state.proofs.Loops.{lives_start, lives_go_on, lives_fail, lives_end, above_zero, above_next, next_fits}
use Rattle.local_state.proofs.reading.lives_of.Goals as goal

pub lives-init : goal.lives-init
lives-init c = record { reads = lives_start c.args.count c.reserve.new.self.lives c.args.bytes.now (c.in_ok-reserve.ensures.lives ∙ c.requires); above = above_zero }

pub learn-requires : goal.learn-requires
learn-requires c = next_fits c.lives.previous.0 c.in-Some.id.0 c.in-Some.life c.in-Some.ensures.next c.lives.invariant.above

pub returns-in_default : goal.returns-in_default
returns-in_default c =
    lives_fail errors.BadState c.args.count c.lives.counter c.lives.previous.0 c.lives.known.lives c.lives.rest.now (lives_at c.args.count zero_id fin.empty c.args.bytes.now) c.lives-test.true (sym c.in_default.ensures.reads) c.lives.invariant.reads

pub lives-preserved : goal.lives-preserved
lives-preserved c = record {
  reads =
      ap (λ (m : Lives). lives_at (c.args.count - (c.lives.counter + 1)) c.in-Some.id.0 m c.in-Some.after.now) c.in_ok-learn.ensures
      ∙ lives_go_on c.args.count c.lives.counter c.lives.previous.0 c.lives.known.lives c.lives.rest.now (c.in-Some.id.0, c.in-Some.life) c.in-Some.after.now (lives_at c.args.count zero_id fin.empty c.args.bytes.now) c.lives-test.true (sym c.in-Some.ensures.reads) c.lives.invariant.reads;
  above = above_next c.lives.previous.0 c.in-Some.id.0 c.in-Some.ensures.next.after c.lives.invariant.above;
}

pub returns : goal.returns
returns c = lives_end c.args.count c.lives.counter c.lives.previous.0 c.lives.known.lives c.lives.rest.now (lives_at c.args.count zero_id fin.empty c.args.bytes.now) c.lives-test.false c.lives.invariant.reads
