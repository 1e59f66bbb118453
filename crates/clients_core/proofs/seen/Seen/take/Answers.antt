use Rattle.std.proofs.Common.{sym, ◌∙◌}
use Rattle.clients_core.specs.Versions.{version_of}
use Rattle.std.specs.declared.option.Option.TheVariants.{Some}
use Rattle.clients_core.proofs.Listed.{took_no_own}
use Rattle.clients_core.proofs.Taken.{own_current, own_stands_on, other_current, other_stands_on}
use Rattle.clients_core.proofs.seen.Seen.take.Goals as goal

pub returns-then-t-self-clause-superseded : goal.returns-then-t-self-clause-superseded
returns-then-t-self-clause-superseded c = own_current c.args.self.now (version_of c.args.t.now) (sym c.judge.ensures ∙ c.in_default.is) c.if-t-self.true c.requires.version

pub returns-then-t-self-clause-stands : goal.returns-then-t-self-clause-stands
returns-then-t-self-clause-stands c = own_stands_on c.args.self.now (version_of c.args.t.now) (sym c.judge.ensures ∙ c.in_default.is) c.if-t-self.true

pub returns-clause-superseded : goal.returns-clause-superseded
returns-clause-superseded c = other_current c.args.self.now (version_of c.args.t.now) (sym c.judge.ensures ∙ c.in_default.is) c.if-t-self.false c.requires.version

pub returns-clause-stands : goal.returns-clause-stands
returns-clause-stands c =
    other_stands_on c.args.self.now c.seal_after.new.self (version_of c.args.t.now) c.in_ok-version.version (sym c.judge.ensures ∙ c.in_default.is) c.if-t-self.false c.requires.version c.in_ok-version.ensures.noted

pub returns-clause-foreign : goal.returns-clause-foreign
returns-clause-foreign c =
    took_no_own c.args.self.now c.seal_after.new.self (version_of c.args.t.now) (Some c.in_ok-version.version) (c.if-t-self.false, c.in_ok-version.ensures.noted)
