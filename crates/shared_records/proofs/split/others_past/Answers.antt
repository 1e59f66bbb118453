use Rattle.std.proofs.Common.{◌≡◌, true, false, sym, ◌∙◌, rules}
use Rattle.std.specs.Prelude.{◌==◌, None}
use Rattle.std.specs.Option.{option_map}
use Rattle.local_state.specs.Versions.{version_of}
use Rattle.shared_records.specs.Scan.{others_past}
use Rattle.clients_core.specs.Listed.{comes_by}
use Rattle.shared_records.proofs.Lists.{others_go_on}
use Rattle.shared_records.proofs.split.others_past.Goals as goal

pub others-preserved : goal.others-preserved
others-preserved c =
    let comes : comes_by (option_map version_of c.others.previous) (version_of c.in_ok-triple.triple) ≡ true = sym c.comes_by.ensures ∙ c.if-not-comes_by.false in
    let other : (c.in_ok-triple.triple.client == c.args.own) ≡ false = search rules in
    others_go_on c.args.own c.args.count c.others.counter (option_map version_of c.others.previous) c.others.rest.now (version_of c.in_ok-triple.triple) c.in_ok-triple.after.now (others_past c.args.own c.args.count None c.args.bytes.now) c.others-test.true (sym c.in_ok-triple.ensures) comes other c.others.invariant
