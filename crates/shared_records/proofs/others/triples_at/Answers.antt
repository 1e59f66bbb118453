use Rattle.std.proofs.Common.{◌≡◌, ◌-◌, ◌+◌, List, [], ◌∷◌, ◌++◌, map, sym, ap, ◌∙◌}
use Rattle.std.proofs.lemmas.List.{map_push}
use Rattle.local_state.specs.Versions.{Version, version_of}
use Rattle.shared_records.specs.Scan.{versions_at}
use Rattle.shared_records.proofs.Versions.{versions_end, versions_fail, versions_go_on}
use Rattle.shared_records.proofs.others.triples_at.Goals as goal

pub returns-in_default : goal.returns-in_default
returns-in_default c =
    versions_fail c.args.count c.others.counter (map version_of c.others.others.items) c.others.rest.now (versions_at c.args.count [] c.args.bytes.now) c.others-test.true (sym c.in_default.ensures) c.others.invariant

pub others-preserved : goal.others-preserved
others-preserved c =
    let pushed : map version_of c.push.new.self.items ≡ map version_of c.others.others.items ++ version_of c.in-Some.triple ∷ [] =
    ap (map version_of) c.in_ok-push.ensures.items ∙ map_push version_of c.others.others.items c.in-Some.triple in
    ap (λ (vs : List Version). versions_at (c.args.count - (c.others.counter + 1)) vs c.in-Some.after.now) pushed
    ∙ versions_go_on c.args.count c.others.counter (map version_of c.others.others.items) c.others.rest.now (version_of c.in-Some.triple) c.in-Some.after.now (versions_at c.args.count [] c.args.bytes.now) c.others-test.true (sym c.in-Some.ensures) c.others.invariant

pub returns : goal.returns
returns c = versions_end c.args.count c.others.counter (map version_of c.others.others.items) c.others.rest.now (versions_at c.args.count [] c.args.bytes.now) c.others-test.false c.others.invariant
