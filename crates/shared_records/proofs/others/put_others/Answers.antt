use Rattle.std.proofs.Common.{ℕ, List, [], ◌++◌, get_or, ap, ◌∙◌}
use Rattle.std.proofs.lemmas.List.{get_or_default}
use Rattle.local_state.specs.declared.triple.Triple.{Triple}
use Rattle.local_state.specs.Versions.{version_of}
use Rattle.local_state.proofs.Written.{written_all, written_more}
use Rattle.shared_records.specs.Shared.{version_bytes}
use Rattle.shared_records.proofs.others.put_others.Goals as goal

pub others-preserved : goal.others-preserved
others-preserved c =
    let triple : Triple = get_or c.args.others.now c.others.triple-index (record { id = record { 0 = [] }; client = 0; version = 0 }) in
    c.in_ok-put_triple.ensures ∙ ap (λ (out : List ℕ). out ++ version_bytes (version_of triple)) c.others.invariant
    ∙ written_more version_bytes version_of _ c.args.others.now c.others.triple-index triple c.others-test.true (get_or_default c.args.others.now c.others.triple-index _ triple c.others-test.true)

pub returns : goal.returns
returns c = c.others.invariant ∙ written_all version_bytes version_of c.args.out.now.items c.args.others.now c.others.triple-index c.others-test.false
