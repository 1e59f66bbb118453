use Rattle.std.proofs.Common.{ℕ, ◌-◌, List, Err, length, take, drop, map, sym, ap, subst, ◌∙◌, arith}
use Rattle.std.specs.Prelude.{slice_set}
use Rattle.std.proofs.lemmas.List.{length-take}
use Rattle.std.proofs.lemmas.Result.{err_from_is_err_and}
use Rattle.outside.specs.View.{list_of}
use Rattle.local_state.specs.declared.state.StateError.{StateError}
use Rattle.local_state.specs.Reading.{Fails}
use Rattle.local_state.specs.Record.{plain_state, IsRecord}
use Rattle.local_state.specs.Versions.{version_of}
use Rattle.shared_records.specs.Scan.{versions_in}
use Rattle.shared_records.proofs.Bounds.{part_is, split_within}
use Rattle.shared_records.proofs.Decoded.{front_read, no_versions, not_split, one_shared, read_is, same_error, split_bounds}
use Rattle.shared_records.proofs.shared.decode_shared.Goals as goal

pub returns-in_default-clause-bad_state : goal.returns-in_default-clause-bad_state
returns-in_default-clause-bad_state c = λ bad s list vs is. not_split c.args.bytes.now (sym c.in_default.ensures) s list vs is

pub slice_bounds-from_slice-end : goal.slice_bounds-from_slice-end
slice_bounds-from_slice-end c = omega (arith, length-take c.in-Some.end c.args.bytes.now, split_within c.args.bytes.now c.in-Some.end (sym c.in-Some.ensures))

pub index_mut-requires : goal.index_mut-requires
index_mut-requires c =
    let bounds = split_bounds c.args.bytes.now c.in-Some.end (λ i. omega (arith, c.type_inv.bytes i)) (sym c.in-Some.ensures) in
    omega (arith, ap length c.in_ok-front.ensures.items, c.in_ok-front.front.ok.0, length-take c.in-Some.end c.args.bytes.now, bounds.0, bounds.1)

pub returns-in_err-state-clause-bad_state : goal.returns-in_err-state-clause-bad_state
returns-in_err-state-clause-bad_state c = λ bad s list vs is.
    let p = err_from_is_err_and c.from_residual-in_err-state.result c.from_residual-in_err-state.ensures.1 in
    let t = front_read c.args.bytes.now c.in-Some.end (λ i. omega (arith, c.type_inv.bytes i)) (sym c.in-Some.ensures) in
    let front = c.deref.ensures.value ∙ ap (λ (b : List ℕ). slice_set b 17 50) c.in_ok-front.ensures.items in
    c.in_err-state.ensures.bad_state (ap Err (sym p.2 ∙ same_error (sym p.1 ∙ bad))) t.s t.list (subst (λ (b : List ℕ). IsRecord t.s t.list b) (sym front) t.record_of)

pub slice_bounds-decode_others-count : goal.slice_bounds-decode_others-count
slice_bounds-decode_others-count c = split_within c.args.bytes.now c.in-Some.end (sym c.in-Some.ensures)

pub slice_bounds-decode_others-start : goal.slice_bounds-decode_others-start
slice_bounds-decode_others-start c = split_within c.args.bytes.now c.in-Some.end (sym c.in-Some.ensures)

pub returns-in_err-others-clause-bad_state : goal.returns-in_err-others-clause-bad_state
returns-in_err-others-clause-bad_state c = λ bad s list vs is.
    let p = err_from_is_err_and c.from_residual-in_err-others.result c.from_residual-in_err-others.ensures.1 in
    no_versions c.args.bytes.now c.in-Some.end (λ i. omega (arith, c.type_inv.bytes i)) (sym c.in-Some.ensures)
    (ap versions_in (sym (part_is c.args.bytes.now c.in-Some.end))
    ∙ subst (λ (e : StateError). Fails e (versions_in (take (length c.args.bytes.now - c.in-Some.end) (drop c.in-Some.end c.args.bytes.now)))) (sym p.2 ∙ same_error (sym p.1 ∙ bad)) c.in_err-others.ensures)

pub returns-clause-is : goal.returns-clause-is
returns-clause-is c =
    read_is c.args.bytes.now c.in-Some.end (plain_state c.in_ok-state.state) (list_of c.in_ok-state.list.items) (map version_of c.in_ok-others.others.items)
    (λ i. omega (arith, c.type_inv.bytes i)) (sym c.in-Some.ensures)
    (subst (λ (b : List ℕ). IsRecord (plain_state c.in_ok-state.state) (list_of c.in_ok-state.list.items) b)
    (c.deref.ensures.value ∙ ap (λ (b : List ℕ). slice_set b 17 50) c.in_ok-front.ensures.items) c.in_ok-state.ensures.is_record)
    (ap versions_in (sym (part_is c.args.bytes.now c.in-Some.end)) ∙ c.in_ok-others.ensures)

pub returns-clause-only : goal.returns-clause-only
returns-clause-only c = λ s list vs is. one_shared s (plain_state c.in_ok-state.state) list (list_of c.in_ok-state.list.items) vs (map version_of c.in_ok-others.others.items) c.args.bytes.now is (returns-clause-is c)
