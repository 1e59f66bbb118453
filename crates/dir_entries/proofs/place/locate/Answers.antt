-- Each way out of the loop says where the name stands.
use Rattle.std.proofs.Common.{◌≡◌, length, sym, ap, ◌∙◌, arith}
use Rattle.std.proofs.lemmas.Bool.{eqb-false, eqb-true}
use Rattle.fs_model.specs.Tree.{name_cmp}
use Rattle.dir_entries.proofs.Edits.{named_so, name_shorter, passes_next, passes_unnamed, found_before, found_held, found_end}
use Rattle.dir_entries.proofs.place.locate.Goals as goal

pub returns-in_default-clause-place : goal.returns-in_default-clause-place
returns-in_default-clause-place c = λ listing is.
    let some : length c.loop-rest.rest.now ≡ 0 → ⊥ = eqb-false _ _ (sym c.is_empty.ensures ∙ c.loop-rest-test.true) in
    passes_unnamed _ _ _ c.loop-rest.invariant (omega arith) (sym c.in_default.ensures) listing is

pub returns-in-Less-clause-place : goal.returns-in-Less-clause-place
returns-in-Less-clause-place c = λ listing is.
    let own = named_so _ _ _ _ _ c.loop-rest.invariant (sym c.in-Some.ensures) listing is in
    rw (c.vacant.ensures.front, c.vacant.ensures.found, c.vacant.ensures.back)
    (found_before _ _ _ _ _ c.loop-rest.invariant own.1 (ap (name_cmp c.args.name.now) own.2 ∙ sym c.in-Less.ensures) listing is)

pub returns-in-Equal-clause-place : goal.returns-in-Equal-clause-place
returns-in-Equal-clause-place c = λ listing is.
    let some : length c.loop-rest.rest.now ≡ 0 → ⊥ = eqb-false _ _ (sym c.is_empty.ensures ∙ c.loop-rest-test.true) in
    found_held _ _ _ _ _ c.loop-rest.invariant (omega arith) (sym c.in-Some.ensures) (sym c.in-Equal.ensures) _ c.held.ensures.entry listing is

pub loop-rest-smaller : goal.loop-rest-smaller
loop-rest-smaller c = name_shorter _ _ _ c.loop-rest.invariant.bytes (sym c.in-Some.ensures)

pub loop-rest-preserved : goal.loop-rest-preserved
loop-rest-preserved c = passes_next _ _ _ _ _ c.loop-rest.invariant (sym c.in-Some.ensures) (sym c.in-Greater.ensures)

pub returns-clause-place : goal.returns-clause-place
returns-clause-place c = λ listing is.
    let none : length c.loop-rest.rest.now ≡ 0 = eqb-true _ _ (sym c.is_empty.ensures ∙ c.loop-rest-test.false) in
    rw (c.vacant-2.ensures.front, c.vacant-2.ensures.found, c.vacant-2.ensures.back) (found_end _ _ _ c.loop-rest.invariant none listing is)
