-- Each way out of the loop says what the entries so far and the rest say.
use Rattle.std.proofs.Common.{◌≡◌, ◌∷◌, [], ◌++◌, Some, None, false, true, length, sym, ap, ◌∙◌, arith}
use Rattle.std.proofs.lemmas.Bool.{eqb-false, eqb-true}
use Rattle.std.proofs.lemmas.List.{map_push}
use Rattle.dir_entries.specs.Layout.{entry_of, listing_of}
use Rattle.dir_entries.specs.Reading.{entry_at, rises}
use Rattle.dir_entries.proofs.Bodies.{reads_none, reads_next, reads_end, reads_stuck, reads_unordered, reads_only, after_shorter}
use Rattle.dir_entries.proofs.decode.decode_entries.Goals as goal

pub loop-rest-init : goal.loop-rest-init
loop-rest-init c = rw c.new-entries.ensures.items (reads_none c.args.body.now (λ i. omega (arith, c.type_inv.body i)))

pub returns-in-Ok-None-clause-only : goal.returns-in-Ok-None-clause-only
returns-in-Ok-None-clause-only c = λ listing is.
    let none : entry_at c.loop-rest.rest.now ≡ None = sym (rw c.in-Ok-None.field-0-is at c.in-Ok-None.ensures) in
    let some : length c.loop-rest.rest.now ≡ 0 → ⊥ = eqb-false _ _ (sym c.is_empty.ensures ∙ c.loop-rest-test.true) in
    absurd (reads_stuck _ _ _ c.loop-rest.invariant (omega arith) none listing is)

pub returns-then-not-comes_after-clause-only : goal.returns-then-not-comes_after-clause-only
returns-then-not-comes_after-clause-only c = λ listing is.
    let found : entry_at c.loop-rest.rest.now ≡ Some (entry_of c.in-Ok-Some.next.0, c.in-Ok-Some.next.1.now) = sym (rw c.in-Ok-Some.field-0-is at c.in-Ok-Some.ensures) in
    let down : rises (listing_of c.loop-rest.entries.items) c.in-Ok-Some.next.0.name ≡ false =
    ap (λ x. rises (listing_of x) c.in-Ok-Some.next.0.name) (sym c.deref.ensures.value) ∙ sym c.comes_after.ensures ∙ c.if-not-comes_after.true in
    absurd (reads_unordered _ _ _ _ _ c.loop-rest.invariant found down listing is)

pub loop-rest-smaller : goal.loop-rest-smaller
loop-rest-smaller c =
    let found : entry_at c.loop-rest.rest.now ≡ Some (entry_of c.in-Ok-Some.next.0, c.in-Ok-Some.next.1.now) = sym (rw c.in-Ok-Some.field-0-is at c.in-Ok-Some.ensures) in
    after_shorter _ _ _ c.loop-rest.invariant.bytes found

pub loop-rest-preserved : goal.loop-rest-preserved
loop-rest-preserved c =
    let found : entry_at c.loop-rest.rest.now ≡ Some (entry_of c.in-Ok-Some.next.0, c.in-Ok-Some.next.1.now) = sym (rw c.in-Ok-Some.field-0-is at c.in-Ok-Some.ensures) in
    let up : rises (listing_of c.loop-rest.entries.items) c.in-Ok-Some.next.0.name ≡ true =
    ap (λ x. rises (listing_of x) c.in-Ok-Some.next.0.name) (sym c.deref.ensures.value) ∙ sym c.comes_after.ensures ∙ c.if-not-comes_after.false in
    let more : listing_of c.push.new.self.items ≡ listing_of c.loop-rest.entries.items ++ entry_of c.in-Ok-Some.next.0 ∷ [] =
    ap listing_of c.in_ok-push.ensures.items ∙ map_push entry_of c.loop-rest.entries.items c.in-Ok-Some.next.0 in
    rw more (reads_next c.args.body.now (listing_of c.loop-rest.entries.items) c.loop-rest.rest.now (entry_of c.in-Ok-Some.next.0) c.in-Ok-Some.next.1.now c.loop-rest.invariant found up)

pub returns-clause-found : goal.returns-clause-found
returns-clause-found c =
    let none : length c.loop-rest.rest.now ≡ 0 = eqb-true _ _ (sym c.is_empty.ensures ∙ c.loop-rest-test.false) in
    reads_end _ _ _ c.loop-rest.invariant none

pub returns-clause-only : goal.returns-clause-only
returns-clause-only c = λ listing is.
    let none : length c.loop-rest.rest.now ≡ 0 = eqb-true _ _ (sym c.is_empty.ensures ∙ c.loop-rest-test.false) in
    ap Some (reads_only _ _ _ c.loop-rest.invariant none listing is)
