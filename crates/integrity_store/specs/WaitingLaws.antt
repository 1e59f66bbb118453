-- A list that has a record stands in order.
use Rattle.std.specs.Prelude.{◌≡◌, Bool, true, false, ◌&&◌, List, [], ◌∷◌, IsTrue}
use Rattle.std.specs.declared.option.Option.{Option}
use Rattle.std.specs.declared.option.Option.TheVariants.{None, Some}
use Rattle.std.proofs.Common.{refl, sym, ◌∙◌, ap}
use Rattle.std.specs.Ordering.{is_lt}
use Rattle.std.specs.FinMap.Entries.{below_all}
use Rattle.std.specs.declared.cmp.Ordering.TheVariants.{Less}
use Rattle.block_id.proofs.Orders.{less_is}
use Rattle.outside.specs.Trace.{config, block, At}
use Rattle.outside.specs.Changes.{FileChanges, IsIncreasing}
use Rattle.outside.specs.Names.{at_cmp}
use Rattle.outside.specs.NameLaws.{at_total}
use Rattle.local_state.specs.Record.{PlainState, ListEntry, HasRecord, Rise, comes_after}

after_is_less : (p q : At) → comes_after (Some p) q ≡ is_lt (at_cmp p q)
after_is_less config config = refl
after_is_less config (block b) = refl
after_is_less (block a) config = refl
after_is_less (block a) (block b) = refl

both : (a b : Bool) → IsTrue a → IsTrue b → IsTrue (a && b)
both true b h k = k
both false b h k = absurd (cc)

front : (a b : Bool) → IsTrue (a && b) → IsTrue a
front true b h = refl
front false b h = absurd (cc)

rest : (a b : Bool) → IsTrue (a && b) → IsTrue b
rest true b h = h
rest false b h = absurd (cc)

below_less : (p q : At) (list : FileChanges) → at_cmp p q ≡ Less → IsTrue (below_all at_cmp q list) → IsTrue (below_all at_cmp p list)
below_less p q [] l h = refl
below_less p q (e ∷ list) l h =
    let next = less_is (at_cmp q e.0) (front (is_lt (at_cmp q e.0)) (below_all at_cmp q list) h) in
    both (is_lt (at_cmp p e.0)) (below_all at_cmp p list) (ap is_lt (at_total.trans p q e.0 l next))
    (below_less p q list l (rest (is_lt (at_cmp q e.0)) (below_all at_cmp q list) h))

rises_below : (p : At) (list : FileChanges) → Rise (Some p) list → IsTrue (below_all at_cmp p list)
rises_below p [] h = refl
rises_below p (e ∷ list) h =
    let next : is_lt (at_cmp p e.0) ≡ true = sym (after_is_less p e.0) ∙ h.0 in
    both (is_lt (at_cmp p e.0)) (below_all at_cmp p list) next (below_less p e.0 list (less_is (at_cmp p e.0) next) (rises_below e.0 list h.1))

pub rises_in_order : (previous : Option At) (list : FileChanges) → Rise previous list → IsIncreasing list
rises_in_order previous [] h = refl
rises_in_order previous (e ∷ list) h =
    both (below_all at_cmp e.0 list) _ (rises_below e.0 list h.1) (rises_in_order (Some e.0) list h.1)

pub in_order : (state : PlainState) (list : List ListEntry) → HasRecord state list → IsIncreasing list
in_order state list has = rises_in_order None list has.entries.order
