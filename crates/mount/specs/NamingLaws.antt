-- Ids that were drawn where some were known: where more are, they are passed over just as well.
use Rattle.std.proofs.Common.{◌≡◌, true, false, List, [], ◌∷◌, sym, ◌∙◌, ap, refl, inl, inr}
use Rattle.std.specs.Prelude.{not, ◌&&◌, ◌++◌}
use Rattle.std.proofs.lemmas.Bool.{or_cases, or_left, or_right}
use Rattle.std.proofs.lemmas.List.Folds.{list_any-append}
use Rattle.block_id.proofs.Conditions.{and_false}
use Rattle.block_id.specs.Fresh.{nth_id, zero_id}
use Rattle.rand_core.specs.Stream.{Stream, fill_bytes}
use Rattle.store_api.specs.Content.{Id, same_id}
use Rattle.store_api.specs.Holdings.{has_id, is_free}
use Rattle.store_api.specs.Ids.{AreIdsOf}
use Rattle.store_api.specs.Passing.{PassedOver}

-- each of the first is one of the second
abbrev pub AreAmong : List Id → List Id → Type 0
AreAmong few many = (id : Id) → has_id few id ≡ true → has_id many id ≡ true

pub among_first : (first many : List Id) → AreAmong first (first ++ many)
among_first first many id has = list_any-append (same_id id) first many ∙ or_left (has_id first id) (has_id many id) has

pub among_later : (first many : List Id) → AreAmong many (first ++ many)
among_later first many id has = list_any-append (same_id id) first many ∙ or_right (has_id first id) (has_id many id) has

pub among_behind : (first few many : List Id) → AreAmong few many → AreAmong (first ++ few) (first ++ many)
among_behind first few many among id has =
    elim (or_cases (has_id first id) (has_id few id) (sym (list_any-append (same_id id) first few) ∙ has)) as (λ _. has_id (first ++ many) id ≡ true) [
      | inl here ↦ among_first first many id here
      | inr there ↦ among_later first many id (among id there)
    ]

-- what was drawn where it wasn't known, or is known
pub known_or_drawn : (drawn known : List Id) (id : Id) → (has_id known id ≡ false → has_id drawn id ≡ true) → has_id (drawn ++ known) id ≡ true
known_or_drawn drawn known id new = elim (has_id known id) as (λ b. has_id known id ≡ b → has_id (drawn ++ known) id ≡ true) [
  | true ↦ λ has. among_later drawn known id has
  | false ↦ λ none. among_first drawn known id (new none)
] refl

taken_more : (few many : List Id) → AreAmong few many → (id : Id) → is_free few id ≡ false → is_free many id ≡ false
taken_more few many among id taken = elim (has_id few id) as (λ b. has_id few id ≡ b → (not b && not (same_id id zero_id)) ≡ false → is_free many id ≡ false) [
  | true ↦ λ has _. ap (λ b. not b && not (same_id id zero_id)) (among id has)
  | false ↦ λ _ zero. ap (λ b. not (has_id many id) && b) zero ∙ and_false (not (has_id many id))
] refl taken

passed_more : (few many : List Id) → AreAmong few many → (drawn id : Id) → PassedOver (is_free few) drawn id → PassedOver (is_free many) drawn id
passed_more few many among drawn id p = record { steps = p.steps; reached = p.reached; first = λ n below. taken_more few many among (nth_id drawn n) (p.first n below) }

pub ids_more : (few many : List Id) → AreAmong few many → (ids : List Id) (stream left : Stream) → AreIdsOf few ids stream left → AreIdsOf many ids stream left
ids_more few many among [] stream left come = come
ids_more few many among (id ∷ older) stream left (before, come, passed, is) = (
  before,
  ids_more few many among older stream before come,
  passed_more (older ++ few) (older ++ many) (among_behind older few many among) (fill_bytes 16 before).0 id passed,
  is,
)
