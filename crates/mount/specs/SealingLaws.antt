-- How what is said of files, their vectors and their ids goes on, from one call to the next.
use Rattle.std.specs.Prelude.{◌≡◌, ℕ, true, List, [], ◌∷◌, ◌++◌}
use Rattle.std.proofs.Common.{refl, sym, ◌∙◌, ap, subst, inl, inr, append_assoc}
use Rattle.std.specs.List.{AllByRecursion}
use Rattle.std.specs.declared.option.Option.{Option}
use Rattle.std.specs.declared.option.Option.TheVariants.{None, Some}
use Rattle.local_state.proofs.Records.{marked_record}
use Rattle.local_state.specs.Record.{with_mark as mark_set}
use Rattle.outside.specs.Changes.{FileChanges, change_at}
use Rattle.outside.specs.Trace.{At, Call, block, config, put, got, removed}
use Rattle.rand_core.specs.Stream.{Stream, fill_bytes}
use Rattle.store_api.specs.Content.{Id}
use Rattle.store_api.specs.Draws.{IsLater}
use Rattle.store_api.specs.Durables.{with_mark}
use Rattle.store_api.specs.Holdings.{has_id}
use Rattle.store_api.specs.Ids.{chacha20}
use Rattle.store_api.proofs.Draws.{later_same, later_chained}
use Rattle.mount.specs.NamingLaws.{AreAmong, among_behind, among_later, ids_more}
use Rattle.mount.specs.Sealing.{Draw, seed, vector, known_after, AreDraws, AreVectors, HoldsSealed, IsDrawnFor, IsNamed, View, ComesFrom, PutsSealed, AddsSealed, AreSealed, SealsFresh, SealsKnown}

-- ---- what is known

-- where more was known
known_more : (few many : List Id) (drawn : List Draw) → AreAmong few many → AreAmong (known_after few drawn) (known_after many drawn)
known_more few many [] among = among
known_more few many (seed ids ∷ drawn) among = known_more (ids ++ few) (ids ++ many) drawn (among_behind ids few many among)
known_more few many (vector id file ∷ drawn) among = known_more few many drawn among

known_both : (known : List Id) (first later : List Draw) → known_after known (first ++ later) ≡ known_after (known_after known first) later
known_both known [] later = refl
known_both known (seed ids ∷ first) later = known_both (ids ++ known) first later
known_both known (vector id file ∷ first) later = known_both known first later

-- what was known stays so
known_grows : (known : List Id) (drawn : List Draw) → AreAmong known (known_after known drawn)
known_grows known [] id has = has
known_grows known (seed ids ∷ drawn) id has = known_grows (ids ++ known) drawn id (among_later ids known id has)
known_grows known (vector other file ∷ drawn) id has = known_grows known drawn id has

-- ---- what is drawn

-- fills that served nothing may come first
draws_later : (known : List Id) (drawn : List Draw) (stream before left : Stream) → IsLater stream before → AreDraws known drawn before left → AreDraws known drawn stream left
draws_later known [] stream before left later draws = later_chained stream before left later draws
draws_later known (seed ids ∷ drawn) stream before left later draws = (draws.0, later_chained stream before draws.0 later draws.1, draws.2, draws.3)
draws_later known (vector id file ∷ drawn) stream before left later draws = (draws.0, later_chained stream before draws.0 later draws.1, draws.2, draws.3, draws.4)

draws_more : (few many : List Id) → AreAmong few many → (drawn : List Draw) (stream left : Stream) → AreDraws few drawn stream left → AreDraws many drawn stream left
draws_more few many among [] stream left draws = draws
draws_more few many among (seed ids ∷ drawn) stream left draws = (
  draws.0,
  draws.1,
  (draws.2.0, ids_more few many among ids (chacha20 (fill_bytes 32 draws.0).0) draws.2.0 draws.2.1),
  draws_more (ids ++ few) (ids ++ many) (among_behind ids few many among) drawn (fill_bytes 32 draws.0).1 left draws.3,
)
draws_more few many among (vector id file ∷ drawn) stream left draws =
    (draws.0, draws.1, among id draws.2, draws.3, draws_more few many among drawn (fill_bytes 16 draws.0).1 left draws.4)

pub draws_then : (known : List Id) (first later : List Draw) (stream between left : Stream) → AreDraws known first stream between → AreDraws (known_after known first) later between left → AreDraws known (first ++ later) stream left
draws_then known [] later stream between left a b = draws_later known later stream between left a b
draws_then known (seed ids ∷ first) later stream between left a b = (a.0, a.1, a.2, draws_then (ids ++ known) first later (fill_bytes 32 a.0).1 between left a.3 b)
draws_then known (vector id file ∷ first) later stream between left a b = (a.0, a.1, a.2, a.3, draws_then known first later (fill_bytes 16 a.0).1 between left a.4 b)

pub vectors_then : (first later : List Draw) → AreVectors first → AreVectors later → AreVectors (first ++ later)
vectors_then [] later a b = b
vectors_then (seed ids ∷ first) later a b = absurd a
vectors_then (vector id file ∷ first) later a b = vectors_then first later a b

-- ---- files

drawn_first : (first later : List Draw) (id : Id) (bytes : List ℕ) → IsDrawnFor first id bytes → IsDrawnFor (first ++ later) id bytes
drawn_first [] later id bytes is = absurd is
drawn_first (seed ids ∷ first) later id bytes is = drawn_first first later id bytes is
drawn_first (vector other file ∷ first) later id bytes (inl is) = inl is
drawn_first (vector other file ∷ first) later id bytes (inr is) = inr (drawn_first first later id bytes is)

pub drawn_later : (first later : List Draw) (id : Id) (bytes : List ℕ) → IsDrawnFor later id bytes → IsDrawnFor (first ++ later) id bytes
drawn_later [] later id bytes is = is
drawn_later (seed ids ∷ first) later id bytes is = drawn_later first later id bytes is
drawn_later (vector other file ∷ first) later id bytes is = inr (drawn_later first later id bytes is)

named_first : (first later : List Draw) (before : View) (id : Id) → IsNamed first before id → IsNamed (first ++ later) before id
named_first first later before id is = subst (λ k. has_id k id ≡ true) (sym (known_both before.known first later)) (known_grows (known_after before.known first) later id is)

-- what comes so before does so after more draws
pub comes_first : (first later : List Draw) (before : View) (name : At) (change : Option (List ℕ)) → ComesFrom first before name change → ComesFrom (first ++ later) before name change
comes_first first later before (block id) (Some bytes) (inl is) = inl (drawn_first first later id bytes is)
comes_first first later before (block id) (Some bytes) (inr is) = inr is
comes_first first later before (block id) None (inl is) = inl (named_first first later before id is)
comes_first first later before (block id) None (inr is) = inr is
comes_first first later before config change is = is

-- what waits comes of what waits
pub comes_waiting : (view : View) (name : At) (change : Option (List ℕ)) → change_at name view.list ≡ Some change → ComesFrom [] view name change
comes_waiting view (block id) (Some bytes) is = inr is
comes_waiting view (block id) None is = inr is
comes_waiting view config change is = is

-- what comes of what waited between, comes of what waited first
module _ (first later : List Draw) (a b : View) (waits : (name : At) (change : Option (List ℕ)) → change_at name b.list ≡ Some change → ComesFrom first a name change)
    (known : (id : Id) → has_id b.known id ≡ true → IsNamed first a id) where
  named_later : (id : Id) → IsNamed later b id → IsNamed (first ++ later) a id
  named_later id is = subst (λ k. has_id k id ≡ true) (sym (known_both a.known first later)) (known_more b.known (known_after a.known first) later known id is)

  pub comes_later : (name : At) (change : Option (List ℕ)) → ComesFrom later b name change → ComesFrom (first ++ later) a name change
  comes_later (block id) (Some bytes) (inl is) = inl (drawn_later first later id bytes is)
  comes_later (block id) (Some bytes) (inr is) = comes_first first later a (block id) (Some bytes) (waits (block id) (Some bytes) is)
  comes_later (block id) None (inl is) = inl (named_later id is)
  comes_later (block id) None (inr is) = comes_first first later a (block id) None (waits (block id) None is)
  comes_later config change is = waits config change is

-- ---- calls

module _ (few many : List Draw) (a b : View) (into : (name : At) (change : Option (List ℕ)) → ComesFrom few a name change → ComesFrom many b name change)
    (named : (id : Id) → IsNamed few a id → IsNamed many b id) where
  puts_into : (call : Call) → PutsSealed few a call → PutsSealed many b call
  puts_into (put name bytes ok) is = into name (Some bytes) is
  puts_into (removed name ok) is = into name None is
  puts_into (got (block id) max answer) is = named id is
  puts_into (got config max answer) is = tt

  calls_into : (calls : List Call) → AllByRecursion (PutsSealed few a) calls → AllByRecursion (PutsSealed many b) calls
  calls_into [] all = tt
  calls_into (call ∷ calls) all = (puts_into call all.0, calls_into calls all.1)

  pub adds_into : (old new : Option (List Call)) → AddsSealed few a old new → AddsSealed many b old new
  adds_into None new adds = adds
  adds_into (Some old) new adds = (adds.0, adds.1, calls_into adds.0 adds.2)

all_append : (P : Call → Type 0) (first later : List Call) → AllByRecursion P first → AllByRecursion P later → AllByRecursion P (first ++ later)
all_append P [] later a b = b
all_append P (call ∷ calls) later a b = (a.0, all_append P calls later a.1 b)

pub adds_nothing : (drawn : List Draw) (before : View) (calls : Option (List Call)) → AddsSealed drawn before calls calls
adds_nothing drawn before None = refl
adds_nothing drawn before (Some calls) = ([], refl, tt)

pub adds_then : (drawn : List Draw) (before : View) (a b c : Option (List Call)) → AddsSealed drawn before a b → AddsSealed drawn before b c → AddsSealed drawn before a c
adds_then drawn before None b c first then = subst (λ x. AddsSealed drawn before x c) first then
adds_then drawn before (Some old) b c first then =
    let later : AddsSealed drawn before (Some (first.0 ++ old)) c = subst (λ x. AddsSealed drawn before x c) first.1 then in (
      later.0 ++ first.0,
      later.1 ∙ ap Some (sym (append_assoc later.0 first.0 old)),
      all_append (PutsSealed drawn before) later.0 first.0 later.2 first.2,
    )

-- ---- one behind the other

pub sealed_nothing : (view : View) → AreSealed [] view view
sealed_nothing view = record { waits = comes_waiting view; adds = adds_nothing [] view view.calls; known = λ id has. has }

pub sealed_then : (first later : List Draw) (a b c : View) → AreSealed first a b → AreSealed later b c → AreSealed (first ++ later) a c
sealed_then first later a b c x y = record {
  waits = λ name change is. comes_later first later a b x.waits x.known name change (y.waits name change is);
  adds = adds_then (first ++ later) a a.calls b.calls c.calls
      (adds_into first (first ++ later) a a (comes_first first later a) (named_first first later a) a.calls b.calls x.adds)
      (adds_into later (first ++ later) b a (comes_later first later a b x.waits x.known) (named_later first later a b x.waits x.known) b.calls c.calls y.adds);
  known = λ id has. named_later first later a b x.waits x.known id (y.known id has);
}

-- nothing was sealed
pub known_none : (stream left : Stream) (a b : View) → IsLater stream left → AreSealed [] a b → SealsKnown stream left a b
known_none stream left a b later sealed = record { fresh = record { drawn = []; draws = later; sealed = sealed }; unnamed = tt }

pub known_nothing : (stream : Stream) (view : View) → SealsKnown stream stream view view
known_nothing stream view = known_none stream stream view view (later_same stream) (sealed_nothing view)

pub seals_nothing : (stream : Stream) (view : View) → SealsFresh stream stream view view
seals_nothing stream view = (known_nothing stream view).fresh

module _ (s t u : Stream) (a b c : View) (x : SealsFresh s t a b) (y : SealsFresh t u b c) where
  pub both_draw : AreDraws a.known (x.drawn ++ y.drawn) s u
  both_draw = draws_then a.known x.drawn y.drawn s t u x.draws (draws_more b.known (known_after a.known x.drawn) x.sealed.known y.drawn t u y.draws)

  abbrev pub seals_then : SealsFresh s u a c
  seals_then = record {
    drawn = x.drawn ++ y.drawn;
    draws = both_draw;
    sealed = sealed_then x.drawn y.drawn a b c x.sealed y.sealed;
  }

abbrev pub known_then : (s t u : Stream) (a b c : View) → SealsKnown s t a b → SealsKnown t u b c → SealsKnown s u a c
known_then s t u a b c x y = record {
  fresh = record {
    drawn = x.fresh.drawn ++ y.fresh.drawn;
    draws = both_draw s t u a b c x.fresh y.fresh;
    sealed = sealed_then x.fresh.drawn y.fresh.drawn a b c x.fresh.sealed y.fresh.sealed;
  };
  unnamed = vectors_then x.fresh.drawn y.fresh.drawn x.unnamed y.unnamed;
}

-- ---- records

-- after more draws, and by what was earlier
pub holds_then : (x y : List Draw) (a b : View) (kept : Option (List ℕ)) → AreSealed x a b → HoldsSealed y b kept → HoldsSealed (x ++ y) a kept
holds_then x y a b kept sealed h =
    record { state = h.state; waiting = h.waiting; keeps = h.keeps; sealed = λ name change is. comes_later x y a b sealed.waits sealed.known name change (h.sealed name change is) }

pub holds_more : (x y : List Draw) (before : View) (kept : Option (List ℕ)) → HoldsSealed x before kept → HoldsSealed (x ++ y) before kept
holds_more x y before kept h = record { state = h.state; waiting = h.waiting; keeps = h.keeps; sealed = λ name change is. comes_first x y before name change (h.sealed name change is) }

-- the same record with its mark
pub holds_marked : (drawn : List Draw) (before : View) (last : List ℕ) → HoldsSealed drawn before (Some last) → HoldsSealed drawn before (Some (with_mark last))
holds_marked drawn before last h =
    let same : last ≡ h.keeps.bytes = let a = h.keeps.kept in cc in
    record {
      state = mark_set h.state;
      waiting = h.waiting;
      keeps = record { bytes = with_mark h.keeps.bytes; kept = ap (λ x. Some (with_mark x)) same; is_record = marked_record h.state h.waiting h.keeps.bytes h.keeps.is_record };
      sealed = h.sealed;
    }
