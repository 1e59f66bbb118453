-- What waits once a batch is sealed, by the ids of the batch, and its IVs.
use Rattle.std.proofs.Common.{◌≡◌, ℕ, suc, List, [], ◌∷◌, Bool, true, false, cond, length, refl, sym, ◌∙◌, ap, subst}
use Rattle.std.specs.Prelude.{T, IsTrue, Option, Some, None, ◌&&◌, map}
use Rattle.std.specs.List.{AllByRecursion}
use Rattle.std.specs.Option.{option_or}
use Rattle.std.specs.FinMap.{is_sorted}
use Rattle.std.specs.FinMap.Entries.{find, below_all}
use Rattle.std.specs.Ordering.{is_lt, is_eq}
use Rattle.rand_core.specs.Stream.{Stream, fill_bytes}
use Rattle.block_id.proofs.Conditions.{left, right}
use Rattle.outside.specs.Trace.{config, block}
use Rattle.outside.specs.Names.{at_cmp}
use Rattle.outside.specs.NameLaws.{at_total}
use Rattle.outside.specs.Changes.{FileChanges, change_at, set_changes}
use Rattle.outside.specs.ChangeLaws.{change_at-set_changes}
use Rattle.store_api.specs.Content.{Id, id_cmp, same_id}
use Rattle.store_api.proofs.Rising.{ids_total, same_id_is}
use Rattle.integrity_store.specs.Applied.{IsRaised}
use Rattle.integrity_store.specs.Draws.{draws, given_in, iv_in, iv_of}
use Rattle.block_versions.specs.Held.{Held}
use Rattle.integrity_store.specs.Raising.{BatchEntry}
use Rattle.integrity_store.specs.Sealing.{IsMadeOf, stream_after, AreMadeOf}
use Rattle.integrity_store.proofs.Sorted.{rest_rises, first_below, each_found}

-- ---- their order

pub true_of : (b : Bool) → T b → IsTrue b
true_of true h = refl
true_of false h = absurd h

pub test_of : (b : Bool) → IsTrue b → T b
test_of true h = tt
test_of false h = absurd (cc)

both : (a b : Bool) → T a → T b → T (a && b)
both true b h k = k
both false b h k = absurd h

made_below : (h : Held) (id : Id) (es : List BatchEntry) (stream left_ : Stream) (changes : FileChanges) → T (below_all id_cmp id es) → AreMadeOf h es stream changes left_ → T (below_all at_cmp (block id) changes)
made_below h id [] stream left_ [] below made = tt
made_below h id [] stream left_ (change ∷ changes) below made = absurd made
made_below h id (e ∷ es) stream left_ [] below made = absurd made
made_below h id (e ∷ es) stream left_ (change ∷ changes) below made =
    both (is_lt (at_cmp (block id) change.0)) (below_all at_cmp (block id) changes)
    (subst (λ n. T (is_lt (at_cmp (block id) n))) (sym made.0) (left (is_lt (id_cmp id e.0)) (below_all id_cmp id es) below))
    (made_below h id es (stream_after e.1 stream) left_ changes (right (is_lt (id_cmp id e.0)) (below_all id_cmp id es) below) made.2)

pub made_rises : (h : Held) (es : List BatchEntry) (stream left_ : Stream) (changes : FileChanges) → T (is_sorted id_cmp es) → AreMadeOf h es stream changes left_ → T (is_sorted at_cmp changes)
made_rises h [] stream left_ [] rises made = tt
made_rises h [] stream left_ (change ∷ changes) rises made = absurd made
made_rises h (e ∷ es) stream left_ [] rises made = absurd made
made_rises h (e ∷ es) stream left_ (change ∷ changes) rises made =
    both (below_all at_cmp change.0 changes) (is_sorted at_cmp changes)
    (subst (λ n. T (below_all at_cmp n changes)) (sym made.0) (made_below h e.0 es (stream_after e.1 stream) left_ changes (first_below ids_total e es rises) made.2))
    (made_rises h es (stream_after e.1 stream) left_ changes (rest_rises ids_total e es rises) made.2)

-- ---- what they say of a name

-- what was made for an id, by what the batch says of it
abbrev pub MadeAt : Held → Id → Option (Option (List ℕ)) → Option (Option (List ℕ)) → Type 0
MadeAt h id None waits = waits ≡ None
MadeAt h id (Some None) waits = waits ≡ Some None
MadeAt h id (Some (Some payload)) waits = (file : List ℕ) × (waits ≡ Some (Some file)) × IsRaised h h id payload file

made_here : (h : Held) (id : Id) (change : Option (List ℕ)) (stream : Stream) (made : Option (List ℕ)) → IsMadeOf h id change stream made → MadeAt h id (Some change) (Some made)
made_here h id (Some payload) stream made is = (is.0, ap Some is.1, is.2.opens)
made_here h id None stream made is = ap Some is

pub made_at : (h : Held) (es : List BatchEntry) (stream left_ : Stream) (changes : FileChanges) (id : Id) → AreMadeOf h es stream changes left_ → MadeAt h id (find id_cmp id es) (change_at (block id) changes)
made_at h [] stream left_ [] id made = refl
made_at h [] stream left_ (change ∷ changes) id made = absurd made
made_at h (e ∷ es) stream left_ [] id made = absurd made
made_at h (e ∷ es) stream left_ (change ∷ changes) id made =
    let there = made_at h es (stream_after e.1 stream) left_ changes id made.2 in
    subst (λ n. MadeAt h id (cond (same_id id e.0) (Some e.1) (find id_cmp id es)) (cond (is_eq (at_cmp (block id) n)) (Some change.1) (change_at (block id) changes))) (sym made.0)
    (elim (same_id id e.0) as (λ b. same_id id e.0 ≡ b → MadeAt h id (cond b (Some e.1) (find id_cmp id es)) (cond b (Some change.1) (change_at (block id) changes))) [
      | true ↦ λ s. subst (λ x. MadeAt h x (Some e.1) (Some change.1)) (sym (same_id_is id e.0 s)) (made_here h e.0 e.1 stream change.1 made.1)
      | false ↦ λ s. there
    ] refl)

pub none_of_config : (h : Held) (es : List BatchEntry) (stream left_ : Stream) (changes : FileChanges) → AreMadeOf h es stream changes left_ → change_at config changes ≡ None
none_of_config h [] stream left_ [] made = refl
none_of_config h [] stream left_ (change ∷ changes) made = absurd made
none_of_config h (e ∷ es) stream left_ [] made = absurd made
none_of_config h (e ∷ es) stream left_ (change ∷ changes) made =
    ap (λ n. cond (is_eq (at_cmp config n)) (Some change.1) (change_at config changes)) made.0 ∙ none_of_config h es (stream_after e.1 stream) left_ changes made.2

-- ---- their IVs

abbrev with_iv : Option (List ℕ) → List (List ℕ) → List (List ℕ)
with_iv (Some file) ivs = iv_in file ∷ ivs
with_iv None ivs = ivs

abbrev ivs_of : FileChanges → List (List ℕ)
ivs_of [] = []
ivs_of (change ∷ changes) = with_iv change.1 (ivs_of changes)

draw_first : (h : Held) (id payload : List ℕ) (stream : Stream) (made : Option (List ℕ)) (ivs : List (List ℕ)) (left_ : Stream) (n : ℕ) → IsMadeOf h id (Some payload) stream made
    → (ivs, left_) ≡ draws n (fill_bytes 16 stream).1 → (with_iv made ivs, left_) ≡ draws (suc n) stream
draw_first h id payload stream made ivs left_ n is later =
    ap (λ m. (with_iv m ivs, left_)) is.1 ∙ (ap (λ iv. (iv ∷ ivs, left_)) is.2.iv ∙ ap (λ p. ((fill_bytes 16 stream).0 ∷ p.0, p.1)) later)

made_draws : (h : Held) (es : List BatchEntry) (stream left_ : Stream) (changes : FileChanges) → AreMadeOf h es stream changes left_ → (ivs_of changes, left_) ≡ draws (length (given_in es)) stream
made_draws h [] stream left_ [] made = ap (λ s. ([], s)) made
made_draws h [] stream left_ (change ∷ changes) made = absurd made
made_draws h (e ∷ es) stream left_ [] made = absurd made
made_draws h ((id, Some payload) ∷ es) stream left_ (change ∷ changes) made =
    draw_first h id payload stream change.1 (ivs_of changes) left_ (length (given_in es)) made.1 (made_draws h es (fill_bytes 16 stream).1 left_ changes made.2)
made_draws h ((id, None) ∷ es) stream left_ (change ∷ changes) made =
    ap (λ m. (with_iv m (ivs_of changes), left_)) made.1 ∙ made_draws h es stream left_ changes made.2

-- where the files that were made wait, the IVs of the ids that get a payload are theirs
shown_ivs : (h : Held) (es : List BatchEntry) (stream left_ : Stream) (changes whole : FileChanges) → AreMadeOf h es stream changes left_ → AllByRecursion (λ c. change_at c.0 whole ≡ Some c.1) changes
    → map (λ id. iv_of (change_at (block id) whole)) (given_in es) ≡ ivs_of changes
shown_ivs h [] stream left_ [] whole made shown = refl
shown_ivs h [] stream left_ (change ∷ changes) whole made shown = absurd made
shown_ivs h (e ∷ es) stream left_ [] whole made shown = absurd made
shown_ivs h ((id, Some payload) ∷ es) stream left_ (change ∷ changes) whole made shown =
    let here : change_at (block id) whole ≡ Some (Some made.1.0) = subst (λ n. change_at n whole ≡ Some change.1) made.0 shown.0 ∙ ap Some made.1.1 in
    let rest = shown_ivs h es (fill_bytes 16 stream).1 left_ changes whole made.2 shown.1 in
    ap (λ x. iv_of x ∷ map (λ id. iv_of (change_at (block id) whole)) (given_in es)) here ∙ (ap (λ ivs. iv_in made.1.0 ∷ ivs) rest ∙ ap (λ m. with_iv m (ivs_of changes)) (sym made.1.1))
shown_ivs h ((id, None) ∷ es) stream left_ (change ∷ changes) whole made shown =
    shown_ivs h es stream left_ changes whole made.2 shown.1 ∙ ap (λ m. with_iv m (ivs_of changes)) (sym made.1)

-- ---- the list in which they were set

pub or_first : {A : Type 0} (a b : Option A) (x : A) → a ≡ Some x → option_or a b ≡ Some x
or_first a b x is = ap (λ o. option_or o b) is

all_shown : (changes some list : FileChanges) → T (is_sorted at_cmp changes) → AllByRecursion (λ c. change_at c.0 changes ≡ Some c.1) some → AllByRecursion (λ c. change_at c.0 (set_changes changes list) ≡ Some c.1) some
all_shown changes [] list rises all = tt
all_shown changes (c ∷ some) list rises all =
    (change_at-set_changes c.0 changes list (true_of (is_sorted at_cmp changes) rises) ∙ or_first (change_at c.0 changes) (change_at c.0 list) c.1 all.0, all_shown changes some list rises all.1)

-- the IVs that wait are the draws, and what is left is what is left after them
pub drawn : (h : Held) (es : List BatchEntry) (stream left_ : Stream) (changes list : FileChanges) → T (is_sorted id_cmp es) → AreMadeOf h es stream changes left_
    → (map (λ id. iv_of (change_at (block id) (set_changes changes list))) (given_in es), left_) ≡ draws (length (given_in es)) stream
drawn h es stream left_ changes list rises made =
    let in_order = made_rises h es stream left_ changes rises made in
    ap (λ ivs. (ivs, left_)) (shown_ivs h es stream left_ changes (set_changes changes list) made (all_shown changes changes list in_order (each_found at_total changes in_order)))
    ∙ made_draws h es stream left_ changes made
