-- What waits for the entries of a batch, made one after another.
use Rattle.std.proofs.Common.{◌≡◌, ℕ, ◌+◌, ◌≤◌, ◌<◌, List, [], ◌∷◌, ◌++◌, length, drop, map, get_or, refl, sym, ◌∙◌, ap, subst, append_assoc, arith}
use Rattle.std.specs.Prelude.{Option}
use Rattle.std.specs.List.{AllByRecursion}
use Rattle.std.proofs.lemmas.List.{append-nil, map-append, length-map}
use Rattle.std.proofs.Math.ListN.{drop_of_length-le}
use Rattle.rand_core.specs.Stream.{Stream}
use Rattle.block_id.specs.declared.id.BlockId.{BlockId}
use Rattle.outside.specs.declared.change.Pending.{Pending}
use Rattle.outside.specs.Trace.{At, block}
use Rattle.outside.specs.Changes.{FileChanges}
use Rattle.outside.specs.View.{pending_of, list_of}
use Rattle.store_api.specs.declared.batch.BatchChange.{BatchChange}
use Rattle.store_api.specs.Entries.{entry_view, entries_of}
use Rattle.block_versions.specs.sealed_store.Drafts.{MayBeDraft, AreDrafts}
use Rattle.store_api.proofs.Rising.{turn}
use Rattle.block_versions.specs.Held.{Held}
use Rattle.integrity_store.specs.Sealing.{MaySeal, IsMadeOf, stream_after, AreMadeOf}

-- ---- one more at the end

all_with : (P : At × Option (List ℕ) → Type 0) (list : FileChanges) (last : At × Option (List ℕ)) → AllByRecursion P list → P last → AllByRecursion P (list ++ last ∷ [])
all_with P [] last all is = (is, tt)
all_with P (e ∷ list) last all is = (all.0, all_with P list last all.1 is)

pub drafts_next : (size : ℕ) (old new : List Pending) (p : Pending) → new ≡ old ++ p ∷ [] → AreDrafts size (list_of old) → MayBeDraft size (pending_of p).0 (pending_of p).1 → AreDrafts size (list_of new)
drafts_next size old new p pushed all is =
    let joined : list_of old ++ pending_of p ∷ [] ≡ list_of new = sym (map-append pending_of old (p ∷ [])) ∙ ap list_of (sym pushed) in
    subst (AreDrafts size) joined (all_with (λ e. MayBeDraft size e.0 e.1) (list_of old) (pending_of p) all is)

-- ---- the loop

-- these changes were made of the first i entries: what is made of the others comes after them
abbrev pub MadeSoFar : Held → List (BlockId × BatchChange) → ℕ → Stream → Stream → FileChanges → Type 0
MadeSoFar h es i start now changes = (more : FileChanges) (left : Stream) → AreMadeOf h (drop i (entries_of es)) now more left → AreMadeOf h (entries_of es) start (changes ++ more) left

pub may_next : (h : Held) (es : List (BlockId × BatchChange)) (i : ℕ) (e : BlockId × BatchChange) → i < length es → e ≡ get_or es i e → AllByRecursion (MaySeal h) (drop i (entries_of es))
    → MaySeal h (entry_view e) × AllByRecursion (MaySeal h) (drop (i + 1) (entries_of es))
may_next h es i e lt is may = let next = subst (AllByRecursion (MaySeal h)) (turn es i e lt is) may in (next.0, next.1)

-- each of what is listed counts as its image
pub made_next : (image : At × Option (List ℕ) → At × Option (List ℕ)) (h : Held) (es : List (BlockId × BatchChange)) (i : ℕ) (e : BlockId × BatchChange) (start now next : Stream) (old new : List Pending) (p : Pending)
    → i < length es → e ≡ get_or es i e → new ≡ old ++ p ∷ [] → (image (pending_of p)).0 ≡ block (entry_view e).0 → IsMadeOf h (entry_view e).0 (entry_view e).1 now (image (pending_of p)).1
    → next ≡ stream_after (entry_view e).1 now → MadeSoFar h es i start now (map image (list_of old)) → MadeSoFar h es (i + 1) start next (map image (list_of new))
made_next image h es i e start now next old new p lt is pushed name made after before more left later =
    let last = image (pending_of p) in
    let here : AreMadeOf h (entry_view e ∷ drop (i + 1) (entries_of es)) now (last ∷ more) left =
    (name, made, subst (λ s. AreMadeOf h (drop (i + 1) (entries_of es)) s more left) after later) in
    let all = before (last ∷ more) left (subst (λ xs. AreMadeOf h xs now (last ∷ more) left) (sym (turn es i e lt is)) here) in
    let listed : list_of old ++ pending_of p ∷ [] ≡ list_of new = sym (map-append pending_of old (p ∷ [])) ∙ ap list_of (sym pushed) in
    let images : map image (list_of old) ++ last ∷ [] ≡ map image (list_of new) = sym (map-append image (list_of old) (pending_of p ∷ [])) ∙ ap (map image) listed in
    let joined : map image (list_of old) ++ (last ∷ more) ≡ map image (list_of new) ++ more = sym (append_assoc (map image (list_of old)) (last ∷ []) more) ∙ ap (λ xs. xs ++ more) images in
    subst (λ xs. AreMadeOf h (entries_of es) start xs left) joined all

pub made_all : (h : Held) (es : List (BlockId × BatchChange)) (i : ℕ) (start now : Stream) (changes : FileChanges) → length es ≤ i → MadeSoFar h es i start now changes → AreMadeOf h (entries_of es) start changes now
made_all h es i start now changes le so_far =
    let none : drop i (entries_of es) ≡ [] = drop_of_length-le (entries_of es) (omega (arith, length-map es entry_view)) in
    subst (λ xs. AreMadeOf h (entries_of es) start xs now) (append-nil changes) (so_far [] now (subst (λ xs. AreMadeOf h xs now [] now) (sym none) refl))
