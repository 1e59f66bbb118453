-- Drafts that are sealed where they stand, one after another.
use Rattle.std.proofs.Common.{◌≡◌, inl, true, ℕ, zero, suc, ◌+◌, ◌-◌, ◌<◌, ◌≤◌, List, [], ◌∷◌, ◌++◌, map, take, drop, length, get_or, refl, sym, ◌∙◌, ap, subst, arith, append-nil, append_assoc, length-append, length-drop, length-take-le}
use Rattle.std.proofs.Math.ListN.{set}
use Rattle.std.proofs.lemmas.List.{drop-drop, drop-set-lt, drop_all, drop_at, drop_more, get_or-append-add, get_or-drop, get_or-map, length-map, map-set, take_all, take_at, take_more_set}
use Rattle.std.proofs.Math.Seq.{map-set_same}
use Rattle.std.proofs.lemmas.List.Edits.{map_over_more}
use lib.Seq.{paste}
use borrow.Rule.Slice.PartMut.{put_mid}
use Rattle.std.specs.declared.option.Option.{Option}
use Rattle.block_id.specs.Formats.{prefix_of}
use Rattle.block_id.specs.declared.format.Format.TheVariants.{WithId}
use Rattle.outside.specs.declared.change.Pending.{Pending}
use Rattle.std.specs.Prelude.{OnOk, OnErr, Result, Ok, Err, is_err}
use Rattle.outside.specs.Trace.{At, Call}
use Rattle.outside.specs.Changes.{FileChanges, IsIncreasing}
use Rattle.outside.specs.Writes.{StopsAt}
use Rattle.outside.specs.View.{at_of, change_of, pending_of, list_of}
use Rattle.seal_api.specs.Sealing.{middle}
use Rattle.sealed_store.specs.Drafts.{Seal, filled, front_in, plain_in, iv_in_draft, sealed_as, sealed_entry, IsDraft, MayBeDraft, AreDrafts}
use Rattle.sealed_store.specs.Sums.{HasRoomFor, HaveRoom}
use Rattle.sealed_store.proofs.Filled.{filled_cut, filled_len}
use Rattle.sealed_store.proofs.Files.{front_long}
use Rattle.sealed_store.proofs.Told.{increasing_told}

-- ---- one draft

-- the plaintext was copied behind the prefix and the IV, the prefix written, and what follows it sealed
pub file_written : (seal : Seal) (size m : ℕ) (id iv file copied begun text : List ℕ) → 48 ≤ size → length file ≡ size → m ≡ 16
    → copied ≡ paste file 32 file (size - 48) → begun ≡ prefix_of WithId ++ drop 16 copied
    → text ≡ seal iv id (middle m 16 (take (length begun - 16) (drop 16 begun)))
    → put_mid 16 (length begun - 16) begun text ≡ prefix_of WithId ++ seal iv id (take (size - 48) file)
file_written seal size m id iv file copied begun text least long is_m is_copied is_begun is_text =
    let room : List ℕ = take 32 file in
    let plain : List ℕ = take (size - 48) file in
    let end : List ℕ = drop (32 + (size - 48)) file in
    let len_room : length room ≡ 32 = length-take-le 32 file (omega (arith, long, least)) in
    let len_plain : length plain ≡ size - 48 = length-take-le (size - 48) file (omega (arith, long)) in
    let len_copied : length copied ≡ size = ap length is_copied ∙ omega (arith, length-append (room ++ plain) end, length-append room plain, len_room, len_plain, length-drop (32 + (size - 48)) file, long, least) in
    let rest : drop 16 begun ≡ drop 16 copied = ap (drop 16) is_begun ∙ drop_at (prefix_of WithId) (drop 16 copied) 16 refl in
    let len_rest : length (drop 16 copied) ≡ size - 16 = omega (arith, length-drop 16 copied, len_copied) in
    let len_begun : length begun ≡ size = ap length is_begun ∙ length-append (prefix_of WithId) (drop 16 copied) ∙ omega (arith, len_rest, least) in
    let all : take (length begun - 16) (drop 16 begun) ≡ drop 16 copied =
    ap (take (length begun - 16)) rest ∙ take_all (length begun - 16) (drop 16 copied) (omega (arith, len_rest, len_begun)) in
    let behind : drop 16 (drop 16 copied) ≡ plain ++ end =
    drop-drop 16 16 copied ∙ ap (drop 32) (is_copied ∙ append_assoc room plain end) ∙ drop_at room (plain ++ end) 32 len_room in
    let between_them : middle 16 16 (drop 16 copied) ≡ plain =
    ap (take (length (drop 16 copied) - 16 - 16)) behind ∙ take_at plain end (length (drop 16 copied) - 16 - 16) (omega (arith, len_plain, len_rest)) in
    let sealed : text ≡ seal iv id plain =
    is_text ∙ (λ i. seal iv id (middle (is_m i) 16 (all i))) ∙ ap (seal iv id) between_them in
    let front : take 16 begun ≡ prefix_of WithId = ap (take 16) is_begun ∙ take_at (prefix_of WithId) (drop 16 copied) 16 refl in
    let none : drop (length begun - 16) (drop 16 begun) ≡ [] =
    ap (drop (length begun - 16)) rest ∙ drop_all (length begun - 16) (drop 16 copied) (omega (arith, len_rest, len_begun)) in
    (λ i. front i ++ (sealed i ++ none i)) ∙ ap (λ (l : List ℕ). prefix_of WithId ++ l) (append-nil _)

-- a draft that was filled up, and then sealed
pub draft_sealed : (seal : Seal) (size : ℕ) (id draft iv up file : List ℕ) → IsDraft size draft → iv ≡ iv_in_draft draft → up ≡ filled size (front_in draft)
    → file ≡ prefix_of WithId ++ seal iv id (take (length up - 48) up) → file ≡ sealed_as seal size id draft
draft_sealed seal size id draft iv up file may is_iv is_up is_file =
    let le : length (front_in draft) ≤ size - 48 = front_long size draft may in
    let len : length up ≡ size = ap length is_up ∙ filled_len size (front_in draft) (omega arith) in
    let text : take (length up - 48) up ≡ plain_in size draft = (λ i. take (len i - 48) (is_up i)) ∙ filled_cut (size - 48) size (front_in draft) le (omega arith) in
    is_file ∙ (λ i. prefix_of WithId ++ seal (is_iv i) id (text i))

-- ---- one after another

-- a change of a list of drafts may be a draft's
draft_in : (size : ℕ) (list : FileChanges) (i : ℕ) (d : At × Option (List ℕ)) → i < length list → AreDrafts size list → MayBeDraft size (get_or list i d).0 (get_or list i d).1
draft_in size [] i d h may = absurd (omega (arith, h))
draft_in size (e ∷ es) zero d h may = may.0
draft_in size (e ∷ es) (suc i) d h may = draft_in size es i d (omega (arith, h)) may.1

-- what comes next stands as it stood
as_it_stood : {X : Type 0} (f : X → X) (xs ys : List X) (i : ℕ) (d : X) → i < length xs → ys ≡ map f (take i xs) ++ drop i xs → get_or ys i d ≡ get_or xs i d
as_it_stood f xs ys i d h is =
    let done = map f (take i xs) in
    let front : length done ≡ i = length-map (take i xs) f ∙ length-take-le i xs (omega (arith, h)) in
    let place : i ≡ length done + 0 = omega (arith, front) in
    let end : i + 0 ≡ i = omega arith in
    ap (λ l. get_or l i d) is ∙ ap (λ n. get_or (done ++ drop i xs) n d) place ∙ get_or-append-add done (drop i xs) 0 d ∙ get_or-drop i xs 0 d ∙ ap (λ n. get_or xs n d) end

-- the change that stands at a place
stands_at : (items : List Pending) (i : ℕ) (p : Pending) → i < length items → p ≡ get_or items i p → pending_of p ≡ get_or (list_of items) i (pending_of p)
stands_at items i p h is = ap pending_of is ∙ sym (get_or-map pending_of items i p (pending_of p) h)

module _ (seal : Seal) (size : ℕ) (list items : List Pending) (i : ℕ) (p : Pending) (within : i < length (list_of list)) (here : i < length items) (is : p ≡ get_or items i p)
    (done : list_of items ≡ map (sealed_entry seal size) (take i (list_of list)) ++ drop i (list_of list)) where
  pub next_draft : AreDrafts size (list_of list) → MayBeDraft size (at_of p.name) (change_of p.change)
  next_draft may =
      let same : pending_of p ≡ get_or (list_of list) i (pending_of p) = stands_at items i p here is ∙ as_it_stood (sealed_entry seal size) (list_of list) (list_of items) i (pending_of p) within done in
      subst (λ e. MayBeDraft size e.0 e.1) (sym same) (draft_in size (list_of list) i (pending_of p) within may)

  pub sealed_more : (q : Pending) → pending_of q ≡ sealed_entry seal size (pending_of p)
      → list_of (set items i q) ≡ map (sealed_entry seal size) (take (i + 1) (list_of list)) ++ drop (i + 1) (list_of list)
  sealed_more q sealed =
      map-set pending_of items i q ∙ ap (set (list_of items) i) sealed
      ∙ map_over_more (sealed_entry seal size) (list_of list) (list_of items) i (pending_of p) within done (stands_at items i p here is)

-- every one was sealed
pub all_sealed : (seal : Seal) (size : ℕ) (list items rest : List Pending) (n i : ℕ) → length items ≡ n → length list ≡ n → n ≤ i
    → list_of items ≡ map (sealed_entry seal size) (take i (list_of list)) ++ drop i (list_of list) → list_of (take n (items ++ rest)) ≡ map (sealed_entry seal size) (list_of list)
all_sealed seal size list items rest n i long same le done =
    let end : length (list_of list) ≤ i = omega (arith, length-map list pending_of, same, le) in
    let all : take i (list_of list) ≡ list_of list = take_all i (list_of list) end in
    let none : drop i (list_of list) ≡ [] = drop_all i (list_of list) end in
    ap list_of (take_at items rest n long) ∙ done ∙ (λ k. map (sealed_entry seal size) (all k) ++ none k) ∙ append-nil (map (sealed_entry seal size) (list_of list))

-- ---- room for each

room_in : (size : ℕ) (list : List Pending) (i : ℕ) (p : Pending) → i < length list → p ≡ get_or list i p → HaveRoom size (drop i list) → HasRoomFor size p.name p.change × HaveRoom size (drop (i + 1) list)
room_in size list i p within is room =
    let all = subst (HaveRoom size) (drop_more list i p within ∙ ap (λ (q : Pending). q ∷ drop (i + 1) list) (sym is)) room in (all.0, all.1)

-- the next has room, and so have the others
pub room_here : (size : ℕ) (list : List Pending) (i : ℕ) (p : Pending) → i < length list → p ≡ get_or list i p → HaveRoom size (drop i list) → HasRoomFor size p.name p.change
room_here size list i p within is room = (room_in size list i p within is room).0

pub room_later : (size : ℕ) (list : List Pending) (i : ℕ) (p q : Pending) → i < length list → p ≡ get_or list i p → HaveRoom size (drop i list) → HaveRoom size (drop (i + 1) (set list i q))
room_later size list i p q within is room = subst (HaveRoom size) (sym (drop-set-lt (i + 1) list i q (omega arith))) (room_in size list i p within is room).1

-- one more has room
room_pushed : (size : ℕ) (list : List Pending) (p : Pending) → HaveRoom size list → HasRoomFor size p.name p.change → HaveRoom size (list ++ p ∷ [])
room_pushed size [] p all here = (here, tt)
room_pushed size (q ∷ list) p all here = (all.0, room_pushed size list p all.1 here)

pub room_more : (size : ℕ) (list : List Pending) (i : ℕ) (q : Pending) → i < length list → HaveRoom size (take i list) → HasRoomFor size q.name q.change → HaveRoom size (take (i + 1) (set list i q))
room_more size list i q within all here = subst (HaveRoom size) (sym (take_more_set list i q within)) (room_pushed size (take i list) q all here)

-- what is told of the list stays
pub told_alike : (list : List Pending) (i : ℕ) (p q : Pending) → pending_of q ≡ pending_of (get_or list i p) → list_of (set list i q) ≡ list_of list
told_alike list i p q same = map-set_same pending_of list i q p same

pub put_back : (list items rest : List Pending) (n : ℕ) → length items ≡ n → list_of items ≡ list_of list → list_of (take n (items ++ rest)) ≡ list_of list
put_back list items rest n long same = ap list_of (take_at items rest n long) ∙ same

-- ---- sealed, all or none

pub rises_after : {E : Type 0} (r : Result (Unit {0}) E) (seal : Seal) (size : ℕ) (old new : FileChanges) → OnOk r (new ≡ map (sealed_entry seal size) old) → OnErr r (new ≡ old) → IsIncreasing old → IsIncreasing new
rises_after (Ok x) seal size old new ok err rises = subst IsIncreasing (sym ok) (increasing_told seal size old rises)
rises_after (Err e) seal size old new ok err rises = subst IsIncreasing (sym err) rises

pub on_err : {A E : Type 0} (r : Result A E) (P : Type 0) → is_err r ≡ true → OnErr r P → P
on_err (Ok x) P is h = absurd (cc)
on_err (Err e) P is h = h

-- nothing was written of a list that has changes
pub stopped_first : (list left : FileChanges) (old new : Option (List Call)) → left ≡ list → 0 < length list → new ≡ old → StopsAt list old new left
stopped_first list [] old new same some trace = absurd (omega (arith, ap length same, some))
stopped_first list (e ∷ es) old new same some trace = record { done = []; next = e; rest = es; parts = sym same; stays = refl; trace = inl trace }
