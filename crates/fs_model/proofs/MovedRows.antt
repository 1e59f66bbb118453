-- A move keeps the rows but the one that it replaces.
use Rattle.std.specs.Prelude.{◌≡◌, ℕ, Bool, true, false, cond, List, [], ◌∷◌, ◌++◌, nat_lt, length, reverse, Option, Some, None}
use Rattle.std.proofs.Common.{refl, sym, ◌∙◌, ap, inl, inr, arith, length-append}
use Rattle.std.proofs.lemmas.Bool.{ltb-false}
use Rattle.std.proofs.lemmas.List.{reverse-reverse}
use Rattle.std.specs.FinMap.{get, len, remove}
use Rattle.std.proofs.lemmas.Option.{none-some, same_Some}
use Rattle.fs_model.specs.declared.error.FsError.{FsError}
use Rattle.fs_model.specs.declared.error.FsError.TheVariants.{NoEntry, Invalid, TooLarge, Busy, NotEmpty, NotDirectory, IsDirectory}
use Rattle.fs_model.specs.declared.limits.TheConstants.{MAX_ENTRIES}
use Rattle.fs_model.specs.declared.reply.Reply.TheVariants.{Done}
use Rattle.fs_model.specs.Instant.{Instant}
use Rattle.fs_model.specs.Tree.{Path, Tree, Row, upward, parent, is_root, same_path, is_directory, children, directory_size, IsRooted}
use Rattle.fs_model.specs.LookUp.{LookedUp, Found, Free, Bad, look}
use Rattle.fs_model.specs.Move.{CanMove, is_above, strip, moved_by, moved, renamed}
use Rattle.fs_model.specs.Step.{Stepped, refused, done, unless_root, has_child, with_ctime, with_moments, touched, moved_tree, moved_unless_large, moved_onto, moved_to, moved_from}
use Rattle.fs_model.specs.Laws.{IsMoved, IsUntouched}
use Rattle.fs_model.proofs.TreeLemmas.{same_path_is, insert_here, path_split, some_of}
use Rattle.fs_model.proofs.Touches.{touched-apart, touched-root, touched-here, touched-some}
use Rattle.fs_model.proofs.LookUpLemmas.{get-found}
use Rattle.fs_model.proofs.SizeLemmas.{no_children}
use Rattle.fs_model.proofs.MoveLemmas.{strip-append, strip-is}
use Rattle.fs_model.proofs.MovedTree.{not_above, strip_none, parent_off_p, moved-below, moved-off, moved-gone}
use Rattle.fs_model.proofs.WellFormedStep.{can_move_free, can_move_found}
use Rattle.fs_model.proofs.PutRows.{below_file}

-- the same before the directories are touched, and where these are
pub record IsCarried (before after : Tree) (now : Instant) (p q : Path) : Type 0 where
  pub arrived : (row : Row) → get before p ≡ Some row → get after q ≡ Some (with_ctime row now)
  pub kept : (r : Path) (row : Row) → get before r ≡ Some row → (r ≡ q → ⊥) → (r ≡ p → ⊥) → get after (moved p q r) ≡ Some row
  pub came : (r : Path) (row : Row) → get after r ≡ Some row → (o : Path) × ((old : Row) × (get before o ≡ Some old) × (o ≡ q → ⊥) × (moved p q o ≡ r))
  pub apart : (r o : Path) (row old : Row) → get before r ≡ Some row → get before o ≡ Some old → (r ≡ q → ⊥) → (o ≡ q → ⊥) → moved p q r ≡ moved p q o → r ≡ o
  pub from_stays : get after (parent p) ≡ get before (parent p)
  pub to_stays : get after (parent q) ≡ get before (parent q)
  pub from_off : (r : Path) → moved p q r ≡ parent p → r ≡ parent p
  pub to_off : (r : Path) → moved p q r ≡ parent q → r ≡ parent q
  pub root : moved p q [] ≡ []
  pub from_differs : q ≡ parent p → ⊥
  pub to_differs : q ≡ parent q → ⊥

module _ (t : Tree) (now : Instant) (pn : List ℕ) (pd : Path) (qn : List ℕ) (qd : Path) (row : Row) (can : CanMove t pn pd qn qd row) where
  abbrev p : Path
  p = pn ∷ pd

  abbrev q : Path
  q = qn ∷ qd

  abbrev next : Tree
  next = moved_tree t now p q row

  moved_at : (s : Path) → moved p q (s ++ p) ≡ s ++ q
  moved_at s = ap (λ o. moved_by o q (s ++ p)) (strip-append p s)

  -- a row apart from q isn't below it
  off_q : (r : Path) (x : Row) → get t r ≡ Some x → (r ≡ q → ⊥) → (s : Path) → r ≡ s ++ q → ⊥
  off_q r x there differ [] e = differ e
  off_q r x there differ (n ∷ s) e = none-some x (sym (can.bare s n) ∙ (ap (get t) (sym e) ∙ there))

  strip_off : (r : Path) (x : Row) → get t r ≡ Some x → (r ≡ q → ⊥) → strip q r ≡ None
  strip_off r x there differ = elim (strip q r) as (λ o. strip q r ≡ o → strip q r ≡ None) [
    | None ↦ λ e. e
    | Some s ↦ λ e. absurd (off_q r x there differ s (strip-is q r s e))
  ] refl

  kept_at : (r : Path) (x : Row) → get t r ≡ Some x → (r ≡ q → ⊥) → (r ≡ p → ⊥) → (o : Option Path) → strip p r ≡ o → get next (moved_by o q r) ≡ Some x
  kept_at r x there not_q not_p (Some []) h = absurd (not_p (strip-is p r [] h))
  kept_at r x there not_q not_p (Some (n ∷ s)) h = moved-below t now pn pd qn qd row can n s ∙ (ap (get t) (sym (strip-is p r (n ∷ s) h)) ∙ there)
  kept_at r x there not_q not_p None h = moved-off t now pn pd qn qd row can r (strip_off r x there not_q) h ∙ there

  came_from : (r : Path) (x : Row) → get next r ≡ Some x → (o : Option Path) → strip q r ≡ o → (z : Path) × ((old : Row) × (get t z ≡ Some old) × (z ≡ q → ⊥) × (moved p q z ≡ r))
  came_from r x there (Some []) h = (p, (row, can.here, can.differ, moved_at [] ∙ sym (strip-is q r [] h)))
  came_from r x there (Some (n ∷ s)) h =
      (n ∷ (s ++ p), (x, sym (moved-below t now pn pd qn qd row can n s) ∙ (ap (get next) (sym (strip-is q r (n ∷ s) h)) ∙ there), (λ e. not_above p q can.above s n (sym e)), moved_at (n ∷ s) ∙ sym (strip-is q r (n ∷ s) h)))
  came_from r x there None h = elim (strip p r) as (λ o. strip p r ≡ o → (z : Path) × ((old : Row) × (get t z ≡ Some old) × (z ≡ q → ⊥) × (moved p q z ≡ r))) [
    | Some s ↦ λ e. absurd (none-some x (sym (moved-gone t now pn pd qn qd row can r s h e) ∙ there))
    | None ↦ λ e. (r, (x, sym (moved-off t now pn pd qn qd row can r h e) ∙ there, (λ z. none-some [] (sym h ∙ (ap (strip q) z ∙ strip-append q []))), ap (λ o. moved_by o q r) e))
  ] refl

  same_end : (s z : Path) → s ++ q ≡ z ++ q → s ≡ z
  same_end s z e = let both : Some s ≡ Some z = sym (strip-append q s) ∙ (ap (strip q) e ∙ strip-append q z) in cc

  apart_at : (r o : Path) (x y : Row) → get t r ≡ Some x → get t o ≡ Some y → (r ≡ q → ⊥) → (o ≡ q → ⊥) → (a b : Option Path) → strip p r ≡ a → strip p o ≡ b → moved_by a q r ≡ moved_by b q o → r ≡ o
  apart_at r o x y hr ho not_q no_q (Some s) (Some z) a b e = strip-is p r s a ∙ (ap (λ w. w ++ p) (same_end s z e) ∙ sym (strip-is p o z b))
  apart_at r o x y hr ho not_q no_q (Some s) None a b e = absurd (off_q o y ho no_q s (sym e))
  apart_at r o x y hr ho not_q no_q None (Some z) a b e = absurd (off_q r x hr not_q z e)
  apart_at r o x y hr ho not_q no_q None None a b e = e

  off_own : (n : List ℕ) (d s : Path) → d ≡ s ++ (n ∷ d) → ⊥
  off_own n d s e = omega (arith, ap length e, length-append s (n ∷ d))

  from_off_q : strip q pd ≡ None
  from_off_q = strip_none q pd (λ s e. none-some row (sym (can.bare s pn) ∙ (ap (λ z. get t (pn ∷ z)) (sym e) ∙ can.here)))

  to_off_q : strip q qd ≡ None
  to_off_q = strip_none q qd (off_own qn qd)

  lands : (r d : Path) → strip q d ≡ None → moved p q r ≡ d → (o : Option Path) → strip p r ≡ o → moved_by o q r ≡ d → r ≡ d
  lands r d none e None h k = k
  lands r d none e (Some s) h k = absurd (none-some s (sym none ∙ (ap (strip q) (sym k) ∙ strip-append q s)))

  pub moved_rows : IsCarried t next now p q
  moved_rows = record {
    arrived = λ x there. insert_here (renamed (remove t q) p q) q (with_ctime row now) ∙ ap (λ z. Some (with_ctime z now)) (same_Some row x (sym can.here ∙ there));
    kept = λ r x there not_q not_p. kept_at r x there not_q not_p (strip p r) refl;
    came = λ r x there. came_from r x there (strip q r) refl;
    apart = λ r o x y hr ho not_q no_q e. apart_at r o x y hr ho not_q no_q (strip p r) (strip p o) refl refl e;
    from_stays = moved-off t now pn pd qn qd row can pd from_off_q (strip_none p pd (off_own pn pd));
    to_stays = moved-off t now pn pd qn qd row can qd to_off_q (parent_off_p t now pn pd qn qd row can);
    from_off = λ r e. lands r pd from_off_q e (strip p r) refl e;
    to_off = λ r e. lands r qd to_off_q e (strip p r) refl e;
    root = ap (λ o. moved_by o q []) (strip_none p [] (λ s e. omega (arith, ap length e, length-append s p)));
    from_differs = λ e. none-some row (sym (can.bare [] pn) ∙ (ap (λ z. get t (pn ∷ z)) e ∙ can.here));
    to_differs = λ e. off_own qn qd [] (sym e);
  }

-- ---- with both directories touched

module _ (t next : Tree) (now : Instant) (p q : Path) (carried : IsCarried t next now p q) where
  abbrev first : Tree
  first = touched next now (parent p)

  abbrev whole : Tree
  whole = touched first now (parent q)

  off_both : (r : Path) → (r ≡ parent p → ⊥) → (r ≡ parent q → ⊥) → get whole r ≡ get next r
  off_both r not_from not_to = touched-apart first now (parent q) r not_to ∙ touched-apart next now (parent p) r not_from

  root_stays : get whole [] ≡ get next []
  root_stays = touched-root first now (parent q) ∙ touched-root next now (parent p)

  kept_root : (r : Path) (row : Row) → is_root r ≡ true → get next (moved p q r) ≡ Some row → get whole (moved p q r) ≡ Some row
  kept_root [] row root there = ap (get whole) carried.root ∙ (root_stays ∙ (sym (ap (get next) carried.root) ∙ there))
  kept_root (n ∷ r) row root there = cc

  kept_both : (r : Path) (row : Row) → IsUntouched p q r → get next (moved p q r) ≡ Some row → get whole (moved p q r) ≡ Some row
  kept_both r row (inl root) there = kept_root r row root there
  kept_both r row (inr off) there = off_both (moved p q r) (λ e. off.0 (carried.from_off r e)) (λ e. off.1 (carried.to_off r e)) ∙ there

  -- a directory that one of them touched
  at_first : (d : Path) (row : Row) → parent p ≡ d → is_root d ≡ false → get next d ≡ Some row → get first d ≡ Some (with_moments row now)
  at_first [] row is named there = cc
  at_first (n ∷ d) row is named there = ap (λ z. get (touched next now z) (n ∷ d)) is ∙ touched-here next now n d row there

  at_second : (d : Path) (row : Row) → parent q ≡ d → is_root d ≡ false → get first d ≡ Some row → get whole d ≡ Some (with_moments row now)
  at_second [] row is named there = cc
  at_second (n ∷ d) row is named there = ap (λ z. get (touched first now z) (n ∷ d)) is ∙ touched-here first now n d row there

  both_left : (row : Row) → get t (parent p) ≡ Some row → is_root (parent p) ≡ false → get whole (parent p) ≡ Some (with_moments row now)
  both_left row there named =
      let now_there = at_first (parent p) row refl named (carried.from_stays ∙ there) in
      elim (path_split (parent p) (parent q)) [
        | inl e ↦ at_second (parent p) (with_moments row now) (sym e) named now_there
        | inr d ↦ touched-apart first now (parent q) (parent p) d ∙ now_there
      ]

  both_joined : (row : Row) → get t (parent q) ≡ Some row → is_root (parent q) ≡ false → get whole (parent q) ≡ Some (with_moments row now)
  both_joined row there named = elim (path_split (parent q) (parent p)) [
    | inl e ↦ at_second (parent q) (with_moments row now) refl named (at_first (parent q) row (sym e) named (carried.to_stays ∙ there))
    | inr d ↦ at_second (parent q) row refl named (touched-apart next now (parent p) (parent q) d ∙ (carried.to_stays ∙ there))
  ]

  pub touched_rows : IsMoved t whole now p q
  touched_rows = record {
    arrived = λ row there. off_both q carried.from_differs carried.to_differs ∙ carried.arrived row there;
    kept = λ r row there not_q not_p off. kept_both r row off (carried.kept r row there not_q not_p);
    left = both_left;
    joined = both_joined;
    came = λ r row there.
        let before = some_of (get first r) (touched-some first now (parent q) r row there) in
        let early = some_of (get next r) (touched-some next now (parent p) r before.0 before.1) in
        carried.came r early.0 early.1;
    apart = carried.apart;
  }

-- where the reply is Done, the rows have moved
pub record MovesIfDone (t : Tree) (now : Instant) (p q : Path) (s : Stepped) : Type 0 where
  pub moves : s.reply ≡ Done → IsMoved t s.tree now p q

module _ (t : Tree) (now : Instant) (p q : Path) where
  refuses : (e : FsError) → MovesIfDone t now p q (refused t e)
  refuses e = record { moves = λ h. cc }

  either : (b : Bool) (x y : Stepped) → (b ≡ true → MovesIfDone t now p q x) → (b ≡ false → MovesIfDone t now p q y) → MovesIfDone t now p q (cond b x y)
  either true x y f g = f refl
  either false x y f g = g refl

  large : (next : Tree) → IsCarried t next now p q → MovesIfDone t now p q (moved_unless_large t now p q next)
  large next h = either (nat_lt MAX_ENTRIES (directory_size next (parent q))) (refused t TooLarge) (done (touched (touched next now (parent p)) now (parent q))) (λ _. refuses TooLarge) (λ _. record { moves = λ _. touched_rows t next now p q h })

  onto : (from onto : Bool) (s : Stepped) → (((m : List ℕ) → onto ≡ true → get t (m ∷ q) ≡ None) → MovesIfDone t now p q s) → MovesIfDone t now p q (moved_onto t q from onto s)
  onto true true s h = either (has_child t q) (refused t NotEmpty) s (λ _. refuses NotEmpty) (λ none. h (λ m _. no_children t q (let zero = ltb-false 0 (len (children t q)) none in omega arith) m))
  onto true false s h = refuses NotDirectory
  onto false true s h = refuses IsDirectory
  onto false false s h = h (λ m bad. absurd (cc))

module _ (t : Tree) (now : Instant) (pn : List ℕ) (pd : Path) (qn : List ℕ) (qd : Path) (wf : IsRooted t) (differ : pn ∷ pd ≡ qn ∷ qd → ⊥) where
  to_moves : (row : Row) (s : LookedUp) → look t (pn ∷ pd) ≡ Found row → is_above (pn ∷ pd) (qn ∷ qd) ≡ false → look t (qn ∷ qd) ≡ s → MovesIfDone t now (pn ∷ pd) (qn ∷ qd) (moved_to t now (pn ∷ pd) (qn ∷ qd) row s)
  to_moves row (Found old) found above h =
      let next = moved_unless_large t now (pn ∷ pd) (qn ∷ qd) (moved_tree t now (pn ∷ pd) (qn ∷ qd) row) in
      either t now (pn ∷ pd) (qn ∷ qd) (same_path (pn ∷ pd) (qn ∷ qd)) (done t) (moved_onto t (qn ∷ qd) (is_directory row.attr.kind) (is_directory old.attr.kind) next) (λ e. absurd (differ (same_path_is (pn ∷ pd) (qn ∷ qd) e))) (λ apart.
      onto t now (pn ∷ pd) (qn ∷ qd) (is_directory row.attr.kind) (is_directory old.attr.kind) next (λ bare.
      large t now (pn ∷ pd) (qn ∷ qd) (moved_tree t now (pn ∷ pd) (qn ∷ qd) row) (moved_rows t now pn pd qn qd row (can_move_found t pn pd qn qd row old wf found above h apart (childless bare (is_directory old.attr.kind) refl)))))
    where
      childless : ((m : List ℕ) → is_directory old.attr.kind ≡ true → get t (m ∷ (qn ∷ qd)) ≡ None) → (b : Bool) → is_directory old.attr.kind ≡ b → (m : List ℕ) → get t (m ∷ (qn ∷ qd)) ≡ None
      childless bare true e m = bare m e
      childless bare false e m = below_file t (qn ∷ qd) old wf (get-found t (qn ∷ qd) old h) e m
  to_moves row Free found above h = large t now (pn ∷ pd) (qn ∷ qd) (moved_tree t now (pn ∷ pd) (qn ∷ qd) row) (moved_rows t now pn pd qn qd row (can_move_free t pn pd qn qd row wf found above h))
  to_moves row (Bad e) found above h = refuses t now (pn ∷ pd) (qn ∷ qd) e

  from_moves : (s : LookedUp) → look t (pn ∷ pd) ≡ s → MovesIfDone t now (pn ∷ pd) (qn ∷ qd) (moved_from t now (pn ∷ pd) (qn ∷ qd) s)
  from_moves (Found row) h = either t now (pn ∷ pd) (qn ∷ qd) (is_above (pn ∷ pd) (qn ∷ qd)) (refused t Invalid) (moved_to t now (pn ∷ pd) (qn ∷ qd) row (look t (qn ∷ qd))) (λ _. refuses t now (pn ∷ pd) (qn ∷ qd) Invalid) (λ above. to_moves row (look t (qn ∷ qd)) h above refl)
  from_moves Free h = refuses t now (pn ∷ pd) (qn ∷ qd) NoEntry
  from_moves (Bad e) h = refuses t now (pn ∷ pd) (qn ∷ qd) e

pub move_moves : (t : Tree) (now : Instant) (p q : Path) → IsRooted t → (p ≡ q → ⊥) → MovesIfDone t now p q (unless_root t p (unless_root t q (moved_from t now p q (look t p))))
move_moves t now [] q wf differ = refuses t now [] q Busy
move_moves t now (pn ∷ pd) [] wf differ = refuses t now (pn ∷ pd) [] Busy
move_moves t now (pn ∷ pd) (qn ∷ qd) wf differ = from_moves t now pn pd qn qd wf differ (look t (pn ∷ pd)) refl

pub upward_apart : (p q : List (List ℕ)) → (p ≡ q → ⊥) → upward p ≡ upward q → ⊥
upward_apart p q differ e = differ (sym (reverse-reverse p) ∙ (ap reverse e ∙ reverse-reverse q))
