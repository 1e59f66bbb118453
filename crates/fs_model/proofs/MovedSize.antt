-- The size of the directory that a move goes to, and a move of a row whose ctime is set before.
use Rattle.std.specs.Prelude.{◌≡◌, ℕ, ◌+◌, List, [], ◌∷◌, ◌++◌, length, Option, Some, None}
use Rattle.std.proofs.Common.{refl, sym, ◌∙◌, ap, inl, inr, arith, length-append}
use Rattle.std.specs.FinMap.{get, insert, remove, same_map}
use Rattle.fs_model.specs.Instant.{Instant}
use Rattle.fs_model.specs.Tree.{Path, Tree, Row, children, directory_size, entry_size}
use Rattle.fs_model.specs.Move.{CanMove, strip, renamed}
use Rattle.fs_model.specs.Step.{with_ctime, moved_tree}
use Rattle.fs_model.proofs.TreeLemmas.{path_total, path_exact, name_split, get-children, insert_here, insert_apart, remove_here, remove_apart}
use Rattle.fs_model.proofs.MoveLemmas.{strip-append, strip-is, source, get-renamed}
use Rattle.fs_model.proofs.SizeLemmas.{map_size, same_children, name_insert_here, name_insert_apart, name_remove_here, name_remove_apart, size-insert, size-remove, size-set}
use Rattle.fs_model.proofs.MovedTree.{not_above, strip_none, moved-here, moved-below, moved-off, moved-gone}

module _ (t : Tree) (now : Instant) (pn : List ℕ) (pd : Path) (qn : List ℕ) (qd : Path) (row : Row) (can : CanMove t pn pd qn qd row) where
  abbrev p : Path
  p = pn ∷ pd

  abbrev q : Path
  q = qn ∷ qd

  abbrev next : Tree
  next = moved_tree t now p q row

  -- p's row is set first, then q's old row goes
  abbrev early : Tree
  early = remove (insert t p (with_ctime row now)) q

  early_apart : (r : Path) → (r ≡ q → ⊥) → (r ≡ p → ⊥) → get early r ≡ get t r
  early_apart r not_q not_p = remove_apart (insert t p (with_ctime row now)) q r not_q ∙ insert_apart t p (with_ctime row now) r not_p

  early_free : (s : Path) → get early (s ++ q) ≡ None
  early_free [] = remove_here (insert t p (with_ctime row now)) q
  early_free (n ∷ s) = remove_apart (insert t p (with_ctime row now)) q (n ∷ (s ++ q)) (λ e. omega (arith, ap length e, length-append s q))
      ∙ (insert_apart t p (with_ctime row now) (n ∷ (s ++ q)) (λ e. none_here n s e) ∙ can.bare s n)
    where
      none_here : (n : List ℕ) (s : Path) → n ∷ (s ++ q) ≡ p → ⊥
      none_here n s e = let bad : None ≡ Some row = sym (can.bare s n) ∙ (ap (get t) e ∙ can.here) in cc

  early_at : (r : Path) (a b : Option Path) → strip q r ≡ a → strip p r ≡ b → get (renamed early p q) r ≡ source (get early) p r a b
  early_at r a b ha hb = get-renamed early p q r early_free ∙ (ap (λ o. source (get early) p r o (strip p r)) ha ∙ ap (source (get early) p r a) hb)

  longer : (n : List ℕ) (s : Path) → n ∷ (s ++ p) ≡ p → ⊥
  longer n s e = omega (arith, ap length e, length-append s p)

  same_at : (r : Path) (a : Option Path) → strip q r ≡ a → get (renamed early p q) r ≡ get next r
  same_at r (Some []) h =
      early_at r (Some []) (strip p r) h refl
      ∙ (remove_apart (insert t p (with_ctime row now)) q p can.differ ∙ (insert_here t p (with_ctime row now)
      ∙ (sym (moved-here t now pn pd qn qd row can) ∙ ap (get next) (sym (strip-is q r [] h)))))
  same_at r (Some (n ∷ s)) h =
      early_at r (Some (n ∷ s)) (strip p r) h refl
      ∙ (early_apart (n ∷ (s ++ p)) (λ e. not_above p q can.above s n (sym e)) (longer n s)
      ∙ (sym (moved-below t now pn pd qn qd row can n s) ∙ ap (get next) (sym (strip-is q r (n ∷ s) h))))
  same_at r None h = elim (strip p r) as (λ o. strip p r ≡ o → get (renamed early p q) r ≡ get next r) [
    | Some s ↦ λ e. early_at r None (Some s) h e ∙ sym (moved-gone t now pn pd qn qd row can r s h e)
    | None ↦ λ e.
        early_at r None None h e
        ∙ (early_apart r (λ z. absent q r h z) (λ z. absent p r e z)
        ∙ sym (moved-off t now pn pd qn qd row can r h e))
  ] refl
    where
      absent : (a r : Path) → strip a r ≡ None → r ≡ a → ⊥
      absent a r none e = let bad : None ≡ Some [] = sym none ∙ (ap (strip a) e ∙ strip-append a []) in cc

  pub moved_early : renamed early p q ≡ next
  moved_early = same_map path_total path_exact _ _ (λ r. same_at r (strip q r) refl)

  -- q's parent after the move, but for q itself
  child_at : (n : List ℕ) → (n ≡ qn → ⊥) → (n ∷ qd ≡ p → ⊥) → get next (n ∷ qd) ≡ get t (n ∷ qd)
  child_at n not_q not_p = moved-off t now pn pd qn qd row can (n ∷ qd) (strip_none q (n ∷ qd) off_q) (strip_none p (n ∷ qd) off_p)
    where
      off_q : (s : Path) → n ∷ qd ≡ s ++ q → ⊥
      off_q [] e = not_q (cc)
      off_q (m ∷ s) e = omega (arith, ap length e, length-append s q)

      off_p : (s : Path) → n ∷ qd ≡ s ++ p → ⊥
      off_p [] e = not_p e
      off_p (m ∷ s) e = not_above p q can.above s qn (let tail : qd ≡ s ++ p = cc in ap (λ z. qn ∷ z) tail)

  child_gone : pd ≡ qd → get next (pn ∷ qd) ≡ None
  child_gone e = moved-gone t now pn pd qn qd row can (pn ∷ qd) [] (strip_none q (pn ∷ qd) off_q) (ap (λ z. strip p (pn ∷ z)) (sym e) ∙ strip-append p [])
    where
      off_q : (s : Path) → pn ∷ qd ≡ s ++ q → ⊥
      off_q [] x = can.differ (ap (λ z. pn ∷ z) e ∙ x)
      off_q (m ∷ s) x = omega (arith, ap length x, length-append s q)

  -- p and q in one directory
  pub children-moved_within : pd ≡ qd → children next qd ≡ insert (remove (children t qd) pn) qn (with_ctime row now)
  children-moved_within e = same_children next qd _ (λ n. elim (name_split n qn) [
    | inl k ↦ ap (λ z. get next (z ∷ qd)) k ∙ (moved-here t now pn pd qn qd row can ∙ sym (ap (get (insert (remove (children t qd) pn) qn (with_ctime row now))) k ∙ name_insert_here (remove (children t qd) pn) qn (with_ctime row now)))
    | inr not_q ↦ elim (name_split n pn) [
      | inl k ↦ ap (λ z. get next (z ∷ qd)) k ∙ (child_gone e
          ∙ sym (name_insert_apart (remove (children t qd) pn) qn (with_ctime row now) n not_q ∙ (ap (get (remove (children t qd) pn)) k ∙ name_remove_here (children t qd) pn)))
      | inr not_p ↦ child_at n not_q (λ z. not_p (cc)) ∙ (sym (get-children t qd n)
          ∙ sym (name_insert_apart (remove (children t qd) pn) qn (with_ctime row now) n not_q ∙ name_remove_apart (children t qd) pn n not_p))
    ]
  ])

  pub children-moved_across : (pd ≡ qd → ⊥) → children next qd ≡ insert (children t qd) qn (with_ctime row now)
  children-moved_across d = same_children next qd _ (λ n. elim (name_split n qn) [
    | inl k ↦ ap (λ z. get next (z ∷ qd)) k ∙ (moved-here t now pn pd qn qd row can ∙ sym (ap (get (insert (children t qd) qn (with_ctime row now))) k ∙ name_insert_here (children t qd) qn (with_ctime row now)))
    | inr not_q ↦ child_at n not_q (λ z. d (sym (cc))) ∙ (sym (get-children t qd n) ∙ sym (name_insert_apart (children t qd) qn (with_ctime row now) n not_q))
  ])

  name_differs : pd ≡ qd → qn ≡ pn → ⊥
  name_differs e f = can.differ (ap (λ z. z ∷ pd) (sym f) ∙ ap (λ z. qn ∷ z) e)

  child_row : pd ≡ qd → get (children t qd) pn ≡ Some row
  child_row e = get-children t qd pn ∙ (ap (λ z. get t (pn ∷ z)) (sym e) ∙ can.here)

  -- the four cases of the size of q's parent after the move
  pub size_within_free : pd ≡ qd → get t q ≡ None → directory_size next qd + entry_size pn ≡ directory_size t qd + entry_size qn
  size_within_free e none =
      let gone = size-remove (children t qd) pn row (child_row e) in
      let more = size-insert (remove (children t qd) pn) qn (with_ctime row now) (name_remove_apart (children t qd) pn qn (name_differs e) ∙ (get-children t qd qn ∙ none)) in
      let is = ap map_size (children-moved_within e) in omega arith

  pub size_within_found : (old : Row) → pd ≡ qd → get t q ≡ Some old → directory_size next qd + entry_size pn ≡ directory_size t qd
  size_within_found old e there =
      let gone = size-remove (children t qd) pn row (child_row e) in
      let same = size-set (remove (children t qd) pn) qn old (with_ctime row now) (name_remove_apart (children t qd) pn qn (name_differs e) ∙ (get-children t qd qn ∙ there)) in
      let is = ap map_size (children-moved_within e) in omega arith

  pub size_across_free : (pd ≡ qd → ⊥) → get t q ≡ None → directory_size next qd ≡ directory_size t qd + entry_size qn
  size_across_free d none =
      let more = size-insert (children t qd) qn (with_ctime row now) (get-children t qd qn ∙ none) in
      let is = ap map_size (children-moved_across d) in omega arith

  pub size_across_found : (old : Row) → (pd ≡ qd → ⊥) → get t q ≡ Some old → directory_size next qd ≡ directory_size t qd
  size_across_found old d there =
      let same = size-set (children t qd) qn old (with_ctime row now) (get-children t qd qn ∙ there) in
      let is = ap map_size (children-moved_across d) in omega arith
