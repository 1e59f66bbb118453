-- The tree after a move: what it has at a path, and that it stays well formed.
use Rattle.std.specs.Prelude.{◌≡◌, ℕ, ◌≤◌, true, false, List, [], ◌∷◌, ◌++◌, length, is_some, Option, Some, None}
use Rattle.std.proofs.Common.{refl, sym, ◌∙◌, ap, subst, inl, inr, arith, length-append}
use Rattle.std.proofs.lemmas.Bool.{or_right, or_left}
use Rattle.std.specs.FinMap.{get, remove, empty}
use Rattle.std.proofs.lemmas.Option.{none-some}
use Rattle.fs_model.specs.declared.limits.TheConstants.{MAX_ENTRIES}
use Rattle.fs_model.specs.Instant.{Instant}
use Rattle.fs_model.specs.Names.{IsName}
use Rattle.fs_model.specs.Tree.{Path, Tree, Row, same_path, is_folder, children, directory_size, IsRooted, IsWithinLimits, IsWellFormed}
use Rattle.fs_model.specs.Move.{CanMove, is_above, strip, renamed}
use Rattle.fs_model.specs.Step.{with_ctime, moved_tree}
use Rattle.fs_model.proofs.TreeLemmas.{path_split, path_same, name_split, get-children, insert_here, insert_apart, remove_here, remove_apart}
use Rattle.fs_model.proofs.MoveLemmas.{strip-append, strip-is, source, get-renamed}
use Rattle.fs_model.proofs.SizeLemmas.{map_size, same_children, no_names, name_remove_here, name_remove_apart, size-remove-le, size-empty}

shorter : (s : Path) (n : List ℕ) (p : Path) → p ≡ s ++ (n ∷ p) → ⊥
shorter s n p e = omega (arith, ap length e, length-append s (n ∷ p))

-- a proper prefix is found
is_above_it : (p s : Path) (n : List ℕ) → is_above p (n ∷ (s ++ p)) ≡ true
is_above_it p [] n = or_left (same_path p p) (is_above p p) (path_same p)
is_above_it p (m ∷ s) n = or_right (same_path p (m ∷ (s ++ p))) (is_above p (m ∷ (s ++ p))) (is_above_it p s m)

pub not_above : (p q : Path) → is_above p q ≡ false → (s : Path) (n : List ℕ) → q ≡ n ∷ (s ++ p) → ⊥
not_above p q h s n e = let bad : false ≡ true = sym h ∙ (ap (is_above p) e ∙ is_above_it p s n) in cc

pub strip_none : (p r : Path) → ((s : Path) → r ≡ s ++ p → ⊥) → strip p r ≡ None
strip_none p r off = elim (strip p r) as (λ o. strip p r ≡ o → strip p r ≡ None) [
  | None ↦ λ e. e
  | Some s ↦ λ e. absurd (off s (strip-is p r s e))
] refl

pub strip_off : (p r : Path) → strip p r ≡ None → (s : Path) → r ≡ s ++ p → ⊥
strip_off p r none s e = none-some s (sym none ∙ (ap (strip p) e ∙ strip-append p s))

module _ (t : Tree) (now : Instant) (pn : List ℕ) (pd : Path) (qn : List ℕ) (qd : Path) (row : Row) (can : CanMove t pn pd qn qd row) where
  abbrev p : Path
  p = pn ∷ pd

  abbrev q : Path
  q = qn ∷ qd

  abbrev next : Tree
  next = moved_tree t now p q row

  abbrev cleared : Tree
  cleared = remove t q

  free : (s : Path) → get cleared (s ++ q) ≡ None
  free [] = remove_here t q
  free (n ∷ s) = remove_apart t q (n ∷ (s ++ q)) (λ e. shorter (n ∷ s) qn qd (ap_tail e)) ∙ can.bare s n
    where
      ap_tail : n ∷ (s ++ q) ≡ q → qd ≡ (n ∷ s) ++ (qn ∷ qd)
      ap_tail e = absurd (omega (arith, ap length e, length-append s q))

  renamed_at : (r : Path) (a b : Option Path) → strip q r ≡ a → strip p r ≡ b → get (renamed cleared p q) r ≡ source (get cleared) p r a b
  renamed_at r a b ha hb = get-renamed cleared p q r free ∙ (ap (λ o. source (get cleared) p r o (strip p r)) ha ∙ ap (source (get cleared) p r a) hb)

  pub moved-here : get next q ≡ Some (with_ctime row now)
  moved-here = insert_here (renamed cleared p q) q (with_ctime row now)

  pub moved-below : (n : List ℕ) (s : Path) → get next (n ∷ (s ++ q)) ≡ get t (n ∷ (s ++ p))
  moved-below n s =
      insert_apart (renamed cleared p q) q (with_ctime row now) (n ∷ (s ++ q)) (λ e. absurd (omega (arith, ap length e, length-append s q)))
      ∙ (renamed_at (n ∷ (s ++ q)) (Some (n ∷ s)) (strip p (n ∷ (s ++ q))) (strip-append q (n ∷ s)) refl
      ∙ remove_apart t q (n ∷ (s ++ p)) (λ e. not_above p q can.above s n (sym e)))

  off_q : (r : Path) → strip q r ≡ None → r ≡ q → ⊥
  off_q r none e = strip_off q r none [] e

  pub moved-off : (r : Path) → strip q r ≡ None → strip p r ≡ None → get next r ≡ get t r
  moved-off r hq hp =
      insert_apart (renamed cleared p q) q (with_ctime row now) r (off_q r hq)
      ∙ (renamed_at r None None hq hp ∙ remove_apart t q r (off_q r hq))

  pub moved-gone : (r s : Path) → strip q r ≡ None → strip p r ≡ Some s → get next r ≡ None
  moved-gone r s hq hp = insert_apart (renamed cleared p q) q (with_ctime row now) r (off_q r hq) ∙ renamed_at r None (Some s) hq hp

  parent_off_q : strip q qd ≡ None
  parent_off_q = strip_none q qd (λ s e. shorter s qn qd e)

  pub parent_off_p : strip p qd ≡ None
  parent_off_p = strip_none p qd (λ s e. not_above p q can.above s qn (ap (λ z. qn ∷ z) e))

  pub moved-parent : get next qd ≡ get t qd
  moved-parent = moved-off qd parent_off_q parent_off_p

  above_off : (a : Path) (n : List ℕ) (r : Path) → strip a (n ∷ r) ≡ None → strip a r ≡ None
  above_off a n r none = strip_none a r (λ s e. strip_off a (n ∷ r) none (n ∷ s) (ap (λ z. n ∷ z) e))

  moved-folder : (s : Path) → is_folder (get t (s ++ p)) ≡ true → is_folder (get next (s ++ q)) ≡ true
  moved-folder [] h = ap is_folder moved-here ∙ (sym (ap is_folder can.here) ∙ h)
  moved-folder (n ∷ s) h = ap is_folder (moved-below n s) ∙ h

  parents_below : IsRooted t → (n : List ℕ) (r : Path) (o : Option Path) → strip q (n ∷ r) ≡ o → is_some (get next (n ∷ r)) ≡ true → is_folder (get next r) ≡ true
  parents_below wf n r (Some []) h there = tail_is (strip-is q (n ∷ r) [] h)
    where
      tail_is : n ∷ r ≡ qn ∷ qd → is_folder (get next r) ≡ true
      tail_is e = let same : r ≡ qd = cc in ap (λ z. is_folder (get next z)) same ∙ (ap is_folder moved-parent ∙ can.folder)
  parents_below wf n r (Some (m ∷ s)) h there = tail_is (strip-is q (n ∷ r) (m ∷ s) h)
    where
      tail_is : n ∷ r ≡ m ∷ (s ++ q) → is_folder (get next r) ≡ true
      tail_is e =
          let same : r ≡ s ++ q = cc in
          let row_there : is_some (get t (m ∷ (s ++ p))) ≡ true = ap is_some (sym (moved-below m s)) ∙ (ap (λ z. is_some (get next z)) (sym e) ∙ there) in
          ap (λ z. is_folder (get next z)) same ∙ moved-folder s (wf.parents m (s ++ p) row_there)
  parents_below wf n r None h there = elim (strip p (n ∷ r)) as (λ o. strip p (n ∷ r) ≡ o → is_folder (get next r) ≡ true) [
    | Some s ↦ λ e. let bad : false ≡ true = ap is_some (sym (moved-gone (n ∷ r) s h e)) ∙ there in cc
    | None ↦ λ e.
        ap is_folder (moved-off r (above_off q n r h) (above_off p n r e))
        ∙ wf.parents n r (ap is_some (sym (moved-off (n ∷ r) h e)) ∙ there)
  ] refl

  pub moved_rooted : IsRooted t → IsRooted next
  moved_rooted wf = record {
    root = moved-off [] refl_q refl_p ∙ wf.root;
    parents = λ n r there. parents_below wf n r (strip q (n ∷ r)) refl there;
  }
    where
      refl_q : strip q [] ≡ None
      refl_q = strip_none q [] (λ s e. absurd (omega (arith, ap length e, length-append s q)))

      refl_p : strip p [] ≡ None
      refl_p = strip_none p [] (λ s e. absurd (omega (arith, ap length e, length-append s p)))

  names_below : IsName qn → ((n : List ℕ) (r : Path) → is_some (get t (n ∷ r)) ≡ true → IsName n) → (n : List ℕ) (r : Path) (o : Option Path) → strip q (n ∷ r) ≡ o → is_some (get next (n ∷ r)) ≡ true → IsName n
  names_below named names n r (Some []) h there =
      let e : n ∷ r ≡ qn ∷ qd = strip-is q (n ∷ r) [] h in
      let same : qn ≡ n = cc in subst IsName same named
  names_below named names n r (Some (m ∷ s)) h there =
      let e : n ∷ r ≡ m ∷ (s ++ q) = strip-is q (n ∷ r) (m ∷ s) h in
      let same : m ≡ n = cc in
      subst IsName same (names m (s ++ p) (ap is_some (sym (moved-below m s)) ∙ (ap (λ z. is_some (get next z)) (sym e) ∙ there)))
  names_below named names n r None h there = elim (strip p (n ∷ r)) as (λ o. strip p (n ∷ r) ≡ o → IsName n) [
    | Some s ↦ λ e. let bad : false ≡ true = ap is_some (sym (moved-gone (n ∷ r) s h e)) ∙ there in cc
    | None ↦ λ e. names n r (ap is_some (sym (moved-off (n ∷ r) h e)) ∙ there)
  ] refl

  rows_below : ((r : Path) (x : Row) → get t r ≡ Some x → IsWithinLimits x) → (r : Path) (x : Row) (o : Option Path) → strip q r ≡ o → get next r ≡ Some x → IsWithinLimits x
  rows_below rows r x (Some []) h there =
      let same : Some (with_ctime row now) ≡ Some x = sym moved-here ∙ (ap (get next) (sym (strip-is q r [] h)) ∙ there) in
      let row_is : with_ctime row now ≡ x = cc in
      subst IsWithinLimits row_is (let limits = rows p row can.here in record { content = limits.content; mode = limits.mode })
  rows_below rows r x (Some (m ∷ s)) h there = rows (m ∷ (s ++ p)) x (sym (moved-below m s) ∙ (ap (get next) (sym (strip-is q r (m ∷ s) h)) ∙ there))
  rows_below rows r x None h there = elim (strip p r) as (λ o. strip p r ≡ o → IsWithinLimits x) [
    | Some s ↦ λ e. absurd (none-some x (sym (moved-gone r s h e) ∙ there))
    | None ↦ λ e. rows r x (sym (moved-off r h e) ∙ there)
  ] refl

  child_off_q : (n : List ℕ) (d : Path) → strip q d ≡ None → (d ≡ qd → ⊥) → strip q (n ∷ d) ≡ None
  child_off_q n d h differ = strip_none q (n ∷ d) off
    where
      off : (s : Path) → n ∷ d ≡ s ++ q → ⊥
      off [] e = differ (cc)
      off (m ∷ s) e = strip_off q d h s (cc)

  child_off_p : (n : List ℕ) (d : Path) → strip p d ≡ None → (n ∷ d ≡ p → ⊥) → strip p (n ∷ d) ≡ None
  child_off_p n d h differ = strip_none p (n ∷ d) off
    where
      off : (s : Path) → n ∷ d ≡ s ++ p → ⊥
      off [] e = differ e
      off (m ∷ s) e = strip_off p d h s (cc)

  -- a directory that isn't at or below q, nor q's parent
  off_size : ((d : Path) → directory_size t d ≤ MAX_ENTRIES) → (d : Path) → strip q d ≡ None → (d ≡ qd → ⊥) → directory_size next d ≤ MAX_ENTRIES
  off_size sizes d h differ = elim (strip p d) as (λ o. strip p d ≡ o → directory_size next d ≤ MAX_ENTRIES) [
    | Some s ↦ λ e.
        let none : children next d ≡ empty = no_names (children next d) (λ n.
        get-children next d n ∙ moved-gone (n ∷ d) (n ∷ s) (child_off_q n d h differ) (ap (strip p) (ap (λ z. n ∷ z) (strip-is p d s e)) ∙ strip-append p (n ∷ s))) in
        empty_fits d none
    | None ↦ λ e. elim (path_split d pd) [
      | inl same ↦
          let less : children next d ≡ remove (children t d) pn = same_children next d _ (λ n. without_p n d h differ e same) in
          let size = sizes d in let bound = size-remove-le (children t d) pn in let is = ap map_size less in omega arith
      | inr other ↦
          let same : children next d ≡ children t d = same_children next d _ (λ n.
          moved-off (n ∷ d) (child_off_q n d h differ) (child_off_p n d e (λ z. other (cc))) ∙ sym (get-children t d n)) in
          let size = sizes d in let is = ap map_size same in omega arith
    ]
  ] refl
    where
      empty_fits : (d : Path) → children next d ≡ empty → directory_size next d ≤ MAX_ENTRIES
      empty_fits d none = let is : directory_size next d ≡ 0 = ap map_size none ∙ size-empty Row in omega arith

      without_p : (n : List ℕ) (d : Path) → strip q d ≡ None → (d ≡ qd → ⊥) → strip p d ≡ None → d ≡ pd → get next (n ∷ d) ≡ get (remove (children t d) pn) n
      without_p n d h differ e same = elim (name_split n pn) [
        | inl k ↦
            moved-gone (n ∷ d) [] (child_off_q n d h differ) (ap (strip p) (ap (λ z. z ∷ d) k ∙ ap (λ z. pn ∷ z) same) ∙ strip-append p [])
            ∙ sym (ap (get (remove (children t d) pn)) k ∙ name_remove_here (children t d) pn)
        | inr other ↦
            moved-off (n ∷ d) (child_off_q n d h differ) (child_off_p n d e (λ z. other (cc)))
            ∙ (sym (get-children t d n) ∙ sym (name_remove_apart (children t d) pn n other))
      ]

  sizes_below : ((d : Path) → directory_size t d ≤ MAX_ENTRIES) → directory_size next qd ≤ MAX_ENTRIES → (d : Path) (o : Option Path) → strip q d ≡ o → directory_size next d ≤ MAX_ENTRIES
  sizes_below sizes fits d (Some s) h =
      let is : d ≡ s ++ q = strip-is q d s h in
      let same : children next (s ++ q) ≡ children t (s ++ p) = same_children next (s ++ q) _ (λ n. moved-below n s ∙ sym (get-children t (s ++ p) n)) in
      let size = sizes (s ++ p) in let same_size = ap map_size same in let at = ap (directory_size next) is in omega arith
  sizes_below sizes fits d None h = elim (path_split d qd) [
    | inl same ↦ subst (λ z. directory_size next z ≤ MAX_ENTRIES) (sym same) fits
    | inr differ ↦ off_size sizes d h differ
  ]

  pub moved_well_formed : IsWellFormed t → IsName qn → directory_size next qd ≤ MAX_ENTRIES → IsWellFormed next
  moved_well_formed wf named fits = record {
    rooted = moved_rooted wf.rooted;
    names = λ n r there. names_below named wf.names n r (strip q (n ∷ r)) refl there;
    rows = λ r x there. rows_below wf.rows r x (strip q r) refl there;
    directories = λ d. sizes_below wf.directories fits d (strip q d) refl;
  }
