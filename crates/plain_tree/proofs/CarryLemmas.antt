-- What a move of rows makes of the tree.
use Rattle.std.proofs.Common.{◌≡◌, ℕ, ◌+◌, ◌-◌, ◌<◌, ◌++◌, length, get_or, take, ◌⊎◌, Bool, true, false, cond, List, [], ◌∷◌, refl, sym, ◌∙◌, ap, subst, arith, length-append, inl, inr}
use Rattle.std.specs.Prelude.{is_some, IsSome}
use Rattle.std.specs.Option.{option_map}
use Rattle.std.specs.FinMap as tree
use Rattle.std.specs.FinMap.{get, same_map}
use Rattle.std.specs.Result.{OnOk}
use Rattle.std.specs.declared.result.Result.{Result}
use Rattle.std.specs.declared.result.Result.TheVariants.{Ok, Err}
use Rattle.std.specs.declared.option.Option.{Option}
use Rattle.std.specs.declared.option.Option.TheVariants.{None, Some}
use Rattle.std.proofs.lemmas.Option.{none-some}
use Rattle.fs_model.specs.declared.attr.Attr.{Attr}
use Rattle.fs_model.specs.Instant.{Instant}
use Rattle.fs_model.specs.Tree.{Path, Row, Tree, upward, parent, last_name, is_root, same_path, is_directory, directory_size, entry_size, IsRooted, IsWellFormed}
use Rattle.fs_model.specs.LookUp.{Found, Free, look}
use Rattle.fs_model.specs.Move.{CanMove, strip, is_above}
use Rattle.fs_model.specs.Step.{with_ctime, moved_tree}
use Rattle.fs_model.proofs.TreeLemmas.{path_total, path_exact, path_split, path_same, apart, insert_here, insert_apart, remove_here, remove_apart}
use Rattle.fs_model.proofs.LookUpLemmas.{get-found, get-free}
use Rattle.fs_model.proofs.MoveLemmas.{strip-append, strip-is}
use Rattle.fs_model.proofs.MovedTree.{not_above, strip_none, moved-here, moved-below, moved-off, moved-gone, strip_off}
use Rattle.fs_model.proofs.MovedSize.{size_within_free, size_within_found, size_across_free, size_across_found}
use Rattle.fs_model.proofs.PutRows.{below_file, bare_below}
use Rattle.fs_model.proofs.WellFormedStep.{can_move_free, can_move_found}
use Rattle.fs_model.proofs.PathLemmas.{parent_at, name_at}
use Rattle.plain_rows.specs.Moves.{IsBelowMoved}
use Rattle.plain_tree.specs.Moves.{IsMove, held}
use Rattle.plain_tree.proofs.StepLemmas.{bytes_are, same_row}

can_of : (t : Tree) (pn : List ℕ) (pd : Path) (qn : List ℕ) (qd : Path) (row : Row) (b : Bool) → IsMove t (pn ∷ pd) (qn ∷ qd) row b → CanMove t pn pd qn qd row
can_of t pn pd qn qd row b m = record { here = m.here; above = m.above; differ = m.differ; folder = m.folder; bare = m.bare }

-- the size of q's parent after the move
pub moved_size : (t : Tree) (now : Instant) (p q : Path) (row : Row) (b : Bool) → IsMove t p q row b
    → directory_size (moved_tree t now p q row) (parent q) + cond (same_path (parent p) (parent q)) (entry_size (last_name p)) 0 ≡ directory_size t (parent q) + cond b 0 (entry_size (last_name q))
moved_size t now [] q row b m = let bad = m.from_named in cc
moved_size t now (pn ∷ pd) [] row b m = let bad = m.to_named in cc
moved_size t now (pn ∷ pd) (qn ∷ qd) row b m = by_target b (get t (qn ∷ qd)) refl m.target (path_split pd qd)
  where
    can : CanMove t pn pd qn qd row
    can = can_of t pn pd qn qd row b m

    next : Tree
    next = moved_tree t now (pn ∷ pd) (qn ∷ qd) row

    by_target : (c : Bool) (o : Option Row) → get t (qn ∷ qd) ≡ o → is_some (get t (qn ∷ qd)) ≡ c → (pd ≡ qd) ⊎ (pd ≡ qd → ⊥)
        → directory_size next qd + cond (same_path pd qd) (entry_size pn) 0 ≡ directory_size t qd + cond c 0 (entry_size qn)
    by_target true None e h s = let bad : false ≡ true = ap is_some (sym e) ∙ h in cc
    by_target false (Some old) e h s = let bad : true ≡ false = ap is_some (sym e) ∙ h in cc
    by_target true (Some old) e h (inl s) =
        let in_one = ap (λ z. cond (same_path z qd) (entry_size pn) 0) s ∙ ap (λ z. cond z (entry_size pn) 0) (path_same qd) in
        let size = size_within_found t now pn pd qn qd row can old s e in omega arith
    by_target false None e h (inl s) =
        let in_one = ap (λ z. cond (same_path z qd) (entry_size pn) 0) s ∙ ap (λ z. cond z (entry_size pn) 0) (path_same qd) in
        let size = size_within_free t now pn pd qn qd row can s e in omega arith
    by_target true (Some old) e h (inr d) =
        let in_two = ap (λ z. cond z (entry_size pn) 0) (apart pd qd d) in
        let size = size_across_found t now pn pd qn qd row can old d e in omega arith
    by_target false None e h (inr d) =
        let in_two = ap (λ z. cond z (entry_size pn) 0) (apart pd qd d) in
        let size = size_across_free t now pn pd qn qd row can d e in omega arith

pub left_is : (fs ts : List (List ℕ)) (n : List ℕ) (b : Bool) → 0 < length fs → 0 < length ts → same_path (upward (take (length fs - 1) fs)) (upward (take (length ts - 1) ts)) ≡ b → n ≡ get_or fs (length fs - 1) n
    → cond b (entry_size n) 0 ≡ cond (same_path (parent (upward fs)) (parent (upward ts))) (entry_size (last_name (upward fs))) 0
left_is fs ts n b f t same is =
    ap (λ z. cond z (entry_size n) 0) (sym same)
    ∙ (ap (λ z. cond (same_path z (upward (take (length ts - 1) ts))) (entry_size n) 0) (sym (parent_at fs f))
    ∙ (ap (λ z. cond (same_path (parent (upward fs)) z) (entry_size n) 0) (sym (parent_at ts t))
    ∙ ap (λ z. cond (same_path (parent (upward fs)) (parent (upward ts))) (entry_size z) 0) (sym (name_at fs n f is))))

pub none_left : (fs ts : List (List ℕ)) → 0 < length fs → 0 < length ts → same_path (upward (take (length fs - 1) fs)) (upward (take (length ts - 1) ts)) ≡ false
    → 0 ≡ cond (same_path (parent (upward fs)) (parent (upward ts))) (entry_size (last_name (upward fs))) 0
none_left fs ts f t apart = sym (ap (λ b. cond b (entry_size (last_name (upward fs))) 0)
    (ap (λ z. same_path z (parent (upward ts))) (parent_at fs f) ∙ (ap (same_path (upward (take (length fs - 1) fs))) (parent_at ts t) ∙ apart)))

-- moves that nothing but the limit refuses
pub is_move_found : (t : Tree) (p q : Path) (row old : Row) → IsWellFormed t → is_root p ≡ false → is_root q ≡ false → look t p ≡ Found row → look t q ≡ Found old → is_above p q ≡ false → same_path p q ≡ false
    → ((m : List ℕ) → get t (m ∷ q) ≡ None) → IsMove t p q row true
is_move_found t [] q row old formed np nq here there above same bare = cc
is_move_found t (pn ∷ pd) [] row old formed np nq here there above same bare = cc
is_move_found t (pn ∷ pd) (qn ∷ qd) row old formed np nq here there above same bare =
    let can = can_move_found t pn pd qn qd row old formed.rooted here above there same bare in
    record { here = can.here; from_named = refl; to_named = refl; above = above; differ = can.differ; folder = can.folder; bare = can.bare; target = ap is_some (get-found t (qn ∷ qd) old there) }

pub is_move_free : (t : Tree) (p q : Path) (row : Row) → IsWellFormed t → is_root p ≡ false → is_root q ≡ false → look t p ≡ Found row → look t q ≡ Free → is_above p q ≡ false → IsMove t p q row false
is_move_free t [] q row formed np nq here free above = cc
is_move_free t (pn ∷ pd) [] row formed np nq here free above = cc
is_move_free t (pn ∷ pd) (qn ∷ qd) row formed np nq here free above =
    let can = can_move_free t pn pd qn qd row formed.rooted here above free in
    let gap = get-free t formed.rooted (qn ∷ qd) free in
    record { here = can.here; from_named = refl; to_named = refl; above = above; differ = can.differ; folder = can.folder; bare = can.bare; target = ap is_some gap.1.1.absent }

held_apart : (t : Tree) (q : Path) (a : Attr) (b : Bool) (r : Path) → (r ≡ q → ⊥) → get (held t q a b) r ≡ get t r
held_apart t q a true r d = refl
held_apart t q a false r d = insert_apart t q (record { attr = a; bytes = [] }) r d

held_there : (t : Tree) (q : Path) (a : Attr) (b : Bool) → is_some (get t q) ≡ b → is_some (get (held t q a b) q) ≡ true
held_there t q a true e = e
held_there t q a false e = ap is_some (insert_here t q (record { attr = a; bytes = [] }))

pub no_row : (o : Option Row) → is_some o ≡ false → o ≡ None
no_row None e = refl
no_row (Some row) e = cc

-- the row that was held goes again
pub let_go_is : (t : Tree) (q : Path) (a : Attr) (b : Bool) → is_some (get t q) ≡ b → cond b (held t q a b) (tree.remove (held t q a b) q) ≡ t
let_go_is t q a true e = refl
let_go_is t q a false e = same_map path_total path_exact _ _ (λ r. elim (path_split r q) [
  | inl d ↦ ap (get (tree.remove (tree.insert t q (record { attr = a; bytes = [] })) q)) d ∙ (remove_here (tree.insert t q (record { attr = a; bytes = [] })) q ∙ sym (ap (get t) d ∙ no_row (get t q) e))
  | inr d ↦ remove_apart (tree.insert t q (record { attr = a; bytes = [] })) q r d ∙ insert_apart t q (record { attr = a; bytes = [] }) r d
])

longer : (n : List ℕ) (s q : Path) → n ∷ (s ++ q) ≡ q → ⊥
longer n s q e = omega (arith, ap length e, length-append s q)

-- below a path or there, by its parent
off_parent : (q : Path) (n : List ℕ) (u : Path) → (n ∷ u ≡ q → ⊥) → strip q u ≡ None → strip q (n ∷ u) ≡ None
off_parent q n u d none = strip_none q (n ∷ u) off
  where
    off : (s : Path) → n ∷ u ≡ s ++ q → ⊥
    off [] e = d e
    off (m ∷ s) e = strip_off q u none s (cc)

module _ (t : Tree) (now : Instant) (pn : List ℕ) (pd : Path) (qn : List ℕ) (qd : Path) (row : Row) (b : Bool) (a : Attr) (m : IsMove t (pn ∷ pd) (qn ∷ qd) row b) (t2 : Tree) (moved : IsBelowMoved (held t (qn ∷ qd) a b) t2 (pn ∷ pd) (qn ∷ qd)) where
  abbrev p : Path
  p = pn ∷ pd

  abbrev q : Path
  q = qn ∷ qd

  abbrev t1 : Tree
  t1 = held t q a b

  can : CanMove t pn pd qn qd row
  can = can_of t pn pd qn qd row b m

  -- p isn't below q
  p_off_q : (s : Path) → p ≡ s ++ q → ⊥
  p_off_q [] e = m.differ e
  p_off_q (n ∷ s) e = none-some row (sym (m.bare s n) ∙ (ap (get t) (sym e) ∙ m.here))

  q_off_p : (s : Path) (n : List ℕ) → q ≡ n ∷ (s ++ p) → ⊥
  q_off_p s n e = not_above p q m.above s n e

  pd_off_q : strip q pd ≡ None
  pd_off_q = strip_none q pd (λ s e. p_off_q (pn ∷ s) (ap (λ z. pn ∷ z) e))

  pd_off_p : strip p pd ≡ None
  pd_off_p = strip_none p pd (λ s e. longer pn s p (sym (ap (λ z. pn ∷ z) e)))

  qd_off_q : strip q qd ≡ None
  qd_off_q = strip_none q qd (λ s e. longer qn s q (sym (ap (λ z. qn ∷ z) e)))

  qd_off_p : strip p qd ≡ None
  qd_off_p = strip_none p qd (λ s e. q_off_p s qn (ap (λ z. qn ∷ z) e))

  pub carried_here : get t2 p ≡ Some row
  carried_here = moved.stays pn pd pd_off_q pd_off_p ∙ (held_apart t q a b p m.differ ∙ m.here)

  pub carried_there : is_some (get (tree.remove t2 p) q) ≡ true
  carried_there = ap is_some (remove_apart t2 p q (λ e. m.differ (sym e))) ∙ (ap is_some (moved.stays qn qd qd_off_q qd_off_p) ∙ held_there t q a b m.target)

  abbrev next : Tree
  next = moved_tree t now p q row

  elsewhere : (r : Path) → (r ≡ p → ⊥) → (r ≡ q → ⊥) → get t2 r ≡ get next r
  elsewhere [] dp dq = moved.root ∙ (held_apart t q a b [] dq ∙ sym (moved-off t now pn pd qn qd row can [] (strip_none q [] (no_end q dq)) (strip_none p [] (no_end p dp))))
    where
      no_end : (z : Path) → ([] ≡ z → ⊥) → (s : Path) → [] ≡ s ++ z → ⊥
      no_end z d [] e = d e
      no_end z d (n ∷ s) e = cc
  elsewhere (n ∷ u) dp dq = by_strips (strip q u) (strip p u) refl refl
    where
      by_strips : (x y : Option Path) → strip q u ≡ x → strip p u ≡ y → get t2 (n ∷ u) ≡ get next (n ∷ u)
      by_strips (Some s) y hq hp =
          let is = ap (λ z. n ∷ z) (strip-is q u s hq) in
          ap (get t2) is ∙ (moved.arrived n s ∙ (held_apart t q a b (n ∷ (s ++ p)) (λ e. q_off_p s n (sym e))
          ∙ sym (ap (get next) is ∙ moved-below t now pn pd qn qd row can n s)))
      by_strips None (Some s) hq hp =
          let is = strip-is p u s hp in
          ap (λ z. get t2 (n ∷ z)) is ∙ (moved.gone n s (sym (ap (strip q) is) ∙ hq)
          ∙ sym (moved-gone t now pn pd qn qd row can (n ∷ u) (n ∷ s) (off_parent q n u dq hq) (ap (λ z. strip p (n ∷ z)) is ∙ strip-append p (n ∷ s))))
      by_strips None None hq hp = moved.stays n u hq hp ∙ (held_apart t q a b (n ∷ u) dq ∙ sym (moved-off t now pn pd qn qd row can (n ∷ u) (off_parent q n u dq hq) (off_parent p n u dp hp)))

  pub carried_is : tree.insert (tree.remove t2 p) q (with_ctime row now) ≡ next
  carried_is = same_map path_total path_exact _ _ (λ r. elim (path_split r q) [
    | inl e ↦ ap (get (tree.insert (tree.remove t2 p) q (with_ctime row now))) e ∙ (insert_here (tree.remove t2 p) q (with_ctime row now) ∙ sym (ap (get next) e ∙ moved-here t now pn pd qn qd row can))
    | inr dq ↦ insert_apart (tree.remove t2 p) q (with_ctime row now) r dq ∙ elim (path_split r p) [
      | inl e ↦ ap (get (tree.remove t2 p)) e ∙ (remove_here t2 p ∙ sym (ap (get next) e ∙ moved-gone t now pn pd qn qd row can p [] (strip_none q p p_off_q) (strip-append p [])))
      | inr dp ↦ remove_apart t2 p r dp ∙ elsewhere r dp dq
    ]
  ])

-- the same for any two paths
pub here_after : (t : Tree) (now : Instant) (p q : Path) (row : Row) (b : Bool) (a : Attr) → IsMove t p q row b → (t2 : Tree) → IsBelowMoved (held t q a b) t2 p q → get t2 p ≡ Some row
here_after t now [] q row b a m t2 moved = let bad = m.from_named in cc
here_after t now (pn ∷ pd) [] row b a m t2 moved = let bad = m.to_named in cc
here_after t now (pn ∷ pd) (qn ∷ qd) row b a m t2 moved = carried_here t now pn pd qn qd row b a m t2 moved

pub there_after : (t : Tree) (now : Instant) (p q : Path) (row : Row) (b : Bool) (a : Attr) → IsMove t p q row b → (t2 : Tree) → IsBelowMoved (held t q a b) t2 p q → is_some (get (tree.remove t2 p) q) ≡ true
there_after t now [] q row b a m t2 moved = let bad = m.from_named in cc
there_after t now (pn ∷ pd) [] row b a m t2 moved = let bad = m.to_named in cc
there_after t now (pn ∷ pd) (qn ∷ qd) row b a m t2 moved = carried_there t now pn pd qn qd row b a m t2 moved

pub moved_after : (t : Tree) (now : Instant) (p q : Path) (row : Row) (b : Bool) (a : Attr) → IsMove t p q row b → (t2 : Tree) → IsBelowMoved (held t q a b) t2 p q → tree.insert (tree.remove t2 p) q (with_ctime row now) ≡ moved_tree t now p q row
moved_after t now [] q row b a m t2 moved = let bad = m.from_named in cc
moved_after t now (pn ∷ pd) [] row b a m t2 moved = let bad = m.to_named in cc
moved_after t now (pn ∷ pd) (qn ∷ qd) row b a m t2 moved = carried_is t now pn pd qn qd row b a m t2 moved

pub bare_held : (t : Tree) (p q : Path) (row : Row) (b : Bool) (a : Attr) → IsMove t p q row b → (s : Path) (n : List ℕ) → get (held t q a b) (n ∷ (s ++ q)) ≡ None
bare_held t p q row b a m s n = held_apart t q a b (n ∷ (s ++ q)) (longer n s q) ∙ m.bare s n

pub there_held : (t : Tree) (p q : Path) (row : Row) (b : Bool) (a : Attr) → IsMove t p q row b → is_some (get (held t q a b) q) ≡ true
there_held t p q row b a m = held_there t q a b m.target

pub is_there : (o : Option Row) → is_some o ≡ true → IsSome o
is_there None e = cc
is_there (Some row) e = refl

pub one_row : (t : Tree) (p : Path) (x y : Row) → get t p ≡ Some x → get t p ≡ Some y → x ≡ y
one_row t p x y e f = let both : Some x ≡ Some y = sym e ∙ f in cc

-- nothing below a file or a link
pub leaf_held : (t : Tree) (p q : Path) (row : Row) (b : Bool) (a : Attr) → IsRooted t → IsMove t p q row b → is_directory row.attr.kind ≡ false → (s : Path) (n : List ℕ) → get (held t q a b) (n ∷ (s ++ p)) ≡ None
leaf_held t p q row b a rooted m file s n =
    held_apart t q a b (n ∷ (s ++ p)) (λ e. not_above p q m.above s n (sym e))
    ∙ bare_below t p rooted (below_file t p row rooted m.here file) s n

pub below_alone : (t : Tree) (p q : Path) → ((s : Path) (n : List ℕ) → get t (n ∷ (s ++ q)) ≡ None) → ((s : Path) (n : List ℕ) → get t (n ∷ (s ++ p)) ≡ None) → IsBelowMoved t t p q
below_alone t p q bare leaf = record {
  root = refl;
  arrived = λ n s. bare s n ∙ sym (leaf s n);
  gone = λ n s _. leaf s n;
  stays = λ n r _ _. refl;
}

-- the row set at q after all that
pub arrived_is : (t : Tree) (now : Instant) (p q : Path) (row : Row) (b : Bool) (a : Attr) → IsMove t p q row b → (held_tree t2 t3 new : Tree) → held_tree ≡ held t q a b → IsBelowMoved held_tree t2 p q → t3 ≡ tree.remove t2 p
    → (attr arr : Attr) (bytes : List ℕ) → row.attr ≡ attr → arr ≡ record attr { ctime = now } → option_map (λ (r : Row). r.bytes) (get t2 p) ≡ Some bytes → new ≡ tree.insert t3 q (record { attr = arr; bytes = bytes })
    → (other : Row) → IsMove t p q other b → new ≡ moved_tree t now p q other
arrived_is t now p q row b a m held_tree t2 t3 new held_is below removed attr arr bytes of arrives taken set other o =
    let moved : IsBelowMoved (held t q a b) t2 p q = subst (λ z. IsBelowMoved z t2 p q) held_is below in
    let content : bytes ≡ row.bytes = bytes_are (get t2 p) row bytes (here_after t now p q row b a m t2 moved) taken in
    let attrs : arr ≡ (with_ctime row now).attr = arrives ∙ ap (λ (z : Attr). record z { ctime = now }) (sym of) in
    set
    ∙ (ap (λ z. tree.insert z q (record { attr = arr; bytes = bytes })) removed
    ∙ (ap (tree.insert (tree.remove t2 p) q) (same_row (with_ctime row now) arr bytes attrs content)
    ∙ (moved_after t now p q row b a m t2 moved
    ∙ ap (moved_tree t now p q) (one_row t p row other m.here o.here))))

-- what holding a row answers
pub held_kept : (t : Tree) (q : Path) (a : Attr) (b : Bool) → b ≡ true → t ≡ held t q a b
held_kept t q a b e = sym (ap (λ z. cond z t (tree.insert t q (record { attr = a; bytes = [] }))) e)

pub held_new : {A E : Type 0} (t new : Tree) (q : Path) (a : Attr) (b : Bool) (bytes : List ℕ) (r : Result A E) → b ≡ false → bytes ≡ [] → OnOk r (new ≡ tree.insert t q (record { attr = a; bytes = bytes })) → OnOk r (new ≡ held t q a b)
held_new t new q a b bytes (Ok x) e none is = is ∙ (ap (λ z. tree.insert t q (record { attr = a; bytes = z })) none ∙ sym (ap (λ z. cond z t (tree.insert t q (record { attr = a; bytes = [] }))) e))
held_new t new q a b bytes (Err x) e none is = tt
