-- A move, over the blobs that show the tree: an entry goes, another comes, and the moved blob gets another parent.
use Rattle.std.specs.Prelude.{◌≡◌, ℕ, true, cond, List, [], ◌∷◌, ◌++◌, length, is_some, Option, Some, None}
use Rattle.std.proofs.Common.{refl, sym, ◌∙◌, ap, subst, inl, inr, arith, length-append}
use Rattle.std.specs.FinMap.{get, insert, remove, same_map}
use Rattle.std.proofs.lemmas.Option.{same_Some, none-some}
use Rattle.block_id.proofs.Options.{none_is}
use Rattle.fs_blobs.specs.blob_api.BlobMap.{Id, BlobMap}
use Rattle.fs_model.specs.declared.attr.Kind.TheVariants.{Directory}
use Rattle.fs_model.specs.Instant.{Instant}
use Rattle.fs_model.specs.Tree.{Path, Row, Tree, is_folder, IsWellFormed}
use Rattle.fs_model.specs.Move.{CanMove, under, strip, moved_by, moved, renamed}
use Rattle.fs_model.specs.Step.{with_ctime, moved_tree}
use Rattle.fs_model.proofs.TreeLemmas.{same_name, path_total, path_exact, path_same, path_split, apart, remove_here, remove_apart}
use Rattle.fs_model.proofs.MoveLemmas.{strip-append, strip-is}
use Rattle.fs_model.proofs.MovedTree.{not_above, strip_none, moved-here, moved-below, moved-off, moved-gone}
use Rattle.fs_blobs.specs.Headers.{blob}
use Rattle.dir_entries.specs.Layout.{EntryTarget}
use Rattle.fs_blobs.proofs.Parts.{map_here}
use Rattle.path_walks.specs.Nodes.{Look, Lists, IsBodyOf, IsForest}
use Rattle.path_walks.specs.Shows.{above, target_for, entries_at, ShowsBy}
use Rattle.path_walks.proofs.Forests.{blob_set, Carries, paths_renamed}
use Rattle.path_walks.specs.Midst.{with_entry, with_parent, moved_ids}
use Rattle.path_walks.proofs.Shown.{folder_row, entry_here, entry_apart, entry_set}

parent_here : (parents : Path → Id) (d : Path) (new : Id) → with_parent parents d new d ≡ new
parent_here parents d new = ap (λ b. cond b new (parents d)) (path_same d)

parent_apart : (parents : Path → Id) (d : Path) (new : Id) (p : Path) → (p ≡ d → ⊥) → with_parent parents d new p ≡ parents p
parent_apart parents d new p differ = ap (λ b. cond b new (parents p)) (apart p d differ)

-- the header of the blob at d names another parent
pub parent_set : (m : BlobMap) (t : Tree) (ids : Path → Id) (parents : Path → Id) (looks : Path → Look) → IsForest m t ids parents looks
    → (d : Path) (row : Row) → get t d ≡ Some row → (new : Id) (body : List ℕ) → IsBodyOf row.attr.kind row.bytes (looks d) body
    → IsForest (insert m (ids d) (blob row.attr.kind new body)) t ids (with_parent parents d new) looks
parent_set m t ids parents looks forest d row there new body content =
    blob_set m t ids parents looks forest d (ap is_some there) (blob row.attr.kind new body) t row (with_parent parents d new) looks there (λ p differ. refl)
    (record { body = body; there = map_here m (ids d) (blob row.attr.kind new body) ∙ ap (λ z. Some (blob row.attr.kind z body)) (sym (parent_here parents d new)); content = content })
    (λ p s differ. sym (parent_apart parents d new p differ))
    (λ p s differ n. refl)

above_off : (a : Path) (n : List ℕ) (r : Path) → strip a (n ∷ r) ≡ None → strip a r ≡ None
above_off a n r none = strip_none a r (λ s e. none-some (n ∷ s) (sym none ∙ (ap (λ z. strip a (n ∷ z)) e ∙ strip-append a (n ∷ s))))

below_off : (a : Path) (n : List ℕ) (r : Path) → strip a r ≡ None → (n ∷ r ≡ a → ⊥) → strip a (n ∷ r) ≡ None
below_off a n r none differ = ap (λ b. cond b (Some []) (under n (strip a r))) (apart a (n ∷ r) (λ e. differ (sym e))) ∙ ap (under n) none

-- a move to a path that is free
module _ (m : BlobMap) (root : Id) (t : Tree) (ids : Path → Id) (shows : ShowsBy m root t ids)
    (now : Instant) (pn : List ℕ) (pd : Path) (qn : List ℕ) (qd : Path) (row : Row) (can : CanMove t pn pd qn qd row) (free : get t (qn ∷ qd) ≡ None) where
  abbrev p : Path
  p = pn ∷ pd

  abbrev q : Path
  q = qn ∷ qd

  abbrev target : EntryTarget
  target = record { attr = (with_ctime row now).attr; blob = ids p }

  -- the entries without p
  abbrev pub looks_without : Path → Look
  looks_without = with_entry (entries_at t ids) p None

  -- the entries without p and with q
  abbrev pub looks_with : Path → Look
  looks_with = with_entry looks_without q (Some target)

  pub from_without : (listed : List ℕ) → Lists (λ k. cond (same_name k pn) None (entries_at t ids pd k)) listed
      → IsForest (insert m (ids pd) (blob Directory (above ids pd) listed)) t ids (above ids) looks_without
  from_without listed lists = entry_set m t ids (above ids) (entries_at t ids) shows.forest pd (folder_row t pd (shows.well_formed.rooted.parents pn pd (ap is_some can.here))) pn None listed lists

  module _ (m1 : BlobMap) (forest1 : IsForest m1 t ids (above ids) looks_without) where
    pub onto_with : (listed : List ℕ) → Lists (λ k. cond (same_name k qn) (Some target) (looks_without qd k)) listed
        → IsForest (insert m1 (ids qd) (blob Directory (above ids qd) listed)) t ids (above ids) looks_with
    onto_with listed lists = entry_set m1 t ids (above ids) looks_without forest1 qd (folder_row t qd can.folder) qn (Some target) listed lists

  abbrev next : Tree
  next = moved_tree t now p q row

  -- where the node at a path of the next tree was
  abbrev from : Path → Path
  from r = moved q p r

  abbrev onto : Path → Path
  onto o = moved p q o

  abbrev pub ids_moved : Path → Id
  ids_moved = moved_ids ids p q

  from_below : (s : Path) → from (s ++ q) ≡ s ++ p
  from_below s = ap (λ o. moved_by o p (s ++ q)) (strip-append q s)

  pub from_off : (r : Path) → strip q r ≡ None → from r ≡ r
  from_off r none = ap (λ o. moved_by o p r) none

  onto_below : (s : Path) → onto (s ++ p) ≡ s ++ q
  onto_below s = ap (λ o. moved_by o q (s ++ p)) (strip-append p s)

  onto_off : (o : Path) → strip p o ≡ None → onto o ≡ o
  onto_off o none = ap (λ z. moved_by z q o) none

  pub below_p : (n : List ℕ) (s : Path) → n ∷ (s ++ p) ≡ p → ⊥
  below_p n s e = omega (arith, ap length e, length-append s p)

  pub below_q : (n : List ℕ) (s : Path) → n ∷ (s ++ p) ≡ q → ⊥
  below_q n s e = not_above p q can.above s n (sym e)

  pub qd_off_q : strip q qd ≡ None
  qd_off_q = strip_none q qd (λ s e. omega (arith, ap length e, length-append s q))

  p_off_q : strip q p ≡ None
  p_off_q = elim (strip q p) as (λ o. strip q p ≡ o → strip q p ≡ None) [
    | None ↦ λ e. e
    | Some s ↦ λ e. absurd (below s (strip-is q p s e))
  ] refl
    where
      below : (s : Path) → p ≡ s ++ q → ⊥
      below [] e = can.differ e
      below (n ∷ s) e = none-some row (sym (can.bare s n) ∙ (ap (get t) (sym e) ∙ can.here))

  -- ---- the entries of the node that was at a path

  look_below : (s : Path) (n : List ℕ) → looks_with (s ++ p) n ≡ entries_at next ids_moved (s ++ q) n
  look_below s n =
      entry_apart looks_without q (Some target) (s ++ p) n (below_q n s)
      ∙ (entry_apart (entries_at t ids) p None (s ++ p) n (below_p n s)
      ∙ (ap (λ z. target_for (ids z) (get t (n ∷ (s ++ p)))) (sym (from_below (n ∷ s)))
      ∙ ap (target_for (ids_moved (n ∷ (s ++ q)))) (sym (moved-below t now pn pd qn qd row can n s))))

  pub look_off : (r : Path) → strip q r ≡ None → strip p r ≡ None → (n : List ℕ) → looks_with r n ≡ entries_at next ids_moved r n
  look_off r off_q off_p n = elim (path_split (n ∷ r) q) [
    | inl e ↦
        entry_here looks_without q (Some target) r n e
        ∙ (ap (λ z. target_for (ids z) (Some (with_ctime row now))) (sym (from_below []))
        ∙ (ap (target_for (ids_moved q)) (sym (moved-here t now pn pd qn qd row can))
        ∙ ap (λ z. target_for (ids_moved z) (get next z)) (sym e)))
    | inr not_q ↦ entry_apart looks_without q (Some target) r n not_q ∙ elim (path_split (n ∷ r) p) [
      | inl e ↦
          entry_here (entries_at t ids) p None r n e
          ∙ (ap (target_for (ids_moved p)) (sym (moved-gone t now pn pd qn qd row can p [] p_off_q (strip-append p [])))
          ∙ ap (λ z. target_for (ids_moved z) (get next z)) (sym e))
      | inr not_p ↦
          let none_q = below_off q n r off_q not_q in
          entry_apart (entries_at t ids) p None r n not_p
          ∙ (ap (λ z. target_for (ids z) (get t (n ∷ r))) (sym (from_off (n ∷ r) none_q))
          ∙ ap (target_for (ids_moved (n ∷ r))) (sym (moved-off t now pn pd qn qd row can (n ∷ r) none_q (below_off p n r off_p not_p))))
    ]
  ]

  above_under : (n : List ℕ) (s : Path) → with_parent (above ids) p (ids qd) (n ∷ (s ++ p)) ≡ above ids_moved (n ∷ (s ++ q))
  above_under n s = parent_apart (above ids) p (ids qd) (n ∷ (s ++ p)) (below_p n s) ∙ ap ids (sym (from_below s))

  above_elsewhere : (r : Path) → strip q r ≡ None → (r ≡ p → ⊥) → with_parent (above ids) p (ids qd) r ≡ above ids_moved r
  above_elsewhere [] off_q not_p = parent_apart (above ids) p (ids qd) [] not_p
  above_elsewhere (n ∷ r) off_q not_p = parent_apart (above ids) p (ids qd) (n ∷ r) not_p ∙ ap ids (sym (from_off r (above_off q n r off_q)))

  -- ---- each row of the next tree

  abbrev Comes : Path → Row → Path → Type 0
  Comes r row2 o = Carries t (with_parent (above ids) p (ids qd)) looks_with row2 (above ids_moved r) (entries_at next ids_moved r) o × (onto o ≡ r)

  comes_here : (row2 : Row) → get next q ≡ Some row2 → Comes q row2 p
  comes_here row2 there =
      let same : with_ctime row now ≡ row2 = same_Some _ _ (sym (moved-here t now pn pd qn qd row can) ∙ there) in (
        record {
          row = row;
          there = can.here;
          kind = ap (λ (z : Row). z.attr.kind) same;
          bytes = ap (λ (z : Row). z.bytes) same;
          parent = parent_here (above ids) p (ids qd) ∙ ap ids (sym (from_off qd qd_off_q));
          look = look_below [];
        },
        onto_below [],
      )

  comes_below : (n : List ℕ) (s : Path) (row2 : Row) → get next (n ∷ (s ++ q)) ≡ Some row2 → Comes (n ∷ (s ++ q)) row2 (n ∷ (s ++ p))
  comes_below n s row2 there =
      (record { row = row2; there = sym (moved-below t now pn pd qn qd row can n s) ∙ there; kind = refl; bytes = refl; parent = above_under n s; look = look_below (n ∷ s) }, onto_below (n ∷ s))

  comes_off : (r : Path) (row2 : Row) → get next r ≡ Some row2 → strip q r ≡ None → (o : Option Path) → strip p r ≡ o → Comes r row2 r
  comes_off r row2 there off_q (Some s) h = absurd (none-some row2 (sym (moved-gone t now pn pd qn qd row can r s off_q h) ∙ there))
  comes_off r row2 there off_q None h = (
    record {
      row = row2;
      there = sym (moved-off t now pn pd qn qd row can r off_q h) ∙ there;
      kind = refl;
      bytes = refl;
      parent = above_elsewhere r off_q (λ e. none-some [] (sym h ∙ (ap (strip p) e ∙ strip-append p [])));
      look = look_off r off_q h;
    },
    onto_off r h,
  )

  comes : (r : Path) (row2 : Row) → get next r ≡ Some row2 → (o : Option Path) → strip q r ≡ o → Comes r row2 (moved_by o p r)
  comes r row2 there (Some []) h =
      let is : r ≡ q = strip-is q r [] h in
      subst (λ z. Comes z row2 p) (sym is) (comes_here row2 (ap (get next) (sym is) ∙ there))
  comes r row2 there (Some (n ∷ s)) h =
      let is : r ≡ n ∷ (s ++ q) = strip-is q r (n ∷ s) h in
      subst (λ z. Comes z row2 (n ∷ (s ++ p))) (sym is) (comes_below n s row2 (ap (get next) (sym is) ∙ there))
  comes r row2 there None h = comes_off r row2 there h (strip p r) refl

  -- ---- each row of the tree before

  goes : (o : Path) → is_some (get t o) ≡ true → (z : Option Path) → strip p o ≡ z → (is_some (get next (moved_by z q o)) ≡ true) × (from (moved_by z q o) ≡ o)
  goes o s (Some []) h = (ap is_some (moved-here t now pn pd qn qd row can), from_below [] ∙ sym (strip-is p o [] h))
  goes o s (Some (n ∷ z)) h =
      let is : o ≡ n ∷ (z ++ p) = strip-is p o (n ∷ z) h in
      (ap is_some (moved-below t now pn pd qn qd row can n z) ∙ (ap (λ x. is_some (get t x)) (sym is) ∙ s), from_below (n ∷ z) ∙ sym is)
  goes o s None h = (ap is_some (moved-off t now pn pd qn qd row can o off_q h) ∙ s, from_off o off_q)
    where
      below : (z : Path) → o ≡ z ++ q → ⊥
      below [] e = none_is (get t o) (ap (get t) e ∙ free) s
      below (n ∷ z) e = none_is (get t o) (ap (get t) e ∙ can.bare z n) s

      off_q : strip q o ≡ None
      off_q = strip_none q o below

  root_stays : ids_moved [] ≡ root
  root_stays = ap ids (from_off [] (strip_none q [] (λ s e. omega (arith, ap length e, length-append s q)))) ∙ shows.at_root

  module _ (m2 : BlobMap) (forest2 : IsForest m2 t ids (above ids) looks_with) where
    pub moved_shows : (body : List ℕ) → IsBodyOf row.attr.kind row.bytes (looks_with p) body → IsWellFormed next
        → ShowsBy (insert m2 (ids p) (blob row.attr.kind (ids qd) body)) root next ids_moved
    moved_shows body content well_formed =
        let m3 = insert m2 (ids p) (blob row.attr.kind (ids qd) body) in
        record {
          well_formed = well_formed;
          wide = shows.wide;
          at_root = root_stays;
          forest = paths_renamed m3 t ids (with_parent (above ids) p (ids qd)) looks_with
              (parent_set m2 t ids (above ids) looks_with forest2 p row can.here (ids qd) body content)
              next (above ids_moved) (entries_at next ids_moved) from onto
              (λ r row2 there. comes r row2 there (strip q r) refl)
              (λ o s. goes o s (strip p o) refl);
        }

-- ---- where something stood at q, the move is one onto the path that is free after it went

remove_again : (t : Tree) (q : Path) → remove (remove t q) q ≡ remove t q
remove_again t q = same_map path_total path_exact (remove (remove t q) q) (remove t q) (λ r. elim (path_split r q) [
  | inl e ↦ ap (get (remove (remove t q) q)) e ∙ (remove_here (remove t q) q ∙ sym (ap (get (remove t q)) e ∙ remove_here t q))
  | inr differ ↦ remove_apart (remove t q) q r differ
])

pub moved_after : (t : Tree) (now : Instant) (p q : Path) (row : Row) → moved_tree (remove t q) now p q row ≡ moved_tree t now p q row
moved_after t now p q row = ap (λ z. insert (renamed z p q) q (with_ctime row now)) (remove_again t q)

pub can_move_after : (t : Tree) (pn : List ℕ) (pd : Path) (qn : List ℕ) (qd : Path) (row : Row) → CanMove t pn pd qn qd row → CanMove (remove t (qn ∷ qd)) pn pd qn qd row
can_move_after t pn pd qn qd row can = record {
  here = remove_apart t (qn ∷ qd) (pn ∷ pd) can.differ ∙ can.here;
  above = can.above;
  differ = can.differ;
  folder = ap is_folder (remove_apart t (qn ∷ qd) qd (λ e. omega (arith, ap length e))) ∙ can.folder;
  bare = λ s n. remove_apart t (qn ∷ qd) (n ∷ (s ++ (qn ∷ qd))) (λ e. omega (arith, ap length e, length-append s (qn ∷ qd))) ∙ can.bare s n;
}
