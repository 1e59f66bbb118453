-- What the tree of directories has at a path.
use Rattle.std.proofs.Common.{◌≡◌, ℕ, ◌++◌, true, false, Bool, ◌&&◌, cond, T, List, [], ◌∷◌, refl, sym, ◌∙◌, ap, inl, inr}
use Rattle.std.specs.Global.{Box}
use Rattle.std.specs.declared.option.Option.{Option}
use Rattle.std.specs.declared.option.Option.TheVariants.{None, Some}
use Rattle.std.specs.Ordering.{eq_by_cmp}
use Rattle.std.specs.Cmp.{tied_then}
use Rattle.std.specs.FinMap as tree
use Rattle.std.specs.FinMap.{get, find, entries, from_entries, is_sorted, get-from_entries, get-entries, get-insert, get-remove, entries_sorted, same_map}
use Rattle.std.specs.FinMap.Entries.{same_entries}
use Rattle.fs_model.specs.Tree.{Path, Row, name_cmp, path_cmp, same_path, root_row, children}
use Rattle.fs_model.proofs.TreeLemmas.{path_total, path_exact, path_split, path_same, apart, same_path_is, name_total, name_exact}
use Rattle.fs_model.proofs.SizeLemmas.{same_children}
use Rattle.plain_rows.specs.declared.rows.Folder.{Folder}
use Rattle.plain_rows.specs.Rows.{Names, folders, inside, below, flat, tree_of}
use Rattle.plain_rows.proofs.SortedLemmas.{find_below, head_sorted, tail_sorted}

-- the first, if there is one
abbrev first_of_two : Option Row → Option Row → Option Row
first_of_two None z = z
first_of_two (Some row) z = Some row

joins : (a b : Bool) (row : Row) (o z : Option Row) → cond (a && b) (Some row) (cond b (first_of_two o z) z) ≡ cond b (first_of_two (cond a (Some row) o) z) z
joins true true row o z = refl
joins true false row o z = refl
joins false true row o z = refl
joins false false row o z = refl

none_first : (b : Bool) (z : Option Row) → z ≡ cond b z z
none_first true z = refl
none_first false z = refl

find_below_path : (n : List ℕ) (q u : Path) (es : Names) (rest : List (Path × Row))
    → find path_cmp (n ∷ q) (below u es ++ rest) ≡ cond (same_path q u) (first_of_two (find name_cmp n es) (find path_cmp (n ∷ q) rest)) (find path_cmp (n ∷ q) rest)
find_below_path n q u [] rest = none_first (same_path q u) (find path_cmp (n ∷ q) rest)
find_below_path n q u (e ∷ es) rest =
    ap (cond (same_path (n ∷ q) (e.0 ∷ u)) (Some e.1)) (find_below_path n q u es rest)
    ∙ (ap (λ b. cond b (Some e.1) (cond (same_path q u) (first_of_two (find name_cmp n es) (find path_cmp (n ∷ q) rest)) (find path_cmp (n ∷ q) rest))) (sym (tied_then (name_cmp n e.0) (path_cmp q u)))
    ∙ joins (eq_by_cmp name_cmp n e.0) (same_path q u) e.1 (find name_cmp n es) (find path_cmp (n ∷ q) rest))

alone : (o : Option Row) → first_of_two o None ≡ o
alone None = refl
alone (Some row) = refl

flat-find : (n : List ℕ) (q : Path) (fs : List (Path × Names)) → T (is_sorted path_cmp fs) → find path_cmp (n ∷ q) (flat fs) ≡ inside (find path_cmp q fs) n
flat-find n q [] h = refl
flat-find n q (f ∷ fs) h =
    find_below_path n q f.0 f.1 (flat fs)
    ∙ (ap (λ z. cond (same_path q f.0) (first_of_two (find name_cmp n f.1) z) z) (flat-find n q fs (tail_sorted path_total f fs h))
    ∙ elim (same_path q f.0) as (λ b. same_path q f.0 ≡ b → cond b (first_of_two (find name_cmp n f.1) (inside (find path_cmp q fs) n)) (inside (find path_cmp q fs) n) ≡ inside (cond b (Some f.1) (find path_cmp q fs)) n) [
      | true ↦ λ e.
          let none : find path_cmp q fs ≡ None = ap (λ z. find path_cmp z fs) (same_path_is q f.0 e) ∙ find_below path_total f.0 fs (head_sorted path_total f fs h) in
          ap (λ z. first_of_two (find name_cmp n f.1) (inside z n)) none ∙ alone (find name_cmp n f.1)
      | false ↦ λ e. refl
    ] refl)

-- the row at a name in a directory
pub get_named : (fs : List (Box Folder)) (n : List ℕ) (q : Path) → T (is_sorted path_cmp (folders fs)) → get (tree_of fs) (n ∷ q) ≡ inside (find path_cmp q (folders fs)) n
unfolding tree_of
get_named fs n q h = get-from_entries path_total (([], root_row) ∷ flat (folders fs)) (n ∷ q) ∙ flat-find n q (folders fs) h

pub get_root : (fs : List (Box Folder)) → get (tree_of fs) [] ≡ Some root_row
unfolding tree_of
get_root fs = get-from_entries path_total (([], root_row) ∷ flat (folders fs)) []

-- directories in which the same rows are found are the same tree
pub same_tree : (fs gs : List (Box Folder)) → T (is_sorted path_cmp (folders fs)) → T (is_sorted path_cmp (folders gs))
    → ((q : Path) → find path_cmp q (folders fs) ≡ find path_cmp q (folders gs)) → tree_of fs ≡ tree_of gs
same_tree fs gs h k same = same_map path_total path_exact _ _ at
  where
    at : (r : Path) → get (tree_of fs) r ≡ get (tree_of gs) r
    at [] = get_root fs ∙ sym (get_root gs)
    at (n ∷ q) = get_named fs n q h ∙ (ap (λ o. inside o n) (same q) ∙ sym (get_named gs n q k))

and_true : (a : Bool) → (a && true) ≡ a
and_true true = refl
and_true false = refl

and_false : (a : Bool) → (a && false) ≡ false
and_false true = refl
and_false false = refl

-- one row of one directory differs
module _ (old new : List (Box Folder)) (n : List ℕ) (q : Path) (o : Option Row) (h : T (is_sorted path_cmp (folders old))) (k : T (is_sorted path_cmp (folders new)))
    (others : (u : Path) → (u ≡ q → ⊥) → find path_cmp u (folders new) ≡ find path_cmp u (folders old))
    (here : (m : List ℕ) → inside (find path_cmp q (folders new)) m ≡ cond (eq_by_cmp name_cmp m n) o (inside (find path_cmp q (folders old)) m)) where
  same_then : (m : List ℕ) (u : Path) (b : Bool) → same_path u q ≡ b → same_path (m ∷ u) (n ∷ q) ≡ (eq_by_cmp name_cmp m n && b)
  same_then m u b e = sym (tied_then (name_cmp m n) (path_cmp u q)) ∙ ap (λ z. eq_by_cmp name_cmp m n && z) e

  pub edited : (r : Path) → get (tree_of new) r ≡ cond (same_path r (n ∷ q)) o (get (tree_of old) r)
  edited [] = get_root new ∙ sym (get_root old)
  edited (m ∷ u) = get_named new m u k ∙ (elim (path_split u q) [
    | inl e ↦
        ap (λ z. inside (find path_cmp z (folders new)) m) e ∙ (here m
        ∙ (ap (cond (eq_by_cmp name_cmp m n) o) (ap (λ z. inside (find path_cmp z (folders old)) m) (sym e) ∙ sym (get_named old m u h))
        ∙ ap (λ b. cond b o (get (tree_of old) (m ∷ u))) (sym (same_then m u true (ap (λ z. same_path z q) e ∙ path_same q) ∙ and_true (eq_by_cmp name_cmp m n)))))
    | inr d ↦
        ap (λ z. inside z m) (others u d) ∙ (sym (get_named old m u h)
        ∙ ap (λ b. cond b o (get (tree_of old) (m ∷ u))) (sym (same_then m u false (apart u q d) ∙ and_false (eq_by_cmp name_cmp m n))))
  ])

pub inserted_is : (old new : List (Box Folder)) (p : Path) (row : Row) → ((r : Path) → get (tree_of new) r ≡ cond (same_path r p) (Some row) (get (tree_of old) r)) → tree_of new ≡ tree.insert (tree_of old) p row
inserted_is old new p row at = same_map path_total path_exact _ _ (λ r. at r ∙ sym (get-insert path_total (tree_of old) p row r))

pub removed_is : (old new : List (Box Folder)) (p : Path) → ((r : Path) → get (tree_of new) r ≡ cond (same_path r p) None (get (tree_of old) r)) → tree_of new ≡ tree.remove (tree_of old) p
removed_is old new p at = same_map path_total path_exact _ _ (λ r. at r ∙ sym (get-remove path_total (tree_of old) p r))

-- the rows of a directory, which may have none
abbrev pub rows_or : Option Names → Names
rows_or None = []
rows_or (Some es) = es

inside_rows : (o : Option Names) (n : List ℕ) → inside o n ≡ find name_cmp n (rows_or o)
inside_rows None n = refl
inside_rows (Some es) n = refl

-- the children of a path
pub entries-children : (fs : List (Box Folder)) (q : Path) → T (is_sorted path_cmp (folders fs)) → (o : Option Names) → find path_cmp q (folders fs) ≡ o → T (is_sorted name_cmp (rows_or o)) → entries (children (tree_of fs) q) ≡ rows_or o
entries-children fs q h o e up =
    let m = from_entries (rows_or o) in
    ap entries (same_children (tree_of fs) q m (λ n. get_named fs n q h ∙ (ap (λ z. inside z n) e ∙ (inside_rows o n ∙ sym (get-from_entries name_total (rows_or o) n)))))
    ∙ same_entries name_cmp name_total name_exact (entries m) (rows_or o) (entries_sorted m) up (λ n. sym (get-entries m n) ∙ get-from_entries name_total (rows_or o) n)
