-- The rows of a tree's directory, as they are listed.
use Rattle.std.proofs.Common.{◌≡◌, ℕ, Bool, true, false, cond, List, [], ◌∷◌, map, refl, ◌∙◌, ap, subst, sym}
use Rattle.std.specs.Prelude.{T, ◌&&◌, Some, None}
use Rattle.std.specs.FinMap.{get, find, entries, is_sorted, get-entries, entries_sorted}
use Rattle.std.specs.FinMap.Entries.{below_all}
use Rattle.std.specs.Ordering.{eq_by_cmp, is_lt}
use Rattle.std.specs.declared.option.Option.{Option}
use Rattle.fs_model.specs.declared.attr.Kind.{Kind}
use Rattle.fs_model.specs.declared.reply.ListRow.{ListRow}
use Rattle.fs_model.specs.Step.{list_row}
use Rattle.fs_model.specs.Tree.{Path, Row, Tree, name_cmp, children}
use Rattle.fs_model.proofs.TreeLemmas.{get-children}
use Rattle.host_folder.specs.Folders.{row_pair}

abbrev pub row_kind : Option Row → Option Kind
row_kind None = None
row_kind (Some row) = Some row.attr.kind

abbrev pairs : List (List ℕ × Row) → List (List ℕ × Kind)
pairs es = map row_pair (map list_row es)

below_pairs : (n : List ℕ) (es : List (List ℕ × Row)) → T (below_all name_cmp n es) → T (below_all name_cmp n (pairs es))
below_pairs n [] h = tt
below_pairs n (e ∷ es) h = by (is_lt (name_cmp n e.0)) (below_all name_cmp n es) (below_all name_cmp n (pairs es)) (below_pairs n es) h
  where
    by : (a b c : Bool) → (T b → T c) → T (a && b) → T (a && c)
    by true b c f h = f h
    by false b c f h = h

sorted_pairs : (es : List (List ℕ × Row)) → T (is_sorted name_cmp es) → T (is_sorted name_cmp (pairs es))
sorted_pairs [] h = tt
sorted_pairs (e ∷ es) h = by (below_all name_cmp e.0 es) (is_sorted name_cmp es) (below_all name_cmp e.0 (pairs es)) (is_sorted name_cmp (pairs es)) (below_pairs e.0 es) (sorted_pairs es) h
  where
    by : (a b c d : Bool) → (T a → T c) → (T b → T d) → T (a && b) → T (c && d)
    by true b true d f g h = g h
    by true b false d f g h = absurd (f tt)
    by false b c d f g h = absurd h

find_pairs : (n : List ℕ) (es : List (List ℕ × Row)) → find name_cmp n (pairs es) ≡ row_kind (find name_cmp n es)
find_pairs n [] = refl
find_pairs n (e ∷ es) = by (eq_by_cmp name_cmp n e.0) (find name_cmp n (pairs es)) (find name_cmp n es) (find_pairs n es)
  where
    by : (b : Bool) (o : Option Kind) (r : Option Row) → o ≡ row_kind r → cond b (Some e.1.attr.kind) o ≡ row_kind (cond b (Some e.1) r)
    by true o r h = refl
    by false o r h = h

pub rows_rise : (t : Tree) (p : Path) (rows : List ListRow) → rows ≡ map list_row (entries (children t p)) → T (is_sorted name_cmp (map row_pair rows))
rows_rise t p rows is = subst (λ rs. T (is_sorted name_cmp (map row_pair rs))) (sym is) (sorted_pairs (entries (children t p)) (entries_sorted (children t p)))

pub rows_each : (t : Tree) (p : Path) (rows : List ListRow) → rows ≡ map list_row (entries (children t p)) → (n : List ℕ) → find name_cmp n (map row_pair rows) ≡ row_kind (get t (n ∷ p))
rows_each t p rows is n =
    ap (λ rs. find name_cmp n (map row_pair rs)) is
    ∙ (find_pairs n (entries (children t p))
    ∙ ap row_kind (sym (get-entries (children t p) n) ∙ get-children t p n))
