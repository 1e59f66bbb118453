-- Rows of which each stands above the one before are in order.
use Rattle.std.proofs.Common.{◌≡◌, ℕ, ◌+◌, ◌<◌, Bool, true, false, List, [], ◌∷◌, length, map, get_or, sym, subst, arith}
use Rattle.std.specs.Prelude.{T, ◌&&◌}
use Rattle.std.specs.List.{AllByRecursion, AllAdjacentBelow}
use Rattle.std.specs.List.Sorted.{IsStrictlySortedBy}
use Rattle.std.specs.declared.cmp.Ordering.TheVariants.{Less}
use Rattle.std.specs.Ordering.{is_lt}
use Rattle.std.specs.FinMap.{is_sorted}
use Rattle.std.specs.FinMap.Entries.{below_all}
use Rattle.std.proofs.lemmas.List.{length-map, get_or-map}
use Rattle.std.proofs.lemmas.Map.Keys.{sorted_from_all_adjacent}
use Rattle.fs_model.specs.declared.reply.ListRow.{ListRow}
use Rattle.fs_model.specs.Tree.{name_cmp}
use Rattle.fs_model.proofs.TreeLemmas.{name_total}
use Rattle.host_attributes.specs.host_folder.Folders.{row_pair, RowsRise}

abbrev pub IsBelow : ListRow → ListRow → Type 0
IsBelow row next = name_cmp row.name next.name ≡ Less

abbrev name_in : ListRow → List ℕ
name_in row = row.name

both_T : (a b : Bool) → T a → T b → T (a && b)
both_T true b p q = q
both_T false b p q = p

below_rows : (n : List ℕ) (rows : List ListRow) → AllByRecursion (λ m. name_cmp n m ≡ Less) (map name_in rows) → T (below_all name_cmp n (map row_pair rows))
below_rows n [] h = tt
below_rows n (row ∷ rows) h = both_T (is_lt (name_cmp n row.name)) (below_all name_cmp n (map row_pair rows)) (subst (λ r. T (is_lt r)) (sym h.0) tt) (below_rows n rows h.1)

rows_sorted : (rows : List ListRow) → IsStrictlySortedBy name_cmp (map name_in rows) → RowsRise rows
unfolding IsStrictlySortedBy
rows_sorted [] h = tt
rows_sorted (row ∷ rows) h = both_T (below_all name_cmp row.name (map row_pair rows)) (is_sorted name_cmp (map row_pair rows)) (below_rows row.name rows h.0) (rows_sorted rows h.1)

pub neighbours_rise : (rows : List ListRow) → AllAdjacentBelow IsBelow rows (length rows) → RowsRise rows
neighbours_rise [] h = tt
neighbours_rise (row ∷ rows) h =
    let all = row ∷ rows in
    rows_sorted all (sorted_from_all_adjacent name_total (map name_in all) row.name (λ k l.
    let lt : k + 1 < length all = subst (λ (n : ℕ). k + 1 < n) (length-map all name_in) l in
    subst (λ (n : List ℕ). name_cmp n (get_or (map name_in all) (k + 1) row.name) ≡ Less) (sym (get_or-map name_in all k row row.name (omega (arith, lt))))
    (subst (λ (n : List ℕ). name_cmp (get_or all k row).name n ≡ Less) (sym (get_or-map name_in all (k + 1) row row.name lt))
    (h k row lt))))
