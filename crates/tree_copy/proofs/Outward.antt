-- How far a copy into a folder got, of a tree that the replies tell.
use Rattle.std.proofs.Common.{◌≡◌, inl, inr, ℕ, ◌+◌, ◌≤◌, List, [], ◌∷◌, ◌++◌, length, refl, sym, ◌∙◌, ap, subst, arith, append-nil}
use Rattle.std.specs.Prelude.{Some, None, IfSome}
use Rattle.std.specs.FinMap.{get, find, insert, entries, entries-insert, get-entries, entries_sorted, same_map}
use Rattle.std.specs.FinMap.Entries.{by_order, put, same_entries}
use Rattle.std.specs.Ordering.{ordering_reverse}
use Rattle.std.specs.declared.option.Option.{Option}
use Rattle.fs_model.specs.declared.attr.Kind.{Kind}
use Rattle.fs_model.specs.declared.attr.Kind.TheVariants.{Directory}
use Rattle.fs_model.specs.declared.limits.TheConstants.{MAX_PATH_TEXT}
use Rattle.fs_model.specs.Step.{by_kind}
use Rattle.fs_model.specs.Tree.{path_cmp}
use Rattle.fs_model.proofs.TreeLemmas.{path_total, path_exact, path_split}
use Rattle.copy_row.specs.host_folder.Folders.{HostRow, HostPath, HostTree, IsHostTree, IsMade, directory_row, kind_in}
use Rattle.copy_row.proofs.host_folder_lemmas.Inserts.{here, other}
use Rattle.copy_row.specs.copy_laws.declared.copied.Totals.{Totals}
use Rattle.copy_row.specs.copy_laws.Ends.{text_size, up_to}
use Rattle.copy_row.specs.copy_laws.Exporting.{IsBare, IsFrontRow, IsPartOf, OnTold, sum_in, totals_in}
use Rattle.copy_row.specs.copy_laws.Walks.{Met, Todo, todo_in, AreLess, IsWalk}
use Rattle.copy_row.proofs.copy_laws_lemmas.Ending.{of_find, walk_done}
use Rattle.copy_row.proofs.copy_laws_lemmas.Walking.{walk_more, found_left}
use Rattle.copy_row.specs.Reads.{IsRowOut, IsRowPart, with_row}
use Rattle.copy_row.specs.Rows.{none_copied}
use Rattle.tree_copy.specs.Exports.{IsFar, SaysKids}
use Rattle.tree_copy.proofs.Places.{never_root, no_kids, short_push, first_walk}

-- a row behind all others
put_last : (p : HostPath) (row : HostRow) (es : Met) → AreLess es p → put path_cmp p row es ≡ es ++ (p, row) ∷ []
put_last p row [] less = refl
put_last p row (e ∷ es) less =
    ap (λ o. by_order o ((p, row) ∷ e ∷ es) ((e.0, row) ∷ es) (e ∷ put path_cmp p row es)) (path_total.antisymm p e.0 ∙ ap ordering_reverse less.0)
    ∙ ap (λ z. e ∷ z) (put_last p row es less.1)

made_told : (v : HostTree) (after : Option HostTree) (p : HostPath) (k : Kind) (w : List ℕ) (met : Met) → entries v ≡ met → AreLess met p → IsMade (Some v) after p k w
    → (x : HostTree) × ((after ≡ Some x) × (entries x ≡ met ++ (p, record { kind = k; bytes = w }) ∷ []))
made_told v after p k w met e less h = (
  insert v p (record { kind = k; bytes = w }),
  (h.1, entries-insert path_total v p (record { kind = k; bytes = w }) ∙ (ap (put path_cmp p (record { kind = k; bytes = w })) e ∙ put_last p (record { kind = k; bytes = w }) met less)),
)

-- the folder has one row more
made_next : (before mid after : Option HostTree) (p : HostPath) (k : Kind) (w : List ℕ) (met : Met) → OnTold before mid (λ v. entries v ≡ met) → AreLess met p → IsMade mid after p k w
    → OnTold before after (λ v. entries v ≡ met ++ (p, record { kind = k; bytes = w }) ∷ [])
made_next None mid after p k w met none less h = subst (λ z. IsMade z after p k w) none h
made_next (Some first) mid after p k w met (v, (is, e)) less h = made_told v after p k w met e less (subst (λ z. IsMade z after p k w) is h)

-- what was met is a part of the tree
part_met : (u v : HostTree) (met : Met) (todo : Todo) → IsWalk (Some u) met todo → entries v ≡ met → IsPartOf v u
part_met u v met todo w e n r row is = ([], of_find u met (n ∷ r) row w.covers.rows (ap (find path_cmp (n ∷ r)) (sym e) ∙ (sym (get-entries v (n ∷ r)) ∙ is)) ∙ ap (λ b. Some (record { kind = row.kind; bytes = b })) (sym (append-nil row.bytes)))

pub part_told : (u : HostTree) (before mid : Option HostTree) (met : Met) (todo : Todo) → IsWalk (Some u) met todo → OnTold before mid (λ v. entries v ≡ met) → OnTold before mid (λ v. IsPartOf v u)
part_told u None mid met todo w none = none
part_told u (Some first) mid met todo w (v, (is, e)) = (v, (is, part_met u v met todo w e))

part_push : (u v : HostTree) (p : HostPath) (row : HostRow) → IsPartOf v u → IsFrontRow row (get u p) → IsPartOf (insert v p row) u
part_push u v p row part front n r x is = elim (path_split (n ∷ r) p) [
  | inl e ↦
      let same : Some row ≡ Some x = sym (here v p row) ∙ (ap (get (insert v p row)) (sym e) ∙ is) in
      let one : row ≡ x = cc in
      subst (λ z. IsFrontRow z (get u (n ∷ r))) one (subst (λ z. IsFrontRow row (get u z)) (sym e) front)
  | inr differ ↦ part n r x (sym (other v p row (n ∷ r) differ) ∙ is)
]

-- a row more, or a part of it
none_part : (u : HostTree) (mid after : Option HostTree) (p : HostPath) → mid ≡ None → IsRowPart u mid after p → after ≡ None
none_part u mid after p none (inl same) = same ∙ none
none_part u mid after p none (inr (row, (made, front))) = subst (λ z. IsMade z after p row.kind row.bytes) none made

some_part : (u v : HostTree) (mid after : Option HostTree) (p : HostPath) → mid ≡ Some v → IsPartOf v u → IsRowPart u mid after p → (x : HostTree) × ((after ≡ Some x) × IsPartOf x u)
some_part u v mid after p is part (inl same) = (v, (same ∙ is, part))
some_part u v mid after p is part (inr (row, (made, front))) = by (subst (λ z. IsMade z after p row.kind row.bytes) is made)
  where
    by : IsMade (Some v) after p row.kind row.bytes → (x : HostTree) × ((after ≡ Some x) × IsPartOf x u)
    by h = (insert v p row, (h.1, part_push u v p row part front))

pub part_row : (u : HostTree) (before mid after : Option HostTree) (p : HostPath) → OnTold before mid (λ v. IsPartOf v u) → IsRowPart u mid after p → OnTold before after (λ v. IsPartOf v u)
part_row u None mid after p h row = none_part u mid after p h row
part_row u (Some first) mid after p h row = some_part u h.0 mid after p h.1.0 h.1.1 row

-- the counts of rows, one by one
sum_push : (f : HostRow → ℕ) (es : Met) (p : HostPath) (row : HostRow) → (p ≡ [] → ⊥) → sum_in f (es ++ (p, row) ∷ []) ≡ sum_in f es + f row
sum_push f [] [] row some = absurd (some refl)
sum_push f [] (n ∷ r) row some = let none : f row + 0 ≡ 0 + f row = omega arith in none
sum_push f (([], x) ∷ es) p row some = sum_push f es p row some
sum_push f ((n ∷ r, x) ∷ es) p row some =
    let sum : f x + (sum_in f es + f row) ≡ f x + sum_in f es + f row = omega arith in
    ap (λ k. f x + k) (sum_push f es p row some) ∙ sum

up_to_push : (all n k : ℕ) → all ≡ n + k → up_to (up_to n + k) ≡ up_to all
up_to_push all n k e = omega (arith, e)

pub counts_push : (es : Met) (p : HostPath) (row : HostRow) (first totals : Totals) → (p ≡ [] → ⊥) → first ≡ totals_in es → totals ≡ with_row first row.kind (length row.bytes) → totals ≡ totals_in (es ++ (p, row) ∷ [])
counts_push es p row first totals some before now = now ∙ (ap (λ t. with_row t row.kind (length row.bytes)) before ∙ all)
  where
    all : with_row (totals_in es) row.kind (length row.bytes) ≡ totals_in (es ++ (p, row) ∷ [])
    all =
        let dirs = up_to_push (sum_in (λ x. by_kind x.kind 1 0 0) (es ++ (p, row) ∷ [])) (sum_in (λ x. by_kind x.kind 1 0 0) es) (by_kind row.kind 1 0 0) (sum_push (λ x. by_kind x.kind 1 0 0) es p row some) in
        let files = up_to_push (sum_in (λ x. by_kind x.kind 0 1 0) (es ++ (p, row) ∷ [])) (sum_in (λ x. by_kind x.kind 0 1 0) es) (by_kind row.kind 0 1 0) (sum_push (λ x. by_kind x.kind 0 1 0) es p row some) in
        let links = up_to_push (sum_in (λ x. by_kind x.kind 0 0 1) (es ++ (p, row) ∷ [])) (sum_in (λ x. by_kind x.kind 0 0 1) es) (by_kind row.kind 0 0 1) (sum_push (λ x. by_kind x.kind 0 0 1) es p row some) in
        let bytes = up_to_push (sum_in (λ x. by_kind x.kind 0 (length x.bytes) 0) (es ++ (p, row) ∷ [])) (sum_in (λ x. by_kind x.kind 0 (length x.bytes) 0) es) (by_kind row.kind 0 (length row.bytes) 0) (sum_push (λ x. by_kind x.kind 0 (length x.bytes) 0) es p row some) in
        λ i. record { dirs = dirs i; files = files i; links = links i; bytes = bytes i }

-- the row that is the next isn't the root
pub far_some : (u : HostTree) (before mid : Option HostTree) (p : HostPath) (k : Kind) (todo : Todo) (totals : Totals) → IsFar u before mid ((p, k) ∷ todo) totals → p ≡ [] → ⊥
far_some u before mid p k todo totals x = never_root x.met p x.walk.ahead.0 x.root

pub far_kind : (u : HostTree) (before mid : Option HostTree) (p : HostPath) (k : Kind) (todo : Todo) (totals : Totals) → IsFar u before mid ((p, k) ∷ todo) totals → kind_in (get u p) ≡ Some k
far_kind u before mid p k todo totals x = x.walk.covers.kinds.0

row_kind : (u : HostTree) (p : HostPath) (k : Kind) (row : HostRow) → kind_in (get u p) ≡ Some k → get u p ≡ Some row → row.kind ≡ k
row_kind u p k row h e = let is : Some row.kind ≡ Some k = sym (ap kind_in e) ∙ h in cc

-- the next row is in the folder, and these are its children
pub far_next : (u : HostTree) (before mid after : Option HostTree) (p : HostPath) (k : Kind) (todo : Todo) (first totals : Totals) (kids : List (List ℕ × Kind)) → IsFar u before mid ((p, k) ∷ todo) first → text_size p ≤ MAX_PATH_TEXT
    → IsRowOut u mid after p first totals → SaysKids u p kids → IsFar u before after (todo_in p kids ++ todo) totals
far_next u before mid after p k todo first totals kids x short r s = record {
  met = x.met ++ (p, r.row) ∷ [];
  walk = walk_more (Some u) x.met p k todo r.row kids x.walk (λ e. x.walk.covers.tree.plain p r.row r.there e) s.rise (record { here = r.there; each = s.each });
  root = found_left [] x.met ((p, r.row) ∷ []) x.root;
  short = short_push [] x.met p r.row x.short short;
  made = made_next before mid after p r.row.kind r.row.bytes x.met x.made x.walk.ahead.0 r.made;
  counts = counts_push x.met p r.row first totals (far_some u before mid p k todo first x) x.counts r.counts;
}

pub far_leaf : (u : HostTree) (before mid after : Option HostTree) (p : HostPath) (k : Kind) (todo : Todo) (first totals : Totals) → IsFar u before mid ((p, k) ∷ todo) first → text_size p ≤ MAX_PATH_TEXT
    → IsRowOut u mid after p first totals → (k ≡ Directory → ⊥) → IsFar u before after todo totals
far_leaf u before mid after p k todo first totals x short r leaf =
    far_next u before mid after p k todo first totals [] x short r
    (record { rise = tt; each = no_kids (Some u) x.met p k todo r.row x.walk (row_kind u p k r.row x.walk.covers.kinds.0 r.there) leaf r.there })

pub far_part : (u : HostTree) (before mid : Option HostTree) (todo : Todo) (totals : Totals) → IsFar u before mid todo totals → OnTold before mid (λ v. IsPartOf v u)
far_part u before mid todo totals x = part_told u before mid x.met todo x.walk x.made

-- the row is in the folder whole, which is a part of the tree as well
pub row_part : (u : HostTree) (mid after : Option HostTree) (p : HostPath) (first totals : Totals) → IsRowOut u mid after p first totals → IsRowPart u mid after p
row_part u mid after p first totals r = inr (r.row, (r.made, ([], r.there ∙ ap (λ b. Some (record { kind = r.row.kind; bytes = b })) (sym (append-nil r.row.bytes)))))

-- a folder without rows
bare_entries : (t : HostTree) → IsHostTree t → IsBare t → entries t ≡ ([], directory_row) ∷ []
bare_entries t tree bare = sym (same_entries path_cmp path_total path_exact (([], directory_row) ∷ []) (entries t) tt (entries_sorted t) (λ q. by q ∙ get-entries t q))
  where
    by : (q : HostPath) → find path_cmp q (([], directory_row) ∷ []) ≡ get t q
    by [] = sym tree.root
    by (n ∷ r) = sym (bare n r)

pub bare_made : (before : Option HostTree) → IfSome before IsHostTree → IfSome before IsBare → OnTold before before (λ v. entries v ≡ ([], directory_row) ∷ [])
bare_made None tree bare = refl
bare_made (Some t) tree bare = (t, (refl, bare_entries t tree bare))

pub bare_part : (u : HostTree) (before : Option HostTree) → IfSome before IsBare → OnTold before before (λ v. IsPartOf v u)
bare_part u None bare = refl
bare_part u (Some t) bare = (t, (refl, λ n r row is. never n r row is))
  where
    never : (n : List ℕ) (r : HostPath) (row : HostRow) → get t (n ∷ r) ≡ Some row → IsFrontRow row (get u (n ∷ r))
    never n r row is = let bad : None ≡ Some row = sym (bare n r) ∙ is in absurd cc

-- before the first row
pub far_none : (u : HostTree) (before : Option HostTree) (kids : List (List ℕ × Kind)) → IsHostTree u → IfSome before IsHostTree → IfSome before IsBare → SaysKids u [] kids → IsFar u before before (todo_in [] kids ++ []) none_copied
far_none u before kids rooted tree bare s = record {
  met = ([], directory_row) ∷ [];
  walk = first_walk (Some u) kids rooted s.rise s.each;
  root = refl;
  short = tt;
  made = bare_made before tree bare;
  counts = refl;
}

same_tree : (u v : HostTree) (met : Met) → entries u ≡ met → entries v ≡ met → v ≡ u
same_tree u v met a b = same_map path_total path_exact v u (λ q. get-entries v q ∙ (ap (find path_cmp q) (b ∙ sym a) ∙ sym (get-entries u q)))

-- all is met
pub far_entries : (u : HostTree) (before after : Option HostTree) (totals : Totals) (x : IsFar u before after [] totals) → entries u ≡ x.met
far_entries u before after totals x = let of = walk_done (Some u) x.met x.walk in ap entries of.1.0.same ∙ of.1.1

pub far_same : (u : HostTree) (before after : Option HostTree) (totals : Totals) → IsFar u before after [] totals → OnTold before after (λ v. v ≡ u)
far_same u before after totals x = by before x.made
  where
    by : (before : Option HostTree) → OnTold before after (λ v. entries v ≡ x.met) → OnTold before after (λ v. v ≡ u)
    by None none = none
    by (Some first) (v, (is, e)) = (v, (is, same_tree u v x.met (far_entries u before after totals x) e))
