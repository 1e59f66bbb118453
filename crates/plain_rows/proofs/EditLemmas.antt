-- The tree of edited directories.
use Rattle.std.proofs.Common.{◌≡◌, ℕ, suc, zero, ◌<◌, length, get_or, map, take, ◌-◌, true, false, not, cond, T, List, [], ◌∷◌, refl, sym, ◌∙◌, ap, subst, arith, inl, inr}
use Rattle.std.specs.Prelude.{◌==◌}
use Rattle.std.proofs.Math.ListN.{set}
use Rattle.std.proofs.lemmas.Bool.Decides.{nat_tests}
use Rattle.std.specs.Global.{Box}
use Rattle.std.specs.List.{insert, remove}
use Rattle.std.specs.declared.cmp.Ordering.{Ordering}
use Rattle.std.specs.declared.cmp.Ordering.TheVariants.{Equal}
use Rattle.std.specs.declared.option.Option.{Option}
use Rattle.std.specs.declared.option.Option.TheVariants.{None, Some}
use Rattle.std.specs.Result.{OnOk, OnErr}
use Rattle.std.specs.declared.result.Result.{Result}
use Rattle.std.specs.declared.result.Result.TheVariants.{Ok, Err}
use Rattle.std.specs.Ordering.{is_eq, eq_by_cmp}
use Rattle.std.specs.Cmp.{IsTotalOrder}
use Rattle.std.specs.FinMap as tree
use Rattle.std.specs.FinMap.{get, find, is_sorted, from_entries}
use Rattle.std.specs.FinMap.Entries.{put, find-put, is_sorted-put, where_key, find-where_key, is_sorted-where_key}
use Rattle.block_id.proofs.Orders.{eq_reverse}
use Rattle.fs_model.specs.declared.attr.Attr.{Attr}
use Rattle.fs_model.specs.Tree.{Path, Row, directory_size, entry_size, entries_size, upward, parent, last_name, is_root, name_cmp, path_cmp, same_path, root_row, empty_tree}
use Rattle.fs_model.proofs.TreeLemmas.{path_total, path_exact, path_split, path_same, apart}
use Rattle.fs_model.proofs.PathLemmas.{last_split, last_at}
use Rattle.plain_rows.specs.declared.rows.Folder.{Folder}
use Rattle.plain_rows.specs.declared.rows.Item.{Item}
use Rattle.plain_rows.specs.Sorted.{IsElementAt, IsGap}
use Rattle.plain_rows.specs.Rows.{Names, item_row, item_entry, names_of, folder_entry, folders, inside, flat, tree_of}
use Rattle.plain_rows.specs.Formed.{IsFull, AllFull, IsOrdered}
use Rattle.plain_rows.specs.Places.{IsRowAt, IsTable}
use Rattle.plain_rows.proofs.SortedLemmas.{set_put, remove_where}
use Rattle.plain_rows.proofs.FlatLemmas.{get_named, same_tree, edited, inserted_is, removed_is, entries-children}
use Rattle.plain_rows.proofs.FullLemmas.{full_at, full-set, full-insert, full-remove}

-- some element, where an index is in range
pub some_element : {A : Type 0} (xs : List A) (i : ℕ) → i < length xs → A
some_element [] i lt = absurd (omega arith)
some_element (x ∷ xs) i lt = x

pub no_folders_tree : (fs : List (Box Folder)) → fs ≡ [] → tree_of fs ≡ empty_tree
unfolding tree_of
no_folders_tree fs e = ap (λ z. from_entries (([], root_row) ∷ flat (folders z))) e

-- a directory behind a reference
pub full_behind : (fs : List (Box Folder)) (f : ℕ) (x : Box Folder) (y : Folder) → AllFull fs → f < length fs → x ≡ get_or fs f x → y ≡ x.value → IsFull y
full_behind fs f x y full lt hx hy = subst IsFull (sym (hy ∙ ap (λ b. b.value) hx)) (full_at fs f x full lt)

flipped : {X : Type 0} (b : _) (o : Option X) → cond (not b) o None ≡ cond b None o
flipped true o = refl
flipped false o = refl

-- what is found after all of a key are gone
pub gone : {K X : Type 0} {R : K → K → Ordering} (o : IsTotalOrder R) → ((x y : K) → R x y ≡ Equal → x ≡ y) → (p q : K) (es : List (K × X))
    → find R q (where_key R (λ x. not (eq_by_cmp R p x)) es) ≡ cond (eq_by_cmp R q p) None (find R q es)
gone {R = R} o exact p q es =
    find-where_key R (λ x. not (eq_by_cmp R p x)) q (λ x tied. ap (λ z. not (eq_by_cmp R p z)) (sym (exact q x tied))) es
    ∙ (flipped (eq_by_cmp R p q) (find R q es)
    ∙ ap (λ b. cond b None (find R q es)) (sym (ap is_eq (o.antisymm q p) ∙ eq_reverse (R p q))))

-- rows of one directory, put in its place
pub put_edited : (old new : List (Box Folder)) (n : List ℕ) (q : Path) (es : Names) (o : Option Row) → IsOrdered old → folders new ≡ put path_cmp q es (folders old) → AllFull new
    → ((m : List ℕ) → find name_cmp m es ≡ cond (eq_by_cmp name_cmp m n) o (inside (find path_cmp q (folders old)) m))
    → IsOrdered new × ((r : Path) → get (tree_of new) r ≡ cond (same_path r (n ∷ q)) o (get (tree_of old) r))
put_edited old new n q es o ordered is full at =
    let up : T (is_sorted path_cmp (folders new)) = subst (λ z. T (is_sorted path_cmp z)) (sym is) (is_sorted-put {X = Names} path_cmp path_total q es (folders old) ordered.sorted) in
    let found = λ (u : Path). ap (find path_cmp u) is ∙ find-put path_cmp path_total u q es (folders old) in (
      record { sorted = up; full = full },
      edited old new n q o ordered.sorted up
          (λ u d. found u ∙ ap (λ b. cond b (Some es) (find path_cmp u (folders old))) (apart u q d))
          (λ m. ap (λ z. inside z m) (found q ∙ ap (λ b. cond b (Some es) (find path_cmp q (folders old))) (path_same q)) ∙ at m),
    )

-- another directory in its place
pub folder_set : (fs : List (Box Folder)) (p : Path) (f : ℕ) (x b : Box Folder) (y : Folder) (o : Option Row) → IsOrdered fs → is_root p ≡ false → IsElementAt path_cmp folder_entry fs (parent p) f
    → x ≡ get_or fs f x → y ≡ x.value → b.value.path ≡ y.path → IsFull b.value
    → ((m : List ℕ) → find name_cmp m (names_of b.value) ≡ cond (eq_by_cmp name_cmp m (last_name p)) o (find name_cmp m (names_of y)))
    → IsOrdered (set fs f b) × ((r : Path) → get (tree_of (set fs f b)) r ≡ cond (same_path r p) o (get (tree_of fs) r))
folder_set fs [] f x b y o ordered named at hx hy path full found = cc
folder_set fs (n ∷ q) f x b y o ordered named at hx hy path full found =
    let same : upward b.value.path ≡ upward (get_or fs f x).value.path = ap upward (path ∙ ap (λ z. z.path) (hy ∙ ap (λ z. z.value) hx)) in
    let is = set_put path_total folder_entry fs f b x ordered.sorted at.in_range same ∙ ap (λ z. put path_cmp z (names_of b.value) (folders fs)) (same ∙ at.key x) in
    put_edited fs (set fs f b) n q (names_of b.value) o ordered is (full-set fs f b ordered.full full)
    (λ m. found m ∙ ap (cond (eq_by_cmp name_cmp m n) o) (sym (ap (λ z. inside z m) (at.found x) ∙ ap (λ z. find name_cmp m (names_of z)) (sym (hy ∙ ap (λ z. z.value) hx)))))

remove_set : {A : Type 0} (xs : List A) (i : ℕ) (x : A) → remove (set xs i x) i ≡ remove xs i
remove_set [] zero x = refl
remove_set [] (suc i) x = refl
remove_set (y ∷ ys) zero x = refl
remove_set (y ∷ ys) (suc i) x = ap (λ zs. y ∷ zs) (remove_set ys i x)

-- a directory whose last row goes, goes
pub folder_gone : (fs : List (Box Folder)) (p : Path) (f : ℕ) (x b : Box Folder) (y : Folder) → IsOrdered fs → is_root p ≡ false → IsElementAt path_cmp folder_entry fs (parent p) f
    → x ≡ get_or fs f x → y ≡ x.value → names_of b.value ≡ []
    → ((m : List ℕ) → find name_cmp m (names_of b.value) ≡ cond (eq_by_cmp name_cmp m (last_name p)) None (find name_cmp m (names_of y)))
    → IsOrdered (remove (set fs f b) f) × ((r : Path) → get (tree_of (remove (set fs f b) f)) r ≡ cond (same_path r p) None (get (tree_of fs) r))
folder_gone fs [] f x b y ordered named at hx hy none found = cc
folder_gone fs (n ∷ q) f x b y ordered named at hx hy none found =
    let new = remove (set fs f b) f in
    let is : folders new ≡ where_key path_cmp (λ u. not (same_path q u)) (folders fs) =
    ap folders (remove_set fs f b) ∙ (remove_where path_total folder_entry fs f x ordered.sorted at.in_range ∙ ap (λ z. where_key path_cmp (λ u. not (same_path z u)) (folders fs)) (at.key x)) in
    let up : T (is_sorted path_cmp (folders new)) = subst (λ z. T (is_sorted path_cmp z)) (sym is) (is_sorted-where_key {X = Names} path_cmp (λ u. not (same_path q u)) (folders fs) ordered.sorted) in
    let at_path = λ (u : Path). ap (find path_cmp u) is ∙ gone path_total path_exact q u (folders fs) in (
      record { sorted = up; full = subst AllFull (sym (remove_set fs f b)) (full-remove fs f ordered.full) },
      edited fs new n q None ordered.sorted up
          (λ u d. at_path u ∙ ap (λ c. cond c None (find path_cmp u (folders fs))) (apart u q d))
          (λ m.
          ap (λ z. inside z m) (at_path q ∙ ap (λ c. cond c None (find path_cmp q (folders fs))) (path_same q))
          ∙ (sym (ap (find name_cmp m) none) ∙ (found m ∙ ap (cond (eq_by_cmp name_cmp m n) None) (sym (ap (λ z. inside z m) (at.found x) ∙ ap (λ z. find name_cmp m (names_of z)) (sym (hy ∙ ap (λ z. z.value) hx))))))),
    )

-- a new directory of one row
pub folder_new : (fs new : List (Box Folder)) (p : Path) (i : ℕ) (b : Box Folder) (row : Row) → IsOrdered fs → is_root p ≡ false → IsGap path_cmp folder_entry fs (parent p) i
    → new ≡ insert fs i b → upward b.value.path ≡ parent p → IsFull b.value → names_of b.value ≡ (last_name p, row) ∷ []
    → IsOrdered new × ((r : Path) → get (tree_of new) r ≡ cond (same_path r p) (Some row) (get (tree_of fs) r))
folder_new fs new [] i b row ordered named gap e path full rows = cc
folder_new fs new (n ∷ q) i b row ordered named gap e path full rows =
    put_edited fs new n q (names_of b.value) (Some row) ordered (ap folders e ∙ gap.placed b path) (subst AllFull (sym e) (full-insert fs i b ordered.full full))
    (λ m. ap (find name_cmp m) rows ∙ ap (cond (eq_by_cmp name_cmp m n) (Some row)) (sym (ap (λ z. inside z m) gap.absent)))

-- tables after edits
pub inserted_table : (old new : List (Box Folder)) (p : Path) (row : Row) → IsOrdered new × ((r : Path) → get (tree_of new) r ≡ cond (same_path r p) (Some row) (get (tree_of old) r)) → IsTable new (tree.insert (tree_of old) p row)
inserted_table old new p row h = record { tree = inserted_is old new p row h.1; ordered = h.0 }

pub removed_table : (old new : List (Box Folder)) (p : Path) → IsOrdered new × ((r : Path) → get (tree_of new) r ≡ cond (same_path r p) None (get (tree_of old) r)) → IsTable new (tree.remove (tree_of old) p)
removed_table old new p h = record { tree = removed_is old new p h.1; ordered = h.0 }

-- the row of a place
pub row_at : (fs : List (Box Folder)) (p : Path) (f i : ℕ) (d : Box Folder) (e : Box Item) → IsOrdered fs → is_root p ≡ false → IsRowAt fs p f i → get (tree_of fs) p ≡ Some (item_row (get_or (get_or fs f d).value.items.items i e).value)
row_at fs [] f i d e ordered named at = cc
row_at fs (n ∷ q) f i d e ordered named at = get_named fs n q ordered.sorted ∙ (ap (λ z. inside z n) (at.folder.found d) ∙ (at.item d).found e)

-- the same, behind references
pub row_behind : (fs : List (Box Folder)) (p : Path) (f i : ℕ) (x : Box Folder) (y : Folder) (e : Box Item) → IsOrdered fs → is_root p ≡ false → IsRowAt fs p f i → x ≡ get_or fs f x → y ≡ x.value
    → get (tree_of fs) p ≡ Some (item_row (get_or y.items.items i e).value)
row_behind fs p f i x y e ordered named at hx hy = row_at fs p f i x e ordered named at ∙ ap (λ z. Some (item_row (get_or z.items.items i e).value)) (sym (hy ∙ ap (λ b. b.value) hx))

pub item_behind : (fs : List (Box Folder)) (p : Path) (f i : ℕ) (x : Box Folder) (y : Folder) → IsRowAt fs p f i → x ≡ get_or fs f x → y ≡ x.value → IsElementAt name_cmp item_entry y.items.items (last_name p) i
item_behind fs p f i x y at hx hy = subst (λ z. IsElementAt name_cmp item_entry z.items.items (last_name p) i) (sym (hy ∙ ap (λ b. b.value) hx)) (at.item x)

-- rows that aren't there
pub no_folder : (fs : List (Box Folder)) (ns : List (List ℕ)) → IsOrdered fs → 0 < length ns → find path_cmp (upward (take (length ns - 1) ns)) (folders fs) ≡ None → get (tree_of fs) (upward ns) ≡ None
no_folder fs ns ordered some none =
    let s = last_split ns some in
    ap (get (tree_of fs)) s.1 ∙ (get_named fs s.0 (upward (take (length ns - 1) ns)) ordered.sorted ∙ ap (λ z. inside z s.0) none)

pub in_folder : (fs : List (Box Folder)) (ns : List (List ℕ)) (n : List ℕ) (f : ℕ) (x : Box Folder) (y : Folder) → IsOrdered fs → 0 < length ns → n ≡ get_or ns (length ns - 1) n
    → IsElementAt path_cmp folder_entry fs (upward (take (length ns - 1) ns)) f → x ≡ get_or fs f x → y ≡ x.value → get (tree_of fs) (upward ns) ≡ find name_cmp n (names_of y)
in_folder fs ns n f x y ordered some hn at hx hy =
    let q = upward (take (length ns - 1) ns) in
    ap (get (tree_of fs)) (last_at ns n some ∙ ap (λ z. z ∷ q) (sym hn))
    ∙ (get_named fs n q ordered.sorted ∙ (ap (λ z. inside z n) (at.found x) ∙ ap (λ z. find name_cmp n (names_of z)) (sym (hy ∙ ap (λ b. b.value) hx))))

pub no_names : (ns : List (List ℕ)) → (length ns == 0) ≡ true → upward ns ≡ []
no_names [] e = refl
no_names (n ∷ ns) e = let zero : length (n ∷ ns) ≡ 0 = grind (arith, nat_tests, e) in absurd (omega arith)

abbrev pub row_with : Attr → List ℕ → Row
row_with attr bytes = record { attr = attr; bytes = bytes }

-- a directory whose rows stay
pub folder_kept : (fs : List (Box Folder)) (q : Path) (f : ℕ) (x b : Box Folder) (y : Folder) → IsOrdered fs → IsElementAt path_cmp folder_entry fs q f
    → x ≡ get_or fs f x → y ≡ x.value → b.value.path ≡ y.path → IsFull b.value → names_of b.value ≡ names_of y → IsTable (set fs f b) (tree_of fs)
folder_kept fs q f x b y ordered at hx hy path full rows =
    let same : upward b.value.path ≡ upward (get_or fs f x).value.path = ap upward (path ∙ ap (λ z. z.path) (hy ∙ ap (λ z. z.value) hx)) in
    let is = set_put path_total folder_entry fs f b x ordered.sorted at.in_range same ∙ ap (λ z. put path_cmp z (names_of b.value) (folders fs)) (same ∙ at.key x) in
    let up : T (is_sorted path_cmp (folders (set fs f b))) = subst (λ z. T (is_sorted path_cmp z)) (sym is) (is_sorted-put {X = Names} path_cmp path_total q (names_of b.value) (folders fs) ordered.sorted) in
    let here : Some (names_of b.value) ≡ find path_cmp q (folders fs) = ap Some (rows ∙ ap (λ z. names_of z) (hy ∙ ap (λ z. z.value) hx)) ∙ sym (at.found x) in
    record {
      tree = same_tree (set fs f b) fs up ordered.sorted (λ u.
          ap (find path_cmp u) is ∙ (find-put path_cmp path_total u q (names_of b.value) (folders fs)
          ∙ elim (path_split u q) [
            | inl e ↦ ap (λ c. cond c (Some (names_of b.value)) (find path_cmp u (folders fs))) (ap (λ z. same_path z q) e ∙ path_same q) ∙ (here ∙ ap (λ z. find path_cmp z (folders fs)) (sym e))
            | inr d ↦ ap (λ c. cond c (Some (names_of b.value)) (find path_cmp u (folders fs))) (apart u q d)
          ]));
      ordered = record { sorted = up; full = full-set fs f b ordered.full full };
    }

-- the bytes that the entries of a directory take
pub folder_size : (fs : List (Box Folder)) (q : Path) (f : ℕ) (x : Box Folder) (y : Folder) → IsOrdered fs → IsElementAt path_cmp folder_entry fs q f → x ≡ get_or fs f x → y ≡ x.value → y.size ≡ directory_size (tree_of fs) q
folder_size fs q f x y ordered at hx hy =
    let full = full_at fs f x ordered.full at.in_range in
    ap (λ z. z.size) (hy ∙ ap (λ b. b.value) hx)
    ∙ (full.size ∙ sym (ap entries_size (entries-children fs q ordered.sorted (Some (names_of (get_or fs f x).value)) (at.found x) full.sorted)))

pub single_full : (g : Folder) (y : Box Item) → g.items.items ≡ y ∷ [] → g.size ≡ entry_size y.value.name → IsFull g
single_full g y items size = record {
  sorted = subst (λ es. T (is_sorted name_cmp (map item_entry es))) (sym items) tt;
  some = let len = ap length items in omega arith;
  size = let sum = ap (λ es. entries_size (map item_entry es)) items in omega arith;
}

pub on_ok_map : {A E : Type 0} (r : Result A E) (P Q : Type 0) → (P → Q) → OnOk r P → OnOk r Q
on_ok_map (Ok x) P Q f h = f h
on_ok_map (Err e) P Q f h = tt

pub on_err_map : {A E : Type 0} (r : Result A E) (P Q : Type 0) → (P → Q) → OnErr r P → OnErr r Q
on_err_map (Ok x) P Q f h = tt
on_err_map (Err e) P Q f h = f h
