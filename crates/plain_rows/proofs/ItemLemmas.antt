-- Rows of one directory after an edit.
use Rattle.std.proofs.Common.{◌≡◌, ℕ, suc, zero, ◌+◌, ◌-◌, ◌<◌, ◌≤◌, length, get_or, map, not, T, List, [], ◌∷◌, refl, sym, ◌∙◌, ap, subst, arith}
use Rattle.std.proofs.Math.ListN.{set}
use Rattle.std.proofs.lemmas.List.{get_or_default}
use Rattle.std.specs.Global.{Box}
use Rattle.std.specs.List.{insert, remove}
use Rattle.std.specs.Ordering.{eq_by_cmp}
use Rattle.std.specs.FinMap.{is_sorted}
use Rattle.std.specs.FinMap.Entries.{put, is_sorted-put, where_key, is_sorted-where_key}
use Rattle.fs_model.specs.Tree.{Row, name_cmp, entry_size, entries_size}
use Rattle.fs_model.proofs.TreeLemmas.{name_total}
use Rattle.plain_rows.specs.declared.rows.Folder.{Folder}
use Rattle.plain_rows.specs.declared.rows.Item.{Item}
use Rattle.plain_rows.specs.Sorted.{IsGap}
use Rattle.plain_rows.specs.Rows.{item_row, item_entry, names_of}
use Rattle.plain_rows.specs.Formed.{IsFull}
use Rattle.plain_rows.proofs.SortedLemmas.{set_put, remove_where}
use Rattle.plain_rows.proofs.FullLemmas.{size-insert, size-remove, size-set}

length_set : {A : Type 0} (xs : List A) (i : ℕ) (x : A) → length (set xs i x) ≡ length xs
length_set [] i x = refl
length_set (y ∷ ys) zero x = refl
length_set (y ∷ ys) (suc i) x = ap suc (length_set ys i x)

length_insert : {A : Type 0} (xs : List A) (i : ℕ) (x : A) → i ≤ length xs → length (insert xs i x) ≡ suc (length xs)
length_insert [] zero x le = refl
length_insert [] (suc i) x le = absurd (omega arith)
length_insert (y ∷ ys) zero x le = refl
length_insert (y ∷ ys) (suc i) x le = ap suc (length_insert ys i x (omega arith))

module _ (f g : Folder) (full : IsFull f) where
  -- another row of the same name
  pub item_set : (i : ℕ) (x d y : Box Item) (row : Row) → i < length f.items.items → x ≡ get_or f.items.items i x → y.value.name ≡ x.value.name → item_row y.value ≡ row
      → map item_entry (set f.items.items i y) ≡ put name_cmp (get_or f.items.items i d).value.name row (names_of f)
  item_set i x d y row lt hx name is =
      let same : y.value.name ≡ (get_or f.items.items i d).value.name = name ∙ ap (λ b. b.value.name) (hx ∙ get_or_default f.items.items i x d lt) in
      set_put name_total item_entry f.items.items i y d full.sorted lt same
      ∙ (ap (λ n. put name_cmp n (item_row y.value) (names_of f)) same ∙ ap (λ r. put name_cmp (get_or f.items.items i d).value.name r (names_of f)) is)

  pub item_set_full : (i : ℕ) (x y : Box Item) → i < length f.items.items → x ≡ get_or f.items.items i x → y.value.name ≡ x.value.name → g.items.items ≡ set f.items.items i y → g.size ≡ f.size → IsFull g
  item_set_full i x y lt hx name items size =
      let same : y.value.name ≡ (get_or f.items.items i x).value.name = name ∙ ap (λ b. b.value.name) hx in
      record {
        sorted = subst (λ es. T (is_sorted name_cmp es)) (sym (ap (map item_entry) items ∙ set_put name_total item_entry f.items.items i y x full.sorted lt same))
            (is_sorted-put {X = Row} name_cmp name_total y.value.name (item_row y.value) (names_of f) full.sorted);
        some = let len = ap length items ∙ length_set f.items.items i y in let some = full.some in omega arith;
        size = size ∙ (full.size ∙ sym (ap (λ is. entries_size (map item_entry is)) items ∙ size-set item_entry f.items.items i y x same));
      }

  -- one row more
  pub item_more_full : (i : ℕ) (y : Box Item) → IsGap name_cmp item_entry f.items.items y.value.name i → g.items.items ≡ insert f.items.items i y → g.size ≡ f.size + entry_size y.value.name → IsFull g
  item_more_full i y gap items size = record {
    sorted = subst (λ es. T (is_sorted name_cmp es)) (sym (ap (map item_entry) items ∙ gap.placed y refl))
        (is_sorted-put {X = Row} name_cmp name_total y.value.name (item_row y.value) (names_of f) full.sorted);
    some = let len = ap length items ∙ length_insert f.items.items i y gap.in_range in omega arith;
    size = let more = ap (λ is. entries_size (map item_entry is)) items ∙ size-insert item_entry f.items.items i y gap.in_range in let old = full.size in omega arith;
  }

  -- one row fewer
  pub item_fewer : (i : ℕ) (x : Box Item) → i < length f.items.items → x ≡ get_or f.items.items i x → g.items.items ≡ remove f.items.items i
      → names_of g ≡ where_key name_cmp (λ n. not (eq_by_cmp name_cmp x.value.name n)) (names_of f)
  item_fewer i x lt hx items =
      ap (map item_entry) items
      ∙ (remove_where name_total item_entry f.items.items i x full.sorted lt ∙ ap (λ b. where_key name_cmp (λ n. not (eq_by_cmp name_cmp b.value.name n)) (names_of f)) (sym hx))

  pub item_fewer_full : (i : ℕ) (x : Box Item) → i < length f.items.items → x ≡ get_or f.items.items i x → g.items.items ≡ remove f.items.items i → g.size ≡ f.size - entry_size x.value.name → 0 < length g.items.items → IsFull g
  item_fewer_full i x lt hx items size some = record {
    sorted = subst (λ es. T (is_sorted name_cmp es)) (sym (item_fewer i x lt hx items)) (is_sorted-where_key {X = Row} name_cmp (λ n. not (eq_by_cmp name_cmp x.value.name n)) (names_of f) full.sorted);
    some = some;
    size =
        let fewer = size-remove item_entry f.items.items i x lt in
        let left = ap (λ is. entries_size (map item_entry is)) items in
        let name = ap (λ b. entry_size b.value.name) hx in
        let old = full.size in
        omega arith;
  }

pub no_items : (g : Folder) → length g.items.items ≡ 0 → names_of g ≡ []
no_items g e = none g.items.items e
  where
    none : (is : List (Box Item)) → length is ≡ 0 → map item_entry is ≡ []
    none [] e = refl
    none (x ∷ is) e = absurd (omega arith)
