-- A row put into a tree, or taken away, leaves it well formed.
use Rattle.std.specs.Prelude.{◌≡◌, ℕ, ◌+◌, ◌≤◌, true, false, List, [], ◌∷◌, ◌++◌, is_some}
use Rattle.std.proofs.Common.{sym, ◌∙◌, ap, subst, inl, inr, arith}
use Rattle.std.specs.FinMap.{get, insert, remove}
use Rattle.std.specs.declared.option.Option.TheVariants.{None, Some}
use Rattle.fs_model.specs.declared.limits.TheConstants.{MAX_ENTRIES}
use Rattle.fs_model.specs.Names.{IsName}
use Rattle.fs_model.specs.Tree.{Path, Tree, Row, is_directory, is_folder, children, directory_size, entry_size, IsRooted, IsWithinLimits, IsWellFormed}
use Rattle.fs_model.proofs.TreeLemmas.{path_split, get-children, insert_here, insert_apart, remove_here, remove_apart, none_of}
use Rattle.fs_model.proofs.SizeLemmas.{map_size, children-insert, children-insert_apart, children-remove, children-remove_apart, size-insert, size-set, size-remove-le}

pub rows_insert : (t : Tree) → ((r : Path) (x : Row) → get t r ≡ Some x → IsWithinLimits x) → (p : Path) (row : Row) → IsWithinLimits row
    → (r : Path) (x : Row) → get (insert t p row) r ≡ Some x → IsWithinLimits x
rows_insert t rows p row limits r x there = elim (path_split r p) [
  | inl e ↦ let same : Some row ≡ Some x = sym (insert_here t p row) ∙ (ap (get (insert t p row)) (sym e) ∙ there) in let is : row ≡ x = cc in subst IsWithinLimits is limits
  | inr d ↦ rows r x (sym (insert_apart t p row r d) ∙ there)
]

rows_remove : (t : Tree) → ((r : Path) (x : Row) → get t r ≡ Some x → IsWithinLimits x) → (p : Path) → (r : Path) (x : Row) → get (remove t p) r ≡ Some x → IsWithinLimits x
rows_remove t rows p r x there = elim (path_split r p) [
  | inl e ↦ let bad : None ≡ Some x = sym (remove_here t p) ∙ (ap (get (remove t p)) (sym e) ∙ there) in cc
  | inr d ↦ rows r x (sym (remove_apart t p r d) ∙ there)
]

-- a row more, below a directory
pub insert_free : (t : Tree) (n : List ℕ) (p : Path) (row : Row) → IsWellFormed t → IsName n → is_folder (get t p) ≡ true → get t (n ∷ p) ≡ None → IsWithinLimits row
    → directory_size t p + entry_size n ≤ MAX_ENTRIES → IsWellFormed (insert t (n ∷ p) row)
insert_free t n p row wf named folder none limits fits = record {
  rooted = record {
    root = insert_apart t (n ∷ p) row [] (λ e. cc) ∙ wf.rooted.root;
    parents = λ m q there. elim (path_split (m ∷ q) (n ∷ p)) [
      | inl e ↦ let same : q ≡ p = cc in kept q (ap (λ z. is_folder (get t z)) same ∙ folder)
      | inr d ↦ kept q (wf.rooted.parents m q (ap is_some (sym (insert_apart t (n ∷ p) row (m ∷ q) d)) ∙ there))
    ];
  };
  names = λ m q there. elim (path_split (m ∷ q) (n ∷ p)) [
    | inl e ↦ let same : n ≡ m = cc in subst IsName same named
    | inr d ↦ wf.names m q (ap is_some (sym (insert_apart t (n ∷ p) row (m ∷ q) d)) ∙ there)
  ];
  rows = rows_insert t wf.rows (n ∷ p) row limits;
  directories = λ d. elim (path_split d p) [
    | inl e ↦ subst (λ z. directory_size (insert t (n ∷ p) row) z ≤ MAX_ENTRIES) (sym e)
        (let size = ap map_size (children-insert t n p row) ∙ size-insert (children t p) n row (get-children t p n ∙ none) in omega arith)
    | inr other ↦ let size = ap map_size (children-insert_apart t n p row d other) in let bound = wf.directories d in omega arith
  ];
}
  where
    kept : (q : Path) → is_folder (get t q) ≡ true → is_folder (get (insert t (n ∷ p) row) q) ≡ true
    kept q h = elim (path_split q (n ∷ p)) [
      | inl s ↦ let bad : true ≡ false = sym h ∙ (ap (λ z. is_folder (get t z)) s ∙ ap is_folder none) in cc
      | inr s ↦ ap is_folder (insert_apart t (n ∷ p) row q s) ∙ h
    ]

-- another row of the same kind at a path that isn't the root
pub insert_found : (t : Tree) (n : List ℕ) (p : Path) (row old : Row) → IsWellFormed t → get t (n ∷ p) ≡ Some old → is_directory old.attr.kind ≡ is_directory row.attr.kind → IsWithinLimits row
    → IsWellFormed (insert t (n ∷ p) row)
insert_found t n p row old wf there alike limits = record {
  rooted = record {
    root = insert_apart t (n ∷ p) row [] (λ e. cc) ∙ wf.rooted.root;
    parents = λ m q s. kept q (wf.rooted.parents m q (some_before (m ∷ q) s));
  };
  names = λ m q s. wf.names m q (some_before (m ∷ q) s);
  rows = rows_insert t wf.rows (n ∷ p) row limits;
  directories = λ d. elim (path_split d p) [
    | inl e ↦ subst (λ z. directory_size (insert t (n ∷ p) row) z ≤ MAX_ENTRIES) (sym e)
        (let size = ap map_size (children-insert t n p row) ∙ size-set (children t p) n old row (get-children t p n ∙ there) in let bound = wf.directories p in omega arith)
    | inr other ↦ let size = ap map_size (children-insert_apart t n p row d other) in let bound = wf.directories d in omega arith
  ];
}
  where
    some_before : (r : Path) → is_some (get (insert t (n ∷ p) row) r) ≡ true → is_some (get t r) ≡ true
    some_before r h = elim (path_split r (n ∷ p)) [
      | inl e ↦ ap (λ z. is_some (get t z)) e ∙ ap is_some there
      | inr d ↦ ap is_some (sym (insert_apart t (n ∷ p) row r d)) ∙ h
    ]

    kept : (q : Path) → is_folder (get t q) ≡ true → is_folder (get (insert t (n ∷ p) row) q) ≡ true
    kept q h = elim (path_split q (n ∷ p)) [
      | inl s ↦ ap (λ z. is_folder (get (insert t (n ∷ p) row) z)) s ∙ (ap is_folder (insert_here t (n ∷ p) row) ∙ (sym alike ∙ (ap is_folder (sym there) ∙ (ap (λ z. is_folder (get t z)) (sym s) ∙ h))))
      | inr s ↦ ap is_folder (insert_apart t (n ∷ p) row q s) ∙ h
    ]

-- a row fewer, with nothing below it
pub remove_bare : (t : Tree) (n : List ℕ) (p : Path) → IsWellFormed t → ((m : List ℕ) → get t (m ∷ (n ∷ p)) ≡ None) → IsWellFormed (remove t (n ∷ p))
remove_bare t n p wf bare = record {
  rooted = record {
    root = remove_apart t (n ∷ p) [] (λ e. cc) ∙ wf.rooted.root;
    parents = λ m q s. let before = some_before (m ∷ q) s in ap is_folder (remove_apart t (n ∷ p) q (λ e. childless m q before e)) ∙ wf.rooted.parents m q before;
  };
  names = λ m q s. wf.names m q (some_before (m ∷ q) s);
  rows = rows_remove t wf.rows (n ∷ p);
  directories = λ d. elim (path_split d p) [
    | inl e ↦ subst (λ z. directory_size (remove t (n ∷ p)) z ≤ MAX_ENTRIES) (sym e)
        (let size = ap map_size (children-remove t n p) in let less = size-remove-le (children t p) n in let bound = wf.directories p in omega arith)
    | inr other ↦ let size = ap map_size (children-remove_apart t n p d other) in let bound = wf.directories d in omega arith
  ];
}
  where
    some_before : (r : Path) → is_some (get (remove t (n ∷ p)) r) ≡ true → is_some (get t r) ≡ true
    some_before r h = elim (path_split r (n ∷ p)) [
      | inl e ↦ let bad : false ≡ true = ap is_some (sym (remove_here t (n ∷ p))) ∙ (ap (λ z. is_some (get (remove t (n ∷ p)) z)) (sym e) ∙ h) in cc
      | inr d ↦ ap is_some (sym (remove_apart t (n ∷ p) r d)) ∙ h
    ]

    childless : (m : List ℕ) (q : Path) → is_some (get t (m ∷ q)) ≡ true → q ≡ n ∷ p → ⊥
    childless m q h e = let bad : false ≡ true = ap is_some (sym (bare m)) ∙ (ap (λ z. is_some (get t (m ∷ z))) (sym e) ∙ h) in cc

-- nothing stands below a row that is no directory
pub below_file : (t : Tree) (p : Path) (row : Row) → IsRooted t → get t p ≡ Some row → is_directory row.attr.kind ≡ false → (m : List ℕ) → get t (m ∷ p) ≡ None
below_file t p row wf there file m = none_of (get t (m ∷ p)) (λ s. let bad : false ≡ true = sym file ∙ (ap is_folder (sym there) ∙ wf.parents m p s) in cc)

pub below_none : (t : Tree) (p : Path) → IsRooted t → get t p ≡ None → (m : List ℕ) → get t (m ∷ p) ≡ None
below_none t p wf none m = none_of (get t (m ∷ p)) (λ s. let bad : false ≡ true = ap is_folder (sym none) ∙ wf.parents m p s in cc)

-- nothing below it, however far
pub bare_below : (t : Tree) (p : Path) → IsRooted t → ((m : List ℕ) → get t (m ∷ p) ≡ None) → (s : Path) (n : List ℕ) → get t (n ∷ (s ++ p)) ≡ None
bare_below t p wf bare [] n = bare n
bare_below t p wf bare (m ∷ s) n = below_none t (m ∷ (s ++ p)) wf (bare_below t p wf bare s m) n

pub root_found : (t : Tree) (row : Row) → IsWellFormed t → get t [] ≡ Some row → is_directory row.attr.kind ≡ true
root_found t row wf there = ap is_folder (sym there) ∙ ap is_folder wf.rooted.root
